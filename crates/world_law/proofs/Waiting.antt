-- What a turn of the order level makes of a port's list of what is outstanding: what falls is decided at the market's
-- machine, and what is asked anew stands
-- behind what it needs.
use Rattle.std.proofs.Common.{◌≡◌, ◌<◌, ◌^◌, ◌==◌, ℕ, zero, suc, Bool, true, false, not, List, [], ◌∷◌, ◌++◌, length}
use Rattle.std.proofs.Common.{filter, refl, sym, ap, ◌∙◌, subst, arith, bytes_eq, Option, Some, None, ◌⊎◌, inl, inr}
use Rattle.std.proofs.Common.{⊎_elim, Ok, Err, eq-eqb, nat_lt}
use Rattle.std.proofs.lemmas.List.Folds.{list_any-append}
use Rattle.std.specs.Prelude.{◌&&◌, ◌||◌, if◌then◌else◌, is_some, option_map, option_to_list, unwrap_or}
use Rattle.std.specs.List.{find, list_any}
use Rattle.fix_fields.specs.Field.{Message, character, text}
use Rattle.order_law.specs.Asks.{asked_by_new}
use Rattle.order_law.specs.Verdicts.{Port}
use Rattle.order_law.specs.ouch_codec.declared.inbound.Inbound.{Inbound}
use Rattle.order_law.specs.ouch_codec.declared.outbound.Outbound.{Outbound}
use Rattle.order_law.specs.ouch_codec.declared.outbound.Outbound.TheVariants as market
use Rattle.order_law.specs.ouch_codec.declared.outbound.replaced.Replaced.{Replaced}
use Rattle.order_law.specs.declared.stage.Stage.{Stage}
use Rattle.order_law.specs.declared.stage.Stage.TheVariants.{Working, Closed}
use Rattle.order_law.specs.Chain.{chain}
use Rattle.order_law.specs.Life.{Life, after, first_token, is_closed, is_live, is_working, life, live}
use Rattle.order_law.specs.History.{Asked, Came, Heard, Entry, OrderEvent, OrderHistory, OrderTurn, Said, SaysNew}
use Rattle.order_law.specs.History.{SaysReplace, SaysCancel, Terms, accepted, answers, asks_of, entry_at, from_token}
use Rattle.order_law.specs.History.{handled, is_answered, is_new_order, issued, last_token, life_of, new_of}
use Rattle.order_law.specs.History.{next_tokens, orders_numbered, outstanding, pending_tokens, terms_of, token_of}
use Rattle.order_law.specs.Lawful.{judgement, order_of_token, works_as}
use Rattle.order_law.specs.Headline.{Each, TurnOf}
use Rattle.order_machine.specs.OrderRecord.{live_token, replacements, replaces_asked, asked_replace, new_asked}
use Rattle.order_machine.specs.OrderRecord.{cancel_asked}
use Rattle.order_machine.specs.Runs.{TurnsLeave}
use Rattle.order_machine.specs.Table.{TableState}
use Rattle.order_machine.proofs.Lists.{found-passes}
use Rattle.order_machine.proofs.Holds.{IsEntry}
use Rattle.order_machine.proofs.Linked.{IsTable}
use Rattle.order_machine.proofs.Running.{Leaves-Holding}
use Rattle.market_law.specs.Machine.{BookOrder, Machine, is_live_as, is_token_used, tokens_of}
use Rattle.market_law.specs.Run.{Move, life_in_book, ran}
use Rattle.market_law.specs.Said.{EachSaid, IsSaid, names}
use Rattle.market_law.proofs.Basics.{and-parts, each-all, each-both, eq-is, eq-same, is-false, not-both, or-right}
use Rattle.market_law.proofs.Books.{live-holds, open-lived}
use Rattle.market_law.proofs.Runs.{free-token, ran-Sound}
use Rattle.market_law.proofs.Says.{IsPlaced, IsTold, ran-told}
use Rattle.market_law.proofs.Sound.{IsChain, filled, holds, vacant}
use Rattle.world_law.specs.Asked.{AlwaysOfOrders, CameAsked, IsIn, IsOfOrder, TokensLead, WasAsked, asked, leads}
use Rattle.world_law.specs.Asked.{sender}
use Rattle.world_law.proofs.Homes.{IsHomely, always-of-orders, asked-homely}
use Rattle.world_law.proofs.Known.{IsAskedFor, Known, asked-for, from-among, known, pending-so}
use Rattle.world_law.proofs.Lives.{IsRenewed, closed-stays, root-in, tokens-after, works-closed}
use Rattle.world_law.proofs.Members.{each-in, in-filtered, in-left, in-parts, in-right}
use Rattle.world_law.proofs.NoFault.{known-moves}
use Rattle.world_law.proofs.Outstanding.{outstanding-asked}
use Rattle.world_law.proofs.Turns.{IsRejectedBy, answered-by, of-order}
use Rattle.world_law.proofs.Chains.{IsLinked, IsRefused, linked-ran, refused-ran}
use Rattle.world_law.proofs.Naming.{AsCancel, AsNew, AsReplace, NewlyAsked, Shape, asks-as-asked, entry-came}
use Rattle.world_law.proofs.Naming.{entry-own, front_at, gives, newly-asked, tokens_at}
use Rattle.world_law.proofs.NeverLive.{AsksAsAsked, IsDecided, IsOut, IsShut, Never, decided-never, out-shut}
use Rattle.world_law.proofs.Queues.{IsQueue, KeptFrom, NamedIn, Needs, FromIt, OfRequest, Thinned, decided-more}
use Rattle.world_law.proofs.Queues.{kept-append, kept-asked, kept-more, kept-new, named-in, named-left, named-right}
use Rattle.world_law.proofs.Queues.{queue-thinned, thinned-filter, thinned-in, thinned-same}
use Rattle.world_law.proofs.Requests.{request-new}

-- ---- the live token of a life is the first one, or was named

pub live-named : (root : List ℕ) (side : ℕ) (M : List Outbound)
    → (live (life root side M) ≡ root) ⊎ (list_any (names (live (life root side M))) M ≡ true)
live-named root side [] = inl refl
live-named root side (m ∷ M) = by_tokens (tokens-after (life root side M) m) (live-named root side M)
  where
    by_tokens : ((after (life root side M) m).tokens ≡ (life root side M).tokens) ⊎ IsRenewed (life root side M) m
        → (live (life root side M) ≡ root) ⊎ (list_any (names (live (life root side M))) M ≡ true)
        → (live (after (life root side M) m) ≡ root) ⊎
        (list_any (names (live (after (life root side M) m))) (m ∷ M) ≡ true)
    by_tokens (inl same) earlier =
        let live_same : live (after (life root side M) m) ≡ live (life root side M) = ap first_token same in
        ⊎_elim (λ e. inl (live_same ∙ e)) (λ e. inr
        (ap (λ (u : List ℕ). list_any (names u) (m ∷ M)) live_same
        ∙ or-right (names (live (life root side M)) m) _ e)) earlier
    by_tokens (inr r) earlier =
        let token : live (after (life root side M) m) ≡ r.by.token = ap first_token r.tokens in
        let named : names r.by.token m ≡ true = ap (names r.by.token) r.is ∙ eq-same r.by.token in
        inr (ap (λ (u : List ℕ). list_any (names u) (m ∷ M)) token ∙ rw named refl)

-- ---- an order that is closed in what is handled isn't live in the book

first-leads : (lead : List ℕ → Option (List ℕ)) (root : List ℕ) (ts : List (List ℕ)) (t : List ℕ) → IsIn root ts
    → Each (λ (u : List ℕ). lead u ≡ Some root) ts → bytes_eq t (first_token ts) ≡ true → lead t ≡ Some root
first-leads lead root [] t filled each e = absurd filled
first-leads lead root (u ∷ us) t filled each e = ap lead (eq-is t u e) ∙ each.0

module _ (lead : List ℕ → Option (List ℕ)) (P : Inbound → Type 0) (root : List ℕ) (own : lead root ≡ Some root) (side : ℕ) where
  -- all tokens of a life lead to its first
  lives-lead : (M : List Outbound) → EachSaid lead P M
      → Each (λ (t : List ℕ). lead t ≡ Some root) (life root side M).tokens
  lives-lead [] said = (own, tt)
  lives-lead (m ∷ M) said = by_tokens (tokens-after (life root side M) m) (lives-lead M said.1)
    where
      by_tokens : ((after (life root side M) m).tokens ≡ (life root side M).tokens) ⊎ IsRenewed (life root side M) m
          → Each (λ (t : List ℕ). lead t ≡ Some root) (life root side M).tokens
          → Each (λ (t : List ℕ). lead t ≡ Some root) (after (life root side M) m).tokens
      by_tokens (inl same) each = subst (Each (λ (t : List ℕ). lead t ≡ Some root)) (sym same) each
      by_tokens (inr r) each =
          let on = (subst (λ (x : Outbound). IsSaid lead P x M) r.is said.0).0 in
          let from_root : lead r.by.previous_token ≡ Some root =
          first-leads lead root (life root side M).tokens r.by.previous_token (root-in root side M) each r.was_live
          in
          subst (Each (λ (t : List ℕ). lead t ≡ Some root)) (sym r.tokens)
          (on.leads_to ∙ sym on.leads_from ∙ from_root, each)

  -- a closed one stays closed
  closed-more : (newer M : List Outbound) → EachSaid lead P (newer ++ M) → is_closed (life root side M).stage ≡ true
      → is_closed (life root side (newer ++ M)).stage ≡ true
  closed-more [] M said c = c
  closed-more (m ∷ newer) M said c =
      let was = closed-more newer M said.1 c in
      closed-stays (life root side (newer ++ M)) m (λ by is live. works-not by is live was) was
    where
      works-not : (by : Replaced) → m ≡ market.Replaced by
          → is_live (life root side (newer ++ M)) by.previous_token ≡ true
          → is_closed (life root side (newer ++ M)).stage ≡ true → ⊥
      works-not by is live closed =
          let on = (subst (λ (x : Outbound). IsSaid lead P x (newer ++ M)) is said.0).0 in
          let from_root : lead by.previous_token ≡ Some root =
          first-leads lead root (life root side (newer ++ M)).tokens by.previous_token
          (root-in root side (newer ++ M)) (lives-lead (newer ++ M) said.1) live in
          let roots : Some on.root ≡ Some root = sym on.leads_from ∙ from_root in
          let same : on.root ≡ root = cc in
          let works : works_as (life root side (newer ++ M)) by.previous_token ≡ true =
          subst (λ (r : List ℕ). works_as (life r side (newer ++ M)) by.previous_token ≡ true) same (on.works side)
          in
          not-both (is_closed (life root side (newer ++ M)).stage) closed
          (works-closed (life root side (newer ++ M)).stage
          (and-parts (is_live (life root side (newer ++ M)) by.previous_token)
          (is_working (life root side (newer ++ M)).stage) works).1)

-- what is open of it shows in the life
open-works : (b z : Bool) → (b && not z) ≡ true → is_closed (if z then Closed else Working) ≡ false
open-works b true e = absurd (and-false b e)
  where
    and-false : (b : Bool) → (b && false) ≡ true → ⊥
    and-false true e = cc
    and-false false e = cc
open-works b false e = refl

module _ (ts : List Terms) (h : OrderHistory) (port : ℕ) (moves : List Move) (always : AlwaysOfOrders ts port h) (came : Each (CameAsked ts port h) moves) where
  abbrev lead : List ℕ → Option (List ℕ)
  lead = leads ts port (accepted ts h)

  abbrev m : Machine
  m = (ran moves).machine

  told : IsTold (leads ts port (accepted ts h)) (WasAsked ts port h) (ran moves).machine (ran moves).said
  told = ran-told (leads ts port (accepted ts h)) (WasAsked ts port h) moves (known-moves ts port h always moves came)

  -- no token that leads to an order which is closed in what the market said is live
  closed-shut : (root : List ℕ) (side : ℕ) (t : List ℕ) → leads ts port (accepted ts h) t ≡ Some root
      → is_closed (life root side (ran moves).said).stage ≡ true → IsShut (ran moves).machine t
  closed-shut root side t on closed =
      each-all (λ (c : BookOrder). IsPlaced (leads ts port (accepted ts h)) (WasAsked ts port h) c
      × IsChain (ran moves).machine (ran moves).said c) (λ (c : BookOrder). is_live_as t c ≡ false)
      (ran moves).machine.book
      (λ c k. is-false (is_live_as t c) (λ live. one c k.0 k.1 live))
      (each-both (IsPlaced (leads ts port (accepted ts h)) (WasAsked ts port h))
      (IsChain (ran moves).machine (ran moves).said) (ran moves).machine.book told.placed (ran-Sound moves).each)
    where
      one : (c : BookOrder) → IsPlaced (leads ts port (accepted ts h)) (WasAsked ts port h) c
          → IsChain (ran moves).machine (ran moves).said c → is_live_as t c ≡ true → ⊥
      one c placed chain live =
          let parts = and-parts (bytes_eq t (first_token (tokens_of c))) (nat_lt 0 c.unfilled) live in
          let has : holds t c ≡ true = live-holds (tokens_of c) t (filled c) parts.0 in
          let there : Some c.entered.token ≡ Some root = sym (placed.leads t has) ∙ on in
          let same : c.entered.token ≡ root = cc in
          let lives : is_closed (life_in_book side c).stage ≡ true =
          subst (λ (l : Life). is_closed l.stage ≡ true) (chain.book side)
          (subst (λ (r : List ℕ). is_closed (life r side (ran moves).said).stage ≡ true) (sym same) closed) in
          let works : is_closed (life_in_book side c).stage ≡ false =
          ap (λ (s : Stage). is_closed s) (open-lived side c parts.1) in
          not-both (is_closed (life_in_book side c).stage) lives works

  -- a token that is named in what the market said is used
  named-used : (u : List ℕ) (newer M : List Outbound) → (ran moves).said ≡ newer ++ M → list_any (names u) M ≡ true
      → is_token_used (ran moves).machine u ≡ true
  named-used u newer M split named = told.named u ∙ ap (list_any (names u)) split ∙ list_any-append (names u) newer M
      ∙ or-right (list_any (names u) newer) (list_any (names u) M) named

-- ---- a token behind one that was refused is never live

module _ (asks : List Asked) (mc : Machine) (linked : Each (IsLinked asks) mc.book) where
  record IsDead (u : List ℕ) : Type 0 where
    out : IsOut mc u
    never : Never asks mc u

  dead-behind : (by : Asked) (from to : List ℕ) → IsIn by asks → by.said ≡ SaysReplace from to → IsDead from → IsDead to
  dead-behind by from to there says k = record {
    out = out;
    never = record {
      depth = suc k.never.depth;
      is =
          (out, record { by = by; from = from; there = there; says = says; holds_from = k.never.is });
    };
  }
    where
      out : IsOut mc to
      out = each-all (λ (c : BookOrder). IsLinked asks c × (holds from c ≡ false))
          (λ (c : BookOrder). holds to c ≡ false) mc.book
          (λ c p. is-false (holds to c) (λ has. not-both (holds from c) (p.0 by from to there says has) p.1))
          (each-both (IsLinked asks) (λ (c : BookOrder). holds from c ≡ false) mc.book linked k.out)

  -- all replaces behind a dead token
  all-behind : (new : Entry) (start : List ℕ) (qs : List Entry)
      → ((a : Asked) → IsIn a (replaces_asked new start qs) → IsIn a asks) → IsDead start → (u : List ℕ)
      → list_any (bytes_eq u) (replacements qs) ≡ true → IsDead u
  all-behind new start [] there k u e = absurd (cc)
  all-behind new start (q ∷ qs) there k u e =
      by_test (bytes_eq u (token_of q)) refl e (dead-behind (asked_replace new start q) start (token_of q)
      (there (asked_replace new start q) (inl refl)) refl k)
      (λ d f. all-behind new (token_of q) qs (λ a i. there a (inr i)) d u f)
    where
      by_test : (b : Bool) → bytes_eq u (token_of q) ≡ b → (b || list_any (bytes_eq u) (replacements qs)) ≡ true
          → IsDead (token_of q) → (IsDead (token_of q) → list_any (bytes_eq u) (replacements qs) ≡ true → IsDead u)
          → IsDead u
      by_test true same f d later = subst IsDead (sym (eq-is u (token_of q) same)) d
      by_test false other f d later = later d f

  -- those from a dead token on
  from-dead : (new : Entry) (start : List ℕ) (qs : List Entry)
      → ((a : Asked) → IsIn a (replaces_asked new start qs) → IsIn a asks) → (r u : List ℕ) → IsDead r
      → list_any (bytes_eq u) (from_token r (replacements qs)) ≡ true → IsDead u
  from-dead new start [] there r u k e = absurd (cc)
  from-dead new start (q ∷ qs) there r u k e =
      by_test (bytes_eq r (token_of q)) refl e (λ f. from-dead new (token_of q) qs (λ a i. there a (inr i)) r u k f)
    where
      by_first : bytes_eq r (token_of q) ≡ true → (b : Bool) → bytes_eq u (token_of q) ≡ b
          → (b || list_any (bytes_eq u) (replacements qs)) ≡ true → IsDead u
      by_first same true own f = subst IsDead (eq-is r (token_of q) same ∙ sym (eq-is u (token_of q) own)) k
      by_first same false other f = all-behind new (token_of q) qs (λ a i. there a (inr i))
          (subst IsDead (eq-is r (token_of q) same) k) u f

      by_test : (b : Bool) → bytes_eq r (token_of q) ≡ b
          → list_any (bytes_eq u) (if b then token_of q ∷ replacements qs else from_token r (replacements qs)) ≡ true
          → (list_any (bytes_eq u) (from_token r (replacements qs)) ≡ true → IsDead u) → IsDead u
      by_test true same f later = by_first same (bytes_eq u (token_of q)) refl f
      by_test false other f later = later f

-- ---- what falls by a turn is decided

-- what answers a new order names its token
new-answer : (u : List ℕ) (next : List (List ℕ)) (m : Outbound) → answers m next (SaysNew u) ≡ true → names u m ≡ true
new-answer u next (market.Accepted m) e = ap (λ (t : List ℕ). bytes_eq t m.token) (sym (eq-is m.token u e))
    ∙ eq-same m.token
new-answer u next (market.Rejected m) e = ap (λ (t : List ℕ). bytes_eq t m.token) (sym (eq-is m.token u e))
    ∙ eq-same m.token
new-answer u next (market.SystemEvent m) e = absurd (cc)
new-answer u next (market.Replaced m) e = absurd (cc)
new-answer u next (market.Canceled m) e = absurd (cc)
new-answer u next (market.Executed m) e = absurd (cc)
new-answer u next (market.Broken m) e = absurd (cc)
new-answer u next (market.CancelPending m) e = absurd (cc)
new-answer u next (market.CancelReject m) e = absurd (cc)
new-answer u next market.Skipped e = absurd (cc)

module _ (ts : List Terms) (before : OrderHistory) (old : TableState) (short : length before < 2 ^ 59) (leaves : TurnsLeave ts before old) (port : ℕ) (moves : List Move) (came : Each (CameAsked ts port before) moves) where
  abbrev A0 : List Entry
  A0 = accepted ts before

  abbrev AS0 : List Asked
  AS0 = asked ts port before

  abbrev O0 : List Asked
  O0 = outstanding ts port before

  abbrev mc : Machine
  mc = (ran moves).machine

  always0 : AlwaysOfOrders ts port before
  always0 = always-of-orders ts before old short leaves port

  T0 : IsTable ts before old
  T0 = (Leaves-Holding ts before old short leaves).table

  linked0 : Each (IsLinked (asked ts port before)) (ran moves).machine.book
  linked0 = linked-ran (asked ts port before) moves
      (each-all (CameAsked ts port before) (AsksAsAsked (asked ts port before)) moves
      (λ v w. asks-as-asked ts before old short leaves port v w) came)

  homely0 : (a : Asked) → IsIn a (outstanding ts port before) → IsHomely ts port (accepted ts before) a
  homely0 a i = each-in (IsHomely ts port (accepted ts before)) a (asked ts port before)
      (asked-homely ts before old short leaves port) (outstanding-asked ts port before a i)

  of0 : (a : Asked) → IsIn a (asked ts port before) → IsOfOrder ts port (accepted ts before) a
  of0 a i = of-order ts port a before always0 i

  -- a token that is asked for leads to the first token of its order
  gives-leads : (a : Asked) (o : IsOfOrder ts port (accepted ts before) a) (u : List ℕ) → gives a.said ≡ Some u
      → leads ts port (accepted ts before) u ≡ Some (token_of o.new)
  gives-leads a o u e = by_said a.said refl
    where
      by_said : (x : Said) → a.said ≡ x → leads ts port (accepted ts before) u ≡ Some (token_of o.new)
      by_said (SaysNew t) is =
          let k = subst (TokensLead ts port (accepted ts before) o.new) is o.tokens in
          let f : Some t ≡ Some u = sym (ap gives is) ∙ e in
          let same : t ≡ u = cc in
          subst (λ (v : List ℕ). leads ts port (accepted ts before) v ≡ Some (token_of o.new)) same
          (ap (option_map token_of) k.0.mine)
      by_said (SaysReplace from t) is =
          let k = subst (TokensLead ts port (accepted ts before) o.new) is o.tokens in
          let f : Some t ≡ Some u = sym (ap gives is) ∙ e in
          let same : t ≡ u = cc in
          subst (λ (v : List ℕ). leads ts port (accepted ts before) v ≡ Some (token_of o.new)) same
          (ap (option_map token_of) k.1.mine)
      by_said (SaysCancel t) is = absurd (let f : ◌≡◌ {A = Option (List ℕ)} None (Some u) = sym (ap gives is) ∙ e in cc)

  -- an order of which something was said was entered
  closed-used : (root : List ℕ) (side : ℕ) → is_closed (life root side (ran moves).said).stage ≡ true
      → is_token_used (ran moves).machine root ≡ true
  closed-used root side closed = by_used (is_token_used (ran moves).machine root) refl
    where
      by_used : (b : Bool) → is_token_used (ran moves).machine root ≡ b → is_token_used (ran moves).machine root ≡ true
      by_used true used = used
      by_used false unused =
          let is_born : life root side (ran moves).said ≡ vacant (is_token_used (ran moves).machine root) root side =
          (ran-Sound moves).outside root (free-token (ran moves).machine (ran moves).said root unused
          (ran-Sound moves)) side in
          absurd (not-both (is_closed (life root side (ran moves).said).stage) closed
          (ap (λ (l : Life). is_closed l.stage) is_born
          ∙ ap (λ (b : Bool). is_closed (vacant b root side).stage) unused))

  -- all that is asked of an order which isn't live, one behind the other, is decided
  closed-decides : (root : List ℕ) → ((t : List ℕ) → leads ts port (accepted ts before) t ≡ Some root
      → IsShut (ran moves).machine t) → is_token_used (ran moves).machine root ≡ true
      → (S : List ℕ → Type 0) (L : List Asked) → ((a : Asked) → IsIn a L → IsIn a (asked ts port before))
      → KeptFrom (asked ts port before) S L
      → ((u : List ℕ) → S u → leads ts port (accepted ts before) u ≡ Some root
      → IsDecided (asked ts port before) (ran moves).machine u)
      → (a : Asked) → IsIn a L → (u : List ℕ) → gives a.said ≡ Some u → leads ts port (accepted ts before) u ≡ Some root
      → IsDecided (asked ts port before) (ran moves).machine u
  closed-decides root shut used S [] there kept settled a i u e on = absurd i
  closed-decides root shut used S (y ∷ ys) there kept settled a i u e on =
      ⊎_elim
      (λ same. decide u (ap (λ (z : Asked). gives z.said) same ∙ e) on)
      (λ k. closed-decides root shut used (λ v. S v ⊎ (gives y.said ≡ Some v)) ys (λ b j. there b (inr j)) kept.1
      (λ v s l. ⊎_elim (λ r. settled v r l) (λ g. decide v g l) s) a k u e on) i
    where
      o : IsOfOrder ts port (accepted ts before) y
      o = of0 y (there y (inl refl))

      decide : (v : List ℕ) → gives y.said ≡ Some v → leads ts port (accepted ts before) v ≡ Some root
          → IsDecided (asked ts port before) (ran moves).machine v
      decide v g l = by_said y.said refl
        where
          by_said : (x : Said) → y.said ≡ x → IsDecided (asked ts port before) (ran moves).machine v
          by_said (SaysNew t) is =
              let k = subst (TokensLead ts port (accepted ts before) o.new) is o.tokens in
              let f : Some t ≡ Some v = sym (ap gives is) ∙ g in
              let same : t ≡ v = cc in
              let there_is : Some (token_of o.new) ≡ Some root = sym (gives-leads y o v g) ∙ l in
              let first : token_of o.new ≡ root = cc in
              inl (subst (λ (w : List ℕ). is_token_used (ran moves).machine w ≡ true) (sym first ∙ k.1 ∙ same) used)
          by_said (SaysReplace from t) is =
              let k = subst (TokensLead ts port (accepted ts before) o.new) is o.tokens in
              let f : Some t ≡ Some v = sym (ap gives is) ∙ g in
              let same : t ≡ v = cc in
              let from_leads : leads ts port (accepted ts before) from ≡ Some root = ap (option_map token_of) k.0.mine
              ∙ sym (gives-leads y o v g) ∙ l in
              let never : Never (asked ts port before) (ran moves).machine from =
              decided-never (asked ts port before) (ran moves).machine from
              (settled from (kept.0 from (FromIt t is)) from_leads) (shut from from_leads) in
              by_used from (is ∙ ap (SaysReplace from) same) never (is_token_used (ran moves).machine v) refl
            where
              by_used : (start : List ℕ) → y.said ≡ SaysReplace start v
                  → Never (asked ts port before) (ran moves).machine start → (b : Bool)
                  → is_token_used (ran moves).machine v ≡ b → IsDecided (asked ts port before) (ran moves).machine v
              by_used start says never true used_v = inl used_v
              by_used start says never false unused = inr (record {
                depth = suc never.depth;
                is = (
                  free-token (ran moves).machine (ran moves).said v unused
                      (ran-Sound moves),
                  record {
                    by = y;
                    from = start;
                    there = there y (inl refl);
                    says =
                        says;
                    holds_from = never.is;
                  },
                );
              })
          by_said (SaysCancel t) is = absurd (let f : ◌≡◌ {A = Option (List ℕ)} None (Some v) = sym (ap gives is) ∙ g in
              cc)

  -- ---- what falls

  module _ (queue : IsQueue (asked ts port before) (ran moves).machine (outstanding ts port before)) (newer M : List Outbound) (split : (ran moves).said ≡ newer ++ M) where
    abbrev Falls : Asked → Type 0
    Falls a = (u : List ℕ) → gives a.said ≡ Some u → IsDecided (asked ts port before) (ran moves).machine u

    said : EachSaid (leads ts port (accepted ts before)) (WasAsked ts port before) (newer ++ M)
    said = subst (EachSaid (leads ts port (accepted ts before)) (WasAsked ts port before)) split
        (told ts before port moves always0 came).each

    -- since its order is closed
    falls-closed : (a : Asked) → IsIn a (outstanding ts port before)
        → is_closed (life_of a.order (accepted ts before) M).stage ≡ true → Falls a
    falls-closed a i closed u e =
        let o = of0 a (outstanding-asked ts port before a i) in
        let root : List ℕ = token_of o.new in
        let first : leads ts port (accepted ts before) (token_of o.new) ≡ Some (token_of o.new) =
        ap (option_map token_of) o.first.mine in
        let lives : is_closed (life (token_of o.new) (character 54 o.new.message) M).stage ≡ true =
        subst (λ (x : Option Entry). is_closed (life (unwrap_or (option_map token_of x) [])
        (unwrap_or (option_map (λ (y : Entry). character 54 y.message) x) 0) M).stage ≡ true) o.found closed in
        let all : is_closed (life (token_of o.new) (character 54 o.new.message) (ran moves).said).stage ≡ true =
        subst (λ (xs : List Outbound). is_closed (life (token_of o.new) (character 54 o.new.message) xs).stage ≡ true)
        (sym split)
        (closed-more (leads ts port (accepted ts before)) (WasAsked ts port before) (token_of o.new) first
        (character 54 o.new.message) newer M said lives) in
        closed-decides (token_of o.new) (λ t on. closed-shut ts before port moves always0 came (token_of o.new)
        (character 54 o.new.message) t on all) (closed-used (token_of o.new) (character 54 o.new.message) all)
        (IsDecided (asked ts port before) (ran moves).machine) (outstanding ts port before)
        (λ b j. outstanding-asked ts port before b j) queue.kept (λ v d l. d) a i u e (gives-leads a o u e)

    -- since a message names its token
    falls-named : (a : Asked) (u : List ℕ) → list_any (names u) M ≡ true
        → IsDecided (asked ts port before) (ran moves).machine u
    falls-named a u named = inl (named-used ts before port moves always0 came u newer M split named)

    -- since an earlier one is rejected
    falls-behind : (a : Asked) → IsIn a (outstanding ts port before) → (msg : Outbound) (u : List ℕ) → IsIn msg M
        → IsRejectedBy msg (next_tokens a.order (outstanding ts port before)) u
        → IsDecided (asked ts port before) (ran moves).machine u
    falls-behind a i msg u there r =
        inr (from-dead (asked ts port before) (ran moves).machine linked0 k.order.new
        (live_token k.order) k.order.replaces members r.by.token u dead
        (subst (λ (tokens : List (List ℕ)). list_any (bytes_eq u) (from_token r.by.token tokens) ≡ true) k.next_so
        r.behind)).never
      where
        home : IsHomely ts port (accepted ts before) a
        home = homely0 a i

        k : Known ts before port a.order
        k = known ts before port a.order home.new T0.held home.found home.on_port

        members : (b : Asked) → IsIn b (replaces_asked k.order.new (live_token k.order) k.order.replaces)
            → IsIn b (asked ts port before)
        members b j =
            outstanding-asked ts port before b
            (in-filtered (λ (x : Asked). bytes_eq x.order a.order) b (outstanding ts port before)
            (subst (IsIn b) (sym k.asked_so) (in-right b (new_asked ts k.order.new k.order.stage)
            (replaces_asked k.order.new (live_token k.order) k.order.replaces
            ++ cancel_asked k.order.new k.order.cancel)
            (in-left b (replaces_asked k.order.new (live_token k.order) k.order.replaces)
            (cancel_asked k.order.new k.order.cancel) j))))

        refused : IsRefused (ran moves).machine r.by.token
        refused = refused-ran moves r.by (subst (IsIn (market.Rejected r.by)) (sym split)
            (in-right (market.Rejected r.by) newer M (subst (λ (x : Outbound). IsIn x M) r.is there)))

        dead : IsDead (asked ts port before) (ran moves).machine linked0 r.by.token
        dead = record {
          out = refused.out;
          never =
              record {
                depth = zero;
                is = record {
                  used = refused.used;
                  shut =
                      out-shut (ran moves).machine r.by.token refused.out;
                };
              };
        }

-- ---- what a turn leaves

-- a message that is no fault on a port names no token that the port doesn't know
no-stranger : (ts : List Terms) (q : ℕ) (before : OrderHistory) (u : List ℕ) (m : Outbound)
    → order_of_token ts q (accepted ts before) u ≡ None → judgement ts q (Ok m) before ≡ None → names u m ≡ false
no-stranger ts q before u (market.SystemEvent m) none j = refl
no-stranger ts q before u (market.Accepted m) none j =
    is-false _ (λ e. (let here : order_of_token ts q (accepted ts before) m.token ≡ None =
    ap (order_of_token ts q (accepted ts before)) (sym (eq-is u m.token e)) ∙ none in let x = rw here at j in cc))
no-stranger ts q before u (market.Replaced m) none j =
    is-false _ (λ e. (let here : order_of_token ts q (accepted ts before) m.token ≡ None =
    ap (order_of_token ts q (accepted ts before)) (sym (eq-is u m.token e)) ∙ none in let x = rw here at j in cc))
no-stranger ts q before u (market.Canceled m) none j = refl
no-stranger ts q before u (market.Executed m) none j = refl
no-stranger ts q before u (market.Broken m) none j = refl
no-stranger ts q before u (market.Rejected m) none j =
    is-false _ (λ e. (let here : order_of_token ts q (accepted ts before) m.token ≡ None =
    ap (order_of_token ts q (accepted ts before)) (sym (eq-is u m.token e)) ∙ none in let x = rw here at j in cc))
no-stranger ts q before u (market.CancelPending m) none j = refl
no-stranger ts q before u (market.CancelReject m) none j = refl
no-stranger ts q before u market.Skipped none j = refl

not-or : (b c : Bool) → not (b || c) ≡ false → (b ≡ true) ⊎ (c ≡ true)
not-or true c e = inl refl
not-or false true e = inr refl
not-or false false e = absurd (cc)

module _ (ts : List Terms) (before : OrderHistory) (old : TableState) (short : length before < 2 ^ 59)
    (leaves : TurnsLeave ts before old) (port : ℕ) (moves : List Move) (came : Each (CameAsked ts port before) moves)
    (queue : IsQueue (asked ts port before) (ran moves).machine (outstanding ts port before)) where
  abbrev Falling : Asked → Type 0
  Falling a = (u : List ℕ) → gives a.said ≡ Some u → IsDecided (asked ts port before) (ran moves).machine u

  pub record Fallen (x : OrderTurn) : Type 0 where
    pub left : List Asked
    pub thin : Thinned (λ (a : Asked). (u : List ℕ) → gives a.said ≡ Some u
        → IsDecided (asked ts port before) (ran moves).machine u) (outstanding ts port before) left
    pub is : outstanding ts port (x ∷ before)
        ≡ left ++ asks_of ts port (entry_at ts x.event before) (accepted ts before) (issued (sender x.event) before)
        (handled port before)

  all-left : (x : OrderTurn) → outstanding ts port (x ∷ before)
      ≡ outstanding ts port before ++ asks_of ts port (entry_at ts x.event before) (accepted ts before)
      (issued (sender x.event) before) (handled port before) → Fallen x
  all-left x is = record {
    left = outstanding ts port before;
    thin =
        thinned-same (λ (a : Asked). (u : List ℕ) → gives a.said ≡ Some u
        → IsDecided (asked ts port before) (ran moves).machine u) (outstanding ts port before);
    is = is;
  }

  -- on another port a token of this one is unknown
  elsewhere : (a : Asked) → IsIn a (outstanding ts port before) → (u : List ℕ) → gives a.said ≡ Some u → (q : ℕ)
      → (q ≡ port → ⊥) → order_of_token ts q (accepted ts before) u ≡ None
  elsewhere a i u e q apart = by_said a.said refl
    where
      o : IsOfOrder ts port (accepted ts before) a
      o = of0 ts before old short leaves port moves came a (outstanding-asked ts port before a i)

      by_said : (x : Said) → a.said ≡ x → order_of_token ts q (accepted ts before) u ≡ None
      by_said (SaysNew t) is =
          let k = subst (TokensLead ts port (accepted ts before) o.new) is o.tokens in
          let f : Some t ≡ Some u = sym (ap gives is) ∙ e in
          let same : t ≡ u = cc in
          subst (λ (v : List ℕ). order_of_token ts q (accepted ts before) v ≡ None) same (k.0.elsewhere q apart)
      by_said (SaysReplace from t) is =
          let k = subst (TokensLead ts port (accepted ts before) o.new) is o.tokens in
          let f : Some t ≡ Some u = sym (ap gives is) ∙ e in
          let same : t ≡ u = cc in
          subst (λ (v : List ℕ). order_of_token ts q (accepted ts before) v ≡ None) same (k.1.elsewhere q apart)
      by_said (SaysCancel t) is = absurd (let f : ◌≡◌ {A = Option (List ℕ)} None (Some u) = sym (ap gives is) ∙ e in cc)

  -- what answers it names its token, or is the Rejected of one before it
  answer : (a : Asked) (u : List ℕ) (m : Outbound) → gives a.said ≡ Some u
      → is_answered m (outstanding ts port before) a ≡ true
      → (names u m ≡ true) ⊎ IsRejectedBy m (next_tokens a.order (outstanding ts port before)) u
  answer a u m e answered = by_said a.said refl
    where
      by_said : (x : Said) → a.said ≡ x → (names u m ≡ true) ⊎ IsRejectedBy m
          (next_tokens a.order (outstanding ts port before)) u
      by_said (SaysNew t) is =
          let f : Some t ≡ Some u = sym (ap gives is) ∙ e in
          let same : t ≡ u = cc in
          inl (new-answer u (next_tokens a.order (outstanding ts port before)) m
          (subst (λ (y : Said). answers m (next_tokens a.order (outstanding ts port before)) y ≡ true)
          (is ∙ ap SaysNew same) answered))
      by_said (SaysReplace from t) is =
          let f : Some t ≡ Some u = sym (ap gives is) ∙ e in
          let same : t ≡ u = cc in
          answered-by m (next_tokens a.order (outstanding ts port before)) from u
          (subst (λ (y : Said). answers m (next_tokens a.order (outstanding ts port before)) y ≡ true)
          (is ∙ ap (SaysReplace from) same) answered)
      by_said (SaysCancel t) is = absurd (let f : ◌≡◌ {A = Option (List ℕ)} None (Some u) = sym (ap gives is) ∙ e in cc)

  -- by a message of another port nothing of this one is answered
  unanswered : (a : Asked) → IsIn a (outstanding ts port before) → (u : List ℕ) → gives a.said ≡ Some u → (q : ℕ)
      → (q ≡ port → ⊥) → (m : Outbound) → judgement ts q (Ok m) before ≡ None
      → is_answered m (outstanding ts port before) a ≡ true → ⊥
  unanswered a i u e q apart m lawful answered = by_answer (answer a u m e answered)
    where
      by_answer : (names u m ≡ true) ⊎ IsRejectedBy m (next_tokens a.order (outstanding ts port before)) u → ⊥
      by_answer (inl named) = not-both (names u m) named
          (no-stranger ts q before u m (elsewhere a i u e q apart) lawful)
      by_answer (inr r) =
          let other : IsAskedFor a.order r.by.token (outstanding ts port before) =
          asked-for a.order r.by.token (outstanding ts port before)
          (from-among (bytes_eq u) r.by.token (next_tokens a.order (outstanding ts port before)) r.behind) in
          let unnamed = no-stranger ts q before r.by.token m
          (elsewhere other.asks other.there r.by.token (ap gives other.says) q apart) lawful in
          not-both (names r.by.token m) (ap (names r.by.token) r.is ∙ eq-same r.by.token) unnamed

  by-event : (x : OrderTurn) (ev : OrderEvent) (fault : Option ℕ) (newer : List Outbound)
      → TurnOf ts ev (record x { event = ev; fault = fault }) before
      → (ran moves).said ≡ newer ++ handled port (record x { event = ev; fault = fault } ∷ before)
      → Fallen (record x { event = ev; fault = fault })
  by-event x (Came client m p) fault newer turn split =
      all-left (record x { event = Came client m p; fault = fault }) refl
  by-event x (Heard p (Err r)) fault newer turn split =
      all-left (record x { event = Heard p (Err r); fault = fault }) refl
  by-event x (Heard p (Ok m)) (Some n) newer turn split =
      all-left (record x { event = Heard p (Ok m); fault = Some n }) refl
  by-event x (Heard p (Ok m)) None newer turn split = record {
    left = filter (λ (a : Asked). not (is_answered m (outstanding ts port before) a
        || is_closed (life_of a.order (accepted ts before) (handled port (y ∷ before))).stage))
        (outstanding ts port before);
    thin = thinned-filter (λ (a : Asked). (u : List ℕ) → gives a.said ≡ Some u
        → IsDecided (asked ts port before) (ran moves).machine u)
        (λ (a : Asked). not (is_answered m (outstanding ts port before) a
        || is_closed (life_of a.order (accepted ts before) (handled port (y ∷ before))).stage))
        (outstanding ts port before)
        (λ a i e. falls a i (not-or (is_answered m (outstanding ts port before) a)
        (is_closed (life_of a.order (accepted ts before) (handled port (y ∷ before))).stage) e));
    is = refl;
  }
    where
      y : OrderTurn
      y = record x { event = Heard p (Ok m); fault = None }

      own : (p == port) ≡ true → handled port (y ∷ before) ≡ m ∷ handled port before
      own e = rw e refl

      by_port : (a : Asked) → IsIn a (outstanding ts port before) → is_answered m (outstanding ts port before) a ≡ true
          → (u : List ℕ) → gives a.said ≡ Some u → (b : Bool) → (p == port) ≡ b
          → IsDecided (asked ts port before) (ran moves).machine u
      by_port a i answered u e true here =
          ⊎_elim
          (λ named. falls-named ts before old short leaves port moves came queue newer
          (handled port (y ∷ before)) split a u (ap (list_any (names u)) (own here) ∙ rw named refl))
          (λ r. falls-behind ts before old short leaves port moves came queue newer
          (handled port (y ∷ before)) split a i m u (subst (IsIn m) (sym (own here)) (inl refl)) r)
          (answer a u m e answered)
      by_port a i answered u e false other = absurd
          (unanswered a i u e p (λ same. not-both (p == port) (eq-eqb p port same) other) m (sym turn.fault) answered)

      falls : (a : Asked) → IsIn a (outstanding ts port before)
          → (is_answered m (outstanding ts port before) a ≡ true) ⊎
          (is_closed (life_of a.order (accepted ts before) (handled port (y ∷ before))).stage ≡ true)
          → (u : List ℕ) → gives a.said ≡ Some u → IsDecided (asked ts port before) (ran moves).machine u
      falls a i (inl answered) u e = by_port a i answered u e (p == port) refl
      falls a i (inr closed) u e = falls-closed ts before old short leaves port moves came queue newer
          (handled port (y ∷ before)) split a i closed u e

-- ---- what is asked anew

find-in : (p : Entry → Bool) (xs : List Entry) (x : Entry) → find p xs ≡ Some x → IsIn x xs
find-in p [] x e = absurd (cc)
find-in p (y ∷ ys) x e = by_test (p y) e (λ f. find-in p ys x f)
  where
    by_test : (b : Bool) → (if b then Some y else find p ys) ≡ Some x → (find p ys ≡ Some x → IsIn x ys)
        → IsIn x (y ∷ ys)
    by_test true f later = inl (let same : y ≡ x = cc in same)
    by_test false f later = inr (later f)

record HasAsked (ts : List Terms) (port : ℕ) (h : OrderHistory) (u : List ℕ) : Type 0 where
  asks : Asked
  there : IsIn asks (asked ts port h)
  gives_it : gives asks.said ≡ Some u

-- a new order's token was asked for
new-asks : (ts : List Terms) (port : ℕ) (h : OrderHistory) (new : Entry) → IsIn new (accepted ts h)
    → is_new_order new.message ≡ true → (terms_of ts new.client).port ≡ port → HasAsked ts port h (token_of new)
new-asks ts port [] new i is_n on = absurd i
new-asks ts port (t ∷ before) new i is_n on =
    by_place (in-parts new (option_to_list (entry_at ts t.event before)) (accepted ts before) i)
    (λ j. new-asks ts port before new j is_n on)
  where
    the_ask : Asked
    the_ask = record {
      order = new.order;
      id = text 11 new.message;
      said = SaysNew (token_of new);
      ask =
          Some (asked_by_new (terms_of ts new.client).capacity new.message);
    }

    now : IsIn the_ask (asks_of ts port (Some new) (accepted ts before) (issued (sender t.event) before)
        (handled port before))
    now = let test = eq-eqb (terms_of ts new.client).port port on in rw (test, is_n) (inl refl)

    by_entry : (x : Option Entry) → entry_at ts t.event before ≡ x → IsIn new (option_to_list x)
        → HasAsked ts port (t ∷ before) (token_of new)
    by_entry None is j = absurd j
    by_entry (Some e) is j = ⊎_elim
        (λ same. record {
          asks = the_ask;
          there = in-right the_ask (asked ts port before) _
              (subst (λ (x : Option Entry). IsIn the_ask
              (asks_of ts port x (accepted ts before) (issued (sender t.event) before) (handled port before)))
              (sym (is ∙ ap Some same)) now);
          gives_it = refl;
        })
        (λ none. absurd none) j

    by_place : IsIn new (option_to_list (entry_at ts t.event before)) ⊎ IsIn new (accepted ts before)
        → (IsIn new (accepted ts before) → HasAsked ts port before (token_of new))
        → HasAsked ts port (t ∷ before) (token_of new)
    by_place (inl j) earlier = by_entry (entry_at ts t.event before) refl j
    by_place (inr j) earlier = let k = earlier j in
        record { asks = k.asks; there = in-left k.asks (asked ts port before) _ k.there; gives_it = k.gives_it }

-- an order that one more message isn't the new order of was there
was-there : (k : List ℕ) (e : Entry) (A : List Entry) (new : Entry) → is_new_order e.message ≡ false
    → new_of k (e ∷ A) ≡ Some new → new_of k A ≡ Some new
was-there k e A new is_no f = by_test (bytes_eq e.order k) (rw is_no at f)
  where
    by_test : (b : Bool) → (if b && false then Some e else new_of k A) ≡ Some new → new_of k A ≡ Some new
    by_test true f = f
    by_test false f = f

last-in : (x : List ℕ) (xs : List (List ℕ)) → IsIn (last_token x xs) (x ∷ xs)
last-in x [] = inl refl
last-in x (y ∷ ys) = inr (last-in y ys)

in-any : (u : List ℕ) (xs : List (List ℕ)) → IsIn u xs → list_any (bytes_eq u) xs ≡ true
in-any u [] i = absurd i
in-any u (x ∷ xs) i = ⊎_elim (λ same. (let e : bytes_eq u x ≡ true = ap (bytes_eq u) same ∙ eq-same u in rw e refl))
    (λ k. or-right (bytes_eq u x) (list_any (bytes_eq u) xs) (in-any u xs k)) i

module _ (ts : List Terms) (t : OrderTurn) (before : OrderHistory) (old s : TableState)
    (short : length (t ∷ before) < 2 ^ 59) (leaves0 : TurnsLeave ts before old) (leaves : TurnsLeave ts (t ∷ before) s)
    (port : ℕ) (moves : List Move)
    (came : Each (CameAsked ts port before) moves) (newer : List Outbound) (split : (ran moves).said ≡ newer ++ handled port (t ∷ before)) (longer : (u : List ℕ) → list_any (names u) (handled port before) ≡ true → list_any (names u) (handled port (t ∷ before)) ≡ true) where
  short0 : length before < 2 ^ 59
  short0 = omega (arith, short)

  T0' : IsTable ts before old
  T0' = (Leaves-Holding ts before old short0 leaves0).table

  T1 : IsTable ts (t ∷ before) s
  T1 = (Leaves-Holding ts (t ∷ before) s short leaves).table

  -- the tokens of an order that a request is on are settled in a list that has all that was asked
  tokens-settled : (L : List Asked) → ((a : Asked) (u : List ℕ) → IsIn a (asked ts port before) → gives a.said ≡ Some u
      → IsDecided (asked ts port before) (ran moves).machine u ⊎ NamedIn L u)
      → (e : Entry) → entry_at ts t.event before ≡ Some e → is_new_order e.message ≡ false
      → (terms_of ts e.client).port ≡ port → (u : List ℕ) → IsIn u (tokens_at ts port t.event before e)
      → IsDecided (asked ts port before) (ran moves).machine u ⊎ NamedIn L u
  tokens-settled L given e is is_no on u i =
      ⊎_elim (λ same. subst (λ (v : List ℕ). IsDecided (asked ts port before) (ran moves).machine v ⊎ NamedIn L v) same
      live_settled) (λ k. pending_settled k) i
    where
      entry : IsEntry ts (accepted ts (t ∷ before)) (orders_numbered (t ∷ before)) e
      entry = (subst (λ (x : Option Entry). Each (IsEntry ts (accepted ts (t ∷ before)) (orders_numbered (t ∷ before)))
          (option_to_list x ++ accepted ts before)) is T1.held.entries).0

      found : new_of e.order (accepted ts before) ≡ Some entry.new
      found = was-there e.order e (accepted ts before) entry.new is_no
          (subst (λ (x : Option Entry). new_of e.order (option_to_list x ++ accepted ts before) ≡ Some entry.new) is
          entry.found)

      new_on : (terms_of ts entry.new.client).port ≡ port
      new_on = ap (λ (c : ℕ). (terms_of ts c).port) entry.same_client ∙ on

      is_new : is_new_order entry.new.message ≡ true
      is_new = (and-parts (bytes_eq entry.new.order e.order) (is_new_order entry.new.message)
          (found-passes (λ (y : Entry). bytes_eq y.order e.order && is_new_order y.message)
          (accepted ts before) entry.new found)).1

      first : HasAsked ts port before (token_of entry.new)
      first = new-asks ts port before entry.new
          (find-in (λ (y : Entry). bytes_eq y.order e.order && is_new_order y.message)
          (accepted ts before) entry.new found) is_new new_on

      live_is : live (life_of e.order (accepted ts before) (handled port before))
          ≡ live (life (token_of entry.new) (character 54 entry.new.message) (handled port before))
      live_is = ap (λ (x : Option Entry). live (life (unwrap_or (option_map token_of x) [])
          (unwrap_or (option_map (λ (y : Entry). character 54 y.message) x) 0) (handled port before))) found

      live_settled : IsDecided (asked ts port before) (ran moves).machine
          (live (life_of e.order (accepted ts before) (handled port before))) ⊎ NamedIn L
          (live (life_of e.order (accepted ts before) (handled port before)))
      live_settled = subst (λ (v : List ℕ). IsDecided (asked ts port before) (ran moves).machine v ⊎ NamedIn L v)
          (sym live_is)
          (⊎_elim
          (λ root. subst (λ (v : List ℕ). IsDecided (asked ts port before) (ran moves).machine v ⊎ NamedIn L v)
          (sym root) (given first.asks (token_of entry.new) first.there first.gives_it))
          (λ named. inl (inl (named-used ts before port moves
          (always-of-orders ts before old short0 leaves0 port) came _ newer (handled port (t ∷ before)) split
          (longer _ named))))
          (live-named (token_of entry.new) (character 54 entry.new.message) (handled port before)))

      k : Known ts before port e.order
      k = known ts before port e.order entry.new T0'.held found new_on

      same_new : k.order.new ≡ entry.new
      same_new = (let g : Some k.order.new ≡ Some entry.new = sym k.fits.known
          ∙ ap (λ (n : List ℕ). new_of n (accepted ts before)) k.number_is ∙ found in cc)

      ev : (client : ℕ) × ((m : Message) × ((p : Port) × (t.event ≡ Came client m p)))
      ev = entry-came ts t.event before e is

      client_is : k.order.new.client ≡ e.client
      client_is = ap (λ (x : Entry). x.client) same_new ∙ entry.same_client

      sender_is : sender t.event ≡ e.client
      sender_is = ap sender ev.1.1.1 ∙ sym (entry-own ts ev.0 ev.1.0 ev.1.1.0 before e
          (ap (λ (x : OrderEvent). entry_at ts x before) (sym ev.1.1.1) ∙ is)).client_is

      pending_is : pending_tokens e.client (chain e.order (issued (sender t.event) before)) (accepted ts before)
          ≡ next_tokens e.order (outstanding ts port before)
      pending_is =
          ap (λ (c : ℕ). pending_tokens e.client (chain e.order (issued c before)) (accepted ts before)) sender_is
          ∙ ap (λ (c : ℕ). pending_tokens c (chain e.order (issued c before)) (accepted ts before)) (sym client_is)
          ∙ ap (λ (n : List ℕ). pending_tokens k.order.new.client (chain n (issued k.order.new.client before))
          (accepted ts before)) (sym k.number_is)
          ∙ pending-so ts before port e.order k
          ∙ sym k.next_so

      pending_settled : IsIn u (pending_tokens e.client (chain e.order (issued (sender t.event) before))
          (accepted ts before)) → IsDecided (asked ts port before) (ran moves).machine u ⊎ NamedIn L u
      pending_settled j =
          let other : IsAskedFor e.order u (outstanding ts port before) =
          asked-for e.order u (outstanding ts port before)
          (in-any u (next_tokens e.order (outstanding ts port before)) (subst (IsIn u) pending_is j)) in
          given other.asks u (outstanding-asked ts port before other.asks other.there) (ap gives other.says)

  -- what each of those needs that are asked now is settled
  needs-settled : (L : List Asked) → ((a : Asked) (u : List ℕ) → IsIn a (asked ts port before) → gives a.said ≡ Some u
      → IsDecided (asked ts port before) (ran moves).machine u ⊎ NamedIn L u)
      → (y : Asked) → NewlyAsked ts port t.event before y → (u : List ℕ) → Needs (asked ts port (t ∷ before)) y u
      → IsDecided (asked ts port before) (ran moves).machine u ⊎ NamedIn L u
  needs-settled L given y k u (FromIt to says) = by_shape k.by.shape
    where
      by_shape : Shape k.entry (front_at ts port t.event before k.entry) (tokens_at ts port t.event before k.entry) y
          → IsDecided (asked ts port before) (ran moves).machine u ⊎ NamedIn L u
      by_shape (AsNew is_n x) = absurd (let f : SaysNew (token_of k.entry) ≡ SaysReplace u to = sym x ∙ says in cc)
      by_shape (AsReplace is_n is_r x) =
          let f : SaysReplace (front_at ts port t.event before k.entry) (token_of k.entry) ≡ SaysReplace u to = sym x
          ∙ says in
          let same : front_at ts port t.event before k.entry ≡ u = cc in
          tokens-settled L given k.entry k.is is_n k.on_port u
          (subst (λ (v : List ℕ). IsIn v (tokens_at ts port t.event before k.entry)) same
          (last-in (live (life_of k.entry.order (accepted ts before) (handled port before)))
          (pending_tokens k.entry.client (chain k.entry.order (issued (sender t.event) before))
          (accepted ts before))))
      by_shape (AsCancel is_n is_r token there x) =
          absurd (let f : SaysCancel token ≡ SaysReplace u to = sym x ∙ says in cc)
  needs-settled L given y k u (OfRequest tok says z i same_order same_id zsays) =
      by_place (in-parts z (asked ts port before) _ i)
    where
      by_shape : (kz : NewlyAsked ts port t.event before z)
          → Shape kz.entry (front_at ts port t.event before kz.entry) (tokens_at ts port t.event before kz.entry) z
          → IsDecided (asked ts port before) (ran moves).machine u ⊎ NamedIn L u
      by_shape kz (AsNew is_n x) = absurd (let f : SaysNew (token_of kz.entry) ≡ SaysCancel u = sym x ∙ zsays in cc)
      by_shape kz (AsReplace is_n is_r x) = absurd
          (let f : SaysReplace (front_at ts port t.event before kz.entry) (token_of kz.entry) ≡ SaysCancel u = sym x
          ∙ zsays in cc)
      by_shape kz (AsCancel is_n is_r token there x) =
          let f : SaysCancel token ≡ SaysCancel u = sym x ∙ zsays in
          let same : token ≡ u = cc in
          tokens-settled L given kz.entry kz.is is_n kz.on_port u
          (subst (λ (v : List ℕ). IsIn v (tokens_at ts port t.event before kz.entry)) same there)

      by_place : IsIn z (asked ts port before) ⊎ IsIn z
          (asks_of ts port (entry_at ts t.event before) (accepted ts before) (issued (sender t.event) before)
          (handled port before)) → IsDecided (asked ts port before) (ran moves).machine u ⊎ NamedIn L u
      by_place (inl j) = absurd (request-new ts t before s short leaves port z y j k same_order same_id)
      by_place (inr j) = let kz = newly-asked ts port t.event before z j in by_shape kz kz.by.shape

  -- those asked before need no more
  needs-fewer : (y : Asked) → IsIn y (asked ts port before) → (u : List ℕ) → Needs (asked ts port (t ∷ before)) y u
      → Needs (asked ts port before) y u
  needs-fewer y i u (FromIt to says) = FromIt to says
  needs-fewer y i u (OfRequest tok says z j same_order same_id zsays) = by_place (in-parts z (asked ts port before) _ j)
    where
      by_place : IsIn z (asked ts port before) ⊎ IsIn z
          (asks_of ts port (entry_at ts t.event before) (accepted ts before) (issued (sender t.event) before)
          (handled port before)) → Needs (asked ts port before) y u
      by_place (inl k) = OfRequest tok says z k same_order same_id zsays
      by_place (inr k) = absurd (request-new ts t before s short leaves port y z i
          (newly-asked ts port t.event before z k) (sym same_order) (sym same_id))

  -- a list of what was asked, with what is asked now behind it
  pub queue-asked : (L : List Asked) → ((a : Asked) → IsIn a L → IsIn a (asked ts port before))
      → IsQueue (asked ts port before) (ran moves).machine L
      → IsQueue (asked ts port (t ∷ before)) (ran moves).machine
      (L ++ asks_of ts port (entry_at ts t.event before) (accepted ts before) (issued (sender t.event) before)
      (handled port before))
  queue-asked L there queue = record {
    kept = kept-append (asked ts port (t ∷ before)) (IsDecided (asked ts port (t ∷ before)) (ran moves).machine) L now
        (kept-more (asked ts port (t ∷ before)) (IsDecided (asked ts port before) (ran moves).machine)
        (IsDecided (asked ts port (t ∷ before)) (ran moves).machine) L more
        (kept-asked (asked ts port before) (asked ts port (t ∷ before))
        (IsDecided (asked ts port before) (ran moves).machine) L (λ y i. needs-fewer y (there y i)) queue.kept))
        (kept-new (asked ts port (t ∷ before)) (λ u. IsDecided (asked ts port (t ∷ before))
        (ran moves).machine u ⊎ NamedIn L u) now
        (λ y i u n. ⊎_elim (λ d. inl (more u d)) (λ l. inr l)
        (needs-settled L queue.given y (newly-asked ts port t.event before y i) u n)));
    given = λ a u i e. by_place a u e (in-parts a (asked ts port before) now i);
  }
    where
      now : List Asked
      now = asks_of ts port (entry_at ts t.event before) (accepted ts before) (issued (sender t.event) before)
          (handled port before)

      more : (u : List ℕ) → IsDecided (asked ts port before) (ran moves).machine u
          → IsDecided (asked ts port (t ∷ before)) (ran moves).machine u
      more u d = decided-more (asked ts port before) (asked ts port (t ∷ before)) (ran moves).machine
          (λ a i. in-left a (asked ts port before) _ i) u d

      by_place : (a : Asked) (u : List ℕ) → gives a.said ≡ Some u → IsIn a (asked ts port before) ⊎ IsIn a now
          → IsDecided (asked ts port (t ∷ before)) (ran moves).machine u ⊎ NamedIn (L ++ now) u
      by_place a u e (inl i) = ⊎_elim (λ d. inl (more u d)) (λ n. inr (named-left L now u n)) (queue.given a u i e)
      by_place a u e (inr i) = inr (named-right L now u (named-in a now u i e))

-- ---- a turn

-- what was named in what is handled still is
handled-longer : (port : ℕ) (t : OrderTurn) (before : OrderHistory) (u : List ℕ)
    → list_any (names u) (handled port before) ≡ true → list_any (names u) (handled port (t ∷ before)) ≡ true
handled-longer port t before u named = by_event t.event t.fault
  where
    by_test : (c : Bool) (m : Outbound) → list_any (names u)
        (if c then m ∷ handled port before else handled port before) ≡ true
    by_test true m = or-right (names u m) (list_any (names u) (handled port before)) named
    by_test false m = named

    by_event : (e : OrderEvent) (f : Option ℕ)
        → list_any (names u) (handled port (record t { event = e; fault = f } ∷ before)) ≡ true
    by_event (Came client m p) f = named
    by_event (Heard p (Ok m)) f = by_test (p == port && not (is_some f)) m
    by_event (Heard p (Err refusal)) f = named

-- what is outstanding stays a queue
pub turn-queue : (ts : List Terms) (t : OrderTurn) (before : OrderHistory) (s : TableState)
    → length (t ∷ before) < 2 ^ 59 → TurnsLeave ts (t ∷ before) s → (port : ℕ) (moves : List Move)
    → Each (CameAsked ts port before) moves
    → (newer : List Outbound) → (ran moves).said ≡ newer ++ handled port (t ∷ before) → TurnOf ts t.event t before
    → IsQueue (asked ts port before) (ran moves).machine (outstanding ts port before)
    → IsQueue (asked ts port (t ∷ before)) (ran moves).machine (outstanding ts port (t ∷ before))
unfolding TurnsLeave
turn-queue ts t before s short leaves port moves came newer split turn queue =
    subst (IsQueue (asked ts port (t ∷ before)) (ran moves).machine) (sym fallen.is)
    (queue-asked ts t before leaves.0 s short leaves.1 leaves port moves came newer split
    (handled-longer port t before) fallen.left
    (λ a i. outstanding-asked ts port before a (thinned-in _ a (outstanding ts port before) fallen.left fallen.thin i))
    (queue-thinned (asked ts port before) (ran moves).machine
    (λ (a : Asked). (u : List ℕ) → gives a.said ≡ Some u → IsDecided (asked ts port before) (ran moves).machine u)
    (outstanding ts port before) fallen.left (λ a d u e. d u e) fallen.thin queue))
  where
    fallen : Fallen ts before leaves.0 (omega arith) leaves.1 port moves came queue t
    fallen = by-event ts before leaves.0 (omega arith) leaves.1 port moves came queue t t.event t.fault newer turn split

-- a list of what was asked stays a queue, where it needn't have all that was asked
pub turn-kept : (ts : List Terms) (t : OrderTurn) (before : OrderHistory) (s : TableState)
    → length (t ∷ before) < 2 ^ 59 → TurnsLeave ts (t ∷ before) s → (port : ℕ) (m : Machine) (L : List Asked)
    → ((a : Asked) → IsIn a L → IsIn a (asked ts port before))
    → KeptFrom (asked ts port before) (IsDecided (asked ts port before) m) L
    → KeptFrom (asked ts port (t ∷ before)) (IsDecided (asked ts port (t ∷ before)) m) L
turn-kept ts t before s short leaves port m L there k =
    kept-more (asked ts port (t ∷ before)) (IsDecided (asked ts port before) m)
    (IsDecided (asked ts port (t ∷ before)) m) L
    (λ u d. decided-more (asked ts port before) (asked ts port (t ∷ before)) m
    (λ a i. in-left a (asked ts port before) _ i) u d)
    (kept-asked (asked ts port before) (asked ts port (t ∷ before)) (IsDecided (asked ts port before) m) L
    (λ y i u n. fewer y (there y i) u n) k)
  where
    fewer : (y : Asked) → IsIn y (asked ts port before) → (u : List ℕ) → Needs (asked ts port (t ∷ before)) y u
        → Needs (asked ts port before) y u
    fewer y i u (FromIt to says) = FromIt to says
    fewer y i u (OfRequest tok says z j same_order same_id zsays) = by_place (in-parts z (asked ts port before) _ j)
      where
        by_place : IsIn z (asked ts port before) ⊎ IsIn z
            (asks_of ts port (entry_at ts t.event before) (accepted ts before) (issued (sender t.event) before)
            (handled port before)) → Needs (asked ts port before) y u
        by_place (inl k) = OfRequest tok says z k same_order same_id zsays
        by_place (inr k) = absurd (request-new ts t before s short leaves port y z i
            (newly-asked ts port t.event before z k) (sym same_order) (sym same_id))

-- a list that has all that was asked, with what is asked now behind it
pub turn-asked : (ts : List Terms) (t : OrderTurn) (before : OrderHistory) (s : TableState)
    → length (t ∷ before) < 2 ^ 59 → TurnsLeave ts (t ∷ before) s → (port : ℕ) (moves : List Move)
    → Each (CameAsked ts port before) moves
    → (newer : List Outbound) → (ran moves).said ≡ newer ++ handled port (t ∷ before) → (L : List Asked)
    → ((a : Asked) → IsIn a L → IsIn a (asked ts port before)) → IsQueue (asked ts port before) (ran moves).machine L
    → IsQueue (asked ts port (t ∷ before)) (ran moves).machine
    (L ++ asks_of ts port (entry_at ts t.event before) (accepted ts before) (issued (sender t.event) before)
    (handled port before))
unfolding TurnsLeave
turn-asked ts t before s short leaves port moves came newer split L there queue =
    queue-asked ts t before leaves.0 s short leaves.1 leaves port moves came newer split
    (handled-longer port t before) L there queue
