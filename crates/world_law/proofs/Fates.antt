-- What becomes of a replace that was asked: it is outstanding, or its token is named, or its order is closed, or it
-- goes
-- from a token that is never live: it fell with the Rejected of an earlier one.
use Rattle.std.proofs.Common.{◌≡◌, ℕ, ◌+◌, ◌<◌, ◌≤◌, ◌^◌, Bool, true, false, List, [], ◌∷◌, ◌++◌, length, refl, sym, ap}
use Rattle.std.proofs.Common.{◌∙◌, subst, arith, bytes_eq, Option, Some, None, ◌⊎◌, inl, inr, ⊎_elim, Ok}
use Rattle.std.specs.Prelude.{◌&&◌, ◌||◌, ◌==◌, not, if◌then◌else◌, is_some, option_map, option_to_list, unwrap_or, map}
use Rattle.std.specs.List.{list_any}
use Rattle.tokens.specs.TokenText.{token_text}
use Rattle.std.specs.Str.Parse.{digits_value}
use Rattle.fix_fields.specs.Field.{Message, character, text}
use Rattle.order_law.specs.Asks.{asked_by_request}
use Rattle.order_law.specs.ouch_codec.declared.outbound.Outbound.{Outbound}
use Rattle.order_law.specs.ouch_codec.declared.outbound.Outbound.TheVariants as market
use Rattle.order_law.specs.ouch_codec.declared.outbound.replaced.Replaced.{Replaced}
use Rattle.order_law.specs.Life.{Life, after, first_token, is_closed, is_live, is_waiting, is_working, life, live}
use Rattle.order_law.specs.Chain.{chain}
use Rattle.order_law.specs.Verdicts.{is_replace}
use Rattle.order_law.specs.History.{Terms, terms_of, OrderHistory, OrderTurn, Asked, Entry, Said, SaysNew, SaysReplace}
use Rattle.order_law.specs.History.{SaysCancel, accepted, answers, asks, asks_of, entry_at, from_token, given_tokens}
use Rattle.order_law.specs.History.{handled, is_answered, is_new_order, issued, life_of, new_of, next_tokens}
use Rattle.order_law.specs.History.{orders_numbered, outstanding, pending_tokens, token_of}
use Rattle.order_law.specs.Lawful.{is_first, judgement, order_of_token, row_holds, same_terms, works_as}
use Rattle.order_law.specs.Headline.{Each}
use Rattle.order_machine.specs.OrderRecord.{live_token, record_life, replacements}
use Rattle.order_machine.specs.Runs.{TurnsLeave}
use Rattle.order_machine.specs.Table.{TableState}
use Rattle.order_machine.proofs.Texts.{and-parts, eq-is, eq-true, not-both, token-same}
use Rattle.order_machine.proofs.Fits.{IsHome}
use Rattle.order_machine.proofs.Holds.{IsEntry}
use Rattle.order_machine.proofs.Linked.{HasOwnToken, IsTable}
use Rattle.order_machine.proofs.Running.{Leaves-Holding, headline-of}
use Rattle.order_machine.proofs.Unanswered.{ArePlaced, IsPlaced}
use Rattle.market_law.specs.Said.{names}
use Rattle.world_law.specs.Asked.{IsIn, sender, asked}
use Rattle.world_law.proofs.Members.{each-in, in-parts}
use Rattle.world_law.proofs.Lives.{IsRenewed, closed-stays, tokens-after}
use Rattle.world_law.proofs.Known.{IsAskedFor, IsPlacedBy, Known, asked-for, from-among, home-leads, known, next-leads}
use Rattle.world_law.proofs.Known.{or-right, pending-so, place-of}
use Rattle.world_law.proofs.Holding.{Row, rejected-holds, replaced-holds}
use Rattle.world_law.proofs.Turns.{Does, Handles, IsRejectedBy, Passes, answered-by, asks_now, does}
use Rattle.world_law.proofs.Homes.{IsHomely, always-of-orders, asked-homely, new-kept, next-token, placed-of, token_in}
use Rattle.world_law.proofs.Outstanding.{outstanding-asked}

-- ---- what is asked now

-- a replace that an accepted message asks has the message's token
record IsOwn (e : Entry) (to : List ℕ) : Type 0 where
  is_replace_one : is_replace e.message ≡ true
  is_no_new : is_new_order e.message ≡ false
  to_is : to ≡ token_of e

abbrev IsOwnReplace : Entry → Asked → Type 0
IsOwnReplace e a = (from to : List ℕ) → a.said ≡ SaysReplace from to → IsOwn e to

same-to : (from to x y : List ℕ) → SaysReplace from to ≡ SaysReplace x y → y ≡ to
same-to from to x y e = cc

asks-own : (terms : List Terms) (e : Entry) (entries : List Entry) (sent : List Message) (messages : List Outbound)
    → Each (IsOwnReplace e) (asks terms e entries sent messages)
asks-own terms e entries sent messages = by_kind (is_new_order e.message) (is_replace e.message) refl refl
  where
    cancels : (ts : List (List ℕ)) → Each (IsOwnReplace e)
        (map (λ token. record {
          order = e.order;
          id = text 11 e.message;
          said = SaysCancel token;
          ask =
              asked_by_request (digits_value 10 e.order) e.message;
        }) ts)
    cancels [] = tt
    cancels (t ∷ ts) = (λ from to s. absurd (let g : SaysCancel t ≡ SaysReplace from to = s in cc), cancels ts)

    by_kind : (n r : Bool) → is_new_order e.message ≡ n → is_replace e.message ≡ r
        → Each (IsOwnReplace e) (asks terms e entries sent messages)
    by_kind true r is_n is_r = rw is_n (
      λ from to s. absurd
          (let g : SaysNew (token_of e) ≡ SaysReplace from to = s in cc),
      tt,
    )
    by_kind false true is_n is_r = rw (is_n, is_r)
        (λ from to s. record { is_replace_one = is_r; is_no_new = is_n; to_is = same-to _ _ from to s }, tt)
    by_kind false false is_n is_r = rw (is_n, is_r)
        (cancels (live (life_of e.order entries messages) ∷ pending_tokens e.client (chain e.order sent) entries))

-- the accepted message that asks it
record IsAskedBy (x : Option Entry) (to : List ℕ) : Type 0 where
  entry : Entry
  is : x ≡ Some entry
  own : IsOwn entry to

asked-by : (terms : List Terms) (port : ℕ) (x : Option Entry) (entries : List Entry) (sent : List Message)
    (messages : List Outbound) (a : Asked) (from to : List ℕ) → a.said ≡ SaysReplace from to
    → IsIn a (asks_of terms port x entries sent messages) → IsAskedBy x to
asked-by terms port None entries sent messages a from to is i = absurd i
asked-by terms port (Some e) entries sent messages a from to is i = by_port ((terms_of terms e.client).port == port) i
  where
    by_port : (b : Bool) → IsIn a (if b then asks terms e entries sent messages else []) → IsAskedBy (Some e) to
    by_port true i = record {
      entry = e;
      is = refl;
      own =
          each-in (IsOwnReplace e) a (asks terms e entries sent messages)
          (asks-own terms e entries sent messages) i from to is;
    }
    by_port false i = absurd i

-- ---- one more turn

-- the life of an order that is the same
life-same : (k : List ℕ) (A B : List Entry) (M : List Outbound) → new_of k A ≡ new_of k B
    → life_of k A M ≡ life_of k B M
life-same k A B M e = ap (λ (x : Option Entry). life (unwrap_or (option_map token_of x) [])
    (unwrap_or (option_map (λ (y : Entry). character 54 y.message) x) 0) M) e

-- an order that one more message isn't the new order of was there
was-there : (k : List ℕ) (e : Entry) (A : List Entry) (new : Entry) → is_new_order e.message ≡ false
    → new_of k (e ∷ A) ≡ Some new → new_of k A ≡ Some new
was-there k e A new is_no f = by_test (bytes_eq e.order k) (rw is_no at f)
  where
    by_test : (b : Bool) → (if b && false then Some e else new_of k A) ≡ Some new → new_of k A ≡ Some new
    by_test true f = f
    by_test false f = f

-- replaces of an order that are outstanding don't ask for its live token
abbrev pub AreApart : List Terms → ℕ → OrderHistory → Type 0
AreApart terms port h = (a : Asked) (from to : List ℕ) → IsIn a (outstanding terms port h)
    → a.said ≡ SaysReplace from to
    → live (life_of a.order (accepted terms h) (handled port h)) ≡ to → ⊥

-- a token is never live of an order
pub record IsBarred (terms : List Terms) (port : ℕ) (order from : List ℕ) (h : OrderHistory) : Type 0 where
  pub isnt_live : live (life_of order (accepted terms h) (handled port h)) ≡ from → ⊥
  pub isnt_asked : (b : Asked) (x : List ℕ) → IsIn b (outstanding terms port h) → b.order ≡ order
      → b.said ≡ SaysReplace x from → ⊥

abbrev pub Fate : List Terms → ℕ → Asked → List ℕ → List ℕ → OrderHistory → Type 0
Fate terms port a from to h =
    IsIn a (outstanding terms port h)
    ⊎ ((list_any (names to) (handled port h) ≡ true)
    ⊎ ((is_closed (life_of a.order (accepted terms h) (handled port h)).stage ≡ true)
    ⊎ IsBarred terms port a.order from h))

module _ (terms : List Terms) (t : OrderTurn) (before : OrderHistory) (old s : TableState) (T0 : IsTable terms before old) (T1 : IsTable terms (t ∷ before) s) (port : ℕ) where
  abbrev A0 : List Entry
  A0 = accepted terms before

  abbrev M0 : List Outbound
  M0 = handled port before

  abbrev O0 : List Asked
  O0 = outstanding terms port before

  abbrev life0 : List ℕ → Life
  life0 k = life_of k A0 M0

  -- no token that was given is that of what is accepted now
  fresh : (e : Entry) → entry_at terms t.event before ≡ Some e → is_replace e.message ≡ true
      → (new : Entry) (token : List ℕ) → IsHome terms A0 new token → token ≡ token_of e → ⊥
  fresh e is_e replaces new token home same = by_token e.token refl
    where
      entry : IsEntry terms (accepted terms (t ∷ before)) (orders_numbered (t ∷ before)) e
      entry = (subst (λ (x : Option Entry). Each
          (IsEntry terms (accepted terms (t ∷ before)) (orders_numbered (t ∷ before))) (option_to_list x ++ A0)) is_e
          T1.held.entries).0

      has : is_some e.token ≡ true
      has = (subst (λ (x : Option Entry). Each HasOwnToken (option_to_list x ++ A0)) is_e T1.replaces).0 replaces

      by_token : (x : Option ℕ) → e.token ≡ x → ⊥
      by_token None is_x = (let f : false ≡ true = ap is_some (sym is_x) ∙ has in cc)
      by_token (Some n) is_x =
          let next : n ≡ given_tokens A0 + 1 = next-token terms t.event before n (ap token_in is_e ∙ is_x) in
          let few : n ≤ given_tokens (accepted terms (t ∷ before)) = (entry.is_given n is_x).1 in
          let texts : token_text home.number ≡ token_text n = sym home.is_text ∙ same
          ∙ ap (λ (x : Option ℕ). token_text (unwrap_or x 0)) is_x in
          let alike : home.number ≡ n = token-same home.number n (omega (arith, home.is_given, T0.held.short))
          (omega (arith, few, T1.held.short)) texts in
          omega (arith, alike, next, home.is_given)

  -- an order that is known is there then
  found-then : (k : List ℕ) (new : Entry) → new_of k A0 ≡ Some new
      → new_of k (accepted terms (t ∷ before)) ≡ new_of k A0
  found-then k new f = new-kept terms t before old s T0 T1 k new f ∙ sym f

  -- where the turn handles no message, its life is the same
  same-life : (k : List ℕ) (new : Entry) → new_of k A0 ≡ Some new → handled port (t ∷ before) ≡ M0
      → life_of k (accepted terms (t ∷ before)) (handled port (t ∷ before)) ≡ life0 k
  same-life k new f none = ap (life_of k (accepted terms (t ∷ before))) none
      ∙ life-same k (accepted terms (t ∷ before)) A0 M0 (found-then k new f)

  -- where it handles one, it is what the message makes of it
  next-life : (k : List ℕ) (m : Outbound) → Handles terms port before t m
      → life_of k (accepted terms (t ∷ before)) (handled port (t ∷ before)) ≡ after (life0 k) m
  next-life k m x = ap (life_of k (accepted terms (t ∷ before))) x.handled_so
      ∙ ap (λ (A : List Entry). life_of k A (m ∷ M0)) x.same_entries

  -- ---- the tokens that are asked for are apart from the live one

  module _ (placed : ArePlaced terms before) (placed_then : ArePlaced terms (t ∷ before)) where
    apart-asked : (a : Asked) (from to : List ℕ) → a.said ≡ SaysReplace from to → handled port (t ∷ before) ≡ M0
        → IsIn a (outstanding terms port (t ∷ before))
        → IsAskedBy (entry_at terms t.event before) to
        → live (life_of a.order (accepted terms (t ∷ before)) (handled port (t ∷ before))) ≡ to → ⊥
    apart-asked a from to is none i now e =
        let p : IsPlaced terms (accepted terms (t ∷ before)) port a =
        each-in (IsPlaced terms (accepted terms (t ∷ before)) port) a (outstanding terms port (t ∷ before))
        (placed_then port) i in
        let f : new_of a.order A0 ≡ Some p.new = was-there a.order now.entry A0 p.new now.own.is_no_new
        (subst (λ (x : Option Entry). new_of a.order (option_to_list x ++ A0) ≡ Some p.new) now.is p.known) in
        let k : Known terms before port a.order = known terms before port a.order p.new T0.held f p.at_home in
        let lives : live_token k.order ≡ to = sym (ap live (same-life a.order p.new f none ∙ k.lives)) ∙ e in
        fresh now.entry now.is now.own.is_replace_one k.order.new (live_token k.order) k.fits.holds.front
        (lives ∙ now.own.to_is)

    pub apart-then : Does terms port before t → AreApart terms port before → AreApart terms port (t ∷ before)
    apart-then (inl x) earlier a from to i is e = by_place (x.kept a i)
      where
        by_place : IsIn a O0 ⊎ IsIn a (asks_now terms port before t.event) → ⊥
        by_place (inl j) =
            let p : IsPlaced terms A0 port a = each-in (IsPlaced terms A0 port) a O0 (placed port) j in
            earlier a from to j is (sym (ap live (same-life a.order p.new p.known x.handled_so)) ∙ e)
        by_place (inr j) = apart-asked a from to is x.handled_so i
            (asked-by terms port (entry_at terms t.event before) A0 (issued (sender t.event) before) M0 a from to is j)
            e
    apart-then (inr (m, x)) earlier a from to i is e = by_tokens (tokens-after (life0 a.order) m)
      where
        k : IsIn a O0 × (is_answered m O0 a ≡ false)
        k = x.kept a i

        now : live (after (life0 a.order) m) ≡ to
        now = sym (ap live (next-life a.order m x)) ∙ e

        by_tokens : ((after (life0 a.order) m).tokens ≡ (life0 a.order).tokens) ⊎ IsRenewed (life0 a.order) m → ⊥
        by_tokens (inl same) = earlier a from to k.0 is (sym (ap first_token same) ∙ now)
        by_tokens (inr r) =
            let token : r.by.token ≡ to = sym (ap first_token r.tokens) ∙ now in
            let apart_from : answers (market.Replaced r.by) (next_tokens a.order O0) (SaysReplace from to) ≡ false =
            sym (ap (λ (s : Said). answers (market.Replaced r.by) (next_tokens a.order O0) s) is)
            ∙ ap (λ (m : Outbound). is_answered m O0 a) (sym r.is) ∙ k.1 in
            not-both (bytes_eq r.by.token to) (eq-true r.by.token to token) apart_from

  -- ---- what becomes of one that was asked before

  module _ (apart : AreApart terms port before) (a : Asked) (from to : List ℕ) (is : a.said ≡ SaysReplace from to) (there : IsIn a (asked terms port before)) (home : IsHomely terms port A0 a) where
    k : Known terms before port a.order
    k = known terms before port a.order home.new T0.held home.found home.on_port

    homes : IsHome terms A0 home.new from × IsHome terms A0 home.new to
    homes = subst (Rattle.world_law.proofs.Homes.TokensHome terms A0 home.new) is home.tokens

    abbrev Then : Type 0
    Then = Fate terms port a from to (t ∷ before)

    -- where the turn handles none
    passed : Passes terms port before t → Fate terms port a from to before → Then
    passed x (inl i) = by_stage (is_closed (life0 a.order).stage) refl
      where
        by_stage : (b : Bool) → is_closed (life0 a.order).stage ≡ b → Then
        by_stage true c = inr (inr (inl (ap (λ (l : Life). is_closed l.stage)
            (same-life a.order home.new home.found x.handled_so) ∙ c)))
        by_stage false c = inl (x.left a from to is there i c)
    passed x (inr (inl named)) = inr (inl (ap (list_any (names to)) x.handled_so ∙ named))
    passed x (inr (inr (inl closed))) = inr (inr
        (inl (ap (λ (l : Life). is_closed l.stage) (same-life a.order home.new home.found x.handled_so) ∙ closed)))
    passed x (inr (inr (inr barred))) = inr (inr (inr (record {
      isnt_live = λ e. barred.isnt_live (sym (ap live (same-life a.order home.new home.found x.handled_so)) ∙ e);
      isnt_asked = λ b y i mine says. ⊎_elim (λ j. barred.isnt_asked b y j mine says)
          (λ j. (let now = asked-by terms port (entry_at terms t.event before) A0
          (issued (sender t.event) before) M0 b y from says j in
          fresh now.entry now.is now.own.is_replace_one home.new from homes.0 now.own.to_is)) (x.kept b i);
    })))

    -- where it handles a message
    module _ (m : Outbound) (x : Handles terms port before t m) where
      -- a Replaced of its live token is of its oldest pending replace, and it works
      record IsRightReplaced (by : Replaced) : Type 0 where
        works : is_working (life0 a.order).stage ≡ true
        oldest : is_first by.token (next_tokens a.order O0) ≡ true

      right-replaced : (by : Replaced) → m ≡ market.Replaced by → is_live (life0 a.order) by.previous_token ≡ true
          → IsRightReplaced by
      right-replaced by is_m was_live =
          let in_record : is_live (record_life k.order) by.previous_token ≡ true =
          subst (λ (l : Life). is_live l by.previous_token ≡ true) k.lives was_live in
          let token : by.previous_token ≡ live_token k.order = eq-is by.previous_token (live_token k.order) in_record in
          let leads : order_of_token terms port A0 by.previous_token ≡ Some k.order.new =
          ap (order_of_token terms port A0) token ∙ home-leads terms before port a.order k
          (live_token k.order) k.fits.holds.front in
          let holds : Row terms port before (market.Replaced by) k.order.new ≡ true =
          replaced-holds terms port before by k.order.new leads
          (subst (λ (y : Outbound). judgement terms port (Ok y) before ≡ None) is_m x.lawful) in
          let on_life : row_holds (market.Replaced by) (life0 a.order) k.order.new
          (pending_tokens k.order.new.client (chain k.order.new.order (issued k.order.new.client before)) A0)
          ≡ true =
          subst (λ (i : List ℕ). row_holds (market.Replaced by) (life_of i A0 M0) k.order.new
          (pending_tokens k.order.new.client (chain k.order.new.order (issued k.order.new.client before)) A0)
          ≡ true) k.number_is holds in
          let on_next : row_holds (market.Replaced by) (life0 a.order) k.order.new (next_tokens a.order O0) ≡ true =
          subst (λ (ts : List (List ℕ)). row_holds (market.Replaced by) (life0 a.order) k.order.new ts ≡ true)
          (pending-so terms before port a.order k ∙ sym k.next_so) on_life in
          let parts = and-parts (works_as (life0 a.order) by.previous_token)
          (is_first by.token (next_tokens a.order O0) && same_terms by.side by.stock k.order.new) on_next in
          record {
            works = (and-parts (is_live (life0 a.order) by.previous_token)
                (is_working (life0 a.order).stage) parts.0).1;
            oldest = (and-parts (is_first by.token (next_tokens a.order O0))
                (same_terms by.side by.stock k.order.new) parts.1).0;
          }

      first-among : (u : List ℕ) (ts : List (List ℕ)) → is_first u ts ≡ true → list_any (bytes_eq u) ts ≡ true
      first-among u [] e = absurd (cc)
      first-among u (v ∷ ts) e = rw e refl

      closed-then : is_closed (life0 a.order).stage ≡ true → Then
      closed-then c = inr (inr (inl (ap (λ (l : Life). is_closed l.stage) (next-life a.order m x)
          ∙ closed-stays (life0 a.order) m (λ by is_m was_live. over (life0 a.order).stage
          (right-replaced by is_m was_live).works c) c)))
        where
          over : (st : _) → is_working st ≡ true → is_closed st ≡ true → ⊥
          over st w c = not-both (is_closed st) c (Rattle.world_law.proofs.Lives.works-closed st w)

      -- a token that is barred stays so
      barred-then : IsBarred terms port a.order from before → Then
      barred-then barred = inr (inr (inr (record {
        isnt_live = λ e. by_tokens (tokens-after (life0 a.order) m) (sym (ap live (next-life a.order m x)) ∙ e);
        isnt_asked = λ b y i mine says. barred.isnt_asked b y (x.kept b i).0 mine says;
      })))
        where
          by_tokens : ((after (life0 a.order) m).tokens ≡ (life0 a.order).tokens) ⊎ IsRenewed (life0 a.order) m
              → live (after (life0 a.order) m) ≡ from → ⊥
          by_tokens (inl same) e = barred.isnt_live (sym (ap first_token same) ∙ e)
          by_tokens (inr r) e =
              let token : r.by.token ≡ from = sym (ap first_token r.tokens) ∙ e in
              let among = first-among r.by.token (next_tokens a.order O0) (right-replaced r.by r.is r.was_live).oldest
              in
              let other : IsAskedFor a.order from O0 = asked-for a.order from O0
              (subst (λ (u : List ℕ). list_any (bytes_eq u) (next_tokens a.order O0) ≡ true) token among) in
              barred.isnt_asked other.asks other.from other.there other.order_is other.says

      -- the Rejected of an earlier one bars it
      module _ (i : IsIn a O0) (r : IsRejectedBy m (next_tokens a.order O0) to) where
        among : list_any (bytes_eq r.by.token) (replacements k.order.replaces) ≡ true
        among = subst (λ (ts : List (List ℕ)). list_any (bytes_eq r.by.token) ts ≡ true) k.next_so
            (from-among (bytes_eq to) r.by.token (next_tokens a.order O0) r.behind)

        row : row_holds (market.Rejected r.by) (life0 a.order) k.order.new (replacements k.order.replaces) ≡ true
        row =
            let leads = next-leads terms before port a.order k r.by.token among in
            let holds : Row terms port before (market.Rejected r.by) k.order.new ≡ true =
            rejected-holds terms port before r.by k.order.new leads
            (subst (λ (y : Outbound). judgement terms port (Ok y) before ≡ None) r.is x.lawful) in
            let on_life : row_holds (market.Rejected r.by) (life0 a.order) k.order.new
            (pending_tokens k.order.new.client (chain k.order.new.order (issued k.order.new.client before)) A0)
            ≡ true =
            subst (λ (n : List ℕ). row_holds (market.Rejected r.by) (life_of n A0 M0) k.order.new
            (pending_tokens k.order.new.client (chain k.order.new.order (issued k.order.new.client before)) A0)
            ≡ true) k.number_is holds in
            subst (λ (ts : List (List ℕ)). row_holds (market.Rejected r.by) (life0 a.order) k.order.new ts ≡ true)
            (pending-so terms before port a.order k) on_life

        -- of the new order itself
        refused : (is_live (life0 a.order) r.by.token && is_waiting (life0 a.order).stage) ≡ true → Then
        refused e = inr (inr (inl (ap (λ (l : Life). is_closed l.stage)
            (next-life a.order m x ∙ ap (after (life0 a.order)) r.is) ∙ rw e refl)))

        module _ (first : is_first r.by.token (replacements k.order.replaces) ≡ true) where
          -- all of them are answered
          all-of : (ts : List (List ℕ)) → is_first r.by.token ts ≡ true → from_token r.by.token ts ≡ ts
          all-of [] e = absurd (cc)
          all-of (u ∷ ts) e = rw e refl

          firsts : (u v : List ℕ) (ts : List (List ℕ)) → is_first u ts ≡ true → is_first v ts ≡ true → u ≡ v
          firsts u v [] e f = absurd (cc)
          firsts u v (w ∷ ts) e f = eq-is u w e ∙ sym (eq-is v w f)

          same-live : live (after (life0 a.order) m) ≡ live (life0 a.order)
          same-live = by_tokens (tokens-after (life0 a.order) m)
            where
              by_tokens : ((after (life0 a.order) m).tokens ≡ (life0 a.order).tokens) ⊎ IsRenewed (life0 a.order) m
                  → live (after (life0 a.order) m) ≡ live (life0 a.order)
              by_tokens (inl same) = ap first_token same
              by_tokens (inr n) = absurd (let g : market.Rejected r.by ≡ market.Replaced n.by = sym r.is ∙ n.is in cc)

          by_place : IsPlacedBy (live_token k.order) k.order.replaces from to → Then
          by_place (inl p) =
              let token : to ≡ r.by.token = firsts to r.by.token (replacements k.order.replaces) p.0 first in
              let named : names to m ≡ true = ap (names to) r.is ∙ eq-true to r.by.token token in
              inr (inl (ap (list_any (names to)) x.handled_so ∙ rw named refl))
          by_place (inr p) = inr (inr (inr (record {
            isnt_live = λ e. (let other : IsAskedFor a.order from O0 =
                asked-for a.order from O0 (subst (λ (ts : List (List ℕ)). list_any (bytes_eq from) ts ≡ true)
                (sym k.next_so) p) in
                apart other.asks other.from from other.there other.says
                (ap (λ (n : List ℕ). live (life0 n)) other.order_is ∙ sym same-live
                ∙ sym (ap live (next-life a.order m x)) ∙ e));
            isnt_asked = λ b y j mine says. (let kept = x.kept b j in
                let answer : list_any (bytes_eq from) (from_token r.by.token (next_tokens b.order O0)) ≡ false =
                sym (ap (λ (s : Said). answers (market.Rejected r.by) (next_tokens b.order O0) s) says)
                ∙ ap (λ (m : Outbound). is_answered m O0 b) (sym r.is) ∙ kept.1 in
                let all : from_token r.by.token (next_tokens b.order O0) ≡ replacements k.order.replaces =
                ap (λ (n : List ℕ). from_token r.by.token (next_tokens n O0)) mine
                ∙ ap (from_token r.by.token) k.next_so ∙ all-of (replacements k.order.replaces) first in
                not-both (list_any (bytes_eq from) (replacements k.order.replaces)) p
                (ap (list_any (bytes_eq from)) (sym all) ∙ answer));
          })))

        or-cases : (b c : Bool) → (b || c) ≡ true → (b ≡ true) ⊎ (c ≡ true)
        or-cases true c e = inl refl
        or-cases false c e = inr e

        rejected-then : Then
        rejected-then =
            ⊎_elim refused
            (λ e. (let first = (and-parts (is_first r.by.token (replacements k.order.replaces))
            (not (is_closed (life0 a.order).stage)) e).0 in
            by_place first (place-of terms before port a k from to is i)))
            (or-cases (is_live (life0 a.order) r.by.token && is_waiting (life0 a.order).stage) _ row)

      -- one that is outstanding
      outstanding-then : IsIn a O0 → Then
      outstanding-then i = by_answer (is_answered m O0 a) refl
        where
          by_stage : is_answered m O0 a ≡ false → (c : Bool) → is_closed (after (life0 a.order) m).stage ≡ c → Then
          by_stage left_out true c = inr (inr (inl (ap (λ (l : Life). is_closed l.stage) (next-life a.order m x) ∙ c)))
          by_stage left_out false c = inl (x.left a i left_out c)

          by_answer : (b : Bool) → is_answered m O0 a ≡ b → Then
          by_answer false left_out = by_stage left_out (is_closed (after (life0 a.order) m).stage) refl
          by_answer true answered =
              ⊎_elim (λ named. inr (inl (ap (list_any (names to)) x.handled_so ∙ rw named refl)))
              (λ r. rejected-then i r)
              (answered-by m (next_tokens a.order O0) from to (rw is at answered))

      handled-then : Fate terms port a from to before → Then
      handled-then (inl i) = outstanding-then i
      handled-then (inr (inl named)) = inr (inl (ap (list_any (names to)) x.handled_so ∙ or-right (names to m) _ named))
      handled-then (inr (inr (inl closed))) = closed-then closed
      handled-then (inr (inr (inr barred))) = barred-then barred

    pub fate-then : Does terms port before t → Fate terms port a from to before → Then
    fate-then (inl x) f = passed x f
    fate-then (inr (m, x)) f = handled-then m x f

-- ---- runs

pub does-now : (terms : List Terms) (t : OrderTurn) (before : OrderHistory) (s : TableState)
    → length (t ∷ before) < 2 ^ 59 → TurnsLeave terms (t ∷ before) s → (port : ℕ) → Does terms port before t
unfolding TurnsLeave
does-now terms t before s short leaves port =
    does terms port before (always-of-orders terms before leaves.0 (omega arith) leaves.1 port)
    (λ a i. outstanding-asked terms port before a i) t
    (headline-of terms (t ∷ before) s short leaves).0.answers

pub are-apart : (terms : List Terms) (h : OrderHistory) (s : TableState) → length h < 2 ^ 59 → TurnsLeave terms h s
    → (port : ℕ) → AreApart terms port h
unfolding TurnsLeave
are-apart terms [] s short leaves port = λ a from to i is e. i
are-apart terms (t ∷ before) s short leaves port =
    let T0 = (Leaves-Holding terms before leaves.0 (omega arith) leaves.1).table in
    let T1 = (Leaves-Holding terms (t ∷ before) s short leaves).table in
    apart-then terms t before leaves.0 s T0 T1 port (placed-of terms before leaves.0 (omega arith) leaves.1)
    (placed-of terms (t ∷ before) s short leaves)
    (does-now terms t before s short leaves port) (are-apart terms before leaves.0 (omega arith) leaves.1 port)

pub fate : (terms : List Terms) (h : OrderHistory) (s : TableState) → length h < 2 ^ 59 → TurnsLeave terms h s
    → (port : ℕ) (a : Asked) (from to : List ℕ) → a.said ≡ SaysReplace from to → IsIn a (asked terms port h)
    → Fate terms port a from to h
unfolding TurnsLeave
fate terms [] s short leaves port a from to is i = absurd i
fate terms (t ∷ before) s short leaves port a from to is i =
    ⊎_elim
    (λ k. fate-then terms t before leaves.0 s T0 T1 port
    (are-apart terms before leaves.0 (omega arith) leaves.1 port) a from to is k
    (each-in (IsHomely terms port (accepted terms before)) a (asked terms port before)
    (asked-homely terms before leaves.0 (omega arith) leaves.1 port) k)
    does_it (fate terms before leaves.0 (omega arith) leaves.1 port a from to is k))
    (λ k. now does_it k)
    (in-parts a (asked terms port before) _ i)
  where
    T0 : IsTable terms before leaves.0
    T0 = (Leaves-Holding terms before leaves.0 (omega arith) leaves.1).table

    T1 : IsTable terms (t ∷ before) s
    T1 = (Leaves-Holding terms (t ∷ before) s short leaves).table

    does_it : Does terms port before t
    does_it = does-now terms t before s short leaves port

    now : Does terms port before t → IsIn a (asks_now terms port before t.event)
        → Fate terms port a from to (t ∷ before)
    now (inl x) j = inl (x.new a j)
    now (inr (m, x)) j = absurd (x.none a j)
