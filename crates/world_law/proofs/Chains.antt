-- Along a run of a market's machine: an order that has had the token of a replace has had the token that the replace
-- goes from; and no order has had the
-- token of a Rejected.
use Rattle.std.proofs.Common.{◌≡◌, ◌≤◌, ◌^◌, ℕ, zero, suc, Bool, true, false, List, [], ◌∷◌, refl, sym, ap, ◌∙◌, subst}
use Rattle.std.proofs.Common.{bytes_eq, Option, Some, None, ◌⊎◌, inl, inr, ⊎_elim, nat_lt}
use Rattle.std.specs.Prelude.{◌||◌, ◌==◌, if◌then◌else◌}
use Rattle.std.specs.List.{find, list_any}
use Rattle.order_law.specs.ouch_codec.declared.inbound.Inbound.TheVariants as ask
use Rattle.order_law.specs.ouch_codec.declared.inbound.enter_order.EnterOrder.{EnterOrder}
use Rattle.order_law.specs.ouch_codec.declared.inbound.replace.Replace.{Replace}
use Rattle.order_law.specs.ouch_codec.declared.outbound.Outbound.{Outbound}
use Rattle.order_law.specs.ouch_codec.declared.outbound.Outbound.TheVariants as market
use Rattle.order_law.specs.ouch_codec.declared.outbound.rejected.Rejected.{Rejected}
use Rattle.order_law.specs.ouch_codec.declared.order_state.OrderState.{OrderState}
use Rattle.order_law.specs.History.{Asked, SaysReplace}
use Rattle.order_law.specs.Headline.{Each}
use Rattle.order_law.specs.Life.{first_token}
use Rattle.market_law.specs.declared.choice.Choice.TheVariants as choose
use Rattle.market_law.specs.Machine.{BookOrder, Machine, Step, ToCancel, Cancels, Waits, Denies, ToEnter, Takes}
use Rattle.market_law.specs.Machine.{Rejects, ToReplace, Replaces, TakesOff, Keeps, break_on, cancel, cancel_on, enter}
use Rattle.market_law.specs.Machine.{has_trade, is_live_as, is_open_for, is_token_used, live_order, may_trade, move}
use Rattle.market_law.specs.Machine.{moved, opened_in_book, replace, replace_on, says_nothing, take_off_on, to_cancel}
use Rattle.market_law.specs.Machine.{to_enter, to_replace, tokens_of, trade_by, trade_on, unopened}
use Rattle.market_law.specs.Run.{Move, Comes, Acts, moves, ran}
use Rattle.market_law.proofs.Basics.{and-parts, eq-same, not-both, or-case, or-right}
use Rattle.market_law.proofs.Books.{live-holds}
use Rattle.market_law.proofs.Runs.{free-token, ran-Sound}
use Rattle.market_law.proofs.Says.{each-change, each-first, found-passes}
use Rattle.market_law.proofs.Sound.{IsSound, filled, holds}
use Rattle.world_law.specs.Asked.{IsIn}
use Rattle.world_law.proofs.Members.{in-parts}
use Rattle.world_law.proofs.NeverLive.{AsksAsAsked, Effect, Same, Opens, Changes, Renews, IsOut, move-effect}
use Rattle.world_law.proofs.NeverLive.{moved-tokens, opened-tokens, out-kept, used-kept, used-not_given}

-- ---- an order's tokens are linked as they were asked

abbrev pub IsLinked : List Asked → BookOrder → Type 0
IsLinked asks c = (by : Asked) (from to : List ℕ) → IsIn by asks → by.said ≡ SaysReplace from to → holds to c ≡ true
    → holds from c ≡ true

live-has : (t : List ℕ) (c : BookOrder) → is_live_as t c ≡ true → holds t c ≡ true
live-has t c live = live-holds (tokens_of c) t (filled c)
    (and-parts (bytes_eq t (first_token (tokens_of c))) (nat_lt 0 c.unfilled) live).0

pub linked-ran : (asks : List Asked) (vs : List Move) → Each (AsksAsAsked asks) vs
    → Each (IsLinked asks) (ran vs).machine.book
linked-ran asks [] each = tt
linked-ran asks (v ∷ before) each = by_effect (move-effect (ran before).machine v) (linked-ran asks before each.1)
  where
    by_effect : Effect (ran before).machine v (moves (ran before).machine v).machine
        → Each (IsLinked asks) (ran before).machine.book
        → Each (IsLinked asks) (moves (ran before).machine v).machine.book
    by_effect (Same is) k = subst (Each (IsLinked asks)) (sym is) k
    by_effect (Opens order choice shares fit state comes unused is) k = subst (Each (IsLinked asks)) (sym is) (own, k)
      where
        own : IsLinked asks (opened_in_book shares fit state (unopened order))
        own by from to there says has = absurd (not-both (bytes_eq to order.token)
            (by_first (bytes_eq to order.token) (ap (list_any (bytes_eq to))
            (sym (opened-tokens order shares fit state)) ∙ has))
            ((each.0 by from to there says).no_enter order choice comes))
          where
            by_first : (b : Bool) → (b || false) ≡ true → b ≡ true
            by_first true e = refl
            by_first false e = absurd (cc)
    by_effect (Changes test f less is) k =
        subst (Each (IsLinked asks)) (sym is)
        (each-change (IsLinked asks) test f (ran before).machine.book
        (λ c linked by from to there says has. ap (list_any (bytes_eq from)) (less.tokens c)
        ∙ linked by from to there says (ap (list_any (bytes_eq to)) (sym (less.tokens c)) ∙ has)) k)
    by_effect (Renews request choice c shares fit state comes found unused is) k =
        subst (Each (IsLinked asks)) (sym is) (each-first (IsLinked asks) (is_live_as request.token)
        (moved request shares fit state) (ran before).machine.book c found own k)
      where
        was : IsLinked asks c × (is_live_as request.token c ≡ true)
        was = found-passes (IsLinked asks) (is_live_as request.token) (ran before).machine.book c found k

        now : (u : List ℕ) → holds u c ≡ true → holds u (moved request shares fit state c) ≡ true
        now u has = ap (list_any (bytes_eq u)) (moved-tokens request shares fit state c)
            ∙ or-right (bytes_eq u request.replacement_token) (holds u c) has

        own : IsLinked asks (moved request shares fit state c)
        own by from to there says has = by_which (or-case (bytes_eq to request.replacement_token) (holds to c)
            (ap (list_any (bytes_eq to)) (sym (moved-tokens request shares fit state c)) ∙ has))
          where
            by_which : (bytes_eq to request.replacement_token ≡ true) ⊎ (holds to c ≡ true)
                → holds from (moved request shares fit state c) ≡ true
            by_which (inl same) = now from (subst (λ (u : List ℕ). holds u c ≡ true)
                ((each.0 by from to there says).only request choice comes same) (live-has request.token c was.1))
            by_which (inr old) = now from (was.0 by from to there says old)

-- ---- a Rejected

pub record IsRefused (m : Machine) (u : List ℕ) : Type 0 where
  pub used : is_token_used m u ≡ true
  pub out : IsOut m u

module _ (m : Machine) (said : List Outbound) (sound : IsSound m said) (r : Rejected) where
  abbrev Refuses : Step → Type 0
  Refuses step = IsIn (market.Rejected r) step.says → IsRefused step.machine r.token

  -- by a token that wasn't used
  by-token : (t : List ℕ) → is_token_used m t ≡ false → r.token ≡ t → (after : Machine) → after.book ≡ m.book
      → after.used ≡ t ∷ m.used → IsRefused after r.token
  by-token t unused same after book used = record {
    used = subst (λ (us : List (List ℕ)). list_any (bytes_eq r.token) us ≡ true) (sym used)
        (subst (λ (u : List ℕ). list_any (bytes_eq u) (t ∷ m.used) ≡ true) (sym same) own);
    out = subst (λ (cs : List BookOrder). Each (λ (c : BookOrder). holds r.token c ≡ false) cs) (sym book)
        (subst (λ (u : List ℕ). Each (λ (c : BookOrder). holds u c ≡ false) m.book) (sym same)
        (free-token m said t unused sound));
  }
    where
      own : list_any (bytes_eq t) (t ∷ m.used) ≡ true
      own = let e = eq-same t in rw e refl

  enters : (order : EnterOrder) (answer : ToEnter) → is_token_used m order.token ≡ false
      → Refuses (enter m order answer)
  enters order (Takes state) unused i = absurd (⊎_elim (λ e. cc) (λ e. e) i)
  enters order (Rejects reason) unused (inl e) = by-token order.token unused (sym (ap token_in e)) _ refl refl
    where
      token_in : Outbound → List ℕ
      token_in (market.Rejected x) = x.token
      token_in other = []
  enters order (Rejects reason) unused (inr e) = absurd e

  moves_on : (request : Replace) (c : BookOrder) (state : OrderState) (shares : ℕ) (most : shares ≤ 999_999)
      → Refuses (move m request c state shares most)
  moves_on request c state zero most i = absurd (⊎_elim (λ e. cc) (λ e. e) i)
  moves_on request c state (suc shares) most i = absurd (⊎_elim (λ e. cc) (λ e. e) i)

  replaces : (request : Replace) (c : BookOrder) (answer : ToReplace)
      → is_token_used m request.replacement_token ≡ false → Refuses (replace m request c answer)
  replaces request c (Replaces state) unused i = moves_on request c state (_) (_) i
  replaces request c TakesOff unused i = absurd (⊎_elim (λ e. cc) (λ e. e) i)
  replaces request c (Keeps reason) unused (inl e) =
      by-token request.replacement_token unused (sym (ap token_in e)) _ refl refl
    where
      token_in : Outbound → List ℕ
      token_in (market.Rejected x) = x.token
      token_in other = []
  replaces request c (Keeps reason) unused (inr e) = absurd e

  pub refused-now : (v : Move) → IsIn (market.Rejected r) (moves m v).says → IsRefused (moves m v).machine r.token
  refused-now (Comes (ask.Enter order) choice) = by_used (is_token_used m order.token) refl
    where
      by_used : (b : Bool) → is_token_used m order.token ≡ b
          → Refuses (if b then says_nothing m else enter m order (to_enter choice))
      by_used true e i = absurd i
      by_used false e i = enters order (to_enter choice) e i
  refused-now (Comes (ask.Replace request) choice) = by_live (live_order m request.token)
    where
      by_used : (c : BookOrder) (b : Bool) → is_token_used m request.replacement_token ≡ b
          → Refuses (if b then says_nothing m else replace m request c (to_replace choice))
      by_used c true e i = absurd i
      by_used c false e i = replaces request c (to_replace choice) e i

      by_live : (x : Option BookOrder) → Refuses (replace_on m request choice x)
      by_live None = λ i. absurd i
      by_live (Some c) = by_used c (is_token_used m request.replacement_token) refl
  refused-now (Comes (ask.Cancel request) choice) = by_live (live_order m request.token)
    where
      by_answer : (c : BookOrder) (answer : ToCancel) → Refuses (cancel m request.token c answer)
      by_answer c Cancels i = absurd (⊎_elim (λ e. cc) (λ e. e) i)
      by_answer c Waits i = absurd (⊎_elim (λ e. cc) (λ e. e) i)
      by_answer c Denies i = absurd (⊎_elim (λ e. cc) (λ e. e) i)

      by_shares : (c : BookOrder) (b : Bool) → Refuses
          (if b then cancel m request.token c (to_cancel choice) else says_nothing m)
      by_shares c true i = by_answer c (to_cancel choice) i
      by_shares c false i = absurd i

      by_live : (x : Option BookOrder) → Refuses (cancel_on m request choice x)
      by_live None = λ i. absurd i
      by_live (Some c) = by_shares c (request.shares == 0)
  refused-now (Acts (choose.Execute trading)) = by_live (live_order m trading.token)
    where
      by_number : (c : BookOrder) (b : Bool) (e : nat_lt (suc m.matches) (2 ^ 64) ≡ b)
          → Refuses (trade_by m trading c b e)
      by_number c true e i = absurd (⊎_elim (λ e. cc) (λ e. e) i)
      by_number c false e i = absurd i

      by_test : (c : BookOrder) (b : Bool) → Refuses
          (if b then trade_by m trading c (nat_lt (suc m.matches) (2 ^ 64)) refl else says_nothing m)
      by_test c true i = by_number c (nat_lt (suc m.matches) (2 ^ 64)) refl i
      by_test c false i = absurd i

      by_live : (x : Option BookOrder) → Refuses (trade_on m trading x)
      by_live None = λ i. absurd i
      by_live (Some c) = by_test c (may_trade trading.shares c)
  refused-now (Acts (choose.TakeOff removal)) = by_live (live_order m removal.token)
    where
      by_test : (c : BookOrder) (b : Bool) → is_open_for removal.shares c ≡ b → Refuses (take_off_on m removal (Some c))
      by_test c true e i = absurd (let j = rw e at i in ⊎_elim (λ e. cc) (λ e. e) j)
      by_test c false e i = absurd (rw e at i)

      by_live : (x : Option BookOrder) → Refuses (take_off_on m removal x)
      by_live None = λ i. absurd i
      by_live (Some c) = by_test c (is_open_for removal.shares c) refl
  refused-now (Acts (choose.Break breaking)) = by_found (find (has_trade breaking.match_number) m.book)
    where
      by_found : (x : Option BookOrder) → Refuses (break_on m breaking x)
      by_found None i = absurd i
      by_found (Some c) i = absurd (⊎_elim (λ e. cc) (λ e. e) i)
  refused-now (Acts (choose.SystemEvent event)) = λ i. absurd (⊎_elim (λ e. cc) (λ e. e) i)
  refused-now (Acts choose.AcceptLive) = λ i. absurd i
  refused-now (Acts choose.AcceptDead) = λ i. absurd i
  refused-now (Acts (choose.Refuse reason)) = λ i. absurd i
  refused-now (Acts choose.Nothing) = λ i. absurd i

pub refused-ran : (vs : List Move) (r : Rejected) → IsIn (market.Rejected r) (ran vs).said
    → IsRefused (ran vs).machine r.token
refused-ran [] r i = absurd i
refused-ran (v ∷ before) r i = by_when (in-parts (market.Rejected r) (moves (ran before).machine v).says
    (ran before).said i) (λ j. refused-ran before r j)
  where
    by_when : IsIn (market.Rejected r) (moves (ran before).machine v).says ⊎ IsIn (market.Rejected r) (ran before).said
        → (IsIn (market.Rejected r) (ran before).said → IsRefused (ran before).machine r.token)
        → IsRefused (moves (ran before).machine v).machine r.token
    by_when (inl now) earlier = refused-now (ran before).machine (ran before).said (ran-Sound before) r v now
    by_when (inr old) earlier =
        let k = earlier old in
        record {
          used = used-kept (ran before).machine r.token v k.used;
          out =
              out-kept (ran before).machine r.token v (used-not_given (ran before).machine r.token v k.used) k.out;
        }
