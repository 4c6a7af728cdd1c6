-- Each token is used once, and no order comes to more than what was asked for it.
use Rattle.std.proofs.Common.{◌≡◌, ℕ, zero, suc, ◌-◌, ◌≤◌, ◌^◌, Bool, true, false, List, [], ◌∷◌, refl}
use Rattle.std.proofs.Common.{Option, Some, None, ⊎_elim, arith, nat_lt, nat_le, ◌==◌}
use Rattle.std.specs.Prelude.{◌||◌}
use Rattle.std.specs.Prelude.{if◌then◌else◌}
use Rattle.std.specs.List.{list_any, find}
use Rattle.std.proofs.lemmas.Bool.Decides.{nat_tests}
use Rattle.order_law.specs.ouch_codec.declared.inbound.Inbound.{Inbound}
use Rattle.order_law.specs.ouch_codec.declared.inbound.Inbound.TheVariants as asked
use Rattle.order_law.specs.ouch_codec.declared.inbound.enter_order.EnterOrder.{EnterOrder}
use Rattle.order_law.specs.ouch_codec.declared.inbound.replace.Replace.{Replace}
use Rattle.order_law.specs.ouch_codec.declared.outbound.Outbound.{Outbound}
use Rattle.order_law.specs.ouch_codec.declared.outbound.Outbound.TheVariants as market
use Rattle.order_law.specs.ouch_codec.declared.order_state.OrderState.{OrderState}
use Rattle.order_law.specs.ouch_codec.declared.order_state.OrderState.TheVariants.{Live, Dead}
use Rattle.order_law.specs.declared.trade.Trade.{Trade}
use Rattle.order_law.specs.Life.{stands_as}
use Rattle.market_law.specs.declared.choice.Choice.TheVariants as choose
use Rattle.market_law.specs.Messages.{canceled}
use Rattle.market_law.specs.Numbers.{shares-fit, less-than-most}
use Rattle.market_law.specs.Machine.{Machine, BookOrder, Step, is_token_used, is_live_as, with_live_order}
use Rattle.market_law.specs.Machine.{taken_off, moved, traded_in_book, has_trade, broken_off, without, cancel_all}
use Rattle.market_law.specs.Machine.{move, ToEnter, Takes, Rejects, to_enter, ToReplace, Replaces, TakesOff, Keeps}
use Rattle.market_law.specs.Machine.{to_replace, ToCancel, Cancels, Waits, Denies, to_cancel, enter, replace}
use Rattle.market_law.specs.Machine.{replace_on, cancel, cancel_on, live_order, live_of, is_open_for, may_trade}
use Rattle.market_law.specs.Machine.{minimum_of, trade_by}
use Rattle.market_law.specs.Machine.{trade_on, take_off_on, break_on, says_nothing, saying, tokens_of}
use Rattle.market_law.specs.Run.{Move, Comes, Acts, moves, ran}
use Rattle.market_law.specs.Said.{names, IsSaid, EachSaid}
use Rattle.market_law.specs.Moves.{IsKnown, IsSmall, IsWithin, times}
use Rattle.market_law.proofs.Basics.{Each, eq-is, or-false, and-parts, each-both}
use Rattle.market_law.proofs.Sound.{filled}
use Rattle.market_law.proofs.Books.{live-holds}
use Rattle.market_law.proofs.Says.{IsPlaced, ran-told, found-passes, each-change, each-first}

-- ---- each token once

count-none : {A : Type 0} (p : A → Bool) (xs : List A) → list_any p xs ≡ false → times p xs ≡ 0
count-none p [] e = refl
count-none p (x ∷ xs) e = let o = or-false (p x) (list_any p xs) e in rw o.0 (count-none p xs o.1)

module _ (root_of : List ℕ → Option (List ℕ)) (P : Inbound → Type 0) where
  -- where a message names a token, none before it does
  unnamed-before : (u : List ℕ) (a : Outbound) (before : List Outbound) → IsSaid root_of P a before → names u a ≡ true
      → list_any (names u) before ≡ false
  unnamed-before u (market.SystemEvent m) before is n = absurd (cc)
  unnamed-before u (market.Accepted m) before is n = rw (eq-is u m.token n) is.0.2
  unnamed-before u (market.Replaced m) before is n = rw (eq-is u m.token n) is.0.unnamed
  unnamed-before u (market.Canceled m) before is n = absurd (cc)
  unnamed-before u (market.Executed m) before is n = absurd (cc)
  unnamed-before u (market.Broken m) before is n = absurd (cc)
  unnamed-before u (market.Rejected m) before is n =
      ⊎_elim (λ f. rw (eq-is u m.token n) f.2) (λ r. rw (eq-is u m.token n) r.1.unnamed) is
  unnamed-before u (market.CancelPending m) before is n = absurd (cc)
  unnamed-before u (market.CancelReject m) before is n = absurd (cc)
  unnamed-before u market.Skipped before is n = absurd (cc)

  pub named-once : (u : List ℕ) (M : List Outbound) → EachSaid root_of P M → times (names u) M ≤ 1
  named-once u [] e = omega arith
  named-once u (a ∷ M) e = by_test (names u a) refl (named-once u M e.1)
    where
      by_test : (b : Bool) → names u a ≡ b → times (names u) M ≤ 1 → times (names u) (a ∷ M) ≤ 1
      by_test true n rest = let z = count-none (names u) M (unnamed-before u a M e.0 n) in rw n (omega (arith, z))
      by_test false n rest = rw n rest

-- ---- no order comes to more than this

module _ (root_of : List ℕ → Option (List ℕ)) (P : Inbound → Type 0) (limit : List ℕ → ℕ) where
  off-within : (q : ℕ) (c : BookOrder) → (IsWithin limit) c → (IsWithin limit) (taken_off q c)
  off-within q c e = omega (arith, e)

  broken-within : (k : ℕ) (c : BookOrder) → (IsWithin limit) c → (IsWithin limit) (broken_off k c)
  broken-within k c e = by_found (find (stands_as k) c.trades)
    where
      by_found : (x : Option Trade) → (IsWithin limit) (without k x c)
      by_found None = e
      by_found (Some y) = omega (arith, e)

  module _ (m : Machine) (placed : Each (IsPlaced root_of P) m.book) (w : Each (IsWithin limit) m.book) where
    abbrev Keeping : Step → Type 0
    Keeping s = Each (IsWithin limit) s.machine.book

    entered : (order : EnterOrder) → order.shares ≤ limit order.token → (answer : ToEnter)
        → Keeping (enter m order answer)
    entered order e (Takes Live) = (omega (arith, e), w)
    entered order e (Takes Dead) = (omega arith, w)
    entered order e (Rejects reason) = w

    cancelled-all : (t : List ℕ) (c : BookOrder) → Keeping (cancel_all m t c)
    cancelled-all t c = each-change (IsWithin limit) (is_live_as t) (taken_off c.unfilled) m.book
        (off-within c.unfilled) w

    module _ (r : Replace) (c : BookOrder) (at : live_order m r.token ≡ Some c) (small : (root : List ℕ) → root_of r.token ≡ Some root → r.shares ≤ limit root) where
      by_left : (state : OrderState) (left : ℕ) (most : left ≤ 999_999) → r.shares - c.executed ≡ left
          → Keeping (move m r c state left most)
      by_left state zero most is = cancelled-all r.token c
      by_left state (suc left) most is =
          let k = found-passes (λ x. IsPlaced root_of P x × (IsWithin limit) x) (is_live_as r.token) m.book c at
          (each-both (IsPlaced root_of P) (IsWithin limit) m.book placed w) in
          let first = (and-parts _ (nat_lt 0 c.unfilled) k.1).0 in
          let top = small c.entered.token (k.0.0.leads r.token (live-holds (tokens_of c) r.token (filled c) first)) in
          each-first (IsWithin limit) (is_live_as r.token)
          (moved r (suc left) (shares-fit (suc left) most) state) m.book c at (within state top k.0.1) w
        where
          within : (b : OrderState) → r.shares ≤ limit c.entered.token → (IsWithin limit) c
              → (IsWithin limit) (moved r (suc left) (shares-fit (suc left) most) b c)
          within Live top e = omega (arith, is, top)
          within Dead top e = omega (arith, e)

      replaced : (answer : ToReplace) → Keeping (replace m r c answer)
      replaced (Replaces state) = by_left state (r.shares - c.executed)
          (less-than-most r.shares c.executed r.shares_set.1) refl
      replaced TakesOff = cancelled-all r.token c
      replaced (Keeps reason) = w

    cancelled : (t : List ℕ) (c : BookOrder) (answer : ToCancel) → Keeping (cancel m t c answer)
    cancelled t c Cancels = cancelled-all t c
    cancelled t c Waits = w
    cancelled t c Denies = w

    moves-within : (v : Move) → (IsSmall root_of limit) v → Keeping (moves m v)
    moves-within (Comes (asked.Enter order) choice) e = by_used (is_token_used m order.token)
      where
        by_used : (b : Bool) → Keeping (if b then says_nothing m else enter m order (to_enter choice))
        by_used true = w
        by_used false = entered order e (to_enter choice)
    moves-within (Comes (asked.Replace r) choice) e = by_chain (live_order m r.token) refl
      where
        by_chain : (x : Option BookOrder) → live_order m r.token ≡ x → Keeping (replace_on m r choice x)
        by_chain None at = w
        by_chain (Some c) at = by_used (is_token_used m r.replacement_token)
          where
            by_used : (b : Bool) → Keeping (if b then says_nothing m else replace m r c (to_replace choice))
            by_used true = w
            by_used false = replaced r c at e (to_replace choice)
    moves-within (Comes (asked.Cancel r) choice) e = by_chain (live_order m r.token)
      where
        by_chain : (x : Option BookOrder) → Keeping (cancel_on m r choice x)
        by_chain None = w
        by_chain (Some c) = by_shares (r.shares == 0)
          where
            by_shares : (b : Bool) → Keeping (if b then cancel m r.token c (to_cancel choice) else says_nothing m)
            by_shares true = cancelled r.token c (to_cancel choice)
            by_shares false = w
    moves-within (Acts (choose.Execute x)) e = by_chain (live_order m x.token) refl
      where
        by_chain : (found : Option BookOrder) → live_order m x.token ≡ found → Keeping (trade_on m x found)
        by_chain None at = w
        by_chain (Some c) at = by_test (may_trade x.shares c) refl
          where
            by_number : is_open_for x.shares c ≡ true → (b : Bool) (z : nat_lt (suc m.matches) (2 ^ 64) ≡ b)
                → Keeping (trade_by m x c b z)
            by_number z true n =
                let k = (found-passes (IsWithin limit) (is_live_as x.token) m.book c at w).0 in
                let le = less (and-parts (nat_le 1 x.shares) (nat_le x.shares c.unfilled) z).1 in
                each-first (IsWithin limit) (is_live_as x.token) (traded_in_book (suc m.matches) x) m.book c at
                (omega (arith, k, le)) w
              where
                less : nat_le x.shares c.unfilled ≡ true → x.shares ≤ c.unfilled
                less h = grind (arith, nat_tests)
            by_number z false n = w

            by_test : (b : Bool) → may_trade x.shares c ≡ b
                → Keeping (if b then trade_by m x c (nat_lt (suc m.matches) (2 ^ 64)) refl else says_nothing m)
            by_test true z = by_number (and-parts (is_open_for x.shares c)
                (c.has_traded || nat_le (minimum_of c) x.shares) z).0 (nat_lt (suc m.matches) (2 ^ 64)) refl
            by_test false z = w
    moves-within (Acts (choose.TakeOff x)) e = by_chain (live_order m x.token)
      where
        by_chain : (found : Option BookOrder) → Keeping (take_off_on m x found)
        by_chain None = w
        by_chain (Some c) = by_test (is_open_for x.shares c)
          where
            by_test : (b : Bool) → Keeping (if b then saying (with_live_order x.token (taken_off x.shares) m)
                (canceled (live_of c) x.shares x.shares_set) else says_nothing m)
            by_test true = each-change (IsWithin limit) (is_live_as x.token) (taken_off x.shares) m.book
                (off-within x.shares) w
            by_test false = w
    moves-within (Acts (choose.Break x)) e = by_chain (find (has_trade x.match_number) m.book)
      where
        by_chain : (found : Option BookOrder) → Keeping (break_on m x found)
        by_chain None = w
        by_chain (Some c) = each-change (IsWithin limit) (has_trade x.match_number) (broken_off x.match_number) m.book
            (broken-within x.match_number) w
    moves-within (Acts (choose.SystemEvent event)) e = w
    moves-within (Acts choose.AcceptLive) e = w
    moves-within (Acts choose.AcceptDead) e = w
    moves-within (Acts (choose.Refuse reason)) e = w
    moves-within (Acts choose.Nothing) e = w

  pub ran-within : (vs : List Move) → Each (IsKnown root_of P) vs → Each (IsSmall root_of limit) vs
      → Each (IsWithin limit) (ran vs).machine.book
  ran-within [] k e = tt
  ran-within (v ∷ vs) k e = moves-within (ran vs).machine (ran-told root_of P vs k.1).placed
      (ran-within vs k.1 e.1) v e.0
