-- An order whose minimum quantity is all of its shares trades all or nothing.
use Rattle.std.proofs.Common.{◌≡◌, ℕ, zero, suc, ◌-◌, ◌≤◌, ◌^◌, Bool, true, false, List, [], ◌∷◌, map, refl, ap, ◌∙◌}
use Rattle.std.proofs.Common.{Option, Some, None, inl, inr, ◌⊎◌, ⊎_elim, arith, nat_lt, nat_le, ◌==◌}
use Rattle.std.specs.Prelude.{◌||◌, not, if◌then◌else◌}
use Rattle.std.specs.List.{find}
use Rattle.std.proofs.lemmas.Bool.Decides.{nat_tests}
use Rattle.order_law.specs.ouch_codec.declared.inbound.Inbound.TheVariants as asked
use Rattle.order_law.specs.ouch_codec.declared.inbound.enter_order.EnterOrder.{EnterOrder}
use Rattle.order_law.specs.ouch_codec.declared.inbound.replace.Replace.{Replace}
use Rattle.order_law.specs.ouch_codec.declared.order_state.OrderState.{OrderState}
use Rattle.order_law.specs.ouch_codec.declared.order_state.OrderState.TheVariants.{Live, Dead}
use Rattle.order_law.specs.declared.trade.Trade.{Trade}
use Rattle.order_law.specs.Life.{stands_as, marked}
use Rattle.market_law.specs.declared.choice.Choice.TheVariants as choose
use Rattle.market_law.specs.declared.choice.Trading.{Trading}
use Rattle.market_law.specs.Messages.{canceled}
use Rattle.market_law.specs.Numbers.{shares-fit, less-than-most}
use Rattle.market_law.specs.Machine.{Machine, BookOrder, Step, is_token_used, is_live_as, with_live_order, taken_off}
use Rattle.market_law.specs.Machine.{moved, traded_in_book, has_trade, broken_off, without, cancel_all, move, ToEnter}
use Rattle.market_law.specs.Machine.{Takes, Rejects, to_enter, ToReplace, Replaces, TakesOff, Keeps, to_replace}
use Rattle.market_law.specs.Machine.{ToCancel, Cancels, Waits, Denies, to_cancel, enter, replace, replace_on, cancel}
use Rattle.market_law.specs.Machine.{cancel_on, live_order, live_of, is_open_for, may_trade, minimum_of, trade_by}
use Rattle.market_law.specs.Machine.{trade_on, take_off_on, break_on, says_nothing, saying}
use Rattle.market_law.specs.Run.{Move, Comes, Acts, moves, ran}
use Rattle.market_law.specs.Moves.{IsAllOrNothing}
use Rattle.market_law.proofs.Basics.{Each, and-parts}
use Rattle.market_law.proofs.Says.{found-passes, each-change, each-first}

-- before its first trade
pub record IsUntraded (c : BookOrder) : Type 0 where
  pub is_first : c.has_traded ≡ false
  pub executed : c.executed ≡ 0
  pub trades : c.trades ≡ []
  pub unfilled : c.unfilled ≤ c.entered.shares

-- after it: it was of all shares, and stands or is broken
pub record IsTraded (c : BookOrder) : Type 0 where
  pub unfilled : c.unfilled ≡ 0
  pub trade : Trade
  pub trades : c.trades ≡ trade ∷ []
  pub shares : trade.shares ≡ c.entered.shares
  pub executed : c.executed ≡ (if trade.is_broken then 0 else c.entered.shares)

abbrev pub IsWhole : BookOrder → Type 0
IsWhole c = c.replacements ≡ [] → c.entered.minimum_quantity ≡ c.entered.shares → IsUntraded c ⊎ IsTraded c

pub all-or-nothing : (c : BookOrder) → IsWhole c → IsAllOrNothing c
all-or-nothing c k unreplaced whole = ⊎_elim (λ u. inl u.executed) (λ t. by_trade t.trade.is_broken t.executed)
    (k unreplaced whole)
  where
    by_trade : (b : Bool) → c.executed ≡ (if b then 0 else c.entered.shares)
        → (c.executed ≡ 0) ⊎ (c.executed ≡ c.entered.shares)
    by_trade true e = inl e
    by_trade false e = inr e

off-whole : (q : ℕ) (c : BookOrder) → IsWhole c → IsWhole (taken_off q c)
off-whole q c k unreplaced whole = ⊎_elim (λ u. inl (untraded u)) (λ t. inr (traded t)) (k unreplaced whole)
  where
    untraded : IsUntraded c → IsUntraded (taken_off q c)
    untraded u = let less = u.unfilled in record
        { is_first = u.is_first; executed = u.executed; trades = u.trades; unfilled = omega (arith, less) }

    traded : IsTraded c → IsTraded (taken_off q c)
    traded t = let none = t.unfilled in record
        { unfilled = omega (arith, none); trade = t.trade; trades = t.trades; shares = t.shares; executed = t.executed }

-- a first trade is of all shares, and there is no second one
traded-whole : (n : ℕ) (x : Trading) (c : BookOrder) → may_trade x.shares c ≡ true → IsWhole c
    → IsWhole (traded_in_book n x c)
traded-whole n x c may k unreplaced whole = ⊎_elim (λ u. inr (first u)) (λ t. absurd (second t)) (k unreplaced whole)
  where
    parts : (is_open_for x.shares c ≡ true) × ((c.has_traded || nat_le (minimum_of c) x.shares) ≡ true)
    parts = and-parts (is_open_for x.shares c) (c.has_traded || nat_le (minimum_of c) x.shares) may

    opens : (nat_le 1 x.shares ≡ true) × (nat_le x.shares c.unfilled ≡ true)
    opens = and-parts (nat_le 1 x.shares) (nat_le x.shares c.unfilled) parts.0

    is_le : (a b : ℕ) → nat_le a b ≡ true → a ≤ b
    is_le a b e = grind (arith, nat_tests)

    second : IsTraded c → ⊥
    second t = let none = t.unfilled in let some = is_le 1 x.shares opens.0 in let less =
        is_le x.shares c.unfilled opens.1 in omega (arith, none, some, less)

    least : minimum_of c ≡ c.entered.shares
    least = rw unreplaced whole

    all : IsUntraded c → x.shares ≡ c.entered.shares
    all u =
        let enough : c.entered.shares ≤ x.shares = is_le c.entered.shares x.shares (by_least u.is_first) in
        let less = is_le x.shares c.unfilled opens.1 in
        let most = u.unfilled in
        omega (arith, enough, less, most)
      where
        by_least : c.has_traded ≡ false → nat_le c.entered.shares x.shares ≡ true
        by_least e = rw (e, least) at parts.1

    first : IsUntraded c → IsTraded (traded_in_book n x c)
    first u =
        let is = all u in
        let most = u.unfilled in
        let none = u.executed in
        record {
          unfilled = omega (arith, is, most);
          trade = record { match_number = n; shares = x.shares; price = x.price; is_broken = false };
          trades = ap (λ ys. record { match_number = n; shares = x.shares; price = x.price; is_broken = false } ∷ ys)
              u.trades;
          shares = is;
          executed = omega (arith, none, is);
        }

broken-whole : (n : ℕ) (c : BookOrder) → IsWhole c → IsWhole (broken_off n c)
broken-whole n c k = by_found (find (stands_as n) c.trades) refl
  where
    by_found : (found : Option Trade) → find (stands_as n) c.trades ≡ found → IsWhole (without n found c)
    by_found None e unreplaced whole = k unreplaced whole
    by_found (Some y) e unreplaced whole = ⊎_elim (λ u. absurd (none u)) (λ t. inr (broken t)) (k unreplaced whole)
      where
        none : IsUntraded c → ⊥
        none u = let e2 = rw u.trades at e in cc

        broken : IsTraded c → IsTraded (without n (Some y) c)
        broken t = by_stands (stands_as n t.trade) refl (rw t.trades at e)
          where
            shares_in : Option Trade → ℕ
            shares_in None = 0
            shares_in (Some trade) = trade.shares

            at_most : (b : Bool) → c.executed ≡ (if b then 0 else c.entered.shares) → c.executed ≤ c.entered.shares
            at_most true h = omega (arith, h)
            at_most false h = omega (arith, h)

            by_stands : (b : Bool) → stands_as n t.trade ≡ b → (if b then Some t.trade else None) ≡ Some y
                → IsTraded (without n (Some y) c)
            by_stands false s f = absurd (cc)
            by_stands true s f =
                let stood = and-parts (t.trade.match_number == n) (not t.trade.is_broken) s in
                let is : t.trade.shares ≡ y.shares = ap (λ (o : Option Trade). shares_in o) f in
                let all = t.shares in
                let most = at_most t.trade.is_broken t.executed in
                record {
                  unfilled = t.unfilled;
                  trade = record t.trade { is_broken = true };
                  trades = ap (λ ys. map (marked n) ys) t.trades ∙ rw stood.0 refl;
                  shares = t.shares;
                  executed = omega (arith, is, all, most);
                }

module _ (m : Machine) (w : Each IsWhole m.book) where
  abbrev Keeping : Step → Type 0
  Keeping s = Each IsWhole s.machine.book

  entered : (order : EnterOrder) (answer : ToEnter) → Keeping (enter m order answer)
  entered order (Takes Live) = (
    λ unreplaced whole. inl
        (record { is_first = refl; executed = refl; trades = refl; unfilled = omega arith }),
    w,
  )
  entered order (Takes Dead) = (
    λ unreplaced whole. inl
        (record { is_first = refl; executed = refl; trades = refl; unfilled = omega arith }),
    w,
  )
  entered order (Rejects reason) = w

  cancelled-all : (t : List ℕ) (c : BookOrder) → Keeping (cancel_all m t c)
  cancelled-all t c = each-change IsWhole (is_live_as t) (taken_off c.unfilled) m.book (off-whole c.unfilled) w

  module _ (r : Replace) (c : BookOrder) where
    by_left : (state : OrderState) (left : ℕ) (most : left ≤ 999_999) → Keeping (move m r c state left most)
    by_left state zero most = cancelled-all r.token c
    by_left state (suc left) most = each-change IsWhole (is_live_as r.token)
        (moved r (suc left) (shares-fit (suc left) most) state) m.book (λ x k. is_replaced state x) w
      where
        is_replaced : (b : OrderState) (x : BookOrder) → IsWhole (moved r (suc left) (shares-fit (suc left) most) b x)
        is_replaced Live x unreplaced whole = absurd (cc)
        is_replaced Dead x unreplaced whole = absurd (cc)

    replaced : (answer : ToReplace) → Keeping (replace m r c answer)
    replaced (Replaces state) = by_left state (r.shares - c.executed)
        (less-than-most r.shares c.executed r.shares_set.1)
    replaced TakesOff = cancelled-all r.token c
    replaced (Keeps reason) = w

  cancelled : (t : List ℕ) (c : BookOrder) (answer : ToCancel) → Keeping (cancel m t c answer)
  cancelled t c Cancels = cancelled-all t c
  cancelled t c Waits = w
  cancelled t c Denies = w

  moves-whole : (v : Move) → Keeping (moves m v)
  moves-whole (Comes (asked.Enter order) choice) = by_used (is_token_used m order.token)
    where
      by_used : (b : Bool) → Keeping (if b then says_nothing m else enter m order (to_enter choice))
      by_used true = w
      by_used false = entered order (to_enter choice)
  moves-whole (Comes (asked.Replace r) choice) = by_chain (live_order m r.token)
    where
      by_chain : (x : Option BookOrder) → Keeping (replace_on m r choice x)
      by_chain None = w
      by_chain (Some c) = by_used (is_token_used m r.replacement_token)
        where
          by_used : (b : Bool) → Keeping (if b then says_nothing m else replace m r c (to_replace choice))
          by_used true = w
          by_used false = replaced r c (to_replace choice)
  moves-whole (Comes (asked.Cancel r) choice) = by_chain (live_order m r.token)
    where
      by_chain : (x : Option BookOrder) → Keeping (cancel_on m r choice x)
      by_chain None = w
      by_chain (Some c) = by_shares (r.shares == 0)
        where
          by_shares : (b : Bool) → Keeping (if b then cancel m r.token c (to_cancel choice) else says_nothing m)
          by_shares true = cancelled r.token c (to_cancel choice)
          by_shares false = w
  moves-whole (Acts (choose.Execute x)) = by_chain (live_order m x.token) refl
    where
      by_chain : (found : Option BookOrder) → live_order m x.token ≡ found → Keeping (trade_on m x found)
      by_chain None at = w
      by_chain (Some c) at = by_test (may_trade x.shares c) refl
        where
          by_number : may_trade x.shares c ≡ true → (b : Bool) (z : nat_lt (suc m.matches) (2 ^ 64) ≡ b)
              → Keeping (trade_by m x c b z)
          by_number may true n = each-first IsWhole (is_live_as x.token) (traded_in_book (suc m.matches) x) m.book c at
              (traded-whole (suc m.matches) x c may (found-passes IsWhole (is_live_as x.token) m.book c at w).0) w
          by_number may false n = w

          by_test : (b : Bool) → may_trade x.shares c ≡ b
              → Keeping (if b then trade_by m x c (nat_lt (suc m.matches) (2 ^ 64)) refl else says_nothing m)
          by_test true z = by_number z (nat_lt (suc m.matches) (2 ^ 64)) refl
          by_test false z = w
  moves-whole (Acts (choose.TakeOff x)) = by_chain (live_order m x.token)
    where
      by_chain : (found : Option BookOrder) → Keeping (take_off_on m x found)
      by_chain None = w
      by_chain (Some c) = by_test (is_open_for x.shares c)
        where
          by_test : (b : Bool) → Keeping (if b then saying (with_live_order x.token (taken_off x.shares) m)
              (canceled (live_of c) x.shares x.shares_set) else says_nothing m)
          by_test true = each-change IsWhole (is_live_as x.token) (taken_off x.shares) m.book (off-whole x.shares) w
          by_test false = w
  moves-whole (Acts (choose.Break x)) = by_chain (find (has_trade x.match_number) m.book)
    where
      by_chain : (found : Option BookOrder) → Keeping (break_on m x found)
      by_chain None = w
      by_chain (Some c) = each-change IsWhole (has_trade x.match_number) (broken_off x.match_number) m.book
          (broken-whole x.match_number) w
  moves-whole (Acts (choose.SystemEvent event)) = w
  moves-whole (Acts choose.AcceptLive) = w
  moves-whole (Acts choose.AcceptDead) = w
  moves-whole (Acts (choose.Refuse reason)) = w
  moves-whole (Acts choose.Nothing) = w

pub ran-whole : (vs : List Move) → Each IsWhole (ran vs).machine.book
ran-whole [] = tt
ran-whole (v ∷ vs) = moves-whole (ran vs).machine (ran-whole vs) v
