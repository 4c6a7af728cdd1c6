-- Whatever the machine is asked and chooses, its books are the lives of what it said.
use Rattle.std.proofs.Common.{◌≡◌, ℕ, zero, suc, ◌-◌, ◌≤◌, ◌^◌, Bool, true, false, List, [], ◌∷◌, ◌++◌, map, refl, ap}
use Rattle.std.proofs.Common.{◌∙◌, subst, bytes_eq, Option, Some, None, inl, ⊎_elim, arith, ◌==◌, nat_lt}
use Rattle.std.specs.Prelude.{◌||◌, if◌then◌else◌}
use Rattle.std.specs.List.{find}
use Rattle.std.proofs.lemmas.Bool.Decides.{nat_tests}
use Rattle.order_law.specs.ouch_codec.declared.inbound.Inbound.{Inbound}
use Rattle.order_law.specs.ouch_codec.declared.inbound.Inbound.TheVariants as asked
use Rattle.order_law.specs.ouch_codec.declared.inbound.enter_order.EnterOrder.{EnterOrder}
use Rattle.order_law.specs.ouch_codec.declared.inbound.replace.Replace.{Replace}
use Rattle.order_law.specs.ouch_codec.declared.outbound.Outbound.{Outbound}
use Rattle.order_law.specs.ouch_codec.declared.order_state.OrderState.{OrderState}
use Rattle.order_law.specs.ouch_codec.declared.order_state.OrderState.TheVariants.{Live, Dead}
use Rattle.order_law.specs.declared.trade.Trade.{Trade}
use Rattle.order_law.specs.Life.{Life, born, opened as opened_life, stands_as, marked, after, life, is_dead}
use Rattle.market_law.specs.declared.choice.Breaking.{Breaking}
use Rattle.market_law.specs.declared.choice.Choice.{Choice}
use Rattle.market_law.specs.declared.choice.Choice.TheVariants as choose
use Rattle.market_law.specs.declared.choice.Letter.{Letter}
use Rattle.market_law.specs.Messages.{Token, canceled, accepted_by, rejected, broken_trade, entered_token, to_token}
use Rattle.market_law.specs.Messages.{cancel_pending, cancel_reject, system_event}
use Rattle.market_law.specs.Numbers.{shares-fit, some-shares, is-less, less-than-most}
use Rattle.market_law.specs.Machine.{Machine, BookOrder, Step, is_token_used, use_token, change, with_live_order}
use Rattle.market_law.specs.Machine.{opened_in_book, unopened, taken_off, has_trade, broken_off, without, accept, move}
use Rattle.market_law.specs.Machine.{ToEnter, Takes, Rejects, to_enter, ToReplace, Replaces, TakesOff, Keeps}
use Rattle.market_law.specs.Machine.{to_replace, ToCancel, Cancels, Waits, Denies, to_cancel, enter, replace}
use Rattle.market_law.specs.Machine.{replace_on, cancel, cancel_on, live_order, live_of, inbound, act, is_open_for}
use Rattle.market_law.specs.Machine.{may_trade}
use Rattle.market_law.specs.Machine.{trade_by, trade_on, take_off_on, break_on, says_nothing, saying}
use Rattle.market_law.specs.Run.{life_in_book, Move, Comes, Acts, moves, ran}
use Rattle.market_law.proofs.Basics.{Each, eq-same, eq-is, not-both, is-false, or-false, or-case, or-right, each-all}
use Rattle.market_law.proofs.Sound.{holds, IsApart, vacant, is_match, IsChain, IsSound, IsAbout, untouched}
use Rattle.market_law.proofs.Sound.{vacant-untouched, split, changed-Sound, filled, live-in}
use Rattle.market_law.proofs.Books.{off-Sound, traded-Sound, moved-Sound, broken-lived}

-- ---- what changes no life

neutral-Sound : (m : Machine) (said : List Outbound) (a : Outbound) → ((l : Life) → after l a ≡ l) → IsSound m said
    → IsSound m (a ∷ said)
neutral-Sound m said a same s = record {
  each = each-all (IsChain m said) (IsChain m (a ∷ said)) m.book
      (λ c k. record {
        known = k.known;
        matched = k.matched;
        book = λ side. same (life (c.entered.token) side said)
            ∙ k.book side;
      }) s.each;
  apart = s.apart;
  outside = λ t none side. same (life t side said) ∙ s.outside t none side;
}

-- ---- a token that no chain has

pub free-token : (m : Machine) (said : List Outbound) (t : List ℕ) → is_token_used m t ≡ false → IsSound m said
    → Each (λ c. holds t c ≡ false) m.book
free-token m said t unused s = each-all (IsChain m said) (λ c. holds t c ≡ false) m.book
    (λ c k. is-false (holds t c) (λ h. not-both (is_token_used m t) (k.known t h) unused)) s.each

-- a chain that an answer to an unused token leaves as it is
kept-chain : (m m' : Machine) (said : List Outbound) (a : Outbound) (t : List ℕ) → IsAbout t a
    → is_token_used m t ≡ false
    → ((u : List ℕ) → is_token_used m u ≡ true → is_token_used m' u ≡ true) → m'.matches ≡ m.matches → (c : BookOrder)
    → IsChain m said c → IsChain m' (a ∷ said) c
kept-chain m m' said a t about unused more same c k = record {
  known = λ u h. more u (k.known u h);
  matched = each-all (λ (y : Trade). is_match m y.match_number ≡ true)
      (λ (y : Trade). is_match m' y.match_number ≡ true) c.trades (λ y e. rw same e) k.matched;
  book = λ side. ap (λ l. after l a) (k.book side)
      ∙ untouched (life_in_book side c) a t about (filled c)
      (is-false (holds t c) (λ h. not-both (is_token_used m t) (k.known t h) unused));
}

differs : (t u : List ℕ) → bytes_eq u t ≡ false → bytes_eq t u ≡ false
differs t u e = is-false (bytes_eq t u) (λ h. not-both (bytes_eq u t) (rw (eq-is t u h) (eq-same u)) e)

rejected-Sound : (m : Machine) (said : List Outbound) (token : Token) (reason : Letter)
    → is_token_used m token.bytes ≡ false → IsSound m said
    → IsSound (use_token token.bytes m) (rejected token reason ∷ said)
rejected-Sound m said token reason unused s = record {
  each = each-all (IsChain m said) (IsChain (use_token token.bytes m) (rejected token reason ∷ said)) m.book
      (kept-chain m (use_token token.bytes m) said (rejected token reason) token.bytes refl unused
      (λ u e. or-right (bytes_eq u token.bytes) (is_token_used m u) e) refl) s.each;
  apart = s.apart;
  outside = λ u none side. by_test u none side (bytes_eq u token.bytes) refl;
}
  where
    t : List ℕ
    t = token.bytes

    by_test : (u : List ℕ) → Each (λ c. holds u c ≡ false) m.book → (side : ℕ) → (b : Bool) → bytes_eq u t ≡ b
        → life u side (rejected token reason ∷ said) ≡ vacant (bytes_eq u t || is_token_used m u) u side
    by_test u none side true e =
        let free : is_token_used m u ≡ false = rw (eq-is u t e) unused in
        let was : life u side said ≡ born u side = s.outside u none side ∙ ap (λ b. vacant b u side) free in
        let is : bytes_eq t u ≡ true = rw (eq-is u t e) (eq-same t) in
        rw (was, is, e) refl
    by_test u none side false e =
        let used : is_token_used m u ≡ (bytes_eq u t || is_token_used m u) = rw e refl in
        ap (λ l. after l (rejected token reason)) (s.outside u none side)
        ∙ vacant-untouched (is_token_used m u) u side (rejected token reason) t refl (differs t u e)
        ∙ ap (λ b. vacant b u side) used

accepted-Sound : (m : Machine) (said : List Outbound) (order : EnterOrder) (state : OrderState)
    → is_token_used m order.token ≡ false
    → IsSound m said → IsSound (accept m order state).machine (accepted_by order state ∷ said)
accepted-Sound m said order state unused s = record {
  each = (
    new state,
    each-all (IsChain m said) (IsChain next (a ∷ said)) m.book
        (kept-chain m next said a t refl unused (λ u e. or-right (bytes_eq u t) (is_token_used m u) e) refl) s.each,
  );
  apart = (
    each-all (IsChain m said) (IsApart (made state)) m.book
        (λ c k u h h'. not-both (is_token_used m u) (k.known u h') (rw (own u state h) unused)) s.each,
    s.apart,
  );
  outside = λ u none side. by_test u none.1 side (not_own u state none.0);
}
  where
    t : List ℕ
    t = order.token

    next : Machine
    next = (accept m order state).machine

    a : Outbound
    a = accepted_by order state

    made : OrderState → BookOrder
    made b = opened_in_book order.shares (shares-fit order.shares order.shares_set.1) b (unopened order)

    own : (u : List ℕ) (b : OrderState) → holds u (made b) ≡ true → u ≡ t
    own u Live h = ⊎_elim (λ x. eq-is u t x) (λ x. absurd (cc)) (or-case (bytes_eq u t) false h)
    own u Dead h = ⊎_elim (λ x. eq-is u t x) (λ x. absurd (cc)) (or-case (bytes_eq u t) false h)

    not_own : (u : List ℕ) (b : OrderState) → holds u (made b) ≡ false → bytes_eq u t ≡ false
    not_own u Live h = (or-false (bytes_eq u t) false h).0
    not_own u Dead h = (or-false (bytes_eq u t) false h).0

    was_born : (side : ℕ) → life t side said ≡ born t side
    was_born side = s.outside t (free-token m said t unused s) side ∙ ap (λ b. vacant b t side) unused

    lives : (side : ℕ) (b : OrderState) → opened_life order.shares (is_dead b) (born t side)
        ≡ life_in_book side (made b)
    lives side Dead = refl
    lives side Live = by_zero (order.shares == 0) refl
      where
        by_zero : (b : Bool) → (order.shares == 0) ≡ b
            → opened_life order.shares false (born t side) ≡ life_in_book side (made Live)
        by_zero true z = let some = order.shares_set.0 in absurd (grind (arith, nat_tests))
        by_zero false z = rw z refl

    enters : (side : ℕ) (b : OrderState) → after (born t side) (accepted_by order b) ≡ life_in_book side (made b)
    enters side b = rw (eq-same t) (lives side b)

    new : (b : OrderState) → IsChain next (accepted_by order b ∷ said) (made b)
    new Live = record {
      known = λ u h. rw (own u Live h, eq-same t) refl;
      matched = tt;
      book = λ side. ap (λ l. after l (accepted_by order Live)) (was_born side) ∙ enters side Live;
    }
    new Dead = record {
      known = λ u h. rw (own u Dead h, eq-same t) refl;
      matched = tt;
      book = λ side. ap (λ l. after l (accepted_by order Dead)) (was_born side) ∙ enters side Dead;
    }

    by_test : (u : List ℕ) → Each (λ c. holds u c ≡ false) m.book → (side : ℕ) → bytes_eq u t ≡ false
        → life u side (a ∷ said) ≡ vacant (bytes_eq u t || is_token_used m u) u side
    by_test u none side e =
        let used : is_token_used m u ≡ (bytes_eq u t || is_token_used m u) = rw e refl in
        ap (λ l. after l a) (s.outside u none side)
        ∙ vacant-untouched (is_token_used m u) u side a t refl (differs t u e)
        ∙ ap (λ b. vacant b u side) used

-- ---- a trade is broken

marked-matched : (m : Machine) (k : ℕ) (ys : List Trade) → Each (λ (y : Trade). is_match m y.match_number ≡ true) ys
    → Each (λ (y : Trade). is_match m y.match_number ≡ true) (map (marked k) ys)
marked-matched m k [] e = tt
marked-matched m k (y ∷ ys) e = (by_test (y.match_number == k) e.0, marked-matched m k ys e.1)
  where
    by_test : (b : Bool) → is_match m y.match_number ≡ true
        → is_match m (if b then record y { is_broken = true } else y).match_number ≡ true
    by_test true f = f
    by_test false f = f

pub same-tokens : (k : ℕ) (c : BookOrder) (x : Option Trade) → (u : List ℕ) → holds u (without k x c) ≡ holds u c
same-tokens k c None u = refl
same-tokens k c (Some y) u = refl

broken-Sound : (m : Machine) (said : List Outbound) (breaking : Breaking) (c : BookOrder)
    → find (has_trade breaking.match_number) m.book ≡ Some c → IsSound m said
    → IsSound (record m { book = change (has_trade breaking.match_number) (broken_off breaking.match_number) m.book })
    (broken_trade (live_of c) breaking ∷ said)
broken-Sound m said breaking c at s =
    let p = split (has_trade k) (broken_off k) m.book c at in
    changed-Sound m next said a (live_of c).bytes refl p.before c (broken_off k c) p.behind p.was p.now (live-in c)
    (λ u e. e) (λ n e. e) (λ u e. refl) (λ u e. inl (subst (λ b. b ≡ true) (same-tokens k c found u) e))
    (λ u e. rw (same-tokens k c found u) e)
    (λ x. record {
      known = λ u e. x.known u (subst (λ b. b ≡ true) (same-tokens k c found u) e);
      matched = trades found x.matched;
      book = λ side. same_root found side ∙ ap (λ l. after l a) (x.book side) ∙ said_so side;
    }) s
  where
    k : ℕ
    k = breaking.match_number

    next : Machine
    next = record m { book = change (has_trade k) (broken_off k) m.book }

    a : Outbound
    a = broken_trade (live_of c) breaking

    found : Option Trade
    found = find (stands_as k) c.trades

    same_root : (x : Option Trade) (side : ℕ)
        → life (without k x c).entered.token side (a ∷ said) ≡ life c.entered.token side (a ∷ said)
    same_root None side = refl
    same_root (Some y) side = refl

    trades : (x : Option Trade) → Each (λ (y : Trade). is_match m y.match_number ≡ true) c.trades
        → Each (λ (y : Trade). is_match m y.match_number ≡ true) (without k x c).trades
    trades None e = e
    trades (Some y) e = marked-matched m k c.trades e

    said_so : (side : ℕ) → after (life_in_book side c) a ≡ life_in_book side (broken_off k c)
    said_so side = rw (live-in c) (broken-lived side c k)

-- ---- every move

abbrev Keeping : Machine → List Outbound → Step → Type 0
Keeping m said p = IsSound p.machine (p.says ++ said)

module _ (m : Machine) (said : List Outbound) (s : IsSound m said) where
  entered : (order : EnterOrder) → is_token_used m order.token ≡ false → (answer : ToEnter)
      → Keeping m said (enter m order answer)
  entered order n (Takes state) = accepted-Sound m said order state n s
  entered order n (Rejects reason) = rejected-Sound m said (entered_token order) reason n s

  module _ (r : Replace) (c : BookOrder) (at : live_order m r.token ≡ Some c) (n : is_token_used m r.replacement_token ≡ false) where
    by_left : (state : OrderState) (left : ℕ) (most : left ≤ 999_999) → Keeping m said (move m r c state left most)
    by_left state zero most = off-Sound m said r.token c at s c.unfilled c.unfilled_set
    by_left state (suc left) most = moved-Sound m said r c at s (suc left) (shares-fit (suc left) most)
        (some-shares left, most) state n

    replaced : (answer : ToReplace) → Keeping m said (replace m r c answer)
    replaced (Replaces state) = by_left state (r.shares - c.executed)
        (less-than-most r.shares c.executed r.shares_set.1)
    replaced TakesOff = off-Sound m said r.token c at s c.unfilled c.unfilled_set
    replaced (Keeps reason) = rejected-Sound m said (to_token r) reason n s

  cancelled : (t : List ℕ) (c : BookOrder) → live_order m t ≡ Some c → (answer : ToCancel)
      → Keeping m said (cancel m t c answer)
  cancelled t c e Cancels = off-Sound m said t c e s c.unfilled c.unfilled_set
  cancelled t c e Waits = neutral-Sound m said (cancel_pending (live_of c)) (λ l. refl) s
  cancelled t c e Denies = neutral-Sound m said (cancel_reject (live_of c)) (λ l. refl) s

  pub answered-Sound : (i : Inbound) (choice : Choice) → Keeping m said (inbound m i choice)
  answered-Sound (asked.Enter order) choice = by_used (is_token_used m order.token) refl
    where
      by_used : (b : Bool) → is_token_used m order.token ≡ b
          → Keeping m said (if b then says_nothing m else enter m order (to_enter choice))
      by_used true e = s
      by_used false e = entered order e (to_enter choice)
  answered-Sound (asked.Replace r) choice = by_chain (live_order m r.token) refl
    where
      by_chain : (x : Option BookOrder) → live_order m r.token ≡ x → Keeping m said (replace_on m r choice x)
      by_chain None e = s
      by_chain (Some c) e = by_used (is_token_used m r.replacement_token) refl
        where
          by_used : (b : Bool) → is_token_used m r.replacement_token ≡ b
              → Keeping m said (if b then says_nothing m else replace m r c (to_replace choice))
          by_used true n = s
          by_used false n = replaced r c e n (to_replace choice)
  answered-Sound (asked.Cancel r) choice = by_chain (live_order m r.token) refl
    where
      by_chain : (x : Option BookOrder) → live_order m r.token ≡ x → Keeping m said (cancel_on m r choice x)
      by_chain None e = s
      by_chain (Some c) e = by_shares (r.shares == 0)
        where
          by_shares : (b : Bool) → Keeping m said (if b then cancel m r.token c (to_cancel choice) else says_nothing m)
          by_shares true = cancelled r.token c e (to_cancel choice)
          by_shares false = s

  pub acted-Sound : (choice : Choice) → Keeping m said (act m choice)
  acted-Sound (choose.Execute x) = by_chain (live_order m x.token) refl
    where
      by_chain : (found : Option BookOrder) → live_order m x.token ≡ found → Keeping m said (trade_on m x found)
      by_chain None e = s
      by_chain (Some c) e = by_test (may_trade x.shares c)
        where
          by_number : (b : Bool) (z : nat_lt (suc m.matches) (2 ^ 64) ≡ b) → Keeping m said (trade_by m x c b z)
          by_number true z = traded-Sound m said x.token c e s x (is-less (suc m.matches) (2 ^ 64) z)
          by_number false z = s

          by_test : (b : Bool) → Keeping m said (if b then trade_by m x c
              (nat_lt (suc m.matches) (2 ^ 64)) refl else says_nothing m)
          by_test true = by_number (nat_lt (suc m.matches) (2 ^ 64)) refl
          by_test false = s
  acted-Sound (choose.TakeOff x) = by_chain (live_order m x.token) refl
    where
      by_chain : (found : Option BookOrder) → live_order m x.token ≡ found → Keeping m said (take_off_on m x found)
      by_chain None e = s
      by_chain (Some c) e = by_test (is_open_for x.shares c)
        where
          by_test : (b : Bool) → Keeping m said (if b then saying (with_live_order x.token (taken_off x.shares) m)
              (canceled (live_of c) x.shares x.shares_set) else says_nothing m)
          by_test true = off-Sound m said x.token c e s x.shares x.shares_set
          by_test false = s
  acted-Sound (choose.Break x) = by_chain (find (has_trade x.match_number) m.book) refl
    where
      by_chain : (found : Option BookOrder) → find (has_trade x.match_number) m.book ≡ found
          → Keeping m said (break_on m x found)
      by_chain None e = s
      by_chain (Some c) e = broken-Sound m said x c e s
  acted-Sound (choose.SystemEvent event) = neutral-Sound m said (system_event event) (λ l. refl) s
  acted-Sound choose.AcceptLive = s
  acted-Sound choose.AcceptDead = s
  acted-Sound (choose.Refuse reason) = s
  acted-Sound choose.Nothing = s

pub moves-Sound : (m : Machine) (said : List Outbound) (v : Move) → IsSound m said → Keeping m said (moves m v)
moves-Sound m said (Comes i choice) s = answered-Sound m said s i choice
moves-Sound m said (Acts choice) s = acted-Sound m said s choice

-- THE THEOREM of the machine alone
pub ran-Sound : (vs : List Move) → IsSound (ran vs).machine (ran vs).said
ran-Sound [] = record { each = tt; apart = tt; outside = λ t none side. refl }
ran-Sound (v ∷ vs) = moves-Sound (ran vs).machine (ran vs).said v (ran-Sound vs)
