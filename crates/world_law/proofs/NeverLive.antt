-- Which tokens will never be live at a market's machine, whatever comes that its port was asked; and what becomes of a
-- token once the message that asks for it
-- has come.
use Rattle.std.proofs.Common.{◌≡◌, ◌-◌, ◌≤◌, ◌<◌, ◌^◌, ◌==◌, ℕ, zero, suc, Bool, true, false, List, [], ◌∷◌, ◌++◌, refl}
use Rattle.std.proofs.Common.{sym, ap, ◌∙◌, subst, arith, bytes_eq, Option, Some, None, ◌⊎◌, inl, inr, nat_lt}
use Rattle.std.proofs.lemmas.Bool.Decides.{nat_tests}
use Rattle.std.specs.Prelude.{◌&&◌, ◌||◌, if◌then◌else◌}
use Rattle.std.specs.List.{find, list_any}
use Rattle.order_law.specs.ouch_codec.declared.inbound.Inbound.TheVariants as ask
use Rattle.order_law.specs.ouch_codec.declared.inbound.enter_order.EnterOrder.{EnterOrder}
use Rattle.order_law.specs.ouch_codec.declared.inbound.replace.Replace.{Replace}
use Rattle.order_law.specs.ouch_codec.declared.outbound.Outbound.{Outbound}
use Rattle.order_law.specs.ouch_codec.declared.order_state.OrderState.{OrderState}
use Rattle.order_law.specs.ouch_codec.declared.order_state.OrderState.TheVariants.{Live, Dead}
use Rattle.order_law.specs.declared.trade.Trade.{Trade}
use Rattle.order_law.specs.History.{Asked, SaysReplace}
use Rattle.order_law.specs.Headline.{Each}
use Rattle.order_law.specs.Life.{first_token, stands_as}
use Rattle.market_law.specs.declared.choice.Choice.{Choice}
use Rattle.market_law.specs.declared.choice.Choice.TheVariants as choose
use Rattle.market_law.specs.declared.choice.Trading.{Trading}
use Rattle.market_law.specs.Machine.{BookOrder, Machine, Step, ToCancel, Cancels, Waits, Denies, ToEnter, Takes}
use Rattle.market_law.specs.Machine.{Rejects, ToReplace, Replaces, TakesOff, Keeps, break_on, broken_off, cancel}
use Rattle.market_law.specs.Machine.{cancel_all, cancel_on, change, enter, has_trade, inbound, is_live_as, is_open_for}
use Rattle.market_law.specs.Machine.{is_token_used, live_order, may_trade, move, moved, opened_in_book, replace}
use Rattle.market_law.specs.Machine.{replace_on, says_nothing, take_off_on, taken_off, to_cancel, to_enter, to_replace}
use Rattle.market_law.specs.Machine.{tokens_of, trade_by, trade_on, traded_in_book, unopened, without}
use Rattle.market_law.specs.Numbers.{shares-fit, less-than-most}
use Rattle.market_law.specs.Run.{Move, Comes, Acts, moves}
use Rattle.market_law.proofs.Basics.{and-parts, each-all, each-join, eq-is, eq-same, is-false, not-both}
use Rattle.market_law.proofs.Runs.{free-token}
use Rattle.market_law.proofs.Books.{live-holds}
use Rattle.market_law.proofs.Says.{each-change, each-first, found-passes}
use Rattle.market_law.proofs.Sound.{AreApart, IsApart, IsChain, IsSound, Split, apart-before, apart-behind, filled}
use Rattle.market_law.proofs.Sound.{holds, not-first, split}
use Rattle.world_law.specs.Asked.{IsIn}

-- ---- a token that no order of the book is live under

abbrev pub IsShut : Machine → List ℕ → Type 0
IsShut m u = Each (λ (c : BookOrder). is_live_as u c ≡ false) m.book

pub shut-none : (m : Machine) (u : List ℕ) → IsShut m u → live_order m u ≡ None
shut-none m u k = by_book m.book k
  where
    by_test : (c : BookOrder) (cs : List BookOrder) (b : Bool) → b ≡ false → find (is_live_as u) cs ≡ None
        → (if b then Some c else find (is_live_as u) cs) ≡ None
    by_test c cs true e rest = absurd (cc)
    by_test c cs false e rest = rest

    by_book : (cs : List BookOrder) → Each (λ (c : BookOrder). is_live_as u c ≡ false) cs
        → find (is_live_as u) cs ≡ None
    by_book [] each = refl
    by_book (c ∷ cs) each = by_test c cs (is_live_as u c) each.0 (by_book cs each.1)

pub none-shut : (m : Machine) (u : List ℕ) → live_order m u ≡ None → IsShut m u
none-shut m u e = by_book m.book e
  where
    by_test : (c : BookOrder) (cs : List BookOrder) (b : Bool) → is_live_as u c ≡ b
        → (if b then Some c else find (is_live_as u) cs) ≡ None
        → (find (is_live_as u) cs ≡ None → Each (λ (c : BookOrder). is_live_as u c ≡ false) cs)
        → Each (λ (c : BookOrder). is_live_as u c ≡ false) (c ∷ cs)
    by_test c cs true is f rest = absurd (cc)
    by_test c cs false is f rest = (is, rest f)

    by_book : (cs : List BookOrder) → find (is_live_as u) cs ≡ None
        → Each (λ (c : BookOrder). is_live_as u c ≡ false) cs
    by_book [] f = tt
    by_book (c ∷ cs) f = by_test c cs (is_live_as u c) refl f (λ g. by_book cs g)

-- ---- what a move makes of the book

-- an order keeps its tokens, and has no more open
pub record OnlyLess (f : BookOrder → BookOrder) : Type 0 where
  pub tokens : (c : BookOrder) → tokens_of (f c) ≡ tokens_of c
  pub less : (c : BookOrder) → (f c).unfilled ≤ c.unfilled

-- nothing, a new order, less of an order, or an order that goes by another token
pub data Effect (m : Machine) (v : Move) (after : Machine) : Type 0 where
  Same : after.book ≡ m.book → Effect m v after
  Opens : (order : EnterOrder) (choice : Choice) (shares : ℕ) (fit : shares < 2 ^ 32) (state : OrderState)
      → v ≡ Comes (ask.Enter order) choice → is_token_used m order.token ≡ false
      → after.book ≡ opened_in_book shares fit state (unopened order) ∷ m.book → Effect m v after
  Changes : (test : BookOrder → Bool) (f : BookOrder → BookOrder) → OnlyLess f → after.book ≡ change test f m.book
      → Effect m v after
  Renews : (request : Replace) (choice : Choice) (c : BookOrder) (shares : ℕ) (fit : shares < 2 ^ 32)
      (state : OrderState) → v ≡ Comes (ask.Replace request) choice → live_order m request.token ≡ Some c
      → is_token_used m request.replacement_token ≡ false
      → after.book ≡ change (is_live_as request.token) (moved request shares fit state) m.book → Effect m v after

off-less : (q : ℕ) → OnlyLess (taken_off q)
off-less q = record { tokens = λ c. refl; less = λ c. omega arith }

traded-less : (n : ℕ) (x : Trading) → OnlyLess (traded_in_book n x)
traded-less n x = record { tokens = λ c. refl; less = λ c. omega arith }

broken-less : (n : ℕ) → OnlyLess (broken_off n)
broken-less n = record {
  tokens = λ c. by_tokens c (find (stands_as n) c.trades);
  less =
      λ c. by_open c (find (stands_as n) c.trades);
}
  where
    by_tokens : (c : BookOrder) (x : Option Trade) → tokens_of (without n x c) ≡ tokens_of c
    by_tokens c None = refl
    by_tokens c (Some trade) = refl

    by_open : (c : BookOrder) (x : Option Trade) → (without n x c).unfilled ≤ c.unfilled
    by_open c None = omega arith
    by_open c (Some trade) = omega arith

module _ (m : Machine) where
  cancelled-effect : (v : Move) (t : List ℕ) (c : BookOrder) → Effect m v (cancel_all m t c).machine
  cancelled-effect v t c = Changes (is_live_as t) (taken_off c.unfilled) (off-less c.unfilled) refl

  pub move-effect : (v : Move) → Effect m v (moves m v).machine
  move-effect (Comes (ask.Enter order) choice) = by_used (is_token_used m order.token) refl
    where
      v : Move
      v = Comes (ask.Enter order) choice

      by_answer : is_token_used m order.token ≡ false → (answer : ToEnter)
          → Effect m (Comes (ask.Enter order) choice) (enter m order answer).machine
      by_answer e (Takes state) = Opens order choice order.shares
          (shares-fit order.shares order.shares_set.1) state refl e refl
      by_answer e (Rejects reason) = Same refl

      by_used : (b : Bool) → is_token_used m order.token ≡ b
          → Effect m (Comes (ask.Enter order) choice)
          (if b then says_nothing m else enter m order (to_enter choice)).machine
      by_used true e = Same refl
      by_used false e = by_answer e (to_enter choice)
  move-effect (Comes (ask.Replace request) choice) = by_live (live_order m request.token) refl
    where
      by_shares : (c : BookOrder) → live_order m request.token ≡ Some c
          → is_token_used m request.replacement_token ≡ false
          → (state : OrderState) (shares : ℕ) (most : shares ≤ 999_999)
          → Effect m (Comes (ask.Replace request) choice) (move m request c state shares most).machine
      by_shares c found e state zero most = cancelled-effect (Comes (ask.Replace request) choice) request.token c
      by_shares c found e state (suc shares) most =
          Renews request choice c (suc shares) (shares-fit (suc shares) most) state refl found e refl

      by_answer : (c : BookOrder) → live_order m request.token ≡ Some c
          → is_token_used m request.replacement_token ≡ false → (answer : ToReplace)
          → Effect m (Comes (ask.Replace request) choice) (replace m request c answer).machine
      by_answer c found e (Replaces state) = by_shares c found e state (request.shares - c.executed)
          (less-than-most request.shares c.executed request.shares_set.1)
      by_answer c found e TakesOff = cancelled-effect (Comes (ask.Replace request) choice) request.token c
      by_answer c found e (Keeps reason) = Same refl

      by_used : (c : BookOrder) → live_order m request.token ≡ Some c → (b : Bool)
          → is_token_used m request.replacement_token ≡ b
          → Effect m (Comes (ask.Replace request) choice)
          (if b then says_nothing m else replace m request c (to_replace choice)).machine
      by_used c found true e = Same refl
      by_used c found false e = by_answer c found e (to_replace choice)

      by_live : (x : Option BookOrder) → live_order m request.token ≡ x
          → Effect m (Comes (ask.Replace request) choice) (replace_on m request choice x).machine
      by_live None found = Same refl
      by_live (Some c) found = by_used c found (is_token_used m request.replacement_token) refl
  move-effect (Comes (ask.Cancel request) choice) = by_live (live_order m request.token)
    where
      by_answer : (c : BookOrder) (answer : ToCancel)
          → Effect m (Comes (ask.Cancel request) choice) (cancel m request.token c answer).machine
      by_answer c Cancels = cancelled-effect (Comes (ask.Cancel request) choice) request.token c
      by_answer c Waits = Same refl
      by_answer c Denies = Same refl

      by_shares : (c : BookOrder) (b : Bool) → Effect m (Comes (ask.Cancel request) choice)
          (if b then cancel m request.token c (to_cancel choice) else says_nothing m).machine
      by_shares c true = by_answer c (to_cancel choice)
      by_shares c false = Same refl

      by_live : (x : Option BookOrder) → Effect m (Comes (ask.Cancel request) choice)
          (cancel_on m request choice x).machine
      by_live None = Same refl
      by_live (Some c) = by_shares c (request.shares == 0)
  move-effect (Acts (choose.Execute trading)) = by_live (live_order m trading.token)
    where
      by_number : (c : BookOrder) (b : Bool) (e : nat_lt (suc m.matches) (2 ^ 64) ≡ b)
          → Effect m (Acts (choose.Execute trading)) (trade_by m trading c b e).machine
      by_number c true e = Changes (is_live_as trading.token) (traded_in_book (suc m.matches) trading)
          (traded-less (suc m.matches) trading) refl
      by_number c false e = Same refl

      by_test : (c : BookOrder) (b : Bool) → Effect m (Acts (choose.Execute trading))
          (if b then trade_by m trading c (nat_lt (suc m.matches) (2 ^ 64)) refl else says_nothing m).machine
      by_test c true = by_number c (nat_lt (suc m.matches) (2 ^ 64)) refl
      by_test c false = Same refl

      by_live : (x : Option BookOrder) → Effect m (Acts (choose.Execute trading)) (trade_on m trading x).machine
      by_live None = Same refl
      by_live (Some c) = by_test c (may_trade trading.shares c)
  move-effect (Acts (choose.TakeOff removal)) = by_live (live_order m removal.token)
    where
      by_test : (c : BookOrder) → (b : Bool) → is_open_for removal.shares c ≡ b
          → Effect m (Acts (choose.TakeOff removal)) (take_off_on m removal (Some c)).machine
      by_test c true e = rw e (Changes (is_live_as removal.token) (taken_off removal.shares)
          (off-less removal.shares) refl)
      by_test c false e = rw e (Same refl)

      by_live : (x : Option BookOrder) → Effect m (Acts (choose.TakeOff removal)) (take_off_on m removal x).machine
      by_live None = Same refl
      by_live (Some c) = by_test c (is_open_for removal.shares c) refl
  move-effect (Acts (choose.Break breaking)) = by_found (find (has_trade breaking.match_number) m.book)
    where
      by_found : (x : Option BookOrder) → Effect m (Acts (choose.Break breaking)) (break_on m breaking x).machine
      by_found None = Same refl
      by_found (Some c) = Changes (has_trade breaking.match_number) (broken_off breaking.match_number)
          (broken-less breaking.match_number) refl
  move-effect (Acts (choose.SystemEvent event)) = Same refl
  move-effect (Acts choose.AcceptLive) = Same refl
  move-effect (Acts choose.AcceptDead) = Same refl
  move-effect (Acts (choose.Refuse reason)) = Same refl
  move-effect (Acts choose.Nothing) = Same refl

-- ---- a token that no order of the book has had

abbrev pub IsOut : Machine → List ℕ → Type 0
IsOut m u = Each (λ (c : BookOrder). holds u c ≡ false) m.book

pub out-shut : (m : Machine) (u : List ℕ) → IsOut m u → IsShut m u
out-shut m u out = each-all (λ (c : BookOrder). holds u c ≡ false) (λ (c : BookOrder). is_live_as u c ≡ false) m.book
    (λ c k. let first = not-first (tokens_of c) u (filled c) k in rw first refl) out

-- a move doesn't give the token to an order
pub record NotGiven (m : Machine) (u : List ℕ) (v : Move) : Type 0 where
  pub no_enter : (order : EnterOrder) (choice : Choice) → v ≡ Comes (ask.Enter order) choice
      → is_token_used m order.token ≡ false → bytes_eq u order.token ≡ false
  pub no_replace : (request : Replace) (choice : Choice) (c : BookOrder) → v ≡ Comes (ask.Replace request) choice
      → live_order m request.token ≡ Some c → is_token_used m request.replacement_token ≡ false
      → bytes_eq u request.replacement_token ≡ false

-- a used one isn't given
pub used-not_given : (m : Machine) (u : List ℕ) (v : Move) → is_token_used m u ≡ true → NotGiven m u v
used-not_given m u v used = record {
  no_enter = λ order choice is unused. apart order.token unused;
  no_replace =
      λ request choice c is found unused. apart request.replacement_token unused;
}
  where
    apart : (t : List ℕ) → is_token_used m t ≡ false → bytes_eq u t ≡ false
    apart t unused = is-false (bytes_eq u t) (λ same. not-both (is_token_used m u) used
        (ap (is_token_used m) (eq-is u t same) ∙ unused))

and-less : (b : Bool) (n k : ℕ) → k ≤ n → (b && nat_lt 0 n) ≡ false → (b && nat_lt 0 k) ≡ false
and-less false n k h e = refl
and-less true n k h e = below n k h e
  where
    below : (n k : ℕ) → k ≤ n → nat_lt 0 n ≡ false → nat_lt 0 k ≡ false
    below n k h e = grind (arith, nat_tests)

pub opened-tokens : (order : EnterOrder) (shares : ℕ) (fit : shares < 2 ^ 32) (state : OrderState)
    → tokens_of (opened_in_book shares fit state (unopened order)) ≡ order.token ∷ []
opened-tokens order shares fit Live = refl
opened-tokens order shares fit Dead = refl

pub moved-tokens : (request : Replace) (shares : ℕ) (fit : shares < 2 ^ 32) (state : OrderState) (c : BookOrder)
    → tokens_of (moved request shares fit state c) ≡ request.replacement_token ∷ tokens_of c
moved-tokens request shares fit Live c = refl
moved-tokens request shares fit Dead c = refl

module _ (m : Machine) (u : List ℕ) (v : Move) (new : NotGiven m u v) where
  abbrev after : Machine
  after = (moves m v).machine

  -- it stays shut
  pub shut-kept : IsShut m u → IsShut (moves m v).machine u
  shut-kept k = by_effect (move-effect m v)
    where
      P : BookOrder → Type 0
      P c = is_live_as u c ≡ false

      first-other : (c : BookOrder) (t : List ℕ) (ts : List (List ℕ)) → tokens_of c ≡ t ∷ ts → bytes_eq u t ≡ false
          → is_live_as u c ≡ false
      first-other c t ts tokens e = let first : bytes_eq u (first_token (tokens_of c)) ≡ false =
          ap (λ (xs : List (List ℕ)). bytes_eq u (first_token xs)) tokens ∙ e in rw first refl

      by_effect : Effect m v (moves m v).machine → IsShut (moves m v).machine u
      by_effect (Same is) = subst (Each (λ (c : BookOrder). is_live_as u c ≡ false)) (sym is) k
      by_effect (Opens order choice shares fit state comes unused is) =
          subst (Each (λ (c : BookOrder). is_live_as u c ≡ false)) (sym is) (
            first-other (opened_in_book shares fit state (unopened order)) order.token []
                (opened-tokens order shares fit state) (new.no_enter order choice comes unused),
            k,
          )
      by_effect (Changes test f less is) =
          subst (Each (λ (c : BookOrder). is_live_as u c ≡ false)) (sym is)
          (each-change (λ (c : BookOrder). is_live_as u c ≡ false) test f m.book
          (λ c shut.
          subst (λ (ts : List (List ℕ)). (bytes_eq u (first_token ts) && nat_lt 0 (f c).unfilled) ≡ false)
          (sym (less.tokens c))
          (and-less (bytes_eq u (first_token (tokens_of c))) c.unfilled (f c).unfilled (less.less c) shut)) k)
      by_effect (Renews request choice c shares fit state comes found unused is) =
          subst (Each (λ (c : BookOrder). is_live_as u c ≡ false)) (sym is)
          (each-first (λ (c : BookOrder). is_live_as u c ≡ false) (is_live_as request.token)
          (moved request shares fit state) m.book c found
          (first-other (moved request shares fit state c) request.replacement_token (tokens_of c)
          (moved-tokens request shares fit state c) (new.no_replace request choice c comes found unused)) k)

  -- no order gets it
  pub out-kept : IsOut m u → IsOut (moves m v).machine u
  out-kept k = by_effect (move-effect m v)
    where
      by_effect : Effect m v (moves m v).machine → IsOut (moves m v).machine u
      by_effect (Same is) = subst (Each (λ (c : BookOrder). holds u c ≡ false)) (sym is) k
      by_effect (Opens order choice shares fit state comes unused is) =
          let other = new.no_enter order choice comes unused in
          subst (Each (λ (c : BookOrder). holds u c ≡ false)) (sym is)
          (ap (list_any (bytes_eq u)) (opened-tokens order shares fit state) ∙ rw other refl, k)
      by_effect (Changes test f less is) =
          subst (Each (λ (c : BookOrder). holds u c ≡ false)) (sym is)
          (each-change (λ (c : BookOrder). holds u c ≡ false) test f m.book
          (λ c out. ap (list_any (bytes_eq u)) (less.tokens c) ∙ out) k)
      by_effect (Renews request choice c shares fit state comes found unused is) =
          let other = new.no_replace request choice c comes found unused in
          subst (Each (λ (c : BookOrder). holds u c ≡ false)) (sym is)
          (each-first (λ (c : BookOrder). holds u c ≡ false) (is_live_as request.token)
          (moved request shares fit state) m.book c found
          (ap (list_any (bytes_eq u)) (moved-tokens request shares fit state c)
          ∙ rw other ((found-passes (λ (c : BookOrder). holds u c ≡ false)
          (is_live_as request.token) m.book c found k).0)) k)

-- ---- what a move makes used

-- it is used after the move just where it was, or the message that comes asks for it, and finds its order where it is a
-- replace
pub data Uses (m : Machine) (u : List ℕ) (v : Move) : Type 0 where
  Was : is_token_used (moves m v).machine u ≡ is_token_used m u → Uses m u v
  ByEnter : (order : EnterOrder) (choice : Choice) → v ≡ Comes (ask.Enter order) choice → u ≡ order.token → Uses m u v
  ByReplace : (request : Replace) (choice : Choice) → v ≡ Comes (ask.Replace request) choice
      → u ≡ request.replacement_token → (c : BookOrder) → live_order m request.token ≡ Some c → Uses m u v

-- one token more is used, which is this one or another
module _ (m : Machine) (u : List ℕ) where
  abbrev UsedIn : Step → Bool
  UsedIn step = is_token_used step.machine u

  record UsesOnly (t : List ℕ) (step : Step) : Type 0 where
    either : (UsedIn step ≡ is_token_used m u) ⊎ (u ≡ t)

  one-more : (t : List ℕ) → (list_any (bytes_eq u) (t ∷ m.used) ≡ is_token_used m u) ⊎ (u ≡ t)
  one-more t = by_test (bytes_eq u t) refl
    where
      by_test : (b : Bool) → bytes_eq u t ≡ b → ((b || is_token_used m u) ≡ is_token_used m u) ⊎ (u ≡ t)
      by_test true e = inr (eq-is u t e)
      by_test false e = inl refl

  moved-uses : (request : Replace) (c : BookOrder) (state : OrderState) (shares : ℕ) (most : shares ≤ 999_999)
      → UsesOnly request.replacement_token (move m request c state shares most)
  moved-uses request c state zero most = record { either = inl refl }
  moved-uses request c state (suc shares) most = record { either = one-more request.replacement_token }

  replaced-uses : (request : Replace) (c : BookOrder) (answer : ToReplace)
      → UsesOnly request.replacement_token (replace m request c answer)
  replaced-uses request c (Replaces state) = moved-uses request c state (_) (_)
  replaced-uses request c TakesOff = record { either = inl refl }
  replaced-uses request c (Keeps reason) = record { either = one-more request.replacement_token }

  same-if : (b : Bool) (x y : Step) → UsedIn x ≡ is_token_used m u → UsedIn y ≡ is_token_used m u
      → UsedIn (if b then x else y) ≡ is_token_used m u
  same-if true x y p q = p
  same-if false x y p q = q

  pub move-uses : (v : Move) → Uses m u v
  move-uses (Comes (ask.Enter order) choice) = by_used (is_token_used m order.token) refl
    where
      by_either : (step : Step) → UsesOnly order.token step → inbound m (ask.Enter order) choice ≡ step
          → Uses m u (Comes (ask.Enter order) choice)
      by_either step x is = by_which x.either
        where
          by_which : (UsedIn step ≡ is_token_used m u) ⊎ (u ≡ order.token) → Uses m u (Comes (ask.Enter order) choice)
          by_which (inl e) = Was (ap UsedIn is ∙ e)
          by_which (inr e) = ByEnter order choice refl e

      by_answer : (answer : ToEnter) → UsesOnly order.token (enter m order answer)
      by_answer (Takes state) = record { either = one-more order.token }
      by_answer (Rejects reason) = record { either = one-more order.token }

      by_used : (b : Bool) → is_token_used m order.token ≡ b → Uses m u (Comes (ask.Enter order) choice)
      by_used true e = by_either (says_nothing m) (record { either = inl refl }) (rw e refl)
      by_used false e = by_either (enter m order (to_enter choice)) (by_answer (to_enter choice)) (rw e refl)
  move-uses (Comes (ask.Replace request) choice) = by_live (live_order m request.token) refl
    where
      by_either : (c : BookOrder) → live_order m request.token ≡ Some c → (step : Step)
          → UsesOnly request.replacement_token step → inbound m (ask.Replace request) choice ≡ step
          → Uses m u (Comes (ask.Replace request) choice)
      by_either c found step x is = by_which x.either
        where
          by_which : (UsedIn step ≡ is_token_used m u) ⊎ (u ≡ request.replacement_token)
              → Uses m u (Comes (ask.Replace request) choice)
          by_which (inl e) = Was (ap UsedIn is ∙ e)
          by_which (inr e) = ByReplace request choice refl e c found

      by_used : (c : BookOrder) → live_order m request.token ≡ Some c → (b : Bool)
          → is_token_used m request.replacement_token ≡ b → Uses m u (Comes (ask.Replace request) choice)
      by_used c found true e = by_either c found (says_nothing m) (record { either = inl refl }) (rw (found, e) refl)
      by_used c found false e = by_either c found (replace m request c (to_replace choice))
          (replaced-uses request c (to_replace choice)) (rw (found, e) refl)

      by_live : (x : Option BookOrder) → live_order m request.token ≡ x → Uses m u (Comes (ask.Replace request) choice)
      by_live None found = Was (rw found refl)
      by_live (Some c) found = by_used c found (is_token_used m request.replacement_token) refl
  move-uses (Comes (ask.Cancel request) choice) = Was (by_live (live_order m request.token))
    where
      by_answer : (c : BookOrder) (answer : ToCancel) → UsedIn (cancel m request.token c answer) ≡ is_token_used m u
      by_answer c Cancels = refl
      by_answer c Waits = refl
      by_answer c Denies = refl

      by_live : (x : Option BookOrder) → UsedIn (cancel_on m request choice x) ≡ is_token_used m u
      by_live None = refl
      by_live (Some c) = same-if (request.shares == 0) (cancel m request.token c (to_cancel choice)) (says_nothing m)
          (by_answer c (to_cancel choice)) refl
  move-uses (Acts (choose.Execute trading)) = Was (by_live (live_order m trading.token))
    where
      by_number : (c : BookOrder) (b : Bool) (e : nat_lt (suc m.matches) (2 ^ 64) ≡ b)
          → UsedIn (trade_by m trading c b e) ≡ is_token_used m u
      by_number c true e = refl
      by_number c false e = refl

      by_live : (x : Option BookOrder) → UsedIn (trade_on m trading x) ≡ is_token_used m u
      by_live None = refl
      by_live (Some c) = same-if (may_trade trading.shares c)
          (trade_by m trading c (nat_lt (suc m.matches) (2 ^ 64)) refl) (says_nothing m)
          (by_number c (nat_lt (suc m.matches) (2 ^ 64)) refl) refl
  move-uses (Acts (choose.TakeOff removal)) = Was (by_live (live_order m removal.token))
    where
      by_live : (x : Option BookOrder) → UsedIn (take_off_on m removal x) ≡ is_token_used m u
      by_live None = refl
      by_live (Some c) = same-if (is_open_for removal.shares c) _ (says_nothing m) refl refl
  move-uses (Acts (choose.Break breaking)) = Was (by_found (find (has_trade breaking.match_number) m.book))
    where
      by_found : (x : Option BookOrder) → UsedIn (break_on m breaking x) ≡ is_token_used m u
      by_found None = refl
      by_found (Some c) = refl
  move-uses (Acts (choose.SystemEvent event)) = Was refl
  move-uses (Acts choose.AcceptLive) = Was refl
  move-uses (Acts choose.AcceptDead) = Was refl
  move-uses (Acts (choose.Refuse reason)) = Was refl
  move-uses (Acts choose.Nothing) = Was refl

-- a token that is used stays so
pub used-kept : (m : Machine) (u : List ℕ) (v : Move) → is_token_used m u ≡ true
    → is_token_used (moves m v).machine u ≡ true
used-kept m u v used = by_use (move-uses m u v)
  where
    by_use : Uses m u v → is_token_used (moves m v).machine u ≡ true
    by_use (Was e) = e ∙ used
    by_use (ByEnter order choice is same) = subst (λ (w : Move). is_token_used (moves m w).machine u ≡ true) (sym is)
        (by_used (is_token_used m order.token) (ap (is_token_used m) (sym same) ∙ used) refl)
      where
        by_used : (b : Bool) → b ≡ true → is_token_used m order.token ≡ b
            → is_token_used (if b then says_nothing m else enter m order (to_enter choice)).machine u ≡ true
        by_used true e is_b = used
        by_used false e is_b = absurd (cc)
    by_use (ByReplace request choice is same c found) =
        subst (λ (w : Move). is_token_used (moves m w).machine u ≡ true) (sym is)
        (subst (λ (x : Option BookOrder). is_token_used (replace_on m request choice x).machine u ≡ true) (sym found)
        (by_used (is_token_used m request.replacement_token) (ap (is_token_used m) (sym same) ∙ used)))
      where
        by_used : (b : Bool) → b ≡ true → is_token_used
            (if b then says_nothing m else replace m request c (to_replace choice)).machine u ≡ true
        by_used true e = used
        by_used false e = absurd (cc)

-- ---- a token that will never be live: it was used, and isn't live; or no order has had it, and the one replace that
-- asks for it goes from such a token

pub record IsGone (m : Machine) (u : List ℕ) : Type 0 where
  pub used : is_token_used m u ≡ true
  pub shut : IsShut m u

pub record GoesFrom (asks : List Asked) (u : List ℕ) (P : List ℕ → Type 0) : Type 0 where
  pub by : Asked
  pub from : List ℕ
  pub there : IsIn by asks
  pub says : by.said ≡ SaysReplace from u
  pub holds_from : P from

abbrev pub NeverLive : List Asked → Machine → ℕ → List ℕ → Type 0
NeverLive asks m zero u = IsGone m u
NeverLive asks m (suc n) u = IsOut m u × GoesFrom asks u (NeverLive asks m n)

pub never-shut : (asks : List Asked) (m : Machine) (n : ℕ) (u : List ℕ) → NeverLive asks m n u → IsShut m u
never-shut asks m zero u k = k.shut
never-shut asks m (suc n) u k = out-shut m u k.0

-- what asks for a token at all: a replace from this token alone
pub record AsksFrom (u from : List ℕ) (v : Move) : Type 0 where
  pub no_enter : (order : EnterOrder) (choice : Choice) → v ≡ Comes (ask.Enter order) choice
      → bytes_eq u order.token ≡ false
  pub only : (request : Replace) (choice : Choice) → v ≡ Comes (ask.Replace request) choice
      → bytes_eq u request.replacement_token ≡ true → request.token ≡ from

-- what comes asks for each token as it was asked
abbrev pub AsksAsAsked : List Asked → Move → Type 0
AsksAsAsked asks v = (by : Asked) (from u : List ℕ) → IsIn by asks → by.said ≡ SaysReplace from u → AsksFrom u from v

pub gone-kept : (m : Machine) (u : List ℕ) (v : Move) → IsGone m u → IsGone (moves m v).machine u
gone-kept m u v k = record {
  used = used-kept m u v k.used;
  shut =
      shut-kept m u v (used-not_given m u v k.used) k.shut;
}

pub never-kept : (asks : List Asked) (m : Machine) (v : Move) → AsksAsAsked asks v → (n : ℕ) (u : List ℕ)
    → NeverLive asks m n u → NeverLive asks (moves m v).machine n u
never-kept asks m v asked zero u k = gone-kept m u v k
never-kept asks m v asked (suc n) u k = (
  out-kept m u v
      (record {
        no_enter = λ order choice is unused. (asked k.1.by k.1.from u k.1.there k.1.says).no_enter order choice is;
        no_replace = λ request choice c is found unused. is-false (bytes_eq u request.replacement_token)
            (λ same. unfound request choice c is found same);
      })
      k.0,
  record {
    by = k.1.by;
    from = k.1.from;
    there = k.1.there;
    says = k.1.says;
    holds_from =
        never-kept asks m v asked n k.1.from k.1.holds_from;
  },
)
  where
    unfound : (request : Replace) (choice : Choice) (c : BookOrder) → v ≡ Comes (ask.Replace request) choice
        → live_order m request.token ≡ Some c → bytes_eq u request.replacement_token ≡ true → ⊥
    unfound request choice c is found same =
        let dead : live_order m request.token ≡ None =
        ap (live_order m) ((asked k.1.by k.1.from u k.1.there k.1.says).only request choice is same)
        ∙ shut-none m k.1.from (never-shut asks m n k.1.from k.1.holds_from) in
        (let f : Some c ≡ None = sym found ∙ dead in cc)

-- ---- decided: it was used, or will never be live

pub record Never (asks : List Asked) (m : Machine) (u : List ℕ) : Type 0 where
  pub depth : ℕ
  pub is : NeverLive asks m depth u

abbrev pub IsDecided : List Asked → Machine → List ℕ → Type 0
IsDecided asks m u = (is_token_used m u ≡ true) ⊎ Never asks m u

pub decided-kept : (asks : List Asked) (m : Machine) (v : Move) → AsksAsAsked asks v → (u : List ℕ) → IsDecided asks m u
    → IsDecided asks (moves m v).machine u
decided-kept asks m v asked u (inl used) = inl (used-kept m u v used)
decided-kept asks m v asked u (inr k) = inr (record { depth = k.depth; is = never-kept asks m v asked k.depth u k.is })

-- a decided token that isn't live never will be
pub decided-never : (asks : List Asked) (m : Machine) (u : List ℕ) → IsDecided asks m u → IsShut m u → Never asks m u
decided-never asks m u (inl used) shut = record { depth = zero; is = record { used = used; shut = shut } }
decided-never asks m u (inr k) shut = k

-- ---- a new order, or a replace, that comes decides its token

pub enter-decides : (m : Machine) (order : EnterOrder) (choice : Choice)
    → is_token_used (inbound m (ask.Enter order) choice).machine order.token ≡ true
enter-decides m order choice = by_used (is_token_used m order.token) refl
  where
    own : list_any (bytes_eq order.token) (order.token ∷ m.used) ≡ true
    own = let same = eq-same order.token in rw same refl

    by_answer : (answer : ToEnter) → is_token_used (enter m order answer).machine order.token ≡ true
    by_answer (Takes state) = own
    by_answer (Rejects reason) = own

    by_used : (b : Bool) → is_token_used m order.token ≡ b
        → is_token_used (if b then says_nothing m else enter m order (to_enter choice)).machine order.token ≡ true
    by_used true e = e
    by_used false e = by_answer (to_enter choice)

-- an order that is cancelled isn't live
cancelled-shut : (m : Machine) (said : List Outbound) → IsSound m said → (t : List ℕ) (c : BookOrder)
    → live_order m t ≡ Some c → IsShut (cancel_all m t c).machine t
cancelled-shut m said sound t c found = subst (Each (λ (d : BookOrder). is_live_as t d ≡ false)) (sym parts.now)
    (each-join (λ (d : BookOrder). is_live_as t d ≡ false) parts.before (taken_off c.unfilled c ∷ parts.behind)
    (others parts.before (apart-before parts.before c parts.behind apart))
    (none-left, others parts.behind (apart-behind parts.before c parts.behind apart)))
  where
    parts : Split (is_live_as t) (taken_off c.unfilled) m.book c
    parts = split (is_live_as t) (taken_off c.unfilled) m.book c found

    apart : AreApart (parts.before ++ c ∷ parts.behind)
    apart = subst AreApart parts.was sound.apart

    first : bytes_eq t (first_token (tokens_of c)) ≡ true
    first = (and-parts (bytes_eq t (first_token (tokens_of c))) (nat_lt 0 c.unfilled) parts.passes).0

    others : (cs : List BookOrder) → Each (IsApart c) cs → Each (λ (d : BookOrder). is_live_as t d ≡ false) cs
    others cs each = each-all (IsApart c) (λ (d : BookOrder). is_live_as t d ≡ false) cs
        (λ d apart_from. is-false (is_live_as t d) (λ live. apart_from t (live-holds (tokens_of c) t (filled c) first)
        (live-holds (tokens_of d) t (filled d) (and-parts (bytes_eq t (first_token (tokens_of d)))
        (nat_lt 0 d.unfilled) live).0))) each

    none-left : is_live_as t (taken_off c.unfilled c) ≡ false
    none-left = let less : nat_lt 0 (c.unfilled - c.unfilled) ≡ false = none c.unfilled in
        rw less (and-false (bytes_eq t (first_token (tokens_of c))))
      where
        none : (n : ℕ) → nat_lt 0 (n - n) ≡ false
        none n = grind (arith, nat_tests)

        and-false : (b : Bool) → (b && false) ≡ false
        and-false true = refl
        and-false false = refl

-- the token of an order that is live is used
live-used : (m : Machine) (said : List Outbound) → IsSound m said → (t : List ℕ) (c : BookOrder)
    → live_order m t ≡ Some c → is_token_used m t ≡ true
live-used m said sound t c found =
    let k = found-passes (IsChain m said) (is_live_as t) m.book c found sound.each in
    k.0.known t (live-holds (tokens_of c) t (filled c)
    (and-parts (bytes_eq t (first_token (tokens_of c))) (nat_lt 0 c.unfilled) k.1).0)

pub replace-decides : (asks : List Asked) (m : Machine) (said : List Outbound) → IsSound m said
    → (request : Replace) (choice : Choice) (by : Asked) → IsIn by asks
    → by.said ≡ SaysReplace request.token request.replacement_token
    → IsDecided asks m request.token → IsDecided asks
    (inbound m (ask.Replace request) choice).machine request.replacement_token
replace-decides asks m said sound request choice by there says decided = by_live (live_order m request.token) refl
  where
    -- it goes from a token that never is live, and no order has had it
    behind : (m' : Machine) → IsOut m' request.replacement_token → Never asks m' request.token
        → IsDecided asks m' request.replacement_token
    behind m' out never = inr (record {
      depth = suc never.depth;
      is =
          (out, record { by = by; from = request.token; there = there; says = says; holds_from = never.is });
    })

    cancelled : (c : BookOrder) → live_order m request.token ≡ Some c
        → is_token_used m request.replacement_token ≡ false
        → IsDecided asks (cancel_all m request.token c).machine request.replacement_token
    cancelled c found unused = behind (cancel_all m request.token c).machine
        (each-change (λ (d : BookOrder). holds request.replacement_token d ≡ false) (is_live_as request.token)
        (taken_off c.unfilled) m.book (λ d k. k) (free-token m said request.replacement_token unused sound))
        (record {
          depth = zero;
          is = record {
            used = live-used m said sound request.token c found;
            shut =
                cancelled-shut m said sound request.token c found;
          };
        })

    by_shares : (c : BookOrder) → live_order m request.token ≡ Some c
        → is_token_used m request.replacement_token ≡ false
        → (state : OrderState) (shares : ℕ) (most : shares ≤ 999_999)
        → IsDecided asks (move m request c state shares most).machine request.replacement_token
    by_shares c found unused state zero most = cancelled c found unused
    by_shares c found unused state (suc shares) most =
        inl (let same = eq-same request.replacement_token in rw same refl)

    by_answer : (c : BookOrder) → live_order m request.token ≡ Some c
        → is_token_used m request.replacement_token ≡ false → (answer : ToReplace)
        → IsDecided asks (replace m request c answer).machine request.replacement_token
    by_answer c found unused (Replaces state) =
        by_shares c found unused state (request.shares - c.executed)
        (less-than-most request.shares c.executed request.shares_set.1)
    by_answer c found unused TakesOff = cancelled c found unused
    by_answer c found unused (Keeps reason) = inl (let same = eq-same request.replacement_token in rw same refl)

    by_used : (c : BookOrder) → live_order m request.token ≡ Some c → (b : Bool)
        → is_token_used m request.replacement_token ≡ b
        → IsDecided asks (if b then says_nothing m else replace m request c (to_replace choice)).machine
        request.replacement_token
    by_used c found true e = inl e
    by_used c found false e = by_answer c found e (to_replace choice)

    unlive : live_order m request.token ≡ None → (b : Bool) → is_token_used m request.replacement_token ≡ b
        → IsDecided asks m request.replacement_token
    unlive none true e = inl e
    unlive none false e = behind m (free-token m said request.replacement_token e sound)
        (decided-never asks m request.token decided (none-shut m request.token none))

    by_live : (x : Option BookOrder) → live_order m request.token ≡ x
        → IsDecided asks (replace_on m request choice x).machine request.replacement_token
    by_live None found = unlive found (is_token_used m request.replacement_token) refl
    by_live (Some c) found = by_used c found (is_token_used m request.replacement_token) refl
