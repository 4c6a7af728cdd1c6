-- The first order that passes a test, found by its place and changed there.
use Rattle.std.proofs.Common.{◌≡◌, ℕ, zero, suc, Bool, true, false, List, [], ◌∷◌, ◌++◌, length, get_or, set, refl, sym}
use Rattle.std.proofs.Common.{ap, ◌∙◌, subst, Some, None, arith, ◌<◌, ◌≤◌, ◌^◌}
use Rattle.std.specs.Prelude.{◌||◌, nat_lt}
use Rattle.std.specs.List.{find, list_any}
use Rattle.market_law.specs.Machine.{BookOrder, Machine, change, live_of, to_cancel, Cancels, to_replace, Replaces}
use Rattle.market_law.specs.Machine.{trade_by, is_live_as, traded_in_book, cancel_all, move, use_token, with_live_order}
use Rattle.market_law.specs.Machine.{moved}
use Rattle.ouch_codec.specs.declared.outbound.Outbound.{Outbound}
use Rattle.ouch_codec.specs.declared.order_state.OrderState.TheVariants.{Live}
use Rattle.ouch_codec.specs.declared.order_state.OrderState.{OrderState}
use Rattle.ouch_codec.specs.declared.inbound.replace.Replace.{Replace}
use Rattle.market_law.specs.declared.choice.Choice.{Choice}
use Rattle.market_law.specs.declared.choice.Choice.TheVariants as choose
use Rattle.market_law.specs.declared.choice.Letter.{Letter}
use Rattle.market_law.specs.declared.choice.Removal.{Removal}
use Rattle.market_law.specs.declared.choice.Trading.{Trading}
use Rattle.market_law.specs.Messages.{canceled, executed, replaced_by}
use Rattle.market_law.specs.Numbers.{is-less, shares-fit, some-shares}
use Rattle.market_book.specs.Steps.{IsStepOf}
use Rattle.market_book.specs.Places.{IsFirstAt}

or-none : (a b : Bool) → (a || b) ≡ false → (a ≡ false) × (b ≡ false)
or-none true b e = absurd (cc)
or-none false b e = (refl, e)

pub none-found : {X : Type 0} (p : X → Bool) (xs : List X) → list_any p xs ≡ false → find p xs ≡ None
none-found p [] e = refl
none-found p (x ∷ xs) e = let o = or-none (p x) (list_any p xs) e in rw o.0 (none-found p xs o.1)

find-at : {X : Type 0} (p : X → Bool) (before : List X) (x : X) (behind : List X) → list_any p before ≡ false
    → p x ≡ true → find p (before ++ x ∷ behind) ≡ Some x
find-at p [] x behind none is = rw is refl
find-at p (y ∷ ys) x behind none is = let o = or-none (p y) (list_any p ys) none in
    rw o.0 (find-at p ys x behind o.1 is)

get-at : {X : Type 0} (before : List X) (x : X) (behind : List X) (d : X)
    → get_or (before ++ x ∷ behind) (length before) d ≡ x
get-at [] x behind d = refl
get-at (y ∷ ys) x behind d = get-at ys x behind d

set-at : {X : Type 0} (before : List X) (x y : X) (behind : List X)
    → set (before ++ x ∷ behind) (length before) y ≡ before ++ y ∷ behind
set-at [] x y behind = refl
set-at (z ∷ zs) x y behind = ap (λ ys. z ∷ ys) (set-at zs x y behind)

change-at : (p : BookOrder → Bool) (g : BookOrder → BookOrder) (before : List BookOrder) (x : BookOrder)
    (behind : List BookOrder) → list_any p before ≡ false → p x ≡ true
    → change p g (before ++ x ∷ behind) ≡ before ++ g x ∷ behind
change-at p g [] x behind none is = rw is refl
change-at p g (y ∷ ys) x behind none is = let o = or-none (p y) (list_any p ys) none in
    rw o.0 (ap (λ zs. y ∷ zs) (change-at p g ys x behind o.1 is))

pub on-list : {X : Type 0} (p : X → Bool) (xs ys : List X) (i : ℕ) → xs ≡ ys → IsFirstAt p xs i → IsFirstAt p ys i
on-list p xs ys i e f = subst (λ zs. IsFirstAt p zs i) e f

pub finds : {X : Type 0} (p : X → Bool) (xs : List X) (i : ℕ) → (f : IsFirstAt p xs i) → find p xs ≡ Some f.one
finds p xs i f = ap (find p) f.parts ∙ find-at p f.before f.one f.behind f.none_before f.passes

-- what stands at the place is the one
pub is-one : {X : Type 0} (p : X → Bool) (xs : List X) (i : ℕ) (here : X) → (f : IsFirstAt p xs i)
    → here ≡ get_or xs i here → here ≡ f.one
is-one p xs i here f e = e ∙ rw (f.parts, ← f.place) (get-at f.before f.one f.behind here)

-- it becomes another one
pub written : (p : BookOrder → Bool) (g : BookOrder → BookOrder) (xs : List BookOrder) (i : ℕ) (here new : BookOrder)
    → (f : IsFirstAt p xs i)
    → here ≡ get_or xs i here → new ≡ g here → set xs i new ≡ change p g xs
written p g xs i here new f e n =
    rw (n, is-one p xs i here f e) (on-parts f.parts)
  where
    on-parts : xs ≡ f.before ++ f.one ∷ f.behind → set xs i (g f.one) ≡ change p g xs
    on-parts q = rw (q, ← f.place) (set-at f.before f.one (g f.one) f.behind
        ∙ sym (change-at p g f.before f.one f.behind f.none_before f.passes))

pub same-machine : (a b : Machine) → a.used ≡ b.used → a.matches ≡ b.matches → a.book ≡ b.book → a ≡ b
same-machine a b u m k = parts a.used b.used a.matches b.matches a.book b.book u m k
  where
    parts : (u u' : List (List ℕ)) (m m' : ℕ) (k k' : List BookOrder) → u ≡ u' → m ≡ m' → k ≡ k'
        → ◌≡◌ {A = Machine} (record { used = u; matches = m; book = k }) (record { used = u'; matches = m'; book = k' })
    parts u u' m m' k k' eu em ek = rw (eu, em, ek) refl

pub some-same : {X : Type 0} (x y : X) → Some x ≡ Some y → x ≡ y
some-same x y e = cc

-- the one at the place in a machine's book becomes another one
pub in-book : (p : BookOrder → Bool) (g : BookOrder → BookOrder) (m : Machine) (used : List (List ℕ)) (matches : ℕ)
    (orders : List BookOrder)
    → ◌≡◌ {A = Machine} (record { used = used; matches = matches; book = orders }) m → (i : ℕ) (here new : BookOrder)
    → (f : IsFirstAt p m.book i)
    → here ≡ get_or orders i here → new ≡ g here
    → ◌≡◌ {A = Machine} (record { used = used; matches = matches; book = set orders i new })
    (record m { book = change p g m.book })
in-book p g m used matches orders e i here new f h n =
    let eo : orders ≡ m.book = ap (λ (x : Machine). x.book) e in
    same-machine _ _ (ap (λ (x : Machine). x.used) e) (ap (λ (x : Machine). x.matches) e)
    (ap (λ xs. set xs i new) eo ∙ written p g m.book i here new f (h ∙ ap (λ xs. get_or xs i here) eo) n)

-- what stands at the place of a machine's book is the one that is found
pub is-found : (p : BookOrder → Bool) (m : Machine) (orders : List BookOrder) (i : ℕ) (here : BookOrder)
    → orders ≡ m.book → IsFirstAt p m.book i
    → here ≡ get_or orders i here → find p m.book ≡ Some here
is-found p m orders i here eo f h = finds p m.book i f
    ∙ ap (λ x. Some x) (sym (is-one p m.book i here f (h ∙ ap (λ xs. get_or xs i here) eo)))

pub says-all : (result : Outbound) (here c : BookOrder) (shares : ℕ) → here ≡ c → shares ≡ c.unfilled
    → ((fit : shares < 2 ^ 32) → result ≡ canceled (live_of here) shares fit)
    → result ≡ canceled (live_of c) c.unfilled c.unfilled_set
says-all result here c shares e n h =
    subst (λ k. (fit : k < 2 ^ 32) → result ≡ canceled (live_of here) k fit) n h c.unfilled_set
    ∙ ap (λ (o : BookOrder). canceled (live_of o) c.unfilled c.unfilled_set) e

pub to_cancel-rest : (choice : Choice) → (choice ≡ choose.AcceptDead → ⊥)
    → ((l : Letter) → choice ≡ choose.Refuse l → ⊥) → to_cancel choice ≡ Cancels
to_cancel-rest choose.AcceptDead d r = absurd (d refl)
to_cancel-rest (choose.Refuse l) d r = absurd (r l refl)
to_cancel-rest choose.AcceptLive d r = refl
to_cancel-rest (choose.Execute x) d r = refl
to_cancel-rest (choose.TakeOff x) d r = refl
to_cancel-rest (choose.Break x) d r = refl
to_cancel-rest (choose.SystemEvent l) d r = refl
to_cancel-rest choose.Nothing d r = refl

pub to_replace-rest : (choice : Choice) → (choice ≡ choose.AcceptDead → ⊥)
    → ((l : Letter) → choice ≡ choose.Refuse l → ⊥) → ((x : Removal) → choice ≡ choose.TakeOff x → ⊥)
    → to_replace choice ≡ Replaces Live
to_replace-rest choose.AcceptDead d r t = absurd (d refl)
to_replace-rest (choose.Refuse l) d r t = absurd (r l refl)
to_replace-rest (choose.TakeOff x) d r t = absurd (t x refl)
to_replace-rest choose.AcceptLive d r t = refl
to_replace-rest (choose.Execute x) d r t = refl
to_replace-rest (choose.Break x) d r t = refl
to_replace-rest (choose.SystemEvent l) d r t = refl
to_replace-rest choose.Nothing d r t = refl

-- a trade where a number is left, and where none is
pub trade-some : (m : Machine) (x : Trading) (c : BookOrder) (b : Bool) (z : nat_lt (suc m.matches) (2 ^ 64) ≡ b)
    → b ≡ true → (next : Machine) (says : List Outbound)
    → next ≡ record m {
      matches = suc m.matches;
      book =
          change (is_live_as x.token) (traded_in_book (suc m.matches) x) m.book;
    }
    → ((fit : suc m.matches < 2 ^ 64) → says ≡ executed (live_of c) x (suc m.matches) fit ∷ [])
    → IsStepOf (trade_by m x c b z) next says
trade-some m x c true z e next says n s = record { machine_is = n; says_is = s (is-less (suc m.matches) (2 ^ 64) z) }
trade-some m x c false z e next says n s = absurd (cc)

pub trade-none : (m : Machine) (x : Trading) (c : BookOrder) (b : Bool) (z : nat_lt (suc m.matches) (2 ^ 64) ≡ b)
    → b ≡ false → (says : List Outbound) → says ≡ []
    → IsStepOf (trade_by m x c b z) m says
trade-none m x c true z e says n = absurd (cc)
trade-none m x c false z e says n = record { machine_is = refl; says_is = n }

pub move-none : (m : Machine) (r : Replace) (c : BookOrder) (state : OrderState) (left : ℕ) (most : left ≤ 999_999)
    (next : Machine) (says : List Outbound) → left ≡ 0
    → IsStepOf (cancel_all m r.token c) next says → IsStepOf (move m r c state left most) next says
move-none m r c state zero most next says e h = h
move-none m r c state (suc left) most next says e h = absurd (omega (arith, e))

pub move-some : (m : Machine) (r : Replace) (c : BookOrder) (state : OrderState) (left : ℕ) (most : left ≤ 999_999)
    (next : Machine) (says : List Outbound) → 1 ≤ left
    → ((fit : left < 2 ^ 32) → next ≡ use_token r.replacement_token
    (with_live_order r.token (moved r left fit state) m))
    → ((set : (1 ≤ left) × (left ≤ 999_999)) → says ≡ replaced_by c.entered r left set state ∷ [])
    → IsStepOf (move m r c state left most) next says
move-some m r c state zero most next says e n s = absurd (omega (arith, e))
move-some m r c state (suc left) most next says e n s =
    record { machine_is = n (shares-fit (suc left) most); says_is = s (some-shares left, most) }
