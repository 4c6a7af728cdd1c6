-- Pairs that were made of the first orders, one order more.
use Rattle.std.proofs.Common.{◌≡◌, ◌∙◌, ◌<◌, ◌++◌, ◌∷◌, [], ℕ, List, ap, arith, get_or, length, refl, sym}
use Rattle.std.proofs.lemmas.List.{get_or_default}
use Rattle.order_law.specs.declared.account.Account.{Account}
use Rattle.gate_audit.specs.Pairs.{OpenedOrder, Pair, paired}
use Rattle.gate_audit.specs.Passes.{pairs_with}

-- where there are both accounts for it
next-at : (os : List OpenedOrder) (o : OpenedOrder) (fix said : List Account) (x y : Account) (n : ℕ)
    → n ≡ length (pairs_with os fix said) → n < length fix → n < length said → x ≡ get_or fix n x → y ≡ get_or said n y
    → pairs_with (os ++ o ∷ []) fix said ≡ pairs_with os fix said ++ paired o.client o.id x y ∷ []
next-at [] o [] said x y n is some more is_x is_y = absurd (omega (arith, some))
next-at [] o (a ∷ fix) [] x y n is some more is_x is_y = absurd (omega (arith, more))
next-at [] o (a ∷ fix) (b ∷ said) x y ℕ.zero is some more is_x is_y =
    ap (λ (z : Account). paired o.client o.id z b ∷ []) (sym is_x)
    ∙ ap (λ (z : Account). paired o.client o.id x z ∷ []) (sym is_y)
next-at [] o (a ∷ fix) (b ∷ said) x y (ℕ.suc n) is some more is_x is_y =
    let none : ℕ.suc n ≡ 0 = is in absurd (omega (arith, none))
next-at (p ∷ os) o [] said x y n is some more is_x is_y = absurd (omega (arith, some))
next-at (p ∷ os) o (a ∷ fix) [] x y n is some more is_x is_y = absurd (omega (arith, more))
next-at (p ∷ os) o (a ∷ fix) (b ∷ said) x y ℕ.zero is some more is_x is_y =
    let one : 0 ≡ ℕ.suc (length (pairs_with os fix said)) = is in absurd (omega (arith, one))
next-at (p ∷ os) o (a ∷ fix) (b ∷ said) x y (ℕ.suc n) is some more is_x is_y =
    let one : ℕ.suc n ≡ ℕ.suc (length (pairs_with os fix said)) = is in
    ap (λ (ps : List Pair). paired p.client p.id a b ∷ ps)
    (next-at os o fix said x y n (omega (arith, one)) (omega (arith, some)) (omega (arith, more)) is_x is_y)

pub next-pair : (os : List OpenedOrder) (o : OpenedOrder) (fix said : List Account) (d e : Account) (made : List Pair)
    (n : ℕ) → made ≡ pairs_with os fix said → n ≡ length made → n < length fix → n < length said
    → made ++ paired o.client o.id (get_or fix n d) (get_or said n e) ∷ [] ≡ pairs_with (os ++ o ∷ []) fix said
next-pair os o fix said d e made n is many some more =
    let x : Account = get_or fix n d in
    let y : Account = get_or said n e in
    ap (λ (ps : List Pair). ps ++ paired o.client o.id x y ∷ []) is
    ∙ sym (next-at os o fix said x y n (many ∙ ap (λ (ps : List Pair). length ps) is) some more
    (get_or_default fix n d x some) (get_or_default said n e y more))

-- where one of them is missing
none-at : (os : List OpenedOrder) (o : OpenedOrder) (fix said : List Account) (n : ℕ)
    → n ≡ length (pairs_with os fix said) → (n < length fix → n < length said → ⊥)
    → pairs_with os fix said ≡ pairs_with (os ++ o ∷ []) fix said
none-at [] o [] said n is none = refl
none-at [] o (a ∷ fix) [] n is none = refl
none-at [] o (a ∷ fix) (b ∷ said) n is none =
    let first : n ≡ 0 = is in absurd (none (omega (arith, first)) (omega (arith, first)))
none-at (p ∷ os) o [] said n is none = refl
none-at (p ∷ os) o (a ∷ fix) [] n is none = refl
none-at (p ∷ os) o (a ∷ fix) (b ∷ said) ℕ.zero is none =
    let one : 0 ≡ ℕ.suc (length (pairs_with os fix said)) = is in absurd (omega (arith, one))
none-at (p ∷ os) o (a ∷ fix) (b ∷ said) (ℕ.suc n) is none =
    let one : ℕ.suc n ≡ ℕ.suc (length (pairs_with os fix said)) = is in
    ap (λ (ps : List Pair). paired p.client p.id a b ∷ ps)
    (none-at os o fix said n (omega (arith, one)) (λ some more. none (omega (arith, some)) (omega (arith, more))))

pub no-pair : (os : List OpenedOrder) (o : OpenedOrder) (fix said : List Account) (made : List Pair)
    → made ≡ pairs_with os fix said → (length made < length fix → length made < length said → ⊥)
    → made ≡ pairs_with (os ++ o ∷ []) fix said
no-pair os o fix said made is none =
    is ∙ none-at os o fix said (length made) (ap (λ (ps : List Pair). length ps) is) none
