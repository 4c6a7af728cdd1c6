-- One change more leaves what was settled.
use Rattle.std.proofs.Common.{◌≡◌, ℕ, zero, suc, ◌<◌, ◌≤◌, List, [], ◌∷◌, ◌++◌, reverse, take, length, get_or}
use Rattle.std.proofs.Common.{slice_get, slice_set, refl, sym, ap, ◌∙◌, arith}
use Rattle.std.specs.Prelude.{Option, Some}
use Rattle.std.proofs.lemmas.List.{reverse-append}
use Rattle.std.proofs.lemmas.Option.{slice_get-get_or, slice_get_within}
use Rattle.orders.specs.order_machine.OrderRecord.{OrderRecord}
use Rattle.orders.specs.PutBack.{put_back}
use Rattle.orders.specs.declared.earlier_order.EarlierOrder.{EarlierOrder}
use Rattle.undo_index.specs.Undoing.{IsWithin}
use Rattle.orders.specs.order_trades.Marking.{changed_at}
use Rattle.undo_orders.specs.PuttingBack.{restored, settled_of}
use Rattle.undo_orders.specs.declared.list.Was.{Was}

put-back : {A : Type 0} (f : A → A) (n : ℕ) (xs : List A) (p : ℕ) (x y : A) → slice_get xs p ≡ Some y → f x ≡ y
    → changed_at f p (take n (slice_set xs p x)) ≡ take n xs
put-back f zero xs p x y was back = refl
put-back f (suc n) [] p x y was back = refl
put-back f (suc n) (a ∷ xs) zero x y was back = let same : a ≡ y = cc in ap (λ b. b ∷ take n xs) (back ∙ sym same)
put-back f (suc n) (a ∷ xs) (suc p) x y was back = ap (λ zs. a ∷ zs) (put-back f n xs p x y was back)

pub changed-once : (count : ℕ) (ws : List Was) (w : Was) (xs : List OrderRecord) (x was : OrderRecord)
    → slice_get xs w.place ≡ Some was → put_back w.earlier x ≡ was
    → settled_of count (ws ++ w ∷ []) (slice_set xs w.place x) ≡ settled_of count ws xs
changed-once count ws w xs x was at back =
    ap (λ (rs : List Was). restored rs (take count (slice_set xs w.place x))) (reverse-append ws (w ∷ []))
    ∙ ap (restored (reverse ws)) (put-back (put_back w.earlier) count xs w.place x was at back)

same-some : {A : Type 0} (a b : A) → ◌≡◌ {A = Option A} (Some a) (Some b) → a ≡ b
same-some a b e = cc

-- an order at a place is changed: once as it is looked at, and once as it is written
pub kept : (count : ℕ) (ws vs : List Was) (os : List OrderRecord) (place : ℕ) (earlier : EarlierOrder)
    (seen was now : OrderRecord) → place < length os → seen ≡ get_or os place seen → was ≡ get_or os place was
    → (seen ≡ was → put_back earlier now ≡ was) → vs ≡ ws ++ record { place = place; earlier = earlier } ∷ []
    → settled_of count vs (slice_set os place now) ≡ settled_of count ws os
kept count ws vs os place earlier seen was now inside is_seen is_was back noted =
    let at_seen : slice_get os place ≡ Some seen = slice_get-get_or os place seen inside ∙ ap Some (sym is_seen) in
    let at_was : slice_get os place ≡ Some was = slice_get-get_or os place was inside ∙ ap Some (sym is_was) in
    let same : seen ≡ was = same-some seen was (sym at_seen ∙ at_was) in
    ap (λ (zs : List Was). settled_of count zs (slice_set os place now)) noted
    ∙ changed-once count ws (record { place = place; earlier = earlier }) os now was at_was (back same)

get-taken : {A : Type 0} (n : ℕ) (xs : List A) (i : ℕ) (a : A) → slice_get (take n xs) i ≡ Some a
    → slice_get xs i ≡ Some a
get-taken zero xs i a at = absurd (omega (arith, slice_get_within (take 0 xs) i a at))
get-taken (suc n) [] i a at = at
get-taken (suc n) (x ∷ xs) zero a at = at
get-taken (suc n) (x ∷ xs) (suc i) a at = get-taken n xs i a at

-- where nothing was changed, what was settled stands still
pub settled-still : (count : ℕ) (ws : List Was) (xs : List OrderRecord) → length ws ≡ 0
    → IsWithin (settled_of count ws xs) xs
settled-still count [] xs none = get-taken count xs
settled-still count (w ∷ ws) xs none = absurd (omega (arith, none))

-- ---- one order put back

changed-set : {A : Type 0} (f : A → A) (xs : List A) (p : ℕ) (d : A) → p < length xs
    → slice_set xs p (f (get_or xs p d)) ≡ changed_at f p xs
changed-set f [] p d inside = absurd (omega arith)
changed-set f (x ∷ xs) zero d inside = refl
changed-set f (x ∷ xs) (suc p) d inside = ap (λ ys. x ∷ ys) (changed-set f xs p d (omega arith))

pub one-back : (w : Was) (xs : List OrderRecord) (x d : OrderRecord) → w.place < length xs
    → x ≡ put_back w.earlier (get_or xs w.place d) → slice_set xs w.place x ≡ changed_at (put_back w.earlier) w.place xs
one-back w xs x d inside back = ap (slice_set xs w.place) back ∙ changed-set (put_back w.earlier) xs w.place d inside

none-behind : {A : Type 0} (f : A → A) (xs : List A) (p : ℕ) → length xs ≤ p → changed_at f p xs ≡ xs
none-behind f [] p behind = refl
none-behind f (x ∷ xs) zero behind = absurd (omega arith)
none-behind f (x ∷ xs) (suc p) behind = ap (λ ys. x ∷ ys) (none-behind f xs p (omega arith))

pub none-back : (w : Was) (xs : List OrderRecord) → length xs ≤ w.place
    → changed_at (put_back w.earlier) w.place xs ≡ xs
none-back w xs behind = none-behind (put_back w.earlier) xs w.place behind
