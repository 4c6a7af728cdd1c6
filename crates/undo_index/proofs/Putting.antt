-- One change more leaves what was settled.
use Rattle.std.proofs.Common.{◌≡◌, ℕ, zero, suc, ◌<◌, List, [], ◌∷◌, ◌++◌, reverse, take, length, get_or, slice_get}
use Rattle.std.proofs.Common.{slice_set, refl, sym, ap, ◌∙◌, arith}
use Rattle.std.specs.Prelude.{Some}
use Rattle.std.proofs.lemmas.List.{reverse-append}
use Rattle.std.proofs.lemmas.Option.{slice_get_within}
use Rattle.undo_index.specs.declared.list.Was.{Was}
use Rattle.undo_index.specs.Undoing.{IsWithin, restored, settled_of}

put-back : {T : Type 0} (n : ℕ) (xs : List T) (p : ℕ) (x a d : T) → p < length xs → get_or xs p d ≡ a
    → slice_set (take n (slice_set xs p x)) p a ≡ take n xs
put-back zero xs p x a d inside was = refl
put-back (suc n) [] p x a d inside was = absurd (omega arith)
put-back (suc n) (y ∷ ys) zero x a d inside was = ap (λ b. b ∷ take n ys) (sym was)
put-back (suc n) (y ∷ ys) (suc p) x a d inside was = ap (λ zs. y ∷ zs) (put-back n ys p x a d (omega arith) was)

pub changed-once : {T : Type 0} (count : ℕ) (ws : List (Was T)) (w : Was T) (xs : List T) (x d : T)
    → w.place < length xs → get_or xs w.place d ≡ w.item
    → settled_of count (ws ++ w ∷ []) (slice_set xs w.place x) ≡ settled_of count ws xs
changed-once {T = T} count ws w xs x d inside was =
    ap (λ (rs : List (Was T)). restored rs (take count (slice_set xs w.place x))) (reverse-append ws (w ∷ []))
    ∙ ap (restored (reverse ws)) (put-back count xs w.place x w.item d inside was)

get-taken : {T : Type 0} (n : ℕ) (xs : List T) (i : ℕ) (a : T) → slice_get (take n xs) i ≡ Some a
    → slice_get xs i ≡ Some a
get-taken zero xs i a at = absurd (omega (arith, slice_get_within (take 0 xs) i a at))
get-taken (suc n) [] i a at = at
get-taken (suc n) (x ∷ xs) zero a at = at
get-taken (suc n) (x ∷ xs) (suc i) a at = get-taken n xs i a at

-- where nothing was changed, what was settled stands still
pub settled-still : {T : Type 0} (count : ℕ) (ws : List (Was T)) (xs : List T) → length ws ≡ 0
    → IsWithin (settled_of count ws xs) xs
settled-still count [] xs none = get-taken count xs
settled-still count (w ∷ ws) xs none = absurd (omega (arith, none))
