-- Equal numbers and texts have equal keys.
use Rattle.std.proofs.Common.{◌≡◌, ℕ, true, ◌&&◌, List, refl, ap, ◌∙◌, eq-eqb}
use Rattle.std.specs.Cmp.Lexicographic.{bytes_decides}
use Rattle.undo_index.specs.declared.text_key.TextKey.{TextKey}
use Rattle.undo_index.specs.TextKeys.{same_key, text_key}

pub key-itself : (k : TextKey) → same_key k k ≡ true
key-itself k = λ j. eq-eqb k.number k.number refl j
    && (eq-eqb k.len k.len refl j && (bytes_decides k.bytes k.bytes).1 refl j)

pub key-of-same : (m n : ℕ) (xs ys : List ℕ) → m ≡ n → xs ≡ ys → same_key (text_key m xs) (text_key n ys) ≡ true
key-of-same m n xs ys numbers texts =
    ap (λ (a : ℕ). same_key (text_key a xs) (text_key n ys)) numbers
    ∙ ap (λ (zs : List ℕ). same_key (text_key n zs) (text_key n ys)) texts
    ∙ key-itself (text_key n ys)
