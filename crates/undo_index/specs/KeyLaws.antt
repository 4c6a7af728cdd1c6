-- Equal keys are the same, and are hashed alike.
use Rattle.std.proofs.Common.{◌≡◌, true, ◌&&◌, [], ◌∷◌, ◌++◌, ap, eqb-true}
use Rattle.std.specs.Prelude.{nat_eq, bytes_eq, take}
use Rattle.std.specs.Cmp.Lexicographic.{bytes_decides}
use Rattle.std.specs.Hash as fed
use Rattle.std.proofs.lemmas.Bool.{and_parts}
use Rattle.undo_index.specs.declared.text_key.TextKey.{TextKey}
use Rattle.undo_index.specs.TextKeys.{same_key, whole_words}

pub same-is : (x y : TextKey) → same_key x y ≡ true → x ≡ y
same-is x y e =
    let parts = and_parts (nat_eq x.number y.number) (nat_eq x.len y.len && bytes_eq x.bytes y.bytes) e in
    let rest = and_parts (nat_eq x.len y.len) (bytes_eq x.bytes y.bytes) parts.1 in
    (λ j. record {
      number = eqb-true x.number y.number parts.0 j;
      len = eqb-true x.len y.len rest.0 j;
      bytes = (bytes_decides x.bytes y.bytes).0 rest.1 j;
    })

pub hash-alike : (x y : TextKey) → same_key x y ≡ true → (fed.u64 x.number ++ take (whole_words x.len) x.bytes ∷ [])
    ≡ (fed.u64 y.number ++ take (whole_words y.len) y.bytes ∷ [])
hash-alike x y e = ap (λ (k : TextKey). fed.u64 k.number ++ take (whole_words k.len) k.bytes ∷ []) (same-is x y e)
