-- Each field of a message may be one of another.
use Rattle.std.proofs.Common.{◌≡◌, ◌≤◌, ◌<◌, ◌+◌, ℕ, zero, suc, true, List, [], ◌∷◌, ◌++◌, take, drop, length, Some}
use Rattle.std.proofs.Common.{sym, ap, ◌∙◌, arith}
use Rattle.std.specs.Prelude.{slice_get, nat_le, ◌&&◌}
use Rattle.std.specs.List.{list_all}
use Rattle.std.proofs.lemmas.List.{take_more, drop-append-le, length-take-le}
use Rattle.std.proofs.lemmas.Option.{slice_get_within, get_or_from_slice_get}
use Rattle.std.proofs.lemmas.Bool.{and_parts}
use Rattle.std.proofs.lemmas.Bool.Decides.{nat_tests}
use Rattle.fix_fields.specs.Field.{AreFields, Field, IsTag, IsValue, is_field, is_inside, last_tag}

all-at : (fs : List Field) (i : ℕ) (f : Field) → AreFields fs → slice_get fs i ≡ Some f → is_field f ≡ true
all-at [] i f all at_i = absurd (cc)
all-at (g ∷ gs) zero f all at_i = let same : g ≡ f = cc in ap is_field (sym same)
    ∙ (and_parts (is_field g) (list_all is_field gs) all).0
all-at (g ∷ gs) (suc i) f all at_i = all-at gs i f (and_parts (is_field g) (list_all is_field gs) all).1 at_i

pub tag-at : (fs : List Field) (i : ℕ) (f : Field) → AreFields fs → slice_get fs i ≡ Some f → IsTag f.tag
tag-at fs i f all at_i =
    let field : is_field f ≡ true = all-at fs i f all at_i in
    let least : nat_le 1 f.tag ≡ true = (and_parts (nat_le 1 f.tag)
    (nat_le f.tag last_tag && list_all is_inside f.value) field).0 in
    let rest = (and_parts (nat_le 1 f.tag) (nat_le f.tag last_tag && list_all is_inside f.value) field).1 in
    let most : nat_le f.tag last_tag ≡ true = (and_parts (nat_le f.tag last_tag) (list_all is_inside f.value) rest).0 in (
      grind (arith, nat_tests, least),
      grind (arith, nat_tests, most),
    )

pub value-at : (fs : List Field) (i : ℕ) (f : Field) → AreFields fs → slice_get fs i ≡ Some f → IsValue f.value
value-at fs i f all at_i =
    let field : is_field f ≡ true = all-at fs i f all at_i in
    (and_parts (nat_le f.tag last_tag) (list_all is_inside f.value)
    (and_parts (nat_le 1 f.tag) (nat_le f.tag last_tag && list_all is_inside f.value) field).1).1

-- one field more of a part
pub part-more : (fs : List Field) (from i : ℕ) (f : Field) → from ≤ i → slice_get fs i ≡ Some f
    → drop from (take (i + 1) fs) ≡ drop from (take i fs) ++ f ∷ []
part-more fs from i f behind at_i =
    let inside : i < length fs = slice_get_within fs i f at_i in
    let count : length (take i fs) ≡ i = length-take-le i fs (omega (arith, inside)) in
    ap (drop from) (take_more fs i f inside ∙ ap (λ (g : Field). take i fs ++ g ∷ [])
    (get_or_from_slice_get fs i f f at_i))
    ∙ drop-append-le from (take i fs) (f ∷ []) (omega (arith, behind, count))
