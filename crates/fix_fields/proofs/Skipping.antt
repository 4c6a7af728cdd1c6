-- A search that begins behind fields of other remainders.
use Rattle.std.proofs.Common.{◌≡◌, ◌≢◌, ℕ, zero, suc, ◌+◌, ◌-◌, ◌≤◌, ◌<◌, ◌%◌, Bool, true, false, List, [], ◌∷◌, ◌++◌}
use Rattle.std.proofs.Common.{length, take, drop, refl, sym, ap, ◌∙◌, arith, ◌==◌, get_or}
use Rattle.std.specs.Prelude.{Some, not, ◌&&◌, find, if◌then◌else◌}
use Rattle.std.specs.List.{list_all}
use Rattle.std.proofs.lemmas.Bool.Decides.{nat_tests}
use Rattle.std.proofs.lemmas.List.{take_all, drop_more, length-drop, length-append, take-append-le}
use Rattle.fix_fields.specs.declared.span.Span.{Span}
use Rattle.fix_fields.specs.Skips.{is_elsewhere, IsSkip, AreSkips}
use Rattle.fix_fields.proofs.Tags.{and_parts}

-- a field elsewhere has another tag
pub other_tag : (tag : ℕ) (span : Span) → is_elsewhere (tag % 64) span ≡ true → (span.tag == tag) ≡ false
other_tag tag span h = by_test (span.tag == tag) refl
  where
    same : (n m : ℕ) → n ≡ m → (n % 64 == m % 64) ≡ true
    same n m e = rw e (grind (arith, nat_tests))

    no : (b : Bool) → b ≡ true → not b ≡ true → ⊥
    no true e h = cc
    no false e h = cc

    by_test : (b : Bool) → (span.tag == tag) ≡ b → b ≡ false
    by_test false e = refl
    by_test true e = absurd (no (span.tag % 64 == tag % 64) (same span.tag tag (grind (arith, nat_tests))) h)

pub passed_over : (tag : ℕ) (spans : List Span) (count : ℕ) → IsSkip spans (tag % 64) count
    → find (λ s. s.tag == tag) (drop count spans) ≡ find (λ s. s.tag == tag) spans
passed_over tag spans count skip = go spans count skip.elsewhere
  where
    go : (spans : List Span) (count : ℕ) → list_all (is_elsewhere (tag % 64)) (take count spans) ≡ true
        → find (λ s. s.tag == tag) (drop count spans) ≡ find (λ s. s.tag == tag) spans
    go spans zero h = refl
    go [] (suc count) h = refl
    go (span ∷ spans) (suc count) h =
        let both = and_parts (is_elsewhere (tag % 64) span) (list_all (is_elsewhere (tag % 64)) (take count spans)) h in
        go spans count both.1 ∙ ap (λ (b : Bool). if b then Some span else find (λ s. s.tag == tag) spans)
        (sym (other_tag tag span both.0))

-- nothing is passed over
pub nothing : (spans : List Span) (remainder count : ℕ) → count ≡ 0 → IsSkip spans remainder count
nothing spans remainder count e = rw e (record { within = omega arith; elsewhere = refl })

-- from a place on, none of the fields up to so many has a tag of the remainder
pub record SkipsFrom (at : ℕ) (spans : List Span) (remainder count : ℕ) : Type 0 where
  pub from : at ≤ count
  pub within : count ≤ length spans
  pub elsewhere : list_all (is_elsewhere remainder) (take (count - at) (drop at spans)) ≡ true

pub none_yet : (spans : List Span) (remainder at count : ℕ) → count ≡ at → at ≤ length spans
    → SkipsFrom at spans remainder count
none_yet spans remainder at count e le = rw e
    (record { from = omega arith; within = le; elsewhere = empty (at - at) (omega arith) })
  where
    empty : (n : ℕ) → n ≡ 0 → list_all (is_elsewhere remainder) (take n (drop at spans)) ≡ true
    empty n e = rw e refl

pub from_first : (spans : List Span) (remainder at count : ℕ) → at ≡ 0 → SkipsFrom at spans remainder count
    → IsSkip spans remainder count
from_first spans remainder at count e skips = record {
  within = skips.within;
  elsewhere = ap (λ n. list_all (is_elsewhere remainder) (take n spans)) (omega (arith, e))
      ∙ ap (λ n. list_all (is_elsewhere remainder) (take (count - at) (drop n spans))) (sym e) ∙ skips.elsewhere;
}

-- what is left of the list is searched
pub searched : (tag : ℕ) (spans : List Span) (behind count : ℕ) → behind ≡ count → IsSkip spans (tag % 64) count
    → find (λ s. s.tag == tag) (take (length spans - behind) (drop behind spans)) ≡ find (λ s. s.tag == tag) spans
searched tag spans behind count e skip =
    ap (λ k. find (λ s. s.tag == tag) (take (length spans - k) (drop k spans))) e
    ∙ ap (λ (l : List Span). find (λ s. s.tag == tag) l)
    (take_all (length spans - count) (drop count spans) (omega (arith, length-drop count spans)))
    ∙ passed_over tag spans count skip

elsewhere : (n r : ℕ) → r ≢ n → not (n == r) ≡ true
elsewhere n r other = grind (arith, nat_tests)

both_true : {b c : Bool} → b ≡ true → c ≡ true → (b && c) ≡ true
both_true e f = rw (e, f) refl

-- a field more in front
pub one_more : (spans : List Span) (remainder at count set : ℕ) (d : Span) → 0 < at → at ≤ length spans
    → SkipsFrom at spans remainder count
    → (remainder ≡ (get_or spans (at - 1) d).tag % 64 → set ≡ at - 1)
    → (remainder ≢ (get_or spans (at - 1) d).tag % 64 → set ≡ count) → SkipsFrom (at - 1) spans remainder set
one_more spans remainder at count set d low le skips same other =
    by_test (remainder == (get_or spans (at - 1) d).tag % 64) refl
  where
    by_test : (b : Bool) → (remainder == (get_or spans (at - 1) d).tag % 64) ≡ b
        → SkipsFrom (at - 1) spans remainder set
    by_test true e = none_yet spans remainder (at - 1) set (same (grind (arith, nat_tests))) (omega arith)
    by_test false e =
        let is : set ≡ count = other (grind (arith, nat_tests)) in
        let next : drop (at - 1) spans ≡ get_or spans (at - 1) d ∷ drop (at - 1 + 1) spans =
        drop_more spans (at - 1) d (omega arith) in
        let back : at - 1 + 1 ≡ at = omega arith in
        let size : count - (at - 1) ≡ suc (count - at) = omega (arith, skips.from) in
        rw is (record {
          from = omega (arith, skips.from);
          within = skips.within;
          elsewhere = ap (λ (l : List Span). list_all (is_elsewhere remainder) (take (count - (at - 1)) l))
              (next ∙ ap (λ n. get_or spans (at - 1) d ∷ drop n spans) back)
              ∙ ap (λ n. list_all (is_elsewhere remainder) (take n (get_or spans (at - 1) d ∷ drop at spans))) size
              ∙ both_true (elsewhere ((get_or spans (at - 1) d).tag % 64) remainder (grind (arith, nat_tests)))
              skips.elsewhere;
        })

-- the same, at the place that the code computes
pub one_more_at : (spans : List Span) (remainder at from count set : ℕ) (d : Span) → from ≡ at - 1 → 0 < at
    → at ≤ length spans → SkipsFrom at spans remainder count
    → (remainder ≡ (get_or spans from d).tag % 64 → set ≡ at - 1)
    → (remainder ≢ (get_or spans from d).tag % 64 → set ≡ count) → SkipsFrom (at - 1) spans remainder set
one_more_at spans remainder at from count set d e low le skips same other =
    let is : (get_or spans (at - 1) d).tag % 64 ≡ (get_or spans from d).tag % 64 =
    ap (λ n. (get_or spans n d).tag % 64) (sym e) in
    one_more spans remainder at count set d low le skips (λ q. same (q ∙ is)) (λ q. other (λ w. q (w ∙ sym is)))

-- fields behind others leave what may be passed over
pub skip-append : (spans more : List Span) (remainder count : ℕ) → IsSkip spans remainder count
    → IsSkip (spans ++ more) remainder count
skip-append spans more remainder count skip = record {
  within = omega (arith, skip.within, length-append spans more);
  elsewhere = ap (λ (l : List Span). list_all (is_elsewhere remainder) l) (take-append-le count spans more skip.within)
      ∙ skip.elsewhere;
}

pub skips-append : (skips : List ℕ) (spans room more all : List Span) → room ≡ spans → all ≡ room ++ more
    → AreSkips skips spans → AreSkips skips all
skips-append skips spans room more all r a are =
    rw (a, r) (λ remainder small. skip-append spans more remainder _ (are remainder small))
