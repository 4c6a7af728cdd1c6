-- Where the next SOH stands.
use Rattle.std.proofs.Common.{◌≡◌, ◌≢◌, ℕ, ◌+◌, ◌-◌, ◌<◌, ◌≤◌, Bool, true, false, List, [], ◌∷◌, ◌++◌, length, get_or}
use Rattle.std.proofs.Common.{take, drop, refl, sym, ap, ◌∙◌, arith, append_assoc, decimal, eqb, cond, map, ◌==◌}
use Rattle.std.specs.Prelude.{bytes_eq, None}
use Rattle.std.specs.Simd.Lanes.{mask_l}
use Rattle.std.specs.Char.{is_ascii_digit}
use Rattle.std.specs.List.{prefix_len}
use Rattle.std.proofs.lemmas.Bool.{false≢true}
use Rattle.std.proofs.lemmas.Bool.Decides.{nat_tests}
use Rattle.std.proofs.lemmas.List.{append-nil, take-append-drop, take-take, drop_at, get_or-drop, length-append}
use Rattle.std.proofs.lemmas.List.{length-drop, length-take}
use Rattle.std.proofs.lemmas.List.Folds.{prefix_len-append}
use Rattle.std.proofs.lemmas.List.Sums.{prefix_len_passes, prefix_len-le-length, prefix_len-drop_yes, sum_by-append}
use Rattle.std.proofs.lemmas.List.Sums.{sum_by-take-le, count_by-le-length, count_by_more_yes}
use Rattle.std.proofs.lemmas.Simd.{chunk-drop}
use Rattle.std.proofs.Math.Seq.{take-add}
use Rattle.std.proofs.lemmas.Slice.Eq.{bytes_eq-Decides}
use Rattle.fix_fields.specs.Field.{Field, is_inside, field_text, fields_text}
use Rattle.fix_fields.specs.Front.{soh_behind, is_soh, sohs, AreEnded, IsFront}
use Rattle.fix_fields.specs.declared.span.Span.{Span}
use Rattle.fix_fields.specs.Reading.{fields_of}
use Rattle.fix_fields.specs.Spans.{field_at}
use Rattle.fix_fields.proofs.Tags.{cut}
use Rattle.fix_fields.proofs.TagPlaces.{there}
use Rattle.fix_fields.proofs.Reading.{fields_of-none}

-- ---- the end of a text

-- from each place of a text that ends with SOH on, one stands
pub ended_by : (text : List ℕ) → get_or text (length text - 1) 0 ≡ 1 → AreEnded text
ended_by text last at lt = omega (arith, prefix_len-le-length is_inside (drop at text), length-drop at text, some)
  where
    some : at + prefix_len is_inside (drop at text) ≢ length text
    some all = false≢true (sym (ap is_inside (there text at (length text - 1) (omega arith) ∙ last))
        ∙ prefix_len_passes is_inside (drop at text) (length text - 1 - at) 0 (omega arith))

pub ended_by_back : (text : List ℕ) → bytes_eq (1 ∷ []) (drop (length text - 1) text) ≡ true → AreEnded text
ended_by_back text h =
    let e : 1 ∷ [] ≡ drop (length text - 1) text = (bytes_eq-Decides (1 ∷ []) (drop (length text - 1) text)).0 h in
    ended_by text (ap (λ n. get_or text n 0) (omega arith) ∙ sym (get_or-drop (length text - 1) text 0 0)
    ∙ ap (λ (l : List ℕ). get_or l 0 0) (sym e))

-- what isn't SOH isn't its end
pub goes_on : (text : List ℕ) (at : ℕ) → AreEnded text → at < length text → is_inside (get_or text at 0) ≡ true
    → at + 1 < length text
goes_on text at ended lt inside = omega (arith, ended at lt, prefix_len-drop_yes is_inside text at 0 lt inside)

digit_inside : (byte : ℕ) → is_ascii_digit byte ≡ true → is_inside byte ≡ true
digit_inside byte digit = grind (arith, nat_tests)

pub digit_goes_on : (text : List ℕ) (at : ℕ) → AreEnded text → at < length text
    → is_ascii_digit (get_or text at 0) ≡ true → at + 1 < length text
digit_goes_on text at ended lt digit = goes_on text at ended lt (digit_inside (get_or text at 0) digit)

pub equals_goes_on : (text : List ℕ) (at : ℕ) → AreEnded text → at < length text → get_or text at 0 ≡ 61
    → at + 1 < length text
equals_goes_on text at ended lt equals = goes_on text at ended lt (ap is_inside equals)

-- fields end with SOH
soh_last : (f : Field) (fs : List Field) → (front : List ℕ) × (fields_text (f ∷ fs) ≡ front ++ 1 ∷ [])
soh_last f [] = (
  decimal f.tag ++ 61 ∷ f.value,
  append-nil (field_text f)
      ∙ sym (append_assoc (decimal f.tag) (61 ∷ f.value) (1 ∷ [])),
)
soh_last f (g ∷ fs) =
    let rest = soh_last g fs in (
      field_text f ++ rest.0,
      ap (λ (l : List ℕ). field_text f ++ l) rest.1
          ∙ sym (append_assoc (field_text f) rest.0 (1 ∷ [])),
    )

back_is : (text front : List ℕ) → text ≡ front ++ 1 ∷ [] → drop (length text - 1) text ≡ 1 ∷ []
back_is text front e =
    let size : length text ≡ length front + 1 = ap (λ (l : List ℕ). length l) e ∙ length-append front (1 ∷ []) in
    ap (λ (l : List ℕ). drop (length text - 1) l) e ∙ drop_at front (1 ∷ []) (length text - 1) (omega (arith, size))

pub fields_end : (text : List ℕ) (fs : List Field) → fields_text fs ≡ text → length text ≢ 0
    → bytes_eq (1 ∷ []) (drop (length text - 1) text) ≡ true
fields_end text [] e some = absurd (some (ap (λ (l : List ℕ). length l) (sym e)))
fields_end text (f ∷ fs) e some =
    let last = soh_last f fs in
    (bytes_eq-Decides (1 ∷ []) (drop (length text - 1) text)).1 (sym (back_is text last.0 (sym e ∙ last.1)))

-- so a text that doesn't isn't fields
pub not_ended : (text : List ℕ) (ended : Bool) → ended ≡ false
    → ((fs : List Field) → fields_text fs ≡ text → ended ≡ true) → fields_of text ≡ None
not_ended text ended isnt fields = fields_of-none text (λ fs good e. false≢true (sym isnt ∙ fields fs e))

-- ---- sixteen bytes at once

cut_at : (text : List ℕ) (at : ℕ) → at + 16 ≤ length text → prefix_len is_inside (drop at text)
    ≡ cond (eqb (prefix_len is_inside (take 16 (drop at text))) 16) (16 + prefix_len is_inside (drop (at + 16) text))
    (prefix_len is_inside (take 16 (drop at text)))
cut_at text at room =
    let size : length (take 16 (drop at text)) ≡ 16 = omega (arith, length-take 16 (drop at text), length-drop at text)
    in
    ap (λ (l : List ℕ). prefix_len is_inside l) (chunk-drop at 16 text)
    ∙ prefix_len-append is_inside (take 16 (drop at text)) (drop (at + 16) text)
    ∙ ap (λ n. cond (eqb (prefix_len is_inside (take 16 (drop at text))) n)
    (n + prefix_len is_inside (drop (at + 16) text)) (prefix_len is_inside (take 16 (drop at text)))) size

-- where none stands among some bytes, none is marked
unmarked : (bytes : List ℕ) → prefix_len is_inside bytes ≡ length bytes → mask_l (map is_soh bytes) ≡ 0
unmarked [] all = refl
unmarked (byte ∷ bytes) all = by_test (byte == 1) (unmarked bytes) refl
  where
    by_test : (b : Bool) → (prefix_len is_inside bytes ≡ length bytes → mask_l (map is_soh bytes) ≡ 0) → (byte == 1) ≡ b
        → mask_l (map is_soh (byte ∷ bytes)) ≡ 0
    by_test true later e = absurd (none (rw e at all))
      where
        none : 0 ≡ length (byte ∷ bytes) → ⊥
        none h = omega arith
    by_test false later e =
        let rest : 1 + prefix_len is_inside bytes ≡ length (byte ∷ bytes) = rw e at all in
        rw (e, later (omega (arith, rest))) refl

-- one stands among them
pub soh_among : (text : List ℕ) (at size : ℕ) → at + 16 ≤ length text → mask_l (map is_soh (take 16 (drop at text))) ≢ 0
    → size ≡ prefix_len is_inside (take 16 (drop at text)) → at + size ≡ soh_behind text at
soh_among text at size room marked is =
    let long : length (take 16 (drop at text)) ≡ 16 = omega (arith, length-take 16 (drop at text), length-drop at text)
    in
    let other : eqb (prefix_len is_inside (take 16 (drop at text))) 16 ≡ false = grind (arith, nat_tests, few long) in
    let cut : prefix_len is_inside (drop at text) ≡ prefix_len is_inside (take 16 (drop at text)) = cut_at text at room
    ∙ rw other refl in
    omega (arith, cut, is)
  where
    few : length (take 16 (drop at text)) ≡ 16 → prefix_len is_inside (take 16 (drop at text)) ≢ 16
    few long all = marked (unmarked (take 16 (drop at text)) (all ∙ sym long))

-- or none does
pub soh_after : (text : List ℕ) (at : ℕ) → at + 16 ≤ length text → prefix_len is_inside (take 16 (drop at text)) ≡ 16
    → soh_behind text at ≡ soh_behind text (at + 16)
soh_after text at room is =
    let all : eqb (prefix_len is_inside (take 16 (drop at text))) 16 ≡ true = grind (arith, nat_tests, is) in
    let cut : prefix_len is_inside (drop at text) ≡ 16 + prefix_len is_inside (drop (at + 16) text) =
    cut_at text at room ∙ rw all refl in
    omega (arith, cut)

-- ---- how many there are

sohs-append : (front behind : List ℕ) → sohs (front ++ behind) ≡ sohs front + sohs behind
sohs-append front behind = sum_by-append _ front behind

-- those of a part more
pub sohs_more : (text : List ℕ) (at more : ℕ)
    → sohs (take (at + more) text) ≡ sohs (take at text) + sohs (take more (drop at text))
sohs_more text at more = ap (λ (l : List ℕ). sohs l) (take-add at more text)
    ∙ sohs-append (take at text) (take more (drop at text))

pub sohs_all : (text : List ℕ) (at : ℕ) → sohs text ≡ sohs (take at text) + sohs (drop at text)
sohs_all text at = ap (λ (l : List ℕ). sohs l) (sym (take-append-drop at text))
    ∙ sohs-append (take at text) (drop at text)

-- no more than bytes
pub few_sohs : (text : List ℕ) (at : ℕ) → sohs (take at text) ≤ at
few_sohs text at = omega (arith, count_by-le-length is_soh (take at text), length-take at text)

-- a field has one, so that there is room for its place
pub one_soh_more : (text : List ℕ) (at end : ℕ) → at ≤ end → end < length text → get_or text end 0 ≡ 1
    → (sohs (take at text) + 1 ≤ sohs (take (end + 1) text)) × (sohs (take (end + 1) text) ≤ sohs text)
one_soh_more text at end le lt soh =
    let here : sohs (take (end + 1) text) ≡ sohs (take end text) + 1 =
    count_by_more_yes is_soh text end 0 lt (ap is_soh soh) in
    let before : sohs (take at (take end text)) ≤ sohs (take end text) = sum_by-take-le _ (take end text) at in
    let same : sohs (take at (take end text)) ≡ sohs (take at text) =
    ap (λ (l : List ℕ). sohs l) (take-take at end text le) in
    let all : sohs (take (end + 1) text) ≤ sohs text = sum_by-take-le _ text (end + 1) in
    (omega (arith, here, before, same), all)

soh_of_front : (text : List ℕ) (at : ℕ) (span : Span) → at ≤ length text → IsFront text at span
    → get_or text span.end 0 ≡ 1
soh_of_front text at span le found =
    let f = field_at text span in
    let front : List ℕ = decimal f.tag ++ 61 ∷ f.value in
    let behind : List ℕ = drop (span.end + 1) text in
    let e : drop at text ≡ front ++ 1 ∷ behind = found.spelled ∙ simp append_assoc in
    let is = cut (drop at text) front 1 behind e in
    let size : at + length front ≡ span.end =
    omega (
      arith,
      ap (λ (l : List ℕ). length l) e,
      length-append front (1 ∷ behind),
      length-drop at text,
      length-drop
          (span.end + 1) text,
      found.ends,
    ) in
    ap (λ n. get_or text n 0) (sym size) ∙ sym (get_or-drop at text (length front) 0) ∙ is.element

-- there is room for the places of the fields that are read, and for all that come
pub record HasRoom (text : List ℕ) (at : ℕ) (spans : List Span) (room : ℕ) : Type 0 where
  pub used : length spans ≤ sohs (take at text)
  pub all : room ≡ sohs text

pub room_for_one : (text : List ℕ) (at room : ℕ) (spans : List Span) (span : Span) → at ≤ length text
    → IsFront text at span → HasRoom text at spans room → length spans < room
room_for_one text at room spans span le found has =
    let more = one_soh_more text at span.end (omega (arith, found.starts, found.ordered)) found.ends
    (soh_of_front text at span le found) in
    omega (arith, has.used, has.all, more.0, more.1)

pub room_behind : (text : List ℕ) (at room : ℕ) (spans : List Span) (span : Span) → at ≤ length text
    → IsFront text at span → HasRoom text at spans room → HasRoom text (span.end + 1) (spans ++ span ∷ []) room
room_behind text at room spans span le found has =
    let more = one_soh_more text at span.end (omega (arith, found.starts, found.ordered)) found.ends
    (soh_of_front text at span le found) in
    record { used = omega (arith, has.used, more.0, length-append spans (span ∷ [])); all = has.all }
