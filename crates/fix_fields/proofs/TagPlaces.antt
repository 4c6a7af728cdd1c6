-- Tags at their places in a text.
use Rattle.std.proofs.Common.{◌≡◌, ◌≢◌, ℕ, ◌+◌, ◌-◌, ◌*◌, ◌<◌, ◌≤◌, true, false, List, ◌++◌, length, get_or, take, drop}
use Rattle.std.proofs.Common.{refl, sym, ap, ◌∙◌, arith, decimal}
use Rattle.std.specs.Char.{is_ascii_digit}
use Rattle.std.specs.List.{list_all, prefix_len}
use Rattle.std.proofs.lemmas.Fmt.{decimal_nonempty, length-decimal-le, digits_value-decimal}
use Rattle.std.proofs.lemmas.List.{drop-drop, get_or-drop, get_or-take, length-drop, length-take, take-take}
use Rattle.std.proofs.lemmas.List.Folds.{length-prefix_len}
use Rattle.std.proofs.lemmas.List.Sums.{prefix_len_passes, prefix_len_stops, prefix_len-drop_yes, prefix_len-drop_no}
use Rattle.std.proofs.lemmas.Bool.{false≢true}
use Rattle.std.proofs.lemmas.Str.Parse.{digits_value_short}
use Rattle.wire_bytes.specs.Digits.{number_of}
use Rattle.wire_bytes.proofs.Numbers.{own, all_digits_more, digit_range, number_of_more, number_of-take-le}
use Rattle.fix_fields.specs.Field.{Field, is_field, is_inside, field_text}
use Rattle.fix_fields.specs.declared.span.TagPlace.{TagPlace}
use Rattle.fix_fields.specs.Front.{IsFront, HasField, AreDigits, IsTagAt, IsTagBegun, digits_from}
use Rattle.fix_fields.proofs.Tags.{front, found, inside_false, tag_text, tag-number_of, list_all-prefix_len}

-- no field is written from there on
abbrev pub NoField : List ℕ → ℕ → Type 0
NoField text at = (f : Field) (after : List ℕ) → is_field f ≡ true → drop at text ≢ field_text f ++ after

digits_of_tag : (n : ℕ) → 1 ≤ n → n ≤ 999_999_999 → (0 < length (decimal n)) × (length (decimal n) ≤ 9)
digits_of_tag n low high = (
  decimal_nonempty n (omega arith),
  length-decimal-le 9 n (omega arith) (omega arith)
      (omega arith),
)

-- nor are ten digits and more
pub too_many : (text : List ℕ) (at : ℕ) → 9 < digits_from text at → NoField text at
too_many text at many f after good e =
    let has = front (drop at text) f after good e in
    omega (arith, has.digits, (digits_of_tag f.tag has.low has.high).1)

-- nor digits without `=` behind them
pub no_equals_there : (text : List ℕ) (at end tag : ℕ) → AreDigits text at end tag → get_or text end 0 ≢ 61
    → NoField text at
no_equals_there text at end tag are other f after good e =
    let has = front (drop at text) f after good e in
    other (ap (λ n. get_or text n 0) are.place ∙ sym (get_or-drop at text (digits_from text at) 0) ∙ has.equals)

first_digit : (text : List ℕ) (at n : ℕ) → 0 < n → get_or (take n (drop at text)) 0 0 ≡ get_or text at 0
first_digit text at n some = get_or-take n (drop at text) 0 0 some ∙ get_or-drop at text 0 0
    ∙ ap (λ k. get_or text k 0) (omega arith)

-- nor what doesn't begin with a digit from 1 to 9
pub first_byte : (text : List ℕ) (at : ℕ) (f : Field) (after : List ℕ) → is_field f ≡ true
    → drop at text ≡ field_text f ++ after → (49 ≤ get_or text at 0) × (get_or text at 0 ≤ 57)
first_byte text at f after good e =
    let has = front (drop at text) f after good e in
    let first = (tag_text f.tag (take (digits_from text at) (drop at text)) has.low has.high has.tag).first in
    let some : 0 < digits_from text at = omega (arith, has.digits, (digits_of_tag f.tag has.low has.high).0) in
    let digit = digit_range (get_or (drop at text) 0 0) (prefix_len_passes is_ascii_digit (drop at text) 0 0 some) in
    let same : get_or (drop at text) 0 0 ≡ get_or text at 0 = get_or-drop at text 0 0
    ∙ ap (λ k. get_or text k 0) (omega arith) in
    (omega (arith, first, first_digit text at (digits_from text at) some), omega (arith, digit.1, same))

-- the digits are a tag
pub tag_there : (text : List ℕ) (at end tag : ℕ) → AreDigits text at end tag → get_or text end 0 ≡ 61 → end ≢ at
    → get_or text at 0 ≢ 48 → IsTagAt text at (record { tag = tag; end = end })
tag_there text at end tag are equals other nonzero =
    let digits : List ℕ = take (digits_from text at) (drop at text) in
    let some : 0 < digits_from text at = omega (arith, are.place) in
    let size : length digits ≡ digits_from text at = length-prefix_len is_ascii_digit (drop at text) in
    let read = tag-number_of digits (list_all-prefix_len is_ascii_digit (drop at text)) (omega arith)
    (omega (arith, are.place, are.short)) (λ z. nonzero (sym (first_digit text at (digits_from text at) some) ∙ z))
    in
    record {
      ends = are.ends;
      place_is = are.place;
      some = some;
      low = omega (arith, read.0, are.number);
      high = omega (arith, read.1, are.number);
      spelled = read.2 ∙ ap decimal (sym are.number);
      equals = equals;
    }

-- what a place further on has, from there
pub there : (text : List ℕ) (at end : ℕ) → at ≤ end → get_or (drop at text) (end - at) 0 ≡ get_or text end 0
there text at end le = get_or-drop at text (end - at) 0 ∙ ap (λ n. get_or text n 0) (omega arith)

-- one digit more
number_more : (text : List ℕ) (at end tag : ℕ) → at ≤ end → end < length text
    → tag ≡ number_of (take (end - at) (drop at text))
    → tag * 10 + (get_or text end 0 - 48) ≡ number_of (take (end + 1 - at) (drop at text))
number_more text at end tag le lt is =
    let k : ℕ = end - at in
    let next : end + 1 - at ≡ k + 1 = omega arith in
    let within : k < length (drop at text) = omega (arith, length-drop at text) in
    let more : number_of (take (k + 1) (drop at text))
    ≡ 10 * number_of (take k (drop at text)) + (get_or (drop at text) k 0 - 48) =
    number_of_more (drop at text) k within in
    omega (arith, more, is, there text at end le, ap (λ n. number_of (take n (drop at text))) next)

-- what is read with it
pub record IsMore (text : List ℕ) (at end read : ℕ) : Type 0 where
  pub ahead : at + digits_from text at ≡ end + 1 + digits_from text (end + 1)
  pub digits : list_all is_ascii_digit (take (end + 1 - at) (drop at text)) ≡ true
  pub number : read ≡ number_of (take (end + 1 - at) (drop at text))
  pub small : read < 1_000_000_000

pub one_more_digit : (text : List ℕ) (at end tag read : ℕ) → at ≤ end → end < length text → end + 1 ≤ at + 9
    → at + digits_from text at ≡ end + digits_from text end
    → list_all is_ascii_digit (take (end - at) (drop at text)) ≡ true → tag ≡ number_of (take (end - at) (drop at text))
    → is_ascii_digit (get_or text end 0) ≡ true → read ≡ tag * 10 + (get_or text end 0 - 48)
    → IsMore text at end read
one_more_digit text at end tag read le lt few ahead digits number digit r =
    let k : ℕ = end - at in
    let next : end + 1 - at ≡ k + 1 = omega arith in
    let within : k < length (drop at text) = omega (arith, length-drop at text) in
    let more : list_all is_ascii_digit (take (k + 1) (drop at text)) ≡ true =
    all_digits_more (drop at text) k within digits (ap is_ascii_digit (there text at end le) ∙ digit) in
    let all : list_all is_ascii_digit (take (end + 1 - at) (drop at text)) ≡ true =
    ap (λ n. list_all is_ascii_digit (take n (drop at text))) next ∙ more in
    let is : read ≡ number_of (take (end + 1 - at) (drop at text)) = r ∙ number_more text at end tag le lt number in
    let size : length (take (end + 1 - at) (drop at text)) ≤ 9 =
    omega (arith, length-take (end + 1 - at) (drop at text)) in
    let short : number_of (take (end + 1 - at) (drop at text)) < 1_000_000_000 =
    digits_value_short own (take (end + 1 - at) (drop at text)) 9 all size in
    record {
      ahead = omega (arith, ahead, prefix_len-drop_yes is_ascii_digit text end 0 lt digit);
      digits = all;
      number = is;
      small = omega (arith, is, short);
    }

-- a tenth digit
pub tenth : (text : List ℕ) (at end : ℕ) → end < length text → at + 9 ≤ end
    → at + digits_from text at ≡ end + digits_from text end → is_ascii_digit (get_or text end 0) ≡ true
    → NoField text at
tenth text at end lt many ahead digit = too_many text at
    (omega (arith, ahead, prefix_len-drop_yes is_ascii_digit text end 0 lt digit))

-- no digit, so all were read
pub all_read : (text : List ℕ) (at end tag : ℕ) → at ≤ end → end < length text → end ≤ at + 9
    → at + digits_from text at ≡ end + digits_from text end → tag ≡ number_of (take (end - at) (drop at text))
    → is_ascii_digit (get_or text end 0) ≡ false → AreDigits text at end tag
all_read text at end tag le lt short ahead number none =
    let place : end ≡ at + digits_from text at =
    omega (arith, ahead, prefix_len-drop_no is_ascii_digit text end 0 lt none) in
    record {
      ends = lt;
      short = short;
      place = place;
      number = number ∙ ap (λ n. number_of (take n (drop at text))) (omega (arith, place));
    }

-- ---- a tag that is known to be there

-- what is known of it
pub record IsKnownTag (text : List ℕ) (at : ℕ) (tag : ℕ) : Type 0 where
  pub low : 1 ≤ tag
  pub high : tag ≤ 999_999_999
  pub some : 0 < digits_from text at
  pub shorter : at + digits_from text at < length text
  pub spelled : take (digits_from text at) (drop at text) ≡ decimal tag
  pub equals : get_or text (at + digits_from text at) 0 ≡ 61

pub known_there : (text : List ℕ) (at : ℕ) (has : HasField text at) → IsKnownTag text at has.field.tag
known_there text at has =
    let is = front (drop at text) has.field has.after has.good has.spelled in
    record {
      low = is.low;
      high = is.high;
      some = omega (arith, is.digits, (digits_of_tag has.field.tag is.low is.high).0);
      shorter = omega (arith, is.shorter, length-drop at text);
      spelled = is.tag;
      equals = sym (get_or-drop at text (digits_from text at) 0) ∙ is.equals;
    }

-- before its `=` stand digits
pub digit_there : (text : List ℕ) (at end : ℕ) → at ≤ end → end < at + digits_from text at
    → (48 ≤ get_or text end 0) × (get_or text end 0 ≤ 57)
digit_there text at end le lt =
    let e : get_or (drop at text) (end - at) 0 ≡ get_or text end 0 = there text at end le in
    let range = digit_range (get_or (drop at text) (end - at) 0)
    (prefix_len_passes is_ascii_digit (drop at text) (end - at) 0 (omega arith)) in
    (omega (arith, range.0, e), omega (arith, range.1, e))

-- what isn't `=` is one of them
pub not_equals : (text : List ℕ) (at end tag : ℕ) → IsKnownTag text at tag → end ≤ at + digits_from text at
    → get_or text end 0 ≢ 61 → end < at + digits_from text at
not_equals text at end tag is le other = omega (arith, differs)
  where
    differs : end ≢ at + digits_from text at
    differs e = other (ap (λ n. get_or text n 0) e ∙ is.equals)

-- and `=` is none
pub equals_there : (text : List ℕ) (at end tag : ℕ) → IsKnownTag text at tag → at ≤ end → end ≤ at + digits_from text at
    → get_or text end 0 ≡ 61 → end ≡ at + digits_from text at
equals_there text at end tag is ge le equals = omega (arith, before)
  where
    before : end < at + digits_from text at → ⊥
    before lt = omega (arith, (digit_there text at end ge lt).1, equals)

-- one digit more makes no more than the tag
pub record IsMoreKnown (text : List ℕ) (at end read : ℕ) : Type 0 where
  pub number : read ≡ number_of (take (end + 1 - at) (drop at text))
  pub small : read ≤ 999_999_999

pub one_more_known : (text : List ℕ) (at end tag so_far read : ℕ) → IsKnownTag text at tag → at ≤ end
    → end < at + digits_from text at → so_far ≡ number_of (take (end - at) (drop at text))
    → read ≡ so_far * 10 + (get_or text end 0 - 48)
    → IsMoreKnown text at end read
one_more_known text at end tag so_far read is le lt number r =
    let within : end < length text = omega (arith, is.shorter) in
    let n : ℕ = digits_from text at in
    let k : ℕ = end + 1 - at in
    let few : k ≤ n = omega arith in
    let so : number_of (take k (take n (drop at text))) ≡ number_of (take k (drop at text)) =
    ap number_of (take-take k n (drop at text) few) in
    let of-tag : number_of (take k (take n (drop at text))) ≡ number_of (take k (decimal tag)) =
    ap (λ (l : List ℕ). number_of (take k l)) is.spelled in
    let most : number_of (take k (decimal tag)) ≤ number_of (decimal tag) = number_of-take-le (decimal tag) k in
    let whole : number_of (decimal tag) ≡ tag = digits_value-decimal own tag (omega (arith, is.high)) in
    let is-read : read ≡ number_of (take k (drop at text)) = r ∙ number_more text at end so_far le within number in
    record { number = is-read; small = omega (arith, is-read, so, of-tag, most, whole, is.high) }

-- all digits make the tag
pub known_tag_at : (text : List ℕ) (at end tag read : ℕ) → IsKnownTag text at tag → at ≤ end
    → end ≤ at + digits_from text at → get_or text end 0 ≡ 61 → read ≡ number_of (take (end - at) (drop at text))
    → IsTagAt text at (record { tag = read; end = end })
known_tag_at text at end tag read is le most equals number =
    let place : end ≡ at + digits_from text at = equals_there text at end tag is le most equals in
    let size : end - at ≡ digits_from text at = omega (arith, place) in
    let same : read ≡ tag = number ∙ ap (λ n. number_of (take n (drop at text))) size ∙ ap number_of is.spelled
    ∙ digits_value-decimal own tag (omega (arith, is.high)) in
    record {
      ends = omega (arith, is.shorter);
      place_is = place;
      some = is.some;
      low = omega (arith, is.low);
      high = omega (arith, is.high);
      spelled = is.spelled ∙ ap decimal (sym same);
      equals = ap (λ n. get_or text n 0) place ∙ is.equals;
    }

-- so far as it was read, a byte that isn't `=` is a digit more
pub begun_ahead : (text : List ℕ) (at : ℕ) (begun : TagPlace) → HasField text at → IsTagBegun text at begun
    → get_or text begun.end 0 ≢ 61 → begun.end < at + digits_from text at
begun_ahead text at begun has is other =
    not_equals text at begun.end has.field.tag (known_there text at has) is.most other

pub begun_more : (text : List ℕ) (at : ℕ) (begun : TagPlace) → HasField text at → IsTagBegun text at begun
    → get_or text begun.end 0 ≢ 61
    → IsMoreKnown text at begun.end (begun.tag * 10 + (get_or text begun.end 0 - 48))
begun_more text at begun has is other =
    one_more_known text at begun.end has.field.tag begun.tag (begun.tag * 10 + (get_or text begun.end 0 - 48))
    (known_there text at has) is.ordered (begun_ahead text at begun has is other) is.number refl

-- and `=` ends it
pub begun_whole : (text : List ℕ) (at : ℕ) (begun : TagPlace) → HasField text at → IsTagBegun text at begun
    → get_or text begun.end 0 ≡ 61 → IsTagAt text at begun
begun_whole text at begun has is equals =
    known_tag_at text at begun.end has.field.tag begun.tag (known_there text at has) is.ordered is.most equals is.number

-- its first byte is none
pub some_digit : (text : List ℕ) (at : ℕ) → HasField text at → get_or text at 0 ≢ 61
some_digit text at has equals =
    let is = known_there text at has in
    omega (arith, (digit_there text at at (omega arith) (omega (arith, is.some))).1, equals)

-- ---- the value behind a tag

behind_tag : (text : List ℕ) (at : ℕ) → drop 1 (drop (digits_from text at) (drop at text))
    ≡ drop (at + digits_from text at + 1) text
behind_tag text at = ap (λ (l : List ℕ). drop 1 l) (drop-drop (digits_from text at) at text)
    ∙ drop-drop 1 (at + digits_from text at) text

-- a tag and an SOH behind it are a field
pub front_there : (text : List ℕ) (at end : ℕ) (tag : TagPlace) → IsTagAt text at tag → end < length text
    → end ≡ tag.end + 1 + prefix_len is_inside (drop (tag.end + 1) text)
    → IsFront text at (record { tag = tag.tag; start = tag.end + 1; end = end })
front_there text at end tag is ends place =
    let equals : ℕ = tag.end in
    let n : ℕ = digits_from text at in
    let rest : List ℕ = drop at text in
    let behind : List ℕ = drop n rest in
    let value : List ℕ = drop 1 behind in
    let start-is : equals + 1 ≡ at + n + 1 = omega (arith, is.place_is) in
    let value-is : drop (equals + 1) text ≡ value = ap (λ k. drop k text) start-is ∙ sym (behind_tag text at) in
    let end-is : end ≡ at + n + 1 + prefix_len is_inside value =
    omega (arith, place, ap (λ (l : List ℕ). prefix_len is_inside l) value-is) in
    let some : 0 < length behind = omega (arith, is.place_is, is.ends, length-drop n rest, length-drop at text) in
    let first : get_or behind 0 0 ≡ 61 = get_or-drop n rest 0 0 ∙ get_or-drop at text (n + 0) 0
    ∙ ap (λ k. get_or text k 0) (omega (arith, is.place_is)) ∙ is.equals in
    let within : prefix_len is_inside value < length value =
    omega (arith, end-is, ap (λ (l : List ℕ). length l) value-is, length-drop (equals + 1) text) in
    rw (start-is, end-is) (found text rest (take n rest) behind value at n tag.tag
    (prefix_len is_inside value) refl refl refl is.low is.high is.spelled some first refl refl within)

-- a field that is known to be there has an SOH behind its tag
pub soh_there : (text : List ℕ) (at : ℕ) (tag : TagPlace) → IsTagAt text at tag → HasField text at
    → tag.end + 1 + prefix_len is_inside (drop (tag.end + 1) text) < length text
soh_there text at tag is has =
    let equals : ℕ = tag.end in
    let front-is = front (drop at text) has.field has.after has.good has.spelled in
    let value-is : drop (equals + 1) text ≡ drop (digits_from text at + 1) (drop at text) =
    ap (λ k. drop k text) (omega (arith, is.place_is)) ∙ sym (drop-drop (digits_from text at + 1) at text) in
    omega (
      arith,
      front-is.ends,
      ap (λ (l : List ℕ). prefix_len is_inside l) value-is,
      ap
          (λ (l : List ℕ). length l) value-is,
      length-drop (equals + 1) text,
    )

-- ---- the SOH behind a value that is known to be there

soh_at : (text : List ℕ) (start : ℕ) → start + prefix_len is_inside (drop start text) < length text
    → get_or text (start + prefix_len is_inside (drop start text)) 0 ≡ 1
soh_at text start lt =
    let value : List ℕ = drop start text in
    let within : prefix_len is_inside value < length value = omega (arith, length-drop start text) in
    sym (get_or-drop start text (prefix_len is_inside value) 0)
    ∙ inside_false (get_or value (prefix_len is_inside value) 0) (prefix_len_stops is_inside value 0 within)

-- what isn't an SOH stands before it
pub not_soh : (text : List ℕ) (start end : ℕ) → start + prefix_len is_inside (drop start text) < length text
    → end ≤ start + prefix_len is_inside (drop start text) → get_or text end 0 ≢ 1
    → end < start + prefix_len is_inside (drop start text)
not_soh text start end lt le other = omega (arith, differs)
  where
    differs : end ≢ start + prefix_len is_inside (drop start text)
    differs e = other (ap (λ n. get_or text n 0) e ∙ soh_at text start lt)

-- and no SOH does
pub is_soh : (text : List ℕ) (start end : ℕ) → start ≤ end → end ≤ start + prefix_len is_inside (drop start text)
    → get_or text end 0 ≡ 1 → end ≡ start + prefix_len is_inside (drop start text)
is_soh text start end ge le e = omega (arith, before)
  where
    before : end < start + prefix_len is_inside (drop start text) → ⊥
    before lt = false≢true (sym (ap is_inside (there text start end ge ∙ e))
        ∙ prefix_len_passes is_inside (drop start text) (end - start) 0 (omega arith))
