-- What is kept stays kept behind other text, and is as it was further on.
use Rattle.std.proofs.Common.{◌≡◌, ℕ, zero, suc, ◌+◌, ◌-◌, ◌<◌, ◌≤◌, Bool, true, false, List, [], ◌∷◌, ◌++◌, length}
use Rattle.std.proofs.Common.{get_or, take, drop, map, refl, sym, subst, ap, ◌∙◌, arith, Some}
use Rattle.std.specs.Prelude.{slice_range, nat_le, ◌&&◌}
use Rattle.std.specs.List.{list_all}
use Rattle.std.proofs.lemmas.List.{take-append-le, drop-append-le, length-append, length-drop, map-append, take_all}
use Rattle.std.proofs.lemmas.List.{take-map, drop-map, take-append-drop, length-take-le}
use Rattle.std.proofs.lemmas.List.Folds.{list_all-append, list_all_at, list_all_more}
use Rattle.fix_framing.specs.fix_fields.Printed.{PrintsFields, fields_in, prints_fields}
use Rattle.fix_framing.proofs.fix_fields.Tags.{and_parts, le_test, le_true}
use Rattle.session_reading.specs.session_law.declared.kind.Kind.{Kind}
use Rattle.session_reading.specs.session_law.Session.{Slot}
use Rattle.session_writing.specs.declared.place.KeptPlace.{KeptPlace}
use Rattle.session_writing.specs.declared.place.KeptPlace.TheVariants as places
use Rattle.session_writing.specs.Keeping.{slot_at, slots_at, is_within, prints_at, is_place, ArePlaces, place_further}

-- ---- behind a text

-- what is written behind a text leaves its parts
pub range-append : (text more : List ℕ) (start end : ℕ) → start ≤ end → end ≤ length text
    → slice_range (text ++ more) start end ≡ slice_range text start end
range-append text more start end ordered ends =
    let begins : start ≤ length text = omega (arith, ordered, ends) in
    let size : end - start ≤ length (drop start text) = omega (arith, length-drop start text, ordered, ends) in
    ap (λ (t : List ℕ). take (end - start) t) (drop-append-le start text more begins)
    ∙ take-append-le (end - start) (drop start text) more size

-- a body stands there in the text, whole
pub record StandsAt (text : List ℕ) (start end : ℕ) : Type 0 where
  pub ordered : start ≤ end
  pub ends : end ≤ length text
  pub prints : PrintsFields (slice_range text start end)

pub place-is : (text : List ℕ) (kind : Kind) (start end at : ℕ) → is_place text (places.Body kind start end at) ≡ true
    → StandsAt text start end
place-is text kind start end at h =
    let p = and_parts (nat_le start end && nat_le end (length text)) (prints_fields (slice_range text start end)) h in
    let q = and_parts (nat_le start end) (nat_le end (length text)) p.0 in
    record { ordered = le_true start end q.0; ends = le_true end (length text) q.1; prints = p.1 }

is-place : (text : List ℕ) (kind : Kind) (start end at : ℕ) → StandsAt text start end
    → is_place text (places.Body kind start end at) ≡ true
is-place text kind start end at is = rw (le_test start end is.ordered, le_test end (length text) is.ends, is.prints)
    refl

slot-append : (text more : List ℕ) (k : KeptPlace) → is_place text k ≡ true → slot_at (text ++ more) k ≡ slot_at text k
slot-append text more places.Filled h = refl
slot-append text more (places.Body kind start end at) h =
    let is = place-is text kind start end at h in
    let kept : List ℕ → Slot = λ part. Some (record { kind = kind; body = fields_in part; at = at }) in
    ap kept (range-append text more start end is.ordered is.ends)

place-append : (text more : List ℕ) (k : KeptPlace) → is_place text k ≡ true → is_place (text ++ more) k ≡ true
place-append text more places.Filled h = refl
place-append text more (places.Body kind start end at) h =
    let is = place-is text kind start end at h in
    is-place (text ++ more) kind start end at (record {
      ordered = is.ordered;
      ends = omega (arith, is.ends, length-append text more);
      prints = ap prints_fields (range-append text more start end is.ordered is.ends) ∙ is.prints;
    })

slots-append : (text more : List ℕ) (kept : List KeptPlace) → ArePlaces text kept
    → slots_at (text ++ more) kept ≡ slots_at text kept
slots-append text more [] h = refl
slots-append text more (k ∷ kept) h =
    let p = and_parts (is_place text k) (list_all (is_place text) kept) h in
    rw (slot-append text more k p.0, slots-append text more kept p.1) refl

places-append : (text more : List ℕ) (kept : List KeptPlace) → ArePlaces text kept → ArePlaces (text ++ more) kept
places-append text more [] h = refl
places-append text more (k ∷ kept) h =
    let p = and_parts (is_place text k) (list_all (is_place text) kept) h in
    rw (place-append text more k p.0, places-append text more kept p.1) refl

-- ---- further on

drop-behind : (front text : List ℕ) (n : ℕ) → drop (length front + n) (front ++ text) ≡ drop n text
drop-behind [] text n = let e : 0 + n ≡ n = omega arith in ap (λ k. drop k text) e
drop-behind (x ∷ front) text n =
    let e : length (x ∷ front) + n ≡ suc (length front + n) = omega arith in
    ap (λ k. drop k (x ∷ (front ++ text))) e ∙ drop-behind front text n

pub range-further : (front text : List ℕ) (start end : ℕ)
    → slice_range (front ++ text) (length front + start) (length front + end) ≡ slice_range text start end
range-further front text start end =
    let size : length front + end - (length front + start) ≡ end - start = omega arith in
    ap (λ n. take n (drop (length front + start) (front ++ text))) size
    ∙ ap (λ (t : List ℕ). take (end - start) t) (drop-behind front text start)

slot-further : (front text : List ℕ) (k : KeptPlace)
    → slot_at (front ++ text) (place_further (length front) k) ≡ slot_at text k
slot-further front text places.Filled = refl
slot-further front text (places.Body kind start end at) =
    let kept : List ℕ → Slot = λ part. Some (record { kind = kind; body = fields_in part; at = at }) in
    ap kept (range-further front text start end)

further-place : (front text : List ℕ) (k : KeptPlace) → is_place text k ≡ true
    → is_place (front ++ text) (place_further (length front) k) ≡ true
further-place front text places.Filled h = refl
further-place front text (places.Body kind start end at) h =
    let is = place-is text kind start end at h in
    is-place (front ++ text) kind (length front + start) (length front + end) at (record {
      ordered = omega (arith, is.ordered);
      ends = omega (arith, is.ends, length-append front text);
      prints = ap prints_fields (range-further front text start end) ∙ is.prints;
    })

slots-further : (front text : List ℕ) (kept : List KeptPlace)
    → slots_at (front ++ text) (map (place_further (length front)) kept) ≡ slots_at text kept
slots-further front text [] = refl
slots-further front text (k ∷ kept) = rw (slot-further front text k, slots-further front text kept) refl

further-places : (front text : List ℕ) (kept : List KeptPlace) → ArePlaces text kept
    → ArePlaces (front ++ text) (map (place_further (length front)) kept)
further-places front text [] h = refl
further-places front text (k ∷ kept) h =
    let p = and_parts (is_place text k) (list_all (is_place text) kept) h in
    rw (further-place front text k p.0, further-places front text kept p.1) refl

pub all-within : (text : List ℕ) (kept : List KeptPlace) → ArePlaces text kept
    → list_all (is_within (length text)) kept ≡ true
all-within text [] h = refl
all-within text (k ∷ kept) h =
    let p = and_parts (is_place text k) (list_all (is_place text) kept) h in
    let q = and_parts (is_within (length text) k) (prints_at text k) p.0 in
    rw (q.0, all-within text kept p.1) refl

-- ---- both in one text

pub record AreKept (text : List ℕ) (kept : List KeptPlace) (slots : List Slot) : Type 0 where
  pub view : slots_at text kept ≡ slots
  pub places : ArePlaces text kept

both-kept : (text more : List ℕ) (kept behind : List KeptPlace) → ArePlaces text kept → ArePlaces more behind
    → AreKept (text ++ more) (kept ++ map (place_further (length text)) behind)
    (slots_at text kept ++ slots_at more behind)
both-kept text more kept behind are also = record {
  view = map-append (slot_at (text ++ more)) kept (map (place_further (length text)) behind)
      ∙ ap (λ (ss : List Slot). ss ++ slots_at (text ++ more) (map (place_further (length text)) behind))
      (slots-append text more kept are)
      ∙ ap (λ (ss : List Slot). slots_at text kept ++ ss) (slots-further text more behind);
  places = list_all-append (is_place (text ++ more)) kept (map (place_further (length text)) behind)
      ∙ rw (places-append text more kept are, further-places text more behind also) refl;
}

-- the same, of what the code has
pub both-kept-at : (text more after : List ℕ) (kept behind room further all : List KeptPlace) (shift : ℕ)
    → ArePlaces text kept → ArePlaces more behind
    → shift ≡ length text → further ≡ map (place_further shift) behind → after ≡ text ++ more → room ≡ kept
    → all ≡ room ++ further → AreKept after all (slots_at text kept ++ slots_at more behind)
both-kept-at text more after kept behind room further all shift are also s f t r a =
    rw (t, a, r, f, s) (both-kept text more kept behind are also)

-- one body behind the others
pub whole : (body : List ℕ) → slice_range body 0 (length body) ≡ body
whole body = let all : length body - 0 ≡ length body = omega arith in ap (λ n. take n body) all
    ∙ take_all (length body) body (omega arith)

one-kept : (text body : List ℕ) (kept : List KeptPlace) (kind : Kind) (at : ℕ) → ArePlaces text kept → PrintsFields body
    → AreKept (text ++ body) (kept ++ places.Body kind (length text + 0) (length text + length body) at ∷ [])
    (slots_at text kept ++ Some (record { kind = kind; body = fields_in body; at = at }) ∷ [])
one-kept text body kept kind at are prints =
    let here : is_place body (places.Body kind 0 (length body) at) ≡ true =
    is-place body kind 0 (length body) at (record
    { ordered = omega arith; ends = omega arith; prints = ap prints_fields (whole body) ∙ prints }) in
    let both = both-kept text body kept (places.Body kind 0 (length body) at ∷ []) are (rw here refl) in
    let with_body : List ℕ → List Slot = λ part. slots_at text kept
    ++ Some (record { kind = kind; body = fields_in part; at = at }) ∷ [] in
    record { view = both.view ∙ ap with_body (whole body); places = both.places }

pub one-kept-at : (text body after : List ℕ) (kept room all : List KeptPlace) (kind : Kind) (at start end : ℕ)
    → ArePlaces text kept → PrintsFields body
    → start ≡ length text → end ≡ length after → after ≡ text ++ body → room ≡ kept
    → all ≡ room ++ places.Body kind start end at ∷ []
    → AreKept after all (slots_at text kept ++ Some (record { kind = kind; body = fields_in body; at = at }) ∷ [])
one-kept-at text body after kept room all kind at start end are prints s e t r a =
    let begins : start ≡ length text + 0 = omega (arith, s) in
    let ends : end ≡ length text + length body = e ∙ ap (λ (l : List ℕ). length l) t ∙ length-append text body in
    rw (t, a, r, begins, ends) (one-kept text body kept kind at are prints)

-- ---- one of them

all-at : {A : Type 0} (p : A → Bool) (xs : List A) (i : ℕ) (d : A) → list_all p xs ≡ true → i < length xs
    → p (get_or xs i d) ≡ true
all-at p xs i d h lt = by_test (p (get_or xs i d)) refl
  where
    by_test : (b : Bool) → p (get_or xs i d) ≡ b → p (get_or xs i d) ≡ true
    by_test true found = found
    by_test false found = absurd (falses (sym (list_all_at p xs i d lt found) ∙ h))
      where
        falses : ◌≡◌ {A = Bool} false true → ⊥
        falses q = cc

pub one-place : (text : List ℕ) (kept : List KeptPlace) (i : ℕ) (d k : KeptPlace) → ArePlaces text kept
    → i < length kept → get_or kept i d ≡ k → is_place text k ≡ true
one-place text kept i d k h lt e = ap (is_place text) (sym e) ∙ all-at (is_place text) kept i d h lt

-- ---- some of them

all-take : {A : Type 0} (p : A → Bool) (n : ℕ) (xs : List A) → list_all p xs ≡ true → list_all p (take n xs) ≡ true
all-take p zero xs h = refl
all-take p (suc n) [] h = refl
all-take p (suc n) (x ∷ xs) h = let q = and_parts (p x) (list_all p xs) h in rw (q.0, all-take p n xs q.1) refl

all-drop : {A : Type 0} (p : A → Bool) (n : ℕ) (xs : List A) → list_all p xs ≡ true → list_all p (drop n xs) ≡ true
all-drop p zero xs h = h
all-drop p (suc n) [] h = refl
all-drop p (suc n) (x ∷ xs) h = all-drop p n xs (and_parts (p x) (list_all p xs) h).1

pub some-places : (text : List ℕ) (kept : List KeptPlace) (n m : ℕ) → ArePlaces text kept
    → ArePlaces text (take n (drop m kept))
some-places text kept n m are = all-take (is_place text) n (drop m kept) (all-drop (is_place text) m kept are)

pub some-slots : (text : List ℕ) (kept : List KeptPlace) (n m : ℕ)
    → slots_at text (take n (drop m kept)) ≡ take n (drop m (slots_at text kept))
some-slots text kept n m = sym (take-map (slot_at text) n (drop m kept))
    ∙ ap (λ (ss : List Slot). take n ss) (sym (drop-map (slot_at text) m kept))

-- ---- cut off

-- in a longer text
wider : (a b : ℕ) (k : KeptPlace) → a ≤ b → is_within a k ≡ true → is_within b k ≡ true
wider a b places.Filled le h = refl
wider a b (places.Body kind start end at) le h =
    let p = and_parts (nat_le start end) (nat_le end a) h in
    let ends : end ≤ b = omega (arith, le_true end a p.1, le) in
    rw (p.0, le_test end b ends) refl

all-wider : (a b : ℕ) (kept : List KeptPlace) → a ≤ b → list_all (is_within a) kept ≡ true
    → list_all (is_within b) kept ≡ true
all-wider a b [] le h = refl
all-wider a b (k ∷ kept) le h =
    let p = and_parts (is_within a k) (list_all (is_within a) kept) h in
    rw (wider a b k le p.0, all-wider a b kept le p.1) refl

-- all places before number i are within the end so far, which is in the text
abbrev pub AllEnd : List KeptPlace → ℕ → ℕ → Type 0
AllEnd kept i end = (size : ℕ) → list_all (is_within size) kept ≡ true
    → (list_all (is_within end) (take i kept) ≡ true) × (end ≤ size)

-- and with one place more
pub ends-more : (kept : List KeptPlace) (i before end : ℕ) (d : KeptPlace) → i < length kept → AllEnd kept i before
    → before ≤ end
    → ((size : ℕ) → is_within size (get_or kept i d) ≡ true → is_within end (get_or kept i d) ≡ true)
    → ((size : ℕ) → is_within size (get_or kept i d) ≡ true → before ≤ size → end ≤ size)
    → AllEnd kept (i + 1) end
ends-more kept i before end d lt so_far least within most = λ size all.
    let this = all-at (is_within size) kept i d all lt in
    let those = so_far size all in (
      list_all_more (is_within end) kept i d lt
          ∙ rw (all-wider before end (take i kept) least those.0, within size this) refl,
      most size this those.1,
    )

-- a place in a text that goes on, and is in its front
front-place : (text more : List ℕ) (k : KeptPlace) → is_place (text ++ more) k ≡ true → is_within (length text) k ≡ true
    → is_place text k ≡ true
front-place text more places.Filled h w = refl
front-place text more (places.Body kind start end at) h w =
    let q = and_parts (nat_le start end) (nat_le end (length text)) w in
    let ordered = le_true start end q.0 in
    let ends = le_true end (length text) q.1 in
    is-place text kind start end at (record {
      ordered = ordered;
      ends = ends;
      prints = ap prints_fields (sym (range-append text more start end ordered ends))
          ∙ (place-is (text ++ more) kind start end at h).prints;
    })

front-places : (text more : List ℕ) (kept : List KeptPlace) → ArePlaces (text ++ more) kept
    → list_all (is_within (length text)) kept ≡ true → ArePlaces text kept
front-places text more [] h w = refl
front-places text more (k ∷ kept) h w =
    let p = and_parts (is_place (text ++ more) k) (list_all (is_place (text ++ more)) kept) h in
    let q = and_parts (is_within (length text) k) (list_all (is_within (length text)) kept) w in
    rw (front-place text more k p.0 q.0, front-places text more kept p.1 q.1) refl

front-kept : (text more : List ℕ) (kept : List KeptPlace) → ArePlaces (text ++ more) kept
    → list_all (is_within (length text)) kept ≡ true → AreKept text kept (slots_at (text ++ more) kept)
front-kept text more kept are within =
    let places = front-places text more kept are within in
    record { view = sym (slots-append text more kept places); places = places }

-- as many places as are left, in as much of the text as has them
first-kept : (text : List ℕ) (kept : List KeptPlace) (count size : ℕ) → ArePlaces text kept → size ≤ length text
    → list_all (is_within size) (take count kept) ≡ true
    → AreKept (take size text) (take count kept) (take count (slots_at text kept))
first-kept text kept count size are inside within =
    let left = take count kept in
    let whole : take size text ++ drop size text ≡ text = take-append-drop size text in
    let long : length (take size text) ≡ size = length-take-le size text inside in
    let there = subst (λ (t : List ℕ). ArePlaces t left) (sym whole) (all-take (is_place text) count kept are) in
    let front = front-kept (take size text) (drop size text) left there
    (subst (λ (n : ℕ). list_all (is_within n) left ≡ true) (sym long) within) in
    record {
      view = front.view ∙ ap (λ (t : List ℕ). slots_at t left) whole ∙ sym (take-map (slot_at text) count kept);
      places = front.places;
    }

-- the same, of what the code has
pub cut-kept : (text after : List ℕ) (kept left : List KeptPlace) (count size : ℕ) → ArePlaces text kept
    → left ≡ take count kept → after ≡ take size text
    → ((n : ℕ) → list_all (is_within n) left ≡ true → (list_all (is_within size) left ≡ true) × (size ≤ n))
    → AreKept after left (take count (slots_at text kept))
cut-kept text after kept left count size are l a ends =
    let all = ends (length text) (subst (λ (ks : List KeptPlace). list_all (is_within (length text)) ks ≡ true) (sym l)
    (all-take (is_within (length text)) count kept (all-within text kept are))) in
    let within = subst (λ (ks : List KeptPlace). list_all (is_within size) ks ≡ true) l all.0 in
    rw (a, l) (first-kept text kept count size are all.1 within)
