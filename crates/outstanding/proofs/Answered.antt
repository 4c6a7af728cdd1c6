-- Answers change where they are to: along a chain, and at the places that are noted.
use Rattle.std.proofs.Common.{◌≡◌, ◌≢◌, ℕ, zero, suc, ◌+◌, ◌<◌, ◌≤◌, ◌^◌, Bool, true, false, List, [], ◌∷◌, ◌++◌}
use Rattle.std.proofs.Common.{length, map}
use Rattle.std.proofs.Common.{take, get_or, set, slice_get, refl, sym, ap, ◌∙◌, subst, ◌⊎◌, inl, inr, arith, eq-eqb}
use Rattle.std.proofs.Common.{eqb-true}
use Rattle.std.specs.Prelude.{Option, Some, None, filter, if◌then◌else◌, nat_eq, ◌||◌}
use Rattle.std.specs.List.{list_any}
use Rattle.std.proofs.lemmas.Bool.{cases_eq, cases_lt}
use Rattle.std.proofs.lemmas.Option.{get_or_from_slice_get, slice_get_within}
use Rattle.std.proofs.lemmas.List.{length-map, length-set, map-set, set-get_or}
use Rattle.outstanding.specs.declared.asked.AskedMessage.{AskedMessage}
use Rattle.outstanding.specs.declared.asked.Answer.{Answer}
use Rattle.outstanding.specs.declared.asked.Answer.TheVariants.{Awaited, Given, Settled}
use Rattle.outstanding.specs.Kept.{KeptMessage, seen}
use Rattle.outstanding.specs.Chaining.{AreNoted, Reaches, bucket}
use Rattle.outstanding.specs.Marks.{awaited_again, awaits, settled_one, given_if, is_given, is_settled, is_unanswered}
use Rattle.outstanding.specs.Marks.{marked_by, with_answer, settled_now, unmarked, was_given, was_settled}
use Rattle.outstanding.proofs.Chaining.{KeepsChains, get-changed, get-pushed, get-there}

same-some : {A : Type 0} (b c : A) → ◌≡◌ {A = Option A} (Some b) (Some c) → b ≡ c
same-some b c e = cc

-- ---- one answer

pub settled-given : (b : Bool) (r : Answer) → was_settled r ≡ true → was_settled (given_if b r) ≡ true
settled-given b Awaited e = absurd (cc)
settled-given b Given e = absurd (cc)
settled-given b Settled e = refl

pub settled-now : (r : Answer) → was_settled r ≡ true → was_settled (settled_now r) ≡ true
settled-now Awaited e = absurd (cc)
settled-now Given e = absurd (cc)
settled-now Settled e = refl

pub settled-again : (r : Answer) → was_settled r ≡ true → was_settled (awaited_again r) ≡ true
settled-again Awaited e = absurd (cc)
settled-again Given e = absurd (cc)
settled-again Settled e = refl

given-twice : (b : Bool) (r : Answer) → given_if b (given_if b r) ≡ given_if b r
given-twice true Awaited = refl
given-twice false Awaited = refl
given-twice b Given = refl
given-twice b Settled = refl

given-not : (r : Answer) → given_if false r ≡ r
given-not Awaited = refl
given-not Given = refl
given-not Settled = refl

given-settled : (b : Bool) (r : Answer) → was_settled r ≡ true → given_if b r ≡ r
given-settled b Awaited e = absurd (cc)
given-settled b Given e = absurd (cc)
given-settled b Settled e = refl

now-twice : (r : Answer) → settled_now (settled_now r) ≡ settled_now r
now-twice Awaited = refl
now-twice Given = refl
now-twice Settled = refl

now-free : (r : Answer) → was_given r ≡ false → settled_now r ≡ r
now-free Awaited e = refl
now-free Given e = absurd (cc)
now-free Settled e = refl

now-given : (r : Answer) → was_given (settled_now r) ≡ false
now-given Awaited = refl
now-given Given = refl
now-given Settled = refl

again-twice : (r : Answer) → awaited_again (awaited_again r) ≡ awaited_again r
again-twice Awaited = refl
again-twice Given = refl
again-twice Settled = refl

again-free : (r : Answer) → was_given r ≡ false → awaited_again r ≡ r
again-free Awaited e = refl
again-free Given e = absurd (cc)
again-free Settled e = refl

again-given : (r : Answer) → was_given (awaited_again r) ≡ false
again-given Awaited = refl
again-given Given = refl
again-given Settled = refl

awaits-given : (r : Answer) → awaits r ≡ true → was_given r ≡ false
awaits-given Awaited e = refl
awaits-given Given e = absurd (cc)
awaits-given Settled e = absurd (cc)

-- ---- one message

pub marked-twice : (test : KeptMessage → Bool) (x : AskedMessage)
    → marked_by test (marked_by test x) ≡ marked_by test x
marked-twice test x = ap (λ (r : Answer). record x { answer = r }) (given-twice (test (seen x)) x.answer)

pub marked-not : (test : KeptMessage → Bool) (x : AskedMessage) → test (seen x) ≡ false → marked_by test x ≡ x
marked-not test x e = ap (λ (b : Bool). record x { answer = given_if b x.answer }) e
    ∙ ap (λ (r : Answer). record x { answer = r }) (given-not x.answer)

pub marked-settled : (test : KeptMessage → Bool) (x : AskedMessage) → is_settled x ≡ true → marked_by test x ≡ x
marked-settled test x e = ap (λ (r : Answer). record x { answer = r }) (given-settled (test (seen x)) x.answer e)

pub settled_one-twice : (x : AskedMessage) → settled_one (settled_one x) ≡ settled_one x
settled_one-twice x = ap (λ (r : Answer). record x { answer = r }) (now-twice x.answer)

pub settled_one-free : (x : AskedMessage) → is_given x ≡ false → settled_one x ≡ x
settled_one-free x e = ap (λ (r : Answer). record x { answer = r }) (now-free x.answer e)

pub settled_one-given : (x : AskedMessage) → is_given (settled_one x) ≡ false
settled_one-given x = now-given x.answer

pub unmarked-twice : (x : AskedMessage) → unmarked (unmarked x) ≡ unmarked x
unmarked-twice x = ap (λ (r : Answer). record x { answer = r }) (again-twice x.answer)

pub unmarked-free : (x : AskedMessage) → is_given x ≡ false → unmarked x ≡ x
unmarked-free x e = ap (λ (r : Answer). record x { answer = r }) (again-free x.answer e)

pub unmarked-given : (x : AskedMessage) → is_given (unmarked x) ≡ false
unmarked-given x = again-given x.answer

-- ---- all messages

map-get : (f : AskedMessage → AskedMessage) (xs : List AskedMessage) (i : ℕ) (y : AskedMessage)
    → slice_get (map f xs) i ≡ Some y → (x : AskedMessage) × (slice_get xs i ≡ Some x) × (f x ≡ y)
map-get f [] i y e = let none : ◌≡◌ {A = Option AskedMessage} None (Some y) = e in absurd (cc)
map-get f (x ∷ xs) zero y e = (x, refl, same-some (f x) y e)
map-get f (x ∷ xs) (suc i) y e = map-get f xs i y e

pub map-keeps : (change : AskedMessage → Answer → Answer)
    → ((x : AskedMessage) (r : Answer) → was_settled r ≡ true → was_settled (change x r) ≡ true)
    → (xs : List AskedMessage) → KeepsChains xs (map (λ (x : AskedMessage). with_answer (change x) x) xs)
map-keeps change stays xs = record {
  long = length-map xs (λ (x : AskedMessage). with_answer (change x) x);
  each = λ i y at. by_item i y (map-get (λ (x : AskedMessage). with_answer (change x) x) xs i y at);
}
  where
    by_item : (i : ℕ) (y : AskedMessage)
        → (x : AskedMessage) × (slice_get xs i ≡ Some x) × (with_answer (change x) x ≡ y)
        → (x : AskedMessage) × (slice_get xs i ≡ Some x) × (y.order_id ≡ x.order_id)
        × (is_settled x ≡ true → is_settled y ≡ true)
    by_item i y was = (
      was.0,
      was.1,
      ap (λ (z : AskedMessage). z.order_id) (sym was.2),
      λ e. ap is_settled (sym was.2) ∙ stays was.0 was.0.answer e,
    )

pub set-keeps : (xs : List AskedMessage) (p : ℕ) (x : AskedMessage) (r : Answer) → slice_get xs p ≡ Some x
    → (was_settled x.answer ≡ true → was_settled r ≡ true) → KeepsChains xs (set xs p (record x { answer = r }))
set-keeps xs p x r at stays = record {
  long = length-set xs p (record x { answer = r });
  each = λ i y it. by_place i y (get-changed xs p (record x { answer = r }) i y it);
}
  where
    by_place : (i : ℕ) (y : AskedMessage)
        → ((p ≢ i) × (slice_get xs i ≡ Some y)) ⊎ ((p ≡ i) × (record x { answer = r } ≡ y))
        → (z : AskedMessage) × (slice_get xs i ≡ Some z) × (y.order_id ≡ z.order_id)
        × (is_settled z ≡ true → is_settled y ≡ true)
    by_place i y (inl other) = (y, other.1, refl, λ e. e)
    by_place i y (inr same) = (
      x,
      ap (slice_get xs) (sym same.0) ∙ at,
      ap (λ (z : AskedMessage). z.order_id) (sym same.1),
      λ e. ap is_settled (sym same.1) ∙ stays e,
    )

-- where each stays as it is, all do
map-fixed : (f : AskedMessage → AskedMessage) (xs : List AskedMessage)
    → ((i : ℕ) (x : AskedMessage) → slice_get xs i ≡ Some x → f x ≡ x) → map f xs ≡ xs
map-fixed f [] fixed = refl
map-fixed f (x ∷ xs) fixed =
    ap (λ (y : AskedMessage). y ∷ map f xs) (fixed 0 x refl)
    ∙ ap (λ (ys : List AskedMessage). x ∷ ys) (map-fixed f xs (λ i y at. fixed (suc i) y at))

-- a change that is made once more changes nothing
map-once : (f : AskedMessage → AskedMessage) → ((x : AskedMessage) → f (f x) ≡ f x)
    → (ys : List AskedMessage) (p : ℕ) (d : AskedMessage) → map f (set ys p (f (get_or ys p d))) ≡ map f ys
map-once f twice ys p d =
    map-set f ys p (f (get_or ys p d))
    ∙ ap (λ (y : AskedMessage). set (map f ys) p y) (twice (get_or ys p d))
    ∙ sym (map-set f ys p (get_or ys p d))
    ∙ ap (map f) (set-get_or ys p d)

-- ---- along a chain

-- What a change makes of the messages stands from a reach on, and before it as it was.
pub record IsWalked (f : AskedMessage → AskedMessage) (xs ys : List AskedMessage) (r : ℕ) : Type 0 where
  pub same : map f ys ≡ map f xs
  pub fixed : (i : ℕ) (y : AskedMessage) → r ≤ i → slice_get ys i ≡ Some y → f y ≡ y

-- A change of messages of a bucket that aren't settled.
pub record IsOfBucket (f : AskedMessage → AskedMessage) (n b : ℕ) : Type 0 where
  pub twice : (x : AskedMessage) → f (f x) ≡ f x
  pub settled : (x : AskedMessage) → is_settled x ≡ true → f x ≡ x
  pub other : (x : AskedMessage) → x.order_id < 2 ^ 64 → bucket n x.order_id ≢ b → f x ≡ x

between : (f : AskedMessage → AskedMessage) (n b : ℕ) → IsOfBucket f n b
    → (ys : List AskedMessage) (r k : ℕ) → Reaches n ys b r k
    → (i : ℕ) (y : AskedMessage) → r ≤ i → i < k → slice_get ys i ≡ Some y → y.order_id < 2 ^ 64 → f y ≡ y
between f n b own ys r k reach i y from to at small = by_bucket (cases_eq (bucket n y.order_id) b)
  where
    by_bucket : (bucket n y.order_id ≡ b) ⊎ (bucket n y.order_id ≢ b) → f y ≡ y
    by_bucket (inl same) = own.settled y (reach.past i y from to at same)
    by_bucket (inr other) = own.other y small other

pub walked-begins : (f : AskedMessage → AskedMessage) (n b : ℕ) → IsOfBucket f n b
    → (xs : List AskedMessage) (r : ℕ) → Reaches n xs b r (length xs)
    → ((i : ℕ) (x : AskedMessage) → slice_get xs i ≡ Some x → x.order_id < 2 ^ 64) → IsWalked f xs xs r
walked-begins f n b own xs r reach small = record {
  same = refl;
  fixed = λ i y from at. between f n b own xs r (length xs) reach i y from (slice_get_within xs i y at) at
      (small i y at);
}

pub walked-more : (f : AskedMessage → AskedMessage) (n b : ℕ) → IsOfBucket f n b
    → (xs ys zs : List AskedMessage) (p r : ℕ) → IsWalked f xs ys (p + 1)
    → ((d : AskedMessage) → zs ≡ set ys p (f (get_or ys p d))) → (d : AskedMessage)
    → Reaches n zs b r p → ((i : ℕ) (x : AskedMessage) → slice_get zs i ≡ Some x → x.order_id < 2 ^ 64)
    → IsWalked f xs zs r
walked-more f n b own xs ys zs p r walked is d reach small = record {
  same = ap (map f) (is d) ∙ map-once f own.twice ys p d ∙ walked.same;
  fixed = λ i y from at. by_place i y from at
      (get-changed ys p (f (get_or ys p d)) i y (sym (ap (λ (qs : List AskedMessage). slice_get qs i) (is d)) ∙ at));
}
  where
    by_place : (i : ℕ) (y : AskedMessage) → r ≤ i → slice_get zs i ≡ Some y
        → ((p ≢ i) × (slice_get ys i ≡ Some y)) ⊎ ((p ≡ i) × (f (get_or ys p d) ≡ y)) → f y ≡ y
    by_place i y from at (inr same) = ap f (sym same.1) ∙ own.twice (get_or ys p d) ∙ same.1
    by_place i y from at (inl old) = by_side (cases_lt i p)
      where
        by_side : (i < p) ⊎ (p ≤ i) → f y ≡ y
        by_side (inl less) = between f n b own zs r p reach i y from less at (small i y at)
        by_side (inr more) = walked.fixed i y (omega (arith, more, old.0)) old.1

pub walked-all : (f : AskedMessage → AskedMessage) (xs ys : List AskedMessage) → IsWalked f xs ys 0 → ys ≡ map f xs
walked-all f xs ys walked = sym (map-fixed f ys (λ i y at. walked.fixed i y (omega arith) at)) ∙ walked.same

-- ---- at places that are noted

none-given : (b : Bool) → (b ≡ true → ⊥) → b ≡ false
none-given true never = absurd (never refl)
none-given false never = refl

among-left : (t : ℕ → Bool) (ps qs : List ℕ) → list_any t ps ≡ true → list_any t (ps ++ qs) ≡ true
among-left t [] qs e = absurd (cc)
among-left t (p ∷ ps) qs e = by_test (t p) e (among-left t ps qs)
  where
    by_test : (b : Bool) → (b || list_any t ps) ≡ true → (list_any t ps ≡ true → list_any t (ps ++ qs) ≡ true)
        → (b || list_any t (ps ++ qs)) ≡ true
    by_test true e more = refl
    by_test false e more = more e

among-push : (p : ℕ) (ps : List ℕ) → list_any (nat_eq p) (ps ++ p ∷ []) ≡ true
among-push p [] = ap (λ (b : Bool). b || false) (eq-eqb p p refl)
among-push p (q ∷ ps) = by_test (nat_eq p q) (among-push p ps)
  where
    by_test : (b : Bool) → list_any (nat_eq p) (ps ++ p ∷ []) ≡ true
        → (b || list_any (nat_eq p) (ps ++ p ∷ [])) ≡ true
    by_test true e = refl
    by_test false e = e

among-cases : (i p : ℕ) (ps : List ℕ) → list_any (nat_eq i) (ps ++ p ∷ []) ≡ true
    → (list_any (nat_eq i) ps ≡ true) ⊎ (p ≡ i)
among-cases i p [] e = by_test (nat_eq i p) refl e
  where
    by_test : (b : Bool) → nat_eq i p ≡ b → (b || false) ≡ true → (list_any (nat_eq i) [] ≡ true) ⊎ (p ≡ i)
    by_test true same e = inr (sym (eqb-true i p same))
    by_test false same e = inl e
among-cases i p (q ∷ ps) e = by_test (nat_eq i q) e (among-cases i p ps)
  where
    by_test : (b : Bool) → (b || list_any (nat_eq i) (ps ++ p ∷ [])) ≡ true
        → (list_any (nat_eq i) (ps ++ p ∷ []) ≡ true → (list_any (nat_eq i) ps ≡ true) ⊎ (p ≡ i))
        → ((b || list_any (nat_eq i) ps) ≡ true) ⊎ (p ≡ i)
    by_test true e more = inl refl
    by_test false e more = more e

pub noted-none : (ys : List AskedMessage) → AreNoted [] ys
    → (i : ℕ) (y : AskedMessage) → slice_get ys i ≡ Some y → is_given y ≡ false
noted-none ys noted i y at = none-given (is_given y)
    (λ e. let there : false ≡ true = noted i y at e in cc)

-- a place is taken from the list, and the message there changes
pub noted-popped : (places : List ℕ) (p : ℕ) (ys : List AskedMessage) (x : AskedMessage)
    → AreNoted (places ++ p ∷ []) ys → is_given x ≡ false → AreNoted places (set ys p x)
noted-popped places p ys x noted free i y at given = by_place (get-changed ys p x i y at)
  where
    by_list : p ≢ i → (list_any (nat_eq i) places ≡ true) ⊎ (p ≡ i) → list_any (nat_eq i) places ≡ true
    by_list other (inl there) = there
    by_list other (inr same) = absurd (other same)

    by_place : ((p ≢ i) × (slice_get ys i ≡ Some y)) ⊎ ((p ≡ i) × (x ≡ y)) → list_any (nat_eq i) places ≡ true
    by_place (inl old) = by_list old.0 (among-cases i p places (noted i y old.1 given))
    by_place (inr same) = let no : true ≡ false = sym given ∙ ap is_given (sym same.1) ∙ free in absurd (cc)

-- a place behind the list says nothing
pub noted-past : (places : List ℕ) (p : ℕ) (ys : List AskedMessage) → length ys ≤ p
    → AreNoted (places ++ p ∷ []) ys → AreNoted places ys
noted-past places p ys behind noted i y at given = by_list (among-cases i p places (noted i y at given))
  where
    by_list : (list_any (nat_eq i) places ≡ true) ⊎ (p ≡ i) → list_any (nat_eq i) places ≡ true
    by_list (inl there) = there
    by_list (inr same) = absurd (omega (arith, same, slice_get_within ys i y at))

-- a place is noted, and the message there changes
pub noted-more : (places : List ℕ) (p : ℕ) (ys : List AskedMessage) (x : AskedMessage) → AreNoted places ys
    → AreNoted (places ++ p ∷ []) (set ys p x)
noted-more places p ys x noted i y at given = by_place (get-changed ys p x i y at)
  where
    by_place : ((p ≢ i) × (slice_get ys i ≡ Some y)) ⊎ ((p ≡ i) × (x ≡ y))
        → list_any (nat_eq i) (places ++ p ∷ []) ≡ true
    by_place (inl old) = among-left (nat_eq i) places (p ∷ []) (noted i y old.1 given)
    by_place (inr same) = subst (λ (j : ℕ). list_any (nat_eq j) (places ++ p ∷ []) ≡ true) same.0
        (among-push p places)

pub noted-pushed : (places : List ℕ) (xs : List AskedMessage) (x : AskedMessage) → AreNoted places xs
    → is_unanswered x ≡ true → AreNoted places (xs ++ x ∷ [])
noted-pushed places xs x noted awaited i y at given = by_place (get-pushed xs x i y at)
  where
    by_place : ((i < length xs) × (slice_get xs i ≡ Some y)) ⊎ ((i ≡ length xs) × (x ≡ y))
        → list_any (nat_eq i) places ≡ true
    by_place (inl old) = noted i y old.1 given
    by_place (inr new) =
        let no : true ≡ false = sym given ∙ ap is_given (sym new.1) ∙ awaits-given x.answer awaited in absurd (cc)

get-taken : (n : ℕ) (xs : List AskedMessage) (i : ℕ) (x : AskedMessage) → slice_get (take n xs) i ≡ Some x
    → slice_get xs i ≡ Some x
get-taken zero xs i x at = absurd (omega (arith, slice_get_within (take 0 xs) i x at))
get-taken (suc n) [] i x at = at
get-taken (suc n) (y ∷ xs) zero x at = at
get-taken (suc n) (y ∷ xs) (suc i) x at = get-taken n xs i x at

pub noted-first : (places : List ℕ) (n : ℕ) (xs : List AskedMessage) → AreNoted places xs → AreNoted places (take n xs)
noted-first places n xs noted i x at given = noted i x (get-taken n xs i x at) given

all-awaited : (xs : List AskedMessage) (i : ℕ) (y : AskedMessage) → slice_get (filter is_unanswered xs) i ≡ Some y
    → is_unanswered y ≡ true
all-awaited [] i y at = let none : ◌≡◌ {A = Option AskedMessage} None (Some y) = at in absurd (cc)
all-awaited (x ∷ xs) i y at = by_test (is_unanswered x) refl i at (λ j it. all-awaited xs j y it)
  where
    by_test : (b : Bool) → is_unanswered x ≡ b → (i : ℕ)
        → slice_get (if b then x ∷ filter is_unanswered xs else filter is_unanswered xs) i ≡ Some y
        → ((j : ℕ) → slice_get (filter is_unanswered xs) j ≡ Some y → is_unanswered y ≡ true)
        → is_unanswered y ≡ true
    by_test true e zero at rest = ap is_unanswered (sym (same-some x y at)) ∙ e
    by_test true e (suc i) at rest = rest i at
    by_test false e i at rest = rest i at

-- where all are awaited, none is noted
pub noted-awaited : (places : List ℕ) (xs : List AskedMessage) → AreNoted places (filter is_unanswered xs)
noted-awaited places xs i y at given =
    let no : true ≡ false = sym given ∙ awaits-given y.answer (all-awaited xs i y at) in absurd (cc)

-- a change at each place that is noted, and at the end of the list
pub changed-once : (f : AskedMessage → AskedMessage) → ((x : AskedMessage) → f (f x) ≡ f x)
    → (xs ys : List AskedMessage) (p : ℕ) (d : AskedMessage) → map f ys ≡ map f xs
    → map f (set ys p (f (get_or ys p d))) ≡ map f xs
changed-once f twice xs ys p d so_far = map-once f twice ys p d ∙ so_far

pub changed-all : (f : AskedMessage → AskedMessage) → ((x : AskedMessage) → is_given x ≡ false → f x ≡ x)
    → (xs ys : List AskedMessage) → AreNoted [] ys → map f ys ≡ map f xs → ys ≡ map f xs
changed-all f free xs ys noted so_far =
    sym (map-fixed f ys (λ i y at. free y (noted-none ys noted i y at))) ∙ so_far

-- where none is given, none is noted
pub noted-free : (f : AskedMessage → AskedMessage) → ((x : AskedMessage) → is_given (f x) ≡ false)
    → (places : List ℕ) (xs : List AskedMessage) → AreNoted places (map f xs)
noted-free f free places xs i y at given =
    let was = map-get f xs i y at in
    let no : true ≡ false = sym given ∙ ap is_given (sym was.2) ∙ free was.0 in absurd (cc)

-- a mark at a place
pub mark-keeps : (test : KeptMessage → Bool) (ys zs : List AskedMessage) (p : ℕ) → p < length ys
    → ((d : AskedMessage) → zs ≡ set ys p (marked_by test (get_or ys p d))) → KeepsChains ys zs
mark-keeps test ys zs p inside is =
    let it = get-there ys p inside in
    subst (KeepsChains ys)
    (sym (is it.0 ∙ ap (λ (x : AskedMessage). set ys p (marked_by test x)) (get_or_from_slice_get ys p it.0 it.0 it.1)))
    (set-keeps ys p it.0 (given_if (test (seen it.0)) it.0.answer) it.1 (settled-given (test (seen it.0)) it.0.answer))
