-- Marks on messages: those that are answered, settled, and awaited again.
use Rattle.std.proofs.Common.{◌≡◌, ℕ, zero, suc, ◌+◌, ◌<◌, ◌≤◌, Bool, true, false, List, [], ◌∷◌, ◌++◌, length, map}
use Rattle.std.proofs.Common.{take}
use Rattle.std.proofs.Common.{get_or, set, refl, sym, ap, ◌∙◌, arith}
use Rattle.std.specs.Prelude.{not, filter, if◌then◌else◌, decimal}
use Rattle.std.proofs.lemmas.List.{map-append, take-map, take-take}
use Rattle.std.proofs.lemmas.List.Elements.{filter-append}
use Rattle.order_law.specs.ouch_codec.declared.inbound.Inbound.{Inbound}
use Rattle.outstanding.specs.declared.asked.AskedMessage.{AskedMessage}
use Rattle.outstanding.specs.declared.asked.Answer.{Answer}
use Rattle.outstanding.specs.declared.asked.Answer.TheVariants.{Awaited, Given, Settled}
use Rattle.outstanding.specs.Kept.{KeptMessage, kept_from, seen}
use Rattle.outstanding.specs.Marks.{asked_of, awaited_again, awaits, settled_one, given_if, held, is_held}
use Rattle.outstanding.specs.Marks.{is_unanswered, marked_by, settled_now, unanswered, unmarked}
use Rattle.outstanding.specs.Marks.{was_settled}

-- ---- one message more

all-new : (port order_id : ℕ) (ms : List Inbound)
    → filter is_unanswered (map (asked_of port order_id) ms) ≡ map (asked_of port order_id) ms
all-new port order_id [] = refl
all-new port order_id (m ∷ ms) = ap (λ (qs : List AskedMessage). asked_of port order_id m ∷ qs)
    (all-new port order_id ms)

seen-new : (port order_id : ℕ) (ms : List Inbound)
    → map seen (map (asked_of port order_id) ms) ≡ kept_from port (decimal order_id) ms
seen-new port order_id [] = refl
seen-new port order_id (m ∷ ms) = ap (λ (ks : List KeptMessage). seen (asked_of port order_id m) ∷ ks)
    (seen-new port order_id ms)

-- what is asked stands behind the others
pub unanswered-pushed : (xs : List AskedMessage) (port order_id : ℕ) (ms : List Inbound)
    → unanswered (xs ++ map (asked_of port order_id) ms) ≡ unanswered xs ++ kept_from port (decimal order_id) ms
unanswered-pushed xs port order_id ms =
    ap (map seen) (filter-append is_unanswered xs (map (asked_of port order_id) ms)
    ∙ ap (λ (qs : List AskedMessage). filter is_unanswered xs ++ qs) (all-new port order_id ms))
    ∙ map-append seen (filter is_unanswered xs) (map (asked_of port order_id) ms)
    ∙ ap (λ (ks : List KeptMessage). unanswered xs ++ ks) (seen-new port order_id ms)

-- ---- answers

-- what is answered isn't unanswered
pub marks-answer : (test : KeptMessage → Bool) (xs : List AskedMessage)
    → unanswered (map (marked_by test) xs) ≡ filter (λ (k : KeptMessage). not (test k)) (unanswered xs)
marks-answer test [] = refl
marks-answer test (x ∷ xs) = by_answer x.answer (test (seen x)) refl (marks-answer test xs)
  where
    left : List KeptMessage
    left = filter (λ (k : KeptMessage). not (test k)) (unanswered xs)

    by_answer : (r : Answer) (b : Bool) → test (seen x) ≡ b
        → unanswered (map (marked_by test) xs) ≡ filter (λ (k : KeptMessage). not (test k)) (unanswered xs)
        → map seen (if awaits (given_if b r) then record x { answer = given_if b r } ∷ filter is_unanswered
        (map (marked_by test) xs) else filter is_unanswered (map (marked_by test) xs))
        ≡ filter (λ (k : KeptMessage). not (test k))
        (map seen (if awaits r then record x { answer = r } ∷ filter is_unanswered xs else filter is_unanswered xs))
    by_answer Awaited true e rest = rest ∙ sym (ap (λ (c : Bool). if not c then seen x ∷ left else left) e)
    by_answer Awaited false e rest = ap (λ (ks : List KeptMessage). seen x ∷ ks) rest
        ∙ sym (ap (λ (c : Bool). if not c then seen x ∷ left else left) e)
    by_answer Given b e rest = rest
    by_answer Settled b e rest = rest

-- answers settle nothing
held-marked : (test : KeptMessage → Bool) (xs : List AskedMessage) → held (map (marked_by test) xs) ≡ held xs
held-marked test [] = refl
held-marked test (x ∷ xs) = by_answer x.answer (test (seen x)) (held-marked test xs)
  where
    by_answer : (r : Answer) (b : Bool) → held (map (marked_by test) xs) ≡ held xs
        → map seen (if not (was_settled (given_if b r)) then record x { answer = given_if b r } ∷ filter is_held
        (map (marked_by test) xs) else filter is_held (map (marked_by test) xs))
        ≡ map seen (if not (was_settled r) then record x { answer = r } ∷ filter is_held xs else filter is_held xs)
    by_answer Awaited true rest = ap (λ (ks : List KeptMessage). seen x ∷ ks) rest
    by_answer Awaited false rest = ap (λ (ks : List KeptMessage). seen x ∷ ks) rest
    by_answer Given b rest = ap (λ (ks : List KeptMessage). seen x ∷ ks) rest
    by_answer Settled b rest = rest

pub marks-keep : (test : KeptMessage → Bool) (n : ℕ) (xs : List AskedMessage)
    → held (take n (map (marked_by test) xs)) ≡ held (take n xs)
marks-keep test n xs = ap held (take-map (marked_by test) n xs) ∙ held-marked test (take n xs)

-- ---- settled

-- what is settled was answered
pub unanswered-settled_one : (xs : List AskedMessage)
    → filter is_unanswered (map settled_one xs) ≡ filter is_unanswered xs
unanswered-settled_one [] = refl
unanswered-settled_one (x ∷ xs) = by_answer x.answer (unanswered-settled_one xs)
  where
    by_answer : (r : Answer) → filter is_unanswered (map settled_one xs) ≡ filter is_unanswered xs
        → (if awaits (settled_now r) then record x { answer = settled_now r } ∷ filter is_unanswered
        (map settled_one xs)
        else filter is_unanswered (map settled_one xs))
        ≡ (if awaits r then record x { answer = r } ∷ filter is_unanswered xs else filter is_unanswered xs)
    by_answer Awaited rest = ap (λ (qs : List AskedMessage). record x { answer = Awaited } ∷ qs) rest
    by_answer Given rest = rest
    by_answer Settled rest = rest

-- all that is held then isn't answered
pub held-settled_one : (xs : List AskedMessage)
    → filter is_held (map settled_one xs) ≡ filter is_unanswered (map settled_one xs)
held-settled_one [] = refl
held-settled_one (x ∷ xs) = by_answer x.answer (held-settled_one xs)
  where
    by_answer : (r : Answer) → filter is_held (map settled_one xs) ≡ filter is_unanswered (map settled_one xs)
        → (if not (was_settled (settled_now r)) then record x { answer = settled_now r } ∷ filter is_held
        (map settled_one xs)
        else filter is_held (map settled_one xs))
        ≡ (if awaits (settled_now r) then record x { answer = settled_now r } ∷ filter is_unanswered
        (map settled_one xs) else
        filter is_unanswered (map settled_one xs))
    by_answer Awaited rest = ap (λ (qs : List AskedMessage). record x { answer = Awaited } ∷ qs) rest
    by_answer Given rest = rest
    by_answer Settled rest = rest

-- what isn't answered, once more
pub unanswered-twice : (xs : List AskedMessage)
    → filter is_unanswered (filter is_unanswered xs) ≡ filter is_unanswered xs
unanswered-twice [] = refl
unanswered-twice (x ∷ xs) = by_answer x.answer (unanswered-twice xs)
  where
    by_answer : (r : Answer) → filter is_unanswered (filter is_unanswered xs) ≡ filter is_unanswered xs
        → filter is_unanswered (if awaits r then record x { answer = r } ∷ filter is_unanswered xs else filter
        is_unanswered xs)
        ≡ (if awaits r then record x { answer = r } ∷ filter is_unanswered xs else filter is_unanswered xs)
    by_answer Awaited rest = ap (λ (qs : List AskedMessage). record x { answer = Awaited } ∷ qs) rest
    by_answer Given rest = rest
    by_answer Settled rest = rest

pub held-unanswered : (xs : List AskedMessage) → filter is_held (filter is_unanswered xs) ≡ filter is_unanswered xs
held-unanswered [] = refl
held-unanswered (x ∷ xs) = by_answer x.answer (held-unanswered xs)
  where
    by_answer : (r : Answer) → filter is_held (filter is_unanswered xs) ≡ filter is_unanswered xs
        → filter is_held (if awaits r then record x { answer = r } ∷ filter is_unanswered xs else filter
        is_unanswered xs)
        ≡ (if awaits r then record x { answer = r } ∷ filter is_unanswered xs else filter is_unanswered xs)
    by_answer Awaited rest = ap (λ (qs : List AskedMessage). record x { answer = Awaited } ∷ qs) rest
    by_answer Given rest = rest
    by_answer Settled rest = rest

-- ---- awaited again

again-held : (xs : List AskedMessage) → unanswered (map unmarked xs) ≡ held xs
again-held [] = refl
again-held (x ∷ xs) = by_answer x.answer (again-held xs)
  where
    by_answer : (r : Answer) → unanswered (map unmarked xs) ≡ held xs
        → map seen (if awaits (awaited_again r) then record x { answer = awaited_again r } ∷ filter is_unanswered
        (map unmarked xs) else filter is_unanswered (map unmarked xs))
        ≡ map seen (if not (was_settled r) then record x { answer = r } ∷ filter is_held xs else filter is_held xs)
    by_answer Awaited rest = ap (λ (ks : List KeptMessage). seen x ∷ ks) rest
    by_answer Given rest = ap (λ (ks : List KeptMessage). seen x ∷ ks) rest
    by_answer Settled rest = rest

held-again : (xs : List AskedMessage) → held (map unmarked xs) ≡ held xs
held-again [] = refl
held-again (x ∷ xs) = by_answer x.answer (held-again xs)
  where
    by_answer : (r : Answer) → held (map unmarked xs) ≡ held xs
        → map seen (if not (was_settled (awaited_again r)) then record x { answer = awaited_again r } ∷ filter is_held
        (map unmarked xs) else filter is_held (map unmarked xs))
        ≡ map seen (if not (was_settled r) then record x { answer = r } ∷ filter is_held xs else filter is_held xs)
    by_answer Awaited rest = ap (λ (ks : List KeptMessage). seen x ∷ ks) rest
    by_answer Given rest = ap (λ (ks : List KeptMessage). seen x ∷ ks) rest
    by_answer Settled rest = rest

-- those that were settled are awaited again, and no others
pub unmarked-unanswered : (n : ℕ) (xs : List AskedMessage)
    → unanswered (take n (map unmarked xs)) ≡ held (take n xs)
unmarked-unanswered n xs = ap unanswered (take-map unmarked n xs) ∙ again-held (take n xs)

pub unmarked-held : (n : ℕ) (xs : List AskedMessage)
    → held (take n (take n (map unmarked xs))) ≡ held (take n xs)
unmarked-held n xs = ap held (take-take n n (map unmarked xs) (omega arith) ∙ take-map unmarked n xs)
    ∙ held-again (take n xs)

-- ---- how many pass a test

-- one less, where one that passes gives way to one that doesn't
pub count-less : {X : Type 0} (t : X → Bool) (xs : List X) (p : ℕ) (x d : X) → p < length xs
    → t (get_or xs p d) ≡ true → t x ≡ false
    → length (filter t (set xs p x)) + 1 ≡ length (filter t xs)
count-less t [] p x d inside was now = absurd (omega arith)
count-less {X = X} t (y ∷ ys) zero x d inside was now = by_tests (t y) (t x) was now
  where
    by_tests : (b c : Bool) → b ≡ true → c ≡ false
        → length (if c then x ∷ filter t ys else filter t ys) + 1 ≡ length (if b then y ∷ filter t ys else filter t ys)
    by_tests true true e f = absurd (cc)
    by_tests true false e f = omega arith
    by_tests false c e f = absurd (cc)
count-less {X = X} t (y ∷ ys) (suc p) x d inside was now =
    by_test (t y) (count-less t ys p x d (omega arith) was now)
  where
    by_test : (b : Bool) → length (filter t (set ys p x)) + 1 ≡ length (filter t ys)
        → length (if b then y ∷ filter t (set ys p x) else filter t (set ys p x)) + 1
        ≡ length (if b then y ∷ filter t ys else filter t ys)
    by_test true e = omega (arith, e)
    by_test false e = e

-- at most one more, where one gives way to another
pub count-more : {X : Type 0} (t : X → Bool) (xs : List X) (p : ℕ) (x : X)
    → length (filter t (set xs p x)) ≤ length (filter t xs) + 1
count-more t [] p x = omega arith
count-more {X = X} t (y ∷ ys) zero x = by_tests (t y) (t x)
  where
    by_tests : (b c : Bool)
        → length (if c then x ∷ filter t ys else filter t ys)
        ≤ length (if b then y ∷ filter t ys else filter t ys) + 1
    by_tests true true = omega arith
    by_tests true false = omega arith
    by_tests false true = omega arith
    by_tests false false = omega arith
count-more {X = X} t (y ∷ ys) (suc p) x = by_test (t y) (count-more t ys p x)
  where
    by_test : (b : Bool) → length (filter t (set ys p x)) ≤ length (filter t ys) + 1
        → length (if b then y ∷ filter t (set ys p x) else filter t (set ys p x))
        ≤ length (if b then y ∷ filter t ys else filter t ys) + 1
    by_test true e = omega (arith, e)
    by_test false e = e

-- no more among the first
pub count-first : {X : Type 0} (t : X → Bool) (n : ℕ) (xs : List X)
    → length (filter t (take n xs)) ≤ length (filter t xs)
count-first t zero xs = omega arith
count-first t (suc n) [] = omega arith
count-first {X = X} t (suc n) (y ∷ ys) = by_test (t y) (count-first t n ys)
  where
    by_test : (b : Bool) → length (filter t (take n ys)) ≤ length (filter t ys)
        → length (if b then y ∷ filter t (take n ys) else filter t (take n ys))
        ≤ length (if b then y ∷ filter t ys else filter t ys)
    by_test true e = omega (arith, e)
    by_test false e = e

pub count-all : {X : Type 0} (t : X → Bool) (xs : List X) → length (filter t xs) ≤ length xs
count-all t [] = omega arith
count-all {X = X} t (y ∷ ys) = by_test (t y) (count-all t ys)
  where
    by_test : (b : Bool) → length (filter t ys) ≤ length ys
        → length (if b then y ∷ filter t ys else filter t ys) ≤ length (y ∷ ys)
    by_test true e = omega (arith, e)
    by_test false e = omega (arith, e)
