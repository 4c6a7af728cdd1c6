-- How many tokens the orders of a table have had: at most one more than replaces were accepted.
use Rattle.std.proofs.Common.{◌≡◌, ℕ, zero, suc, ◌+◌, ◌-◌, ◌≤◌, Bool, true, false, List, [], ◌∷◌, ◌++◌, length}
use Rattle.std.proofs.Common.{reverse, refl, sym, ap, ◌∙◌, arith, slice_get, slice_set, leb-true}
use Rattle.std.specs.Prelude.{◌&&◌, ◌==◌, nat_le, Some, if◌then◌else◌, bytes_eq}
use Rattle.std.specs.List.{count_by, list_all}
use Rattle.std.proofs.lemmas.Bool.{and_parts}
use Rattle.std.proofs.lemmas.Bool.Decides.{nat_tests}
use Rattle.std.proofs.lemmas.List.Folds.{list_all-append}
use Rattle.undo_orders.specs.orders.order_law.History.{Entry, token_of}
use Rattle.order_machine.specs.OrderRecord.{OrderRecord, at, filled, gone, live_token, over_if, put_in_book, reduced}
use Rattle.order_machine.specs.OrderRecord.{renamed, still_after, unasked, with_trade}
use Rattle.order_machine.specs.Table.{GivenToken, has_number, is_replacement_of}
use Rattle.order_machine.proofs.Lists.{count-push, found-passes}
use Rattle.order_machine.proofs.Texts.{eq-is, eq-true}
use Rattle.undo_orders.specs.Changes.{changed_by, replaced_as}
use Rattle.undo_orders.specs.orders.declared.change.Change.{Change}
use Rattle.undo_orders.specs.orders.declared.change.Change.TheVariants as changes
use Rattle.undo_index.specs.Newest.{IsNewest}
use Rattle.order_table.specs.Held.{is_counted, tokens_had}

within : (m n : ℕ) → m ≤ n → nat_le m n ≡ true
within m n few = grind (arith, nat_tests)

abbrev count_of : List GivenToken → OrderRecord → ℕ
count_of ts o = count_by (is_replacement_of o.new.order) ts

pub counted-few : (ts : List GivenToken) (o : OrderRecord) → is_counted ts o ≡ true → tokens_had o ≤ 1 + count_of ts o
counted-few ts o h = leb-true (tokens_had o) (1 + count_of ts o) h

-- ---- lists

pub both : (a b : Bool) → a ≡ true → b ≡ true → (a && b) ≡ true
both a b x y = rw (x, y) refl

pub all-at : {A : Type 0} (test : A → Bool) (xs : List A) (i : ℕ) (x : A) → list_all test xs ≡ true
    → slice_get xs i ≡ Some x → test x ≡ true
all-at test [] i x all at_i = absurd (cc)
all-at test (y ∷ ys) zero x all at_i = let same : y ≡ x = cc in ap test (sym same)
    ∙ (and_parts (test y) (list_all test ys) all).0
all-at test (y ∷ ys) (suc i) x all at_i = all-at test ys i x (and_parts (test y) (list_all test ys) all).1 at_i

pub all-set : {A : Type 0} (test : A → Bool) (xs : List A) (i : ℕ) (x : A) → list_all test xs ≡ true → test x ≡ true
    → list_all test (slice_set xs i x) ≡ true
all-set test [] i x all passes = refl
all-set test (y ∷ ys) zero x all passes =
    both (test x) (list_all test ys) passes (and_parts (test y) (list_all test ys) all).1
all-set test (y ∷ ys) (suc i) x all passes =
    both (test y) (list_all test (slice_set ys i x)) (and_parts (test y) (list_all test ys) all).0
    (all-set test ys i x (and_parts (test y) (list_all test ys) all).1 passes)

pub all-push : {A : Type 0} (test : A → Bool) (xs : List A) (x : A) → list_all test xs ≡ true → test x ≡ true
    → list_all test (xs ++ x ∷ []) ≡ true
all-push test xs x all passes =
    list_all-append test xs (x ∷ []) ∙ both (list_all test xs) (list_all test (x ∷ [])) all
    (both (test x) true passes refl)

length-push : {A : Type 0} (xs : List A) (x : A) → length (xs ++ x ∷ []) ≡ length xs + 1
length-push [] x = refl
length-push (y ∷ ys) x = let rest = length-push ys x in omega (arith, rest)

-- an order with a replace more pending
pub one-more : (o : OrderRecord) (q : Entry) → tokens_had (at o (o.replaces ++ q ∷ []) o.cancel) ≤ tokens_had o + 1
one-more o q = let longer = length-push o.replaces q in omega (arith, longer)

-- ---- a further token

more_or_same : (b : Bool) (n : ℕ) → n ≤ n + (if b then 1 else 0)
more_or_same true n = omega arith
more_or_same false n = omega arith

more-tokens : (ts : List GivenToken) (t : GivenToken) (o : OrderRecord) → count_of ts o ≤ count_of (ts ++ t ∷ []) o
more-tokens ts t o = let pushed = count-push (is_replacement_of o.new.order) ts t in let more =
    more_or_same (is_replacement_of o.new.order t) (count_of ts o) in omega (arith, pushed, more)

still-counted : (ts : List GivenToken) (t : GivenToken) (o : OrderRecord) → is_counted ts o ≡ true
    → is_counted (ts ++ t ∷ []) o ≡ true
still-counted ts t o h = let few = counted-few ts o h in let more = more-tokens ts t o in
    within (tokens_had o) (1 + count_of (ts ++ t ∷ []) o) (omega (arith, few, more))

all-more : (ts : List GivenToken) (t : GivenToken) (os : List OrderRecord) → list_all (is_counted ts) os ≡ true
    → list_all (is_counted (ts ++ t ∷ [])) os ≡ true
all-more ts t [] all = refl
all-more ts t (o ∷ os) all =
    both (is_counted (ts ++ t ∷ []) o) (list_all (is_counted (ts ++ t ∷ [])) os)
    (still-counted ts t o (and_parts (is_counted ts o) (list_all (is_counted ts) os) all).0)
    (all-more ts t os (and_parts (is_counted ts o) (list_all (is_counted ts) os) all).1)

-- ---- what the table's calls leave

-- one order more, and its token
pub added : (ts : List GivenToken) (t : GivenToken) (os : List OrderRecord) (o : OrderRecord)
    → list_all (is_counted ts) os ≡ true → tokens_had o ≤ 1 → list_all (is_counted (ts ++ t ∷ [])) (os ++ o ∷ []) ≡ true
added ts t os o all few =
    list_all-append (is_counted (ts ++ t ∷ [])) os (o ∷ [])
    ∙ both (list_all (is_counted (ts ++ t ∷ [])) os) (list_all (is_counted (ts ++ t ∷ [])) (o ∷ []))
    (all-more ts t os all)
    (both (is_counted (ts ++ t ∷ []) o) true (within (tokens_had o) (1 + count_of (ts ++ t ∷ []) o)
    (omega (arith, few))) refl)

-- an order that has had no more tokens than the one in whose place it stands
pub kept : (ts : List GivenToken) (os : List OrderRecord) (i : ℕ) (o p : OrderRecord)
    → list_all (is_counted ts) os ≡ true → slice_get os i ≡ Some o → p.new ≡ o.new → tokens_had p ≤ tokens_had o
    → list_all (is_counted ts) (slice_set os i p) ≡ true
kept ts os i o p all at_i same few =
    let was = counted-few ts o (all-at (is_counted ts) os i o all at_i) in
    let count : count_of ts p ≡ count_of ts o = ap (λ (e : Entry). count_by (is_replacement_of e.order) ts) same in
    all-set (is_counted ts) os i p all (within (tokens_had p) (1 + count_of ts p) (omega (arith, was, few, count)))

-- an order whose replace was given a token
pub replacing : (ts : List GivenToken) (t : GivenToken) (os : List OrderRecord) (i : ℕ) (o p : OrderRecord)
    → list_all (is_counted ts) os ≡ true → slice_get os i ≡ Some o → p.new ≡ o.new
    → is_replacement_of o.new.order t ≡ true → tokens_had p ≤ tokens_had o + 1
    → list_all (is_counted (ts ++ t ∷ [])) (slice_set os i p) ≡ true
replacing ts t os i o p all at_i same own few =
    let was = counted-few ts o (all-at (is_counted ts) os i o all at_i) in
    let pushed : count_of (ts ++ t ∷ []) o ≡ count_of ts o + 1 = count-push (is_replacement_of o.new.order) ts t
    ∙ ap (λ (b : Bool). count_of ts o + (if b then 1 else 0)) own in
    let count : count_of (ts ++ t ∷ []) p ≡ count_of (ts ++ t ∷ []) o =
    ap (λ (e : Entry). count_by (is_replacement_of e.order) (ts ++ t ∷ [])) same in
    all-set (is_counted (ts ++ t ∷ [])) os i p (all-more ts t os all)
    (within (tokens_had p) (1 + count_of (ts ++ t ∷ []) p) (omega (arith, was, few, count, pushed)))

-- ---- what a change makes of it

over-few : (b : Bool) (o : OrderRecord) → tokens_had (over_if b o) ≤ tokens_had o
over-few true o = omega arith
over-few false o = omega arith

over-new : (b : Bool) (o : OrderRecord) → (over_if b o).new ≡ o.new
over-new true o = refl
over-new false o = refl

replaced-few : (shares price : ℕ) (is_dead : Bool) (o : OrderRecord) (qs : List Entry) → o.replaces ≡ qs
    → tokens_had (replaced_as shares price is_dead o qs) ≤ tokens_had o
replaced-few shares price is_dead o [] e = omega arith
replaced-few shares price is_dead o (q ∷ qs) e =
    let over = over-few is_dead (at (put_in_book shares price (renamed (token_of q) q o)) qs
    (still_after (bytes_eq (live_token o)) o.cancel)) in
    let all : length o.replaces ≡ suc (length qs) = ap (λ (xs : List Entry). length xs) e in
    omega (arith, over, all)

replaced-new : (shares price : ℕ) (is_dead : Bool) (o : OrderRecord) (qs : List Entry)
    → (replaced_as shares price is_dead o qs).new ≡ o.new
replaced-new shares price is_dead o [] = refl
replaced-new shares price true o (q ∷ qs) = refl
replaced-new shares price false o (q ∷ qs) = refl

pub change-few : (change : Change) (o : OrderRecord) → tokens_had (changed_by change o) ≤ tokens_had o
change-few (changes.Opened shares price is_dead) o = over-few is_dead (put_in_book shares price o)
change-few (changes.Replaced shares price is_dead) o = replaced-few shares price is_dead o o.replaces refl
change-few (changes.Canceled shares) o = by_rest (o.unfilled - shares == 0)
  where
    by_rest : (b : Bool) → tokens_had (if b then unasked (gone o) else reduced shares o) ≤ tokens_had o
    by_rest true = omega arith
    by_rest false = omega arith
change-few (changes.Traded t) o = by_rest (o.unfilled - t.trade.shares == 0)
  where
    by_rest : (b : Bool) → tokens_had (if b then unasked (filled t.number t.trade o) else with_trade t.number t.trade o)
        ≤ tokens_had
        o
    by_rest true = omega arith
    by_rest false = omega arith
change-few (changes.Broken t) o = omega arith
change-few changes.Refused o = omega arith
change-few changes.NotReplaced o = omega arith
change-few (changes.NotCanceled token) o = omega arith

pub change-new : (change : Change) (o : OrderRecord) → (changed_by change o).new ≡ o.new
change-new (changes.Opened shares price is_dead) o = over-new is_dead (put_in_book shares price o)
change-new (changes.Replaced shares price is_dead) o = replaced-new shares price is_dead o o.replaces
change-new (changes.Canceled shares) o = by_rest (o.unfilled - shares == 0)
  where
    by_rest : (b : Bool) → (if b then unasked (gone o) else reduced shares o).new ≡ o.new
    by_rest true = refl
    by_rest false = refl
change-new (changes.Traded t) o = by_rest (o.unfilled - t.trade.shares == 0)
  where
    by_rest : (b : Bool) → (if b then unasked (filled t.number t.trade o) else with_trade t.number t.trade o).new
        ≡ o.new
    by_rest true = refl
    by_rest false = refl
change-new (changes.Broken t) o = refl
change-new changes.Refused o = refl
change-new changes.NotReplaced o = refl
change-new (changes.NotCanceled token) o = refl

-- ---- the order with an OrderID

pub own-number : (order : List ℕ) (os : List OrderRecord) (i : ℕ) (o : OrderRecord) → IsNewest (has_number order) os i
    → slice_get os i ≡ Some o → o.new.order ≡ order
own-number order os i o newest at_i = eq-is o.new.order order
    (found-passes (has_number order) (reverse os) o (newest.newest ∙ at_i))

-- a token that a replace of it was given
pub own-token : (order : List ℕ) (t : GivenToken) (o : OrderRecord) → o.new.order ≡ order → t.order ≡ order
    → t.is_replacement ≡ true → is_replacement_of o.new.order t ≡ true
own-token order t o own of_order is_replacement =
    both (bytes_eq t.order o.new.order) t.is_replacement
    (eq-true t.order o.new.order (of_order ∙ sym own)) is_replacement
