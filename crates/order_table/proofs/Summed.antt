-- What each client's orders come to: after one order more, and after a change of one; and that it fits.
use Rattle.std.proofs.Common.{◌≡◌, ℕ, zero, suc, ◌+◌, ◌*◌, ◌<◌, ◌≤◌, ◌^◌, Bool, true, false, List, [], ◌∷◌, ◌++◌}
use Rattle.std.proofs.Common.{length}
use Rattle.std.proofs.Common.{◌-◌, refl, sym, ap, ◌∙◌, subst, arith, eq-eqb, eqb-true, leb-true, ltb-true, reverse}
use Rattle.std.proofs.Common.{slice_get, slice_set}
use Rattle.std.specs.Prelude.{◌&&◌, ◌==◌, nat_le, nat_lt, not, Some, if◌then◌else◌}
use Rattle.std.specs.List.{list_all, sum_by}
use Rattle.std.proofs.lemmas.Bool.{and_parts}
use Rattle.std.proofs.lemmas.Bool.Decides.{nat_tests}
use Rattle.std.proofs.lemmas.List.{reverse-append}
use Rattle.std.proofs.lemmas.List.Sums.{count_by-le-length, sum_by-cons, sum_by_push}
use Rattle.undo_orders.specs.orders.order_law.Life.{is_closed}
use Rattle.undo_orders.specs.orders.order_law.History.{Entry}
use Rattle.order_machine.specs.OrderRecord.{OrderRecord}
use Rattle.order_machine.specs.Table.{GivenToken, is_open_of, open_count}
use Rattle.undo_orders.specs.Changes.{Fits, changed_by}
use Rattle.undo_orders.specs.orders.declared.change.Change.{Change}
use Rattle.undo_orders.specs.orders.declared.change.Change.TheVariants as changes
use Rattle.order_table.specs.declared.sums.Sums.{Sums}
use Rattle.order_table.specs.Held.{is_placed, tokens_had}
use Rattle.order_table.specs.Sums.{AreSums, HasRoom, IsExchanged, IsPart, executed_sum, is_small, no_sums}
use Rattle.order_table.specs.Sums.{own_executed, own_value, part, sums_at, sums_of, value_sum}
use Rattle.order_table.proofs.Counted.{both}

-- ---- a sum, after a write

pub sum-set : {A : Type 0} (f : A → ℕ) (xs : List A) (i : ℕ) (x y : A) → slice_get xs i ≡ Some x
    → sum_by f (slice_set xs i y) + f x ≡ sum_by f xs + f y
sum-set f [] i x y at_i = absurd (cc)
sum-set f (a ∷ xs) zero x y at_i =
    let same : f a ≡ f x = ap f (let e : a ≡ x = cc in e) in
    omega (arith, same, sum_by-cons f a xs, sum_by-cons f y xs)
sum-set f (a ∷ xs) (suc i) x y at_i =
    omega (arith, sum-set f xs i x y at_i, sum_by-cons f a xs, sum_by-cons f a (slice_set xs i y))

-- no more than all of it
pub sum-at : {A : Type 0} (f : A → ℕ) (xs : List A) (i : ℕ) (x : A) → slice_get xs i ≡ Some x → f x ≤ sum_by f xs
sum-at f [] i x at_i = absurd (cc)
sum-at f (a ∷ xs) zero x at_i =
    let same : f a ≡ f x = ap f (let e : a ≡ x = cc in e) in omega (arith, same, sum_by-cons f a xs)
sum-at f (a ∷ xs) (suc i) x at_i = omega (arith, sum-at f xs i x at_i, sum_by-cons f a xs)

pub sum-reverse : {A : Type 0} (f : A → ℕ) (xs : List A) → sum_by f (reverse xs) ≡ sum_by f xs
sum-reverse f [] = refl
sum-reverse {A = A} f (x ∷ xs) =
    ap (sum_by f) (reverse-append (x ∷ []) xs)
    ∙ omega (arith, sum_by_push f (reverse xs) x, sum-reverse f xs, sum_by-cons f x xs)

-- ---- what closed an order

-- a closed order stays closed
stays-closed : (change : Change) (o : OrderRecord) → Fits change o → is_closed o.stage ≡ true
    → is_closed (changed_by change o).stage ≡ true
stays-closed (changes.Opened shares price is_dead) o fits closed = let x : is_closed o.stage ≡ false =
    ap is_closed fits.0 in absurd (cc)
stays-closed (changes.Replaced shares price is_dead) o fits closed = let x : is_closed o.stage ≡ false =
    ap is_closed fits.0 in absurd (cc)
stays-closed (changes.Canceled shares) o fits closed = let x : is_closed o.stage ≡ false = ap is_closed fits.0 in
    absurd (cc)
stays-closed (changes.Traded t) o fits closed = let x : is_closed o.stage ≡ false = ap is_closed fits.0 in absurd (cc)
stays-closed (changes.Broken t) o fits closed = closed
stays-closed changes.Refused o fits closed = let x : is_closed o.stage ≡ false = ap is_closed fits in absurd (cc)
stays-closed changes.NotReplaced o fits closed = closed
stays-closed (changes.NotCanceled token) o fits closed = closed

-- so a change opens none
pub opens-none : (change : Change) (o : OrderRecord) → Fits change o
    → (sums_of (changed_by change o)).still_open ≤ (sums_of o).still_open
opens-none change o fits = by_stage (is_closed o.stage) (is_closed (changed_by change o).stage)
    (stays-closed change o fits)
  where
    by_stage : (was now : Bool) → (was ≡ true → now ≡ true) → part (not now) 1 ≤ part (not was) 1
    by_stage true true stays = omega arith
    by_stage true false stays = let x : false ≡ true = stays refl in absurd (cc)
    by_stage false true stays = omega arith
    by_stage false false stays = omega arith

-- ---- what an order comes to, of its client

part-and : (own is_open : Bool) → part own (part is_open 1) ≡ (if own && is_open then 1 else 0)
part-and true is_open = refl
part-and false is_open = refl

part-none : (own : Bool) → part own 0 ≡ 0
part-none true = refl
part-none false = refl

part-most : (own : Bool) (n : ℕ) → part own n ≤ n
part-most true n = omega arith
part-most false n = omega arith

-- an order's sums, where they are the client's
abbrev one_open : ℕ → OrderRecord → ℕ
one_open client o = if is_open_of client o then 1 else 0

record IsOf (client : ℕ) (is_own : Bool) (s : Sums) (o : OrderRecord) : Type 0 where
  still_open : part is_own s.still_open ≡ one_open client o
  executed : part is_own s.executed ≡ own_executed client o
  value : part is_own s.value ≡ own_value client o

is-of : (client other : ℕ) (s : Sums) (o : OrderRecord) → client ≡ o.new.client → s ≡ sums_of o
    → IsOf other (client == other) s o
is-of client other s o of_client is = record {
  still_open = ap (λ (x : Sums). part (client == other) x.still_open) is
      ∙ ap (λ (c : ℕ). part (c == other) (part (not (is_closed o.stage)) 1)) of_client
      ∙ part-and (o.new.client == other) (not (is_closed o.stage));
  executed = ap (λ (x : Sums). part (client == other) x.executed) is
      ∙ ap (λ (c : ℕ). part (c == other) o.executed) of_client;
  value = ap (λ (x : Sums). part (client == other) x.value) is
      ∙ ap (λ (c : ℕ). part (c == other) o.value) of_client;
}

-- ---- what the table's calls leave

-- one order more
pub summed-in : (kept now : List Sums) (os : List OrderRecord) (o : OrderRecord) (client : ℕ) (was becomes : Sums)
    → AreSums kept os → was ≡ no_sums
    → ((other : ℕ) → IsExchanged (client == other) was becomes (sums_at kept other) (sums_at now other))
    → client ≡ o.new.client → becomes ≡ sums_of o → AreSums now (os ++ o ∷ [])
summed-in kept now os o client was becomes are none exchanged of_client is = λ other.
    let sums = are other in
    let done = exchanged other in
    let adds = is-of client other becomes o of_client is in
    let no_open : part (client == other) was.still_open ≡ 0 =
    ap (λ (x : Sums). part (client == other) x.still_open) none
    ∙ part-none (client == other) in
    let no_executed : part (client == other) was.executed ≡ 0 =
    ap (λ (x : Sums). part (client == other) x.executed) none
    ∙ part-none (client == other) in
    let no_value : part (client == other) was.value ≡ 0 = ap (λ (x : Sums). part (client == other) x.value) none
    ∙ part-none (client == other) in
    record {
      still_open = omega
          (arith, sums.still_open, done.still_open, adds.still_open, no_open, sum_by_push (one_open other) os o);
      executed = omega
          (arith, sums.executed, done.executed, adds.executed, no_executed, sum_by_push (own_executed other) os o);
      value = omega (arith, sums.value, done.value, adds.value, no_value, sum_by_push (own_value other) os o);
    }

-- an order in the place of one of the same client
pub exchanged : (kept now : List Sums) (os : List OrderRecord) (i : ℕ) (o p : OrderRecord) (client : ℕ)
    (was becomes : Sums) → AreSums kept os
    → ((other : ℕ) → IsExchanged (client == other) was becomes (sums_at kept other) (sums_at now other))
    → slice_get os i ≡ Some o → client ≡ o.new.client → p.new ≡ o.new → was ≡ sums_of o → becomes ≡ sums_of p
    → AreSums now (slice_set os i p)
exchanged kept now os i o p client was becomes are done at_i of_client same was_is is = λ other.
    let sums = are other in
    let did = done other in
    let off = is-of client other was o of_client was_is in
    let adds = is-of client other becomes p (of_client ∙ sym (ap (λ (e : Entry). e.client) same)) is in
    record {
      still_open = omega (
        arith,
        sums.still_open,
        did.still_open,
        off.still_open,
        adds.still_open,
        sum-set
            (one_open other) os i o p at_i,
      );
      executed = omega
          (arith, sums.executed, did.executed, off.executed, adds.executed, sum-set (own_executed other) os i o p at_i);
      value = omega (arith, sums.value, did.value, off.value, adds.value, sum-set (own_value other) os i o p at_i);
    }

-- an order that comes to the same
pub as-much : (kept : List Sums) (os : List OrderRecord) (i : ℕ) (o p : OrderRecord) → AreSums kept os
    → slice_get os i ≡ Some o → p.new ≡ o.new → sums_of p ≡ sums_of o → AreSums kept (slice_set os i p)
as-much kept os i o p are at_i same alike =
    exchanged kept kept os i o p o.new.client (sums_of o) (sums_of p) are
    (λ other. record {
      still_open = ap (λ (s : Sums). (sums_at kept other).still_open + part (o.new.client == other) s.still_open)
          (sym alike);
      executed = ap (λ (s : Sums). (sums_at kept other).executed + part (o.new.client == other) s.executed) (sym alike);
      value = ap (λ (s : Sums). (sums_at kept other).value + part (o.new.client == other) s.value) (sym alike);
    }) at_i refl same refl refl

-- ---- what is taken off was added

self-test : (n : ℕ) → (n == n) ≡ true
self-test n = eq-eqb n n refl

own-part : (own : Bool) (n m : ℕ) → own ≡ true → part own n ≤ m → n ≤ m
own-part true n m is few = few
own-part false n m is few = absurd (cc)

pub was-added : (kept : List Sums) (os : List OrderRecord) (i : ℕ) (o : OrderRecord) (client : ℕ) (was : Sums)
    → AreSums kept os → slice_get os i ≡ Some o → client ≡ o.new.client → was ≡ sums_of o
    → IsPart was (sums_at kept client)
was-added kept os i o client was are at_i of_client is =
    let sums = are client in
    let off = is-of client client was o of_client is in
    record {
      still_open = own-part (client == client) was.still_open (sums_at kept client).still_open (self-test client)
          (omega (arith, sums.still_open, off.still_open, sum-at (one_open client) os i o at_i));
      executed = own-part (client == client) was.executed (sums_at kept client).executed (self-test client)
          (omega (arith, sums.executed, off.executed, sum-at (own_executed client) os i o at_i));
      value = own-part (client == client) was.value (sums_at kept client).value (self-test client)
          (omega (arith, sums.value, off.value, sum-at (own_value client) os i o at_i));
    }

-- an order that is added came to nothing
pub none-within : (was all : Sums) → was ≡ no_sums → IsPart was all
none-within was all none = subst (λ (s : Sums). IsPart s all) (sym none)
    (record { still_open = omega arith; executed = omega arith; value = omega arith })

-- ---- sums fit

small-parts : (o : OrderRecord) → is_small o ≡ true → (o.executed ≤ 1_048_576 * length o.tokens)
    × (o.value ≤ 4_503_599_627_370_496 * length o.tokens)
small-parts o small =
    let parts = and_parts (nat_le o.executed (1_048_576 * length o.tokens))
    (nat_le o.value (4_503_599_627_370_496 * length o.tokens)) small in (
      leb-true o.executed (1_048_576 * length o.tokens) parts.0,
      leb-true o.value (4_503_599_627_370_496 * length o.tokens) parts.1,
    )

executed-few : (os : List OrderRecord) (client : ℕ) → list_all is_small os ≡ true
    → executed_sum os client ≤ 1_048_576 * sum_by tokens_had os
executed-few [] client all = omega arith
executed-few (o ∷ os) client all =
    let parts = and_parts (is_small o) (list_all is_small os) all in
    omega (
      arith,
      executed-few os client parts.1,
      (small-parts o parts.0).0,
      part-most (o.new.client == client) o.executed,
      sum_by-cons (own_executed client) o os,
      sum_by-cons tokens_had o os,
    )

value-few : (os : List OrderRecord) (client : ℕ) → list_all is_small os ≡ true
    → value_sum os client ≤ 4_503_599_627_370_496 * sum_by tokens_had os
value-few [] client all = omega arith
value-few (o ∷ os) client all =
    let parts = and_parts (is_small o) (list_all is_small os) all in
    omega (
      arith,
      value-few os client parts.1,
      (small-parts o parts.0).1,
      part-most (o.new.client == client) o.value,
      sum_by-cons (own_value client) o os,
      sum_by-cons tokens_had o os,
    )

-- what an order comes to that has had no more tokens than were given fits beside the sums
pub fits-beside : (ts : List GivenToken) (kept : List Sums) (os : List OrderRecord) (client : ℕ) (was becomes : Sums)
    (p : OrderRecord) → AreSums kept os → list_all is_small os ≡ true → sum_by tokens_had os ≤ length ts
    → length ts < 2 ^ 64 → becomes ≡ sums_of p → is_small p ≡ true → length p.tokens ≤ length ts + 1
    → open_count os client + becomes.still_open < 2 ^ 64 + was.still_open
    → HasRoom was becomes (sums_at kept client)
fits-beside ts kept os client was becomes p are small given few is small_p own few_open =
    let sums = are client in
    let executed : becomes.executed ≡ p.executed = ap (λ (s : Sums). s.executed) is in
    let value : becomes.value ≡ p.value = ap (λ (s : Sums). s.value) is in
    let parts = small-parts p small_p in
    record {
      still_open = omega (arith, sums.still_open, few_open);
      executed = omega
          (arith, sums.executed, executed, parts.0, executed-few os client small, given, few, own);
      value = omega (arith, sums.value, value, parts.1, value-few os client small, given, few, own);
    }

pub open-most : (os : List OrderRecord) (client : ℕ) → open_count os client ≤ length os
open-most os client = count_by-le-length (is_open_of client) os

pub one-open : (o : OrderRecord) → (sums_of o).still_open ≤ 1
one-open o = part-most (not (is_closed o.stage)) 1

-- ---- a place for each client

pub inside : (m n : ℕ) → m < n → nat_lt m n ≡ true
inside m n below = grind (arith, nat_tests)

pub placed-in-more : (m n : ℕ) (os : List OrderRecord) → m ≤ n → list_all (is_placed m) os ≡ true
    → list_all (is_placed n) os ≡ true
placed-in-more m n [] more all = refl
placed-in-more m n (o ∷ os) more all =
    let parts = and_parts (is_placed m o) (list_all (is_placed m) os) all in
    both (is_placed n o) (list_all (is_placed n) os)
    (inside o.new.client n (omega (arith, more, ltb-true o.new.client m parts.0)))
    (placed-in-more m n os more parts.1)

-- ---- sums of clients, one after the other

pub none-more : (kept : List Sums) (k : ℕ) → sums_at (kept ++ no_sums ∷ []) k ≡ sums_at kept k
none-more [] zero = refl
none-more [] (suc k) = refl
none-more (s ∷ kept) zero = refl
none-more (s ∷ kept) (suc k) = none-more kept k

own-at : (kept : List Sums) (i : ℕ) (s : Sums) → i < length kept → sums_at (slice_set kept i s) i ≡ s
own-at [] i s inside = absurd (omega arith)
own-at (a ∷ kept) zero s inside = refl
own-at (a ∷ kept) (suc i) s inside = own-at kept i s (omega arith)

other-at : (kept : List Sums) (i k : ℕ) (s : Sums) → (i ≡ k → ⊥) → sums_at (slice_set kept i s) k ≡ sums_at kept k
other-at [] i k s differ = refl
other-at (a ∷ kept) zero zero s differ = absurd (differ refl)
other-at (a ∷ kept) zero (suc k) s differ = refl
other-at (a ∷ kept) (suc i) zero s differ = refl
other-at (a ∷ kept) (suc i) (suc k) s differ = other-at kept i k s (λ same. differ (ap suc same))

-- as `exchange` leaves them
abbrev pub exchanged_for : Sums → Sums → Sums → Sums
exchanged_for was becomes s = record {
  value = s.value - was.value + becomes.value;
  executed = s.executed - was.executed + becomes.executed;
  still_open = s.still_open - was.still_open + becomes.still_open;
}

pub exchanged-at : (kept : List Sums) (i : ℕ) (was becomes : Sums) (other : ℕ) → i < length kept
    → IsPart was (sums_at kept i)
    → IsExchanged (i == other) was becomes (sums_at kept other)
    (sums_at (slice_set kept i (exchanged_for was becomes (sums_at kept i))) other)
exchanged-at kept i was becomes other inside within = by_client (i == other) refl
  where
    own : IsExchanged true was becomes (sums_at kept i) (exchanged_for was becomes (sums_at kept i))
    own = record {
      still_open = omega (arith, within.still_open);
      executed = omega (arith, within.executed);
      value = omega (arith, within.value);
    }

    by_client : (b : Bool) → (i == other) ≡ b → IsExchanged b was becomes (sums_at kept other)
        (sums_at (slice_set kept i (exchanged_for was becomes (sums_at kept i))) other)
    by_client true is =
        subst (λ (k : ℕ). IsExchanged true was becomes (sums_at kept k)
        (sums_at (slice_set kept i (exchanged_for was becomes (sums_at kept i))) k)) (eqb-true i other is)
        (subst (IsExchanged true was becomes (sums_at kept i))
        (sym (own-at kept i (exchanged_for was becomes (sums_at kept i)) inside)) own)
    by_client false is =
        subst (IsExchanged false was becomes (sums_at kept other))
        (sym (other-at kept i other (exchanged_for was becomes (sums_at kept i))
        (λ same. let on : (i == other) ≡ true = eq-eqb i other same in
        let x : true ≡ false = sym on ∙ is in absurd (cc))))
        (record { still_open = refl; executed = refl; value = refl })
