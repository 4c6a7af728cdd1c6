-- Readings of orders, one report after another: a report changes the orders that it is on, and stands for no other.
use Rattle.std.proofs.Common.{◌≡◌, ◌<◌, ◌≤◌, ◌+◌, ℕ, Bool, true, false, List, [], ◌∷◌, ◌++◌, length, map, take, get_or}
use Rattle.std.proofs.Common.{set, refl, sym, ap, subst, ◌∙◌, arith, append_assoc}
use Rattle.std.specs.Prelude.{◌==◌, if◌then◌else◌}
use Rattle.std.specs.Cmp.Lexicographic.{bytes_decides}
use Rattle.std.proofs.lemmas.Bool.{and_parts}
use Rattle.std.proofs.lemmas.List.{take_more}
use Rattle.gate_law.specs.fix_fields.Field.{Message, is, text}
use Rattle.order_law.specs.Headline.{Each}
use Rattle.order_law.specs.Reading.{is_report, is_report_on, reading, unread, with_report}
use Rattle.order_accounts.specs.Held.{IsHeld, StaysHeld, heard_on}
use Rattle.order_accounts.specs.Shelved.{AreBelow, IsNear, places_of}
use Rattle.order_accounts.proofs.Shelving.{places-below}
use Rattle.gate_audit.specs.Pairs.{SaidToClient, said_to}
use Rattle.gate_audit.specs.Read.{ReadOrder}
use Rattle.gate_audit.specs.Passes.{AreRead, HasHeld, StayRead, changed, changed_at, hears, order_id, read_as, sent_to}
use Rattle.gate_audit.proofs.Lists.{each-mapped, map-map, map-same}

-- ---- changes at places

length-more : {X : Type 0} (xs : List X) (x : X) → length (xs ++ x ∷ []) ≡ ℕ.suc (length xs)
length-more [] x = refl
length-more (y ∷ ys) x = ap ℕ.suc (length-more ys x)

changed-at-end : {X : Type 0} (f : X → X) (ys : List X) (x : X) (xs : List X)
    → changed f (length ys) (ys ++ x ∷ xs) ≡ ys ++ f x ∷ xs
changed-at-end f [] x xs = refl
changed-at-end f (y ∷ ys) x xs = ap (λ zs. y ∷ zs) (changed-at-end f ys x xs)

-- at the places of those that pass a test, where it leaves the others as they are: all are changed
changed-behind : {X K : Type 0} (f : X → X) (key : X → K) (p : K → Bool) → ((x : X) → p (key x) ≡ false → f x ≡ x)
    → (ys xs : List X) → changed_at f (places_of p (length ys) (map key xs)) (ys ++ xs) ≡ ys ++ map f xs
changed-behind f key p same ys [] = refl
changed-behind {X} f key p same ys (x ∷ xs) =
    by_test (p (key x)) refl
    (ap (λ (zs : List X). changed_at f (places_of p (ℕ.suc (length ys)) (map key xs)) zs)
    (sym (append_assoc ys (f x ∷ []) xs))
    ∙ (ap (λ (n : ℕ). changed_at f (places_of p n (map key xs)) ((ys ++ f x ∷ []) ++ xs)) (sym (length-more ys (f x)))
    ∙ (changed-behind f key p same (ys ++ f x ∷ []) xs ∙ append_assoc ys (f x ∷ []) (map f xs))))
  where
    by_test : (b : Bool) → p (key x) ≡ b
        → changed_at f (places_of p (ℕ.suc (length ys)) (map key xs)) (ys ++ f x ∷ xs) ≡ ys ++ f x ∷ map f xs
        → changed_at f (if b then length ys ∷ places_of p (ℕ.suc (length ys)) (map key xs)
        else places_of p (ℕ.suc (length ys)) (map key xs)) (ys ++ x ∷ xs) ≡ ys ++ f x ∷ map f xs
    by_test true passes rest =
        ap (changed_at f (places_of p (ℕ.suc (length ys)) (map key xs))) (changed-at-end f ys x xs) ∙ rest
    by_test false fails rest =
        ap (λ (z : X). changed_at f (places_of p (ℕ.suc (length ys)) (map key xs)) (ys ++ z ∷ xs)) (sym (same x fails))
        ∙ rest

changed-other : {X : Type 0} (f : X → X) (j k : ℕ) (xs : List X) (d : X) → j < k
    → get_or (changed f j xs) k d ≡ get_or xs k d
changed-other f j k [] d before = refl
changed-other f ℕ.zero ℕ.zero (x ∷ xs) d before = absurd (omega (arith, before))
changed-other f ℕ.zero (ℕ.suc k) (x ∷ xs) d before = refl
changed-other f (ℕ.suc j) ℕ.zero (x ∷ xs) d before = absurd (omega (arith, before))
changed-other f (ℕ.suc j) (ℕ.suc k) (x ∷ xs) d before = changed-other f j k xs d (omega (arith, before))

changed-before : {X : Type 0} (f : X → X) (k : ℕ) (js : List ℕ) (xs : List X) (d : X) → AreBelow k js
    → get_or (changed_at f js xs) k d ≡ get_or xs k d
changed-before f k [] xs d before = refl
changed-before f k (j ∷ js) xs d before = changed-before f k js (changed f j xs) d before.1
    ∙ changed-other f j k xs d before.0

-- ---- places rise

places-from : {X : Type 0} (p : X → Bool) (m : ℕ) (xs : List X) (j d : ℕ) → j < length (places_of p m xs)
    → m ≤ get_or (places_of p m xs) j d
places-from p m [] j d inside = absurd (omega (arith, inside))
places-from {X} p m (x ∷ xs) j d inside = by_test (p x) j (places-from p (ℕ.suc m) xs) inside
  where
    by_test : (b : Bool) (i : ℕ)
        → ((k e : ℕ) → k < length (places_of p (ℕ.suc m) xs) → ℕ.suc m ≤ get_or (places_of p (ℕ.suc m) xs) k e)
        → i < length (if b then m ∷ places_of p (ℕ.suc m) xs else places_of p (ℕ.suc m) xs)
        → m ≤ get_or (if b then m ∷ places_of p (ℕ.suc m) xs else places_of p (ℕ.suc m) xs) i d
    by_test true ℕ.zero rest inside = omega arith
    by_test true (ℕ.suc i) rest inside = (let more = rest i d (omega (arith, inside)) in omega (arith, more))
    by_test false i rest inside = (let more = rest i d inside in omega (arith, more))

places-rise : {X : Type 0} (p : X → Bool) (m : ℕ) (xs : List X) (j d : ℕ) → j < length (places_of p m xs)
    → AreBelow (get_or (places_of p m xs) j d) (take j (places_of p m xs))
places-rise p m [] j d inside = absurd (omega (arith, inside))
places-rise {X} p m (x ∷ xs) j d inside = by_test (p x) j (places-rise p (ℕ.suc m) xs) inside
  where
    by_test : (b : Bool) (i : ℕ)
        → ((k e : ℕ) → k < length (places_of p (ℕ.suc m) xs)
        → AreBelow (get_or (places_of p (ℕ.suc m) xs) k e) (take k (places_of p (ℕ.suc m) xs)))
        → i < length (if b then m ∷ places_of p (ℕ.suc m) xs else places_of p (ℕ.suc m) xs)
        → AreBelow (get_or (if b then m ∷ places_of p (ℕ.suc m) xs else places_of p (ℕ.suc m) xs) i d)
        (take i (if b then m ∷ places_of p (ℕ.suc m) xs else places_of p (ℕ.suc m) xs))
    by_test true ℕ.zero rest inside = tt
    by_test true (ℕ.suc i) rest inside =
        (let more = places-from p (ℕ.suc m) xs i d (omega (arith, inside)) in
        (omega (arith, more), rest i d (omega (arith, inside))))
    by_test false i rest inside = rest i d inside

-- ---- one place more

set-changed : {X : Type 0} (f : X → X) (xs : List X) (k : ℕ) (x : X) → k < length xs → x ≡ get_or xs k x
    → set xs k (f x) ≡ changed f k xs
set-changed f [] k x inside is = absurd (omega (arith, inside))
set-changed f (y ∷ ys) ℕ.zero x inside is = ap (λ z. f z ∷ ys) is
set-changed f (y ∷ ys) (ℕ.suc k) x inside is = ap (λ zs. y ∷ zs) (set-changed f ys k x (omega (arith, inside)) is)

changed-append : {X : Type 0} (f : X → X) (js ks : List ℕ) (xs : List X)
    → changed_at f (js ++ ks) xs ≡ changed_at f ks (changed_at f js xs)
changed-append f [] ks xs = refl
changed-append f (j ∷ js) ks xs = changed-append f js ks (changed f j xs)

length-changed : {X : Type 0} (f : X → X) (k : ℕ) (xs : List X) → length (changed f k xs) ≡ length xs
length-changed f k [] = refl
length-changed f ℕ.zero (x ∷ xs) = refl
length-changed f (ℕ.suc k) (x ∷ xs) = ap ℕ.suc (length-changed f k xs)

pub length-changed-at : {X : Type 0} (f : X → X) (ks : List ℕ) (xs : List X) → length (changed_at f ks xs) ≡ length xs
length-changed-at f [] xs = refl
length-changed-at f (k ∷ ks) xs = length-changed-at f ks (changed f k xs) ∙ length-changed f k xs

pub changed-more : {X : Type 0} (f : X → X) (old now : List X) (ks : List ℕ) (i d : ℕ) (x y : X) → i < length ks
    → get_or ks i d < length now → x ≡ get_or now (get_or ks i d) x → y ≡ f x → now ≡ changed_at f (take i ks) old
    → set now (get_or ks i d) y ≡ changed_at f (take (i + 1) ks) old
changed-more {X} f old now ks i d x y inside within there made before =
    let k : ℕ = get_or ks i d in
    ap (set now k) made
    ∙ (set-changed f now k x within there
    ∙ (ap (changed f k) before
    ∙ (sym (changed-append f (take i ks) (k ∷ []) old)
    ∙ ap (λ (js : List ℕ). changed_at f js old) (sym (take_more ks i d inside)))))

pub each-set : {X : Type 0} (P : X → Type 0) (xs : List X) (k : ℕ) (y : X) → Each P xs → P y → Each P (set xs k y)
each-set P [] k y each own = tt
each-set P (x ∷ xs) ℕ.zero y each own = (own, each.1)
each-set P (x ∷ xs) (ℕ.suc k) y each own = (each.0, each-set P xs k y each.1 own)

pub each-at : {X : Type 0} (P : X → Type 0) (xs : List X) (k : ℕ) (x : X) → k < length xs → x ≡ get_or xs k x
    → Each P xs → P x
each-at P [] k x inside is each = absurd (omega (arith, inside))
each-at P (y ∷ ys) ℕ.zero x inside is each = subst P (sym is) each.0
each-at P (y ∷ ys) (ℕ.suc k) x inside is each = each-at P ys k x (omega (arith, inside)) is each.1

-- ---- a report is on the orders near it alone

quiet : (c : ℕ) (r : Message) (o : ReadOrder) (p : List ℕ → Bool) → p (text 37 r) ≡ true → p o.order ≡ false
    → hears c r o ≡ o
quiet c r o p own away = by_test (c == o.client) (is_report_on o.order r) refl
  where
    by_test : (b on : Bool) → is_report_on o.order r ≡ on
        → record o { reading = if b then (if on then with_report o.reading r else o.reading) else o.reading } ≡ o
    by_test true true on_it =
        let parts = and_parts (is_report r) (is 37 o.order r) on_it in
        let same : text 37 r ≡ o.order = (bytes_decides (text 37 r) o.order).0 parts.1 in
        let there : p o.order ≡ true = ap p (sym same) ∙ own in
        absurd cc
    by_test true false off_it = refl
    by_test false on either = refl

pub heard-by-all : (c : ℕ) (r : Message) (old new : List ReadOrder) (places : List ℕ)
    → IsNear (text 37 r) (map order_id old) places → new ≡ changed_at (hears c r) places old
    → new ≡ map (hears c r) old
heard-by-all c r old new places near changed =
    changed ∙ (ap (λ (ks : List ℕ). changed_at (hears c r) ks old) near.places
    ∙ changed-behind (hears c r) order_id near.is_near (λ o away. quiet c r o near.is_near near.own away) [] old)

pub near-below : (orders : List ReadOrder) (order : List ℕ) (places : List ℕ)
    → IsNear order (map order_id orders) places → AreBelow (length orders) places
near-below orders order places near =
    subst (AreBelow (length orders)) (sym near.places)
    (places-below near.is_near 0 (length orders) (map order_id orders) (few orders))
  where
    few : (os : List ReadOrder) → 0 + length (map order_id os) ≤ length os
    few [] = omega arith
    few (o ∷ os) = (let rest = few os in omega (arith, rest))

-- an order at one of the places was not changed at those before
pub still-there : (f : ReadOrder → ReadOrder) (old : List ReadOrder) (order : List ℕ) (places : List ℕ)
    → IsNear order (map order_id old) places → (i k : ℕ) (o : ReadOrder) → i < length places → k ≡ get_or places i k
    → o ≡ get_or (changed_at f (take i places) old) k o → o ≡ get_or old k o
still-there f old order places near i k o inside is there =
    let risen : AreBelow (get_or places i k) (take i places) =
    subst (λ (ks : List ℕ). AreBelow (get_or ks i k) (take i ks)) (sym near.places)
    (places-rise near.is_near 0 (map order_id old) i k (subst (λ (ks : List ℕ). i < length ks) near.places inside)) in
    there ∙ changed-before f k (take i places) old o (subst (λ (n : ℕ). AreBelow n (take i places)) (sym is) risen)

-- ---- what was read, one report more

nothing-held : IsHeld unread
nothing-held = record {
  total = omega arith;
  unfilled = omega arith;
  executed = omega arith;
  cancelled = omega arith;
  value = omega arith;
  prices = tt;
}

pub now-held : (order : List ℕ) (sent : List Message) → StaysHeld order sent → IsHeld (reading order sent)
now-held order [] held = nothing-held
now-held order (r ∷ earlier) held = held.0

pub all-now-held : (all : List SaidToClient) (os : List ReadOrder) → StayRead all os
    → Each HasHeld (map (read_as all) os)
all-now-held all [] held = tt
all-now-held all (o ∷ os) held = (now-held o.order (sent_to o.client all) held.0, all-now-held all os held.1)

read-one : (c : ℕ) (r : Message) (all : List SaidToClient) (o : ReadOrder)
    → hears c r (read_as all o) ≡ read_as (said_to c r ∷ all) o
read-one c r all o = by_test (c == o.client)
  where
    by_test : (b : Bool) → record o {
      reading = if b then heard_on o.order (reading o.order (sent_to o.client all)) r
          else reading o.order (sent_to o.client all);
    }
        ≡ record o { reading = reading o.order (if b then r ∷ sent_to o.client all else sent_to o.client all) }
    by_test true = refl
    by_test false = refl

pub read-next : (c : ℕ) (r : Message) (all : List SaidToClient) (os : List ReadOrder)
    → map (hears c r) (map (read_as all) os) ≡ map (read_as (said_to c r ∷ all)) os
read-next c r all os =
    map-map (hears c r) (read_as all) os
    ∙ map-same (λ (o : ReadOrder). hears c r (read_as all o)) (read_as (said_to c r ∷ all)) (read-one c r all) os

held-next : (c : ℕ) (r : Message) (all : List SaidToClient) (os : List ReadOrder) → StayRead all os
    → Each HasHeld (map (read_as (said_to c r ∷ all)) os) → StayRead (said_to c r ∷ all) os
held-next c r all [] held now = tt
held-next c r all (o ∷ os) held now = (by_test (c == o.client) held.0 now.0, held-next c r all os held.1 now.1)
  where
    by_test : (b : Bool) → StaysHeld o.order (sent_to o.client all)
        → IsHeld (reading o.order (if b then r ∷ sent_to o.client all else sent_to o.client all))
        → StaysHeld o.order (if b then r ∷ sent_to o.client all else sent_to o.client all)
    by_test true before is = (is, before)
    by_test false before is = before

pub read-more : (c : ℕ) (r : Message) (all : List SaidToClient) (os old new : List ReadOrder) → AreRead os all old
    → new ≡ map (hears c r) old → (Each HasHeld old → Each HasHeld new) → AreRead os (said_to c r ∷ all) new
read-more c r all os old new are is keeps =
    let read : new ≡ map (read_as (said_to c r ∷ all)) os =
    is ∙ (ap (map (hears c r)) are.read ∙ read-next c r all os) in
    record {
      read = read;
      held = held-next c r all os are.held (subst (Each HasHeld) read
          (keeps (subst (Each HasHeld) (sym are.read) (all-now-held all os are.held))));
    }

-- where all stays within integers, so does what each order makes of the report
pub held-each : (c : ℕ) (r : Message) (all : List SaidToClient) (os old : List ReadOrder) → AreRead os all old
    → StayRead (said_to c r ∷ all) os → Each (λ (o : ReadOrder). HasHeld (hears c r o)) old
held-each c r all os old are held =
    each-mapped HasHeld (hears c r) old
    (subst (Each HasHeld) (sym (ap (map (hears c r)) are.read ∙ read-next c r all os))
    (all-now-held (said_to c r ∷ all) os held))

-- ---- what was told before

sent-append : (c : ℕ) (xs ys : List SaidToClient) → sent_to c (xs ++ ys) ≡ sent_to c xs ++ sent_to c ys
sent-append c [] ys = refl
sent-append c (x ∷ xs) ys = by_test (x.client == c) (sent-append c xs ys)
  where
    by_test : (b : Bool) → sent_to c (xs ++ ys) ≡ sent_to c xs ++ sent_to c ys
        → (if b then x.report ∷ sent_to c (xs ++ ys) else sent_to c (xs ++ ys))
        ≡ (if b then x.report ∷ sent_to c xs else sent_to c xs) ++ sent_to c ys
    by_test true rest = ap (λ (rs : List Message). x.report ∷ rs) rest
    by_test false rest = rest

stays-behind : (order : List ℕ) (later earlier : List Message) → StaysHeld order (later ++ earlier)
    → StaysHeld order earlier
stays-behind order [] earlier held = held
stays-behind order (r ∷ later) earlier held = stays-behind order later earlier held.1

pub read-behind : (os : List ReadOrder) (xs ys : List SaidToClient) → StayRead (xs ++ ys) os → StayRead ys os
read-behind [] xs ys held = tt
read-behind (o ∷ os) xs ys held = (
  stays-behind o.order (sent_to o.client xs) (sent_to o.client ys)
      (subst (StaysHeld o.order) (sent-append o.client xs ys) held.0),
  read-behind os xs ys held.1,
)

pub nothing-read : (os : List ReadOrder) → StayRead [] os
nothing-read [] = tt
nothing-read (o ∷ os) = (tt, nothing-read os)
