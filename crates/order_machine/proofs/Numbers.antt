-- What is found by an id of a client is found by its OrderID too.
use Rattle.std.proofs.Common.{◌≡◌, ℕ, ◌<◌, ◌^◌, Bool, true, false, List, [], ◌∷◌, length, sym, ap, ◌∙◌, subst, arith}
use Rattle.std.proofs.Common.{bytes_eq, Some}
use Rattle.std.specs.Prelude.{if◌then◌else◌}
use Rattle.std.specs.List.{find}
use Rattle.order_law.specs.Headline.{Each}
use Rattle.order_law.specs.History.{Entry, OrderHistory, Terms}
use Rattle.order_machine.specs.OrderRecord.{OrderRecord}
use Rattle.order_machine.specs.Runs.{TurnsLeave}
use Rattle.order_machine.specs.Table.{TableState, record_by_id, by_number, has_number, is_named}
use Rattle.order_machine.proofs.Finding.{Each-found}
use Rattle.order_machine.proofs.Placed.{AreDistinct, entries_of}
use Rattle.order_machine.proofs.Running.{Leaves-Holding}
use Rattle.order_machine.proofs.Texts.{eq-same}

-- none of these has the number
apart-of : (k : List ℕ) (os : List OrderRecord) → Each (λ (x : Entry). bytes_eq k x.order ≡ false) (entries_of os)
    → Each (λ (o : OrderRecord). bytes_eq k o.new.order ≡ false) os
apart-of k [] apart = tt
apart-of k (o ∷ os) apart = (apart.0, apart-of k os apart.1)

-- the first that passes a test is the first with its own number, where all numbers are different
pub first-by-number : (p : OrderRecord → Bool) (o : OrderRecord) (os : List OrderRecord) → AreDistinct (entries_of os)
    → find p os ≡ Some o → find (has_number o.new.order) os ≡ Some o
first-by-number p o [] distinct found = absurd (cc)
first-by-number p o (x ∷ xs) distinct found = by_test (p x) found (first-by-number p o xs distinct.1)
  where
    by_test : (b : Bool) → (if b then Some x else find p xs) ≡ Some o
        → (find p xs ≡ Some o → find (has_number o.new.order) xs ≡ Some o)
        → find (has_number o.new.order) (x ∷ xs) ≡ Some o
    by_test true e later =
        let same : x ≡ o = cc in
        let own : has_number o.new.order x ≡ true = ap (has_number o.new.order) same ∙ eq-same o.new.order in
        rw own e
    by_test false e later =
        let other : has_number o.new.order x ≡ false =
        Each-found (λ (y : OrderRecord). bytes_eq x.new.order y.new.order ≡ false) p xs o
        (apart-of x.new.order xs distinct.0) e in
        rw other (later e)

-- in every run
pub number-of : (terms : List Terms) (before : OrderHistory) (s : TableState) (client : ℕ) (id : List ℕ)
    (o : OrderRecord)
    → length before < 2 ^ 58 → TurnsLeave terms before s → record_by_id s client id ≡ Some o
    → by_number s o.new.order ≡ Some o
number-of terms before s client id o short leaves found =
    let table = (Leaves-Holding terms before s (omega arith) leaves).table in
    first-by-number (is_named client id) o s.orders (subst AreDistinct (sym table.listed) table.distinct) found
