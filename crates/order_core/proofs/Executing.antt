-- What the table's orders have executed in sum is what their client has read in its reports.
use Rattle.std.proofs.Common.{◌≡◌, ℕ, ◌+◌, ◌<◌, ◌^◌, Bool, true, false, List, [], ◌∷◌, length, map, refl, sym, ap, ◌∙◌}
use Rattle.std.proofs.Common.{subst, arith, eqb-true}
use Rattle.std.specs.Prelude.{◌==◌, if◌then◌else◌, filter}
use Rattle.std.specs.List.{sum_by}
use Rattle.std.proofs.lemmas.List.Sums.{sum_by-cons}
use Rattle.outstanding.specs.order_law.Chain.{orders}
use Rattle.outstanding.specs.order_law.Headline.{Each}
use Rattle.outstanding.specs.order_law.History.{Entry, OrderHistory, Terms, issued}
use Rattle.outstanding.specs.order_law.Reading.{Reading, reading}
use Rattle.order_machine.specs.OrderRecord.{OrderRecord, read}
use Rattle.order_machine.specs.Runs.{TurnsLeave}
use Rattle.order_machine.specs.Table.{TableState}
use Rattle.order_machine.proofs.Finding.{map-filter, map-map}
use Rattle.order_machine.proofs.Holds.{FitsIn}
use Rattle.order_machine.proofs.Linked.{IsTable}
use Rattle.order_machine.proofs.Running.{Leaves-Holding}
use Rattle.to_market.specs.order_table.Sums.{executed_sum, part, value_sum}
use Rattle.order_core.specs.Executed.{executed_shares, executed_value}

-- a number that a reading has, and an order's record where it is the client's
abbrev own_number : (Reading → ℕ) → ℕ → OrderRecord → ℕ
own_number number client o = part (o.new.client == client) (number (read o))

module _ (terms : List Terms) (h : OrderHistory) (number : Reading → ℕ) (c : ℕ) where
  abbrev number_of : List ℕ → ℕ
  number_of order = number (reading order (issued c h))

  abbrev own_orders : List OrderRecord → List (List ℕ)
  own_orders os = map (λ (o : OrderRecord). o.new.order) (filter (λ (o : OrderRecord). o.new.client == c) os)

  read-alike : (o : OrderRecord) → FitsIn terms h o → o.new.client ≡ c → number_of o.new.order ≡ number (read o)
  read-alike o f mine = ap number
      (subst (λ (d : ℕ). reading o.new.order (issued d h) ≡ read o) mine f.reads.read_so)

  own-sum : (os : List OrderRecord) → Each (FitsIn terms h) os
      → sum_by number_of (own_orders os) ≡ sum_by (own_number number c) os
  own-sum [] each = refl
  own-sum (o ∷ os) each =
      by_client (o.new.client == c) refl (own-sum os each.1) ∙ sym (sum_by-cons (own_number number c) o os)
    where
      by_client : (b : Bool) → (o.new.client == c) ≡ b
          → sum_by number_of (own_orders os) ≡ sum_by (own_number number c) os
          → sum_by number_of (map (λ (x : OrderRecord). x.new.order)
          (if b then o ∷ filter (λ (x : OrderRecord). x.new.client == c) os
          else filter (λ (x : OrderRecord). x.new.client == c) os))
          ≡ part b (number (read o)) + sum_by (own_number number c) os
      by_client true mine rest =
          sum_by-cons number_of o.new.order (own_orders os)
          ∙ omega (arith, rest, read-alike o each.0 (eqb-true o.new.client c mine))
      by_client false mine rest = omega (arith, rest)

  -- the client's orders, in the order in which the lists have them
  orders-are : (s : TableState) → IsTable terms h s → orders (issued c h) ≡ own_orders s.orders
  orders-are s t =
      t.held.listed c
      ∙ ap (λ (es : List Entry). map (λ (e : Entry). e.order) (filter (λ (e : Entry). e.client == c) es)) (sym t.listed)
      ∙ ap (map (λ (e : Entry). e.order))
      (map-filter (λ (o : OrderRecord). o.new) (λ (e : Entry). e.client == c) s.orders)
      ∙ map-map (λ (o : OrderRecord). o.new) (λ (e : Entry). e.order)
      (filter (λ (o : OrderRecord). o.new.client == c) s.orders)

  table-sum : (s : TableState) → IsTable terms h s
      → sum_by (own_number number c) s.orders ≡ sum_by number_of (orders (issued c h))
  table-sum s t = sym (ap (sum_by number_of) (orders-are s t) ∙ own-sum s.orders t.fit)

-- in every run
pub executed-of : (terms : List Terms) (before : OrderHistory) (s : TableState) → length before < 2 ^ 58
    → TurnsLeave terms before s → (client : ℕ) → executed_sum s.orders client ≡ executed_shares (issued client before)
executed-of terms before s short leaves client =
    table-sum terms before (λ (x : Reading). x.executed) client s
    (Leaves-Holding terms before s (omega arith) leaves).table

pub value-of : (terms : List Terms) (before : OrderHistory) (s : TableState) → length before < 2 ^ 58
    → TurnsLeave terms before s → (client : ℕ) → value_sum s.orders client ≡ executed_value (issued client before)
value-of terms before s short leaves client =
    table-sum terms before (λ (x : Reading). x.value) client s
    (Leaves-Holding terms before s (omega arith) leaves).table
