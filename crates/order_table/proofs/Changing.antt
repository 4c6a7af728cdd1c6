-- An order is changed where it stands: what stands there then, and that orders are led to by their keys as before.
use Rattle.std.proofs.Common.{◌≡◌, ℕ, zero, suc, ◌∙◌, List, [], ◌∷◌, length, refl, sym, ap, decimal, slice_get}
use Rattle.std.proofs.Common.{slice_set, true}
use Rattle.std.specs.Prelude.{Some, None, nat_eq}
use Rattle.std.specs.Str.Parse.{digits_value}
use Rattle.undo_index.proofs.Standing.{covered-changed, covered-same}
use Rattle.undo_index.specs.Hints.{Covered, Hints, LeadsTo, hint_of}
use Rattle.undo_orders.specs.orders.order_law.History.{Entry}
use Rattle.order_machine.specs.OrderRecord.{OrderRecord}
use Rattle.undo_orders.specs.orders.fix_types.CancelRequest.{cancel_request_fields}
use Rattle.undo_orders.specs.orders.fix_types.ReplaceRequest.{replace_request_fields}
use Rattle.undo_orders.specs.Seen.{cancel_of, cancel_seen, replace_of, replace_seen}
use Rattle.undo_orders.specs.orders.declared.requests.Cancelling.{Cancelling}
use Rattle.undo_orders.specs.orders.declared.requests.Replacing.{Replacing}
use Rattle.undo_index.specs.Undoing.{Undoable}
use Rattle.order_table.specs.declared.keys.NameKey.{NameKey}
use Rattle.order_table.specs.declared.keys.NumberKey.{NumberKey}
use Rattle.order_table.specs.Keys.{has_name_key, has_number_key, same_name, same_number}

-- by both indexes
abbrev pub Led : Hints NumberKey → Hints NameKey → Undoable OrderRecord → Type 0
Led numbers names u = Covered same_number has_number_key numbers u × Covered same_name has_name_key names u

pub led-changed : (numbers : Hints NumberKey) (names : Hints NameKey) (old new : Undoable OrderRecord) (place : ℕ)
    (was now : OrderRecord) → slice_get old.now place ≡ Some was → now.new ≡ was.new
    → ((k : NameKey) → has_name_key k now ≡ true → LeadsTo (hint_of same_name names k) place)
    → new.now ≡ slice_set old.now place now → new.settled ≡ old.settled → Led numbers names old → Led numbers names new
led-changed numbers names old new place was now there asked leads written settled led = (
  covered-changed same_number has_number_key numbers old new now place
      (λ k t. led.0.now k place was there (ap (λ (e : Entry). nat_eq k.number (digits_value 10 e.order)) (sym asked)
      ∙ t)) settled led.0 written,
  covered-changed same_name has_name_key names old new now place leads settled led.1 written,
)

pub led-same : (numbers : Hints NumberKey) (names : Hints NameKey) (old new : Undoable OrderRecord) → new.now ≡ old.now
    → new.settled ≡ old.settled → Led numbers names old → Led numbers names new
led-same numbers names old new now settled led = (
  covered-same same_number has_number_key numbers numbers old new refl now settled led.0,
  covered-same same_name has_name_key names names old new refl now settled led.1,
)

-- ---- what stands at a place

pub set-item : {A : Type 0} (xs : List A) (i : ℕ) (x y z : A) → slice_get xs i ≡ Some x
    → slice_get (slice_set xs i y) i ≡ Some z → z ≡ y
set-item [] i x y z at after = absurd (cc)
set-item (a ∷ xs) zero x y z at after = cc
set-item (a ∷ xs) (suc i) x y z at after = set-item xs i x y z at after

pub length-written : {A : Type 0} (xs : List A) (i : ℕ) (x : A) → length (slice_set xs i x) ≡ length xs
length-written [] i x = refl
length-written (a ∷ xs) zero x = refl
length-written (a ∷ xs) (suc i) x = ap suc (length-written xs i x)

-- ---- requests on an order whose number is known

pub replace-as : (o : OrderRecord) (order_id : ℕ) (r : Replacing) → o.new.order ≡ decimal order_id
    → replace_of o r ≡ replace_seen o.new.client order_id r
replace-as o order_id r own = ap (λ (order : List ℕ). record
    { client = o.new.client; message = replace_request_fields r.message; order = order; token = Some r.token_number })
    own

pub cancel-as : (o : OrderRecord) (order_id : ℕ) (c : Cancelling) → o.new.order ≡ decimal order_id
    → cancel_of o c ≡ cancel_seen o.new.client order_id c
cancel-as o order_id c own =
    ap (λ (order : List ℕ). record {
      request =
          record { client = o.new.client; message = cancel_request_fields c.message; order = order; token = None };
      tokens
          = (cancel_of o c).tokens;
    }) own
