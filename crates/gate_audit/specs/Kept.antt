-- What the code keeps of what was read, of each client and OrderID (37) that reports named.
use Rattle.std.specs.Prelude.{◌≡◌, ℕ, Bool, ◌&&◌, List, Option, Some, None, nat_eq, bytes_eq, unwrap_or}
use Rattle.std.specs.HashMap.{get}
use Rattle.gate_law.specs.fix_fields.Field.{Message}
use Rattle.order_law.specs.Reading.{Reading, reading, unread}
use Rattle.order_accounts.specs.Held.{StaysHeld}
use Rattle.gate_audit.specs.declared.order_key.OrderKey.{OrderKey}
use Rattle.gate_audit.specs.declared.kept_readings.KeptReadings.{KeptReadings}
use Rattle.gate_audit.specs.Pairs.{SaidToClient}
use Rattle.gate_audit.specs.Passes.{sent_to}

abbrev pub same_order : OrderKey → OrderKey → Bool
same_order x y = nat_eq x.client y.client && bytes_eq x.order.items y.order.items

-- what was read of an order in these messages, the newest first; none where it didn't stay within integers
abbrev pub IsReadAs : List ℕ → List Message → Option Reading → Type 0
IsReadAs order sent (Some x) = (x ≡ reading order sent) × StaysHeld order sent
IsReadAs order sent None = StaysHeld order sent → ⊥

-- of an order that no report named nothing was read
abbrev pub kept_of : KeptReadings → OrderKey → Option Reading
kept_of x k = unwrap_or (get same_order x.readings k) (Some unread)

pub record AreKept (all : List SaidToClient) (x : KeptReadings) : Type 0 where
  pub read : (k : OrderKey) → IsReadAs k.order.items (sent_to k.client all) (kept_of x k)
