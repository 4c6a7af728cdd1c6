-- Orders that wait at a port that isn't up, and when that is told. Moments and ages are in milliseconds.
use Rattle.std.specs.Prelude.{ℕ, ◌+◌, ◌-◌, ◌*◌, ◌^◌, ◌==◌, ◌&&◌, nat_lt, nat_le, min, not, Bool, true, false}
use Rattle.std.specs.Prelude.{List, [], ◌∷◌, Option, Some, None, zero, suc, if◌then◌else◌}
use Rattle.std.specs.List.{list_any}
use Rattle.gateway_watch.specs.Rows.{ClientRow, PortRow, is_up}
use Rattle.gateway_watch.specs.declared.wait.PortWait.{PortWait}

-- ---- orders

-- those of a client that is on this port: all that aren't closed
abbrev pub orders_of : ℕ → ℕ → ClientRow → ℕ
orders_of port own row = if own == port then row.open_orders else 0

-- those of all clients that are on it, as far as 64 bits hold them
abbrev pub orders_at : ℕ → List ℕ → List ClientRow → ℕ
orders_at port [] rows = 0
orders_at port (own ∷ ports) [] = 0
orders_at port (own ∷ ports) (row ∷ rows) = min (orders_of port own row + orders_at port ports rows) (2 ^ 64 - 1)

-- they wait: the port isn't up, and there are some
abbrev pub orders_wait : PortRow → ℕ → Bool
orders_wait row orders = not (is_up row.state) && not (orders == 0)

-- ---- when it is told

-- so many numbers, each twice the one before it
abbrev pub doublings : ℕ → ℕ → List ℕ
doublings zero first = []
doublings (suc more) first = first ∷ doublings more (2 * first)

-- ten seconds, and each doubling, for two years and more
abbrev pub marks : List ℕ
marks = doublings 24 10000

-- a mark lies ahead of one age, and not of the other
abbrev pub passes_mark : ℕ → ℕ → ℕ → Bool
passes_mark before age mark = nat_lt before mark && nat_le mark age

abbrev pub passes : ℕ → ℕ → Bool
passes before age = list_any (passes_mark before age) marks

-- What is known of a wait after a look, at which orders wait or don't: since when they did at each look, and when the
-- last one was.
abbrev pub wait_after : Option PortWait → Bool → ℕ → Option PortWait
wait_after before false now = None
wait_after None true now = Some (record { since = now; seen = now })
wait_after (Some wait) true now = Some (record { since = wait.since; seen = now })

-- it is told, since when, at the first look behind each mark
abbrev pub due_of : PortWait → ℕ → Option ℕ
due_of wait now = if passes (wait.seen - wait.since) (now - wait.since) then Some wait.since else None

abbrev pub due_since : Option PortWait → Bool → ℕ → Option ℕ
due_since before false now = None
due_since None true now = None
due_since (Some wait) true now = due_of wait now
