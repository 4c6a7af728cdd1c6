-- What the market is asked and hasn't answered, as one list of all ports beside the table: the law reads it from the
-- list of all turns.
--
-- Nobody has to believe it: on each port it is what the law says is outstanding, which is a theorem about its runs.
use Rattle.std.specs.Prelude.{◌≡◌, ℕ, ◌==◌, Bool, not, ◌&&◌, ◌||◌, List, [], ◌∷◌, ◌++◌, map, filter, Option, Some, None}
use Rattle.std.specs.Prelude.{bytes_eq, Result, Ok, Err}
use Rattle.order_law.specs.Life.{is_closed}
use Rattle.order_law.specs.ouch_codec.declared.outbound.Outbound.{Outbound}
use Rattle.order_law.specs.ouch_codec.declared.refusal.DecodeRefusal.{DecodeRefusal}
use Rattle.order_law.specs.History.{Asked, Came, OrderEvent, Heard, OrderHistory, Terms, answers, terms_of}
use Rattle.order_machine.specs.OrderRecord.{OrderRecord, after_message, replacements}
use Rattle.order_machine.specs.Table.{TableState, table_without_orders}
use Rattle.order_machine.specs.Machine.{client_step, payload_fault, order_in}
use Rattle.order_machine.specs.Runs.{Leads}

-- one message that a port is asked
pub record OnPort : Type 0 where
  pub port : ℕ
  pub asked : Asked

abbrev pub is_on : ℕ → OnPort → Bool
is_on port q = q.port == port

-- what a port is asked, in order
abbrev pub on_port : ℕ → List OnPort → List Asked
on_port port asked = map (λ (q : OnPort). q.asked) (filter (is_on port) asked)

abbrev pub asked_on : ℕ → List Asked → List OnPort
asked_on port asks = map (λ (a : Asked). record { port = port; asked = a }) asks

-- A message on a port, on an order that had replaces pending under these tokens and is this one afterwards: of what is
-- asked of the order it answers what it says it does, and, where the order is closed then, all.
abbrev pub is_answered : ℕ → Outbound → List (List ℕ) → OrderRecord → OnPort → Bool
is_answered port m next o q = is_on port q && (bytes_eq q.asked.order o.new.order
    && (answers m next q.asked.said || is_closed o.stage))

abbrev pub unanswered_by : ℕ → Outbound → List (List ℕ) → OrderRecord → List OnPort → List OnPort
unanswered_by port m next o asked = filter (λ (q : OnPort). not (is_answered port m next o q)) asked

-- after a message on an order
abbrev pub still_asked_on : TableState → ℕ → Outbound → Option OrderRecord → List OnPort → List OnPort
still_asked_on s port m None asked = asked
still_asked_on s port m (Some o) asked =
    unanswered_by port m (replacements o.replaces) (after_message s.exec_ids m o) asked

-- after a payload: a fault answers nothing
abbrev pub still_asked : TableState → ℕ → Result Outbound DecodeRefusal → Option ℕ → List OnPort → List OnPort
still_asked s port (Err refusal) fault asked = asked
still_asked s port (Ok m) (Some fault) asked = asked
still_asked s port (Ok m) None asked = still_asked_on s port m (order_in s port m) asked

-- what is asked after an event, from this table on: what a client's message asks stands behind, on the client's port
abbrev pub asked_after : TableState → OrderEvent → List OnPort → List OnPort
asked_after s (Came client m port) asked = asked ++ asked_on (terms_of s.terms client).port
    (client_step s client m port).asks
asked_after s (Heard port heard) asked = still_asked s port heard (payload_fault s port heard) asked

-- the turns, the newest first, leave this table and this list
unfoldable pub LeavesAsked : List Terms → OrderHistory → TableState → List OnPort → Type 0
LeavesAsked terms [] s asked = (s ≡ table_without_orders terms) × (asked ≡ [])
LeavesAsked terms (t ∷ before) s asked =
    (old : TableState) × (was : List OnPort) × LeavesAsked terms before old was × Leads old t s
    × (asked ≡ asked_after old t.event was)
