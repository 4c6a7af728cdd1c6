-- What a history that is written down has to be, as equations that can be computed: each part of each batch is what
-- its event gives, what is sent again is what is outstanding, and the order level's turns are those of an exchange
-- that `order_examples` has.
use Rattle.std.specs.Prelude.{◌≡◌, ◌&&◌, List, [], ◌∷◌, map, Option, Some, if◌then◌else◌, codes}
use Rattle.gate_law.specs.fix_types.Application.{message_fields}
use Rattle.session_law.specs.Formats.{application_of}
use Rattle.gate_law.specs.order_law.Asks.{Ask, ask_of_bytes}
use Rattle.gate_law.specs.order_law.History as orders
use Rattle.gate_law.specs.order_law.History.{Asked, Said, Came, Heard, outstanding, accepted}
use Rattle.gate_law.specs.order_law.Headline.{order_number, standing_in}
use Rattle.order_examples.specs.Computed.{asked_of_bytes}
use Rattle.gate_law.specs.Settings.{terms}
use Rattle.gate_law.specs.Events.{Event, Batch, Turn, History}
use Rattle.gate_law.specs.Lists.{Lists}
use Rattle.gate_law.specs.Outcome.{is_stepped, messages}
use Rattle.gate_law.specs.After.{lists, order_turns}
use Rattle.gate_law.specs.Due.{due_to_client, due_to_port, due_reports, due_fault, due_client, due_port}
use Rattle.gate_law.specs.Promises.{comes_up, delivers_message, port_in}
use Rattle.gate_examples.specs.Transcript.{settings}

-- of each turn what the law has for its event, after the turns before it
abbrev pub by_law : {X : Type 0} → (Event → Batch → Lists → X) → History → List X
by_law f [] = []
by_law f (t ∷ before) = f t.event t.batch (lists settings before) ∷ by_law f before

abbrev pub in_batches : {X : Type 0} → (Batch → X) → History → List X
in_batches f h = map (λ (t : Turn). f t.batch) h

-- ---- what is sent again

-- the types and tokens, and what is asked: of what has to go out by the port's coming up, and of what goes out
abbrev again_due : Event → Batch → Lists → List (Option Said)
again_due e b v =
    if is_stepped settings e v && comes_up settings e v
    then map (λ (a : Asked). Some a.said) (outstanding (terms settings) (port_in e) v.turns)
    else []

abbrev again_sent : Event → Batch → Lists → List (Option Said)
again_sent e b v = if is_stepped settings e v && delivers_message settings e v then []
    else map asked_of_bytes (messages b)

abbrev again_asks_due : Event → Batch → Lists → List (Option Ask)
again_asks_due e b v =
    if is_stepped settings e v && comes_up settings e v
    then map (λ (a : Asked). a.ask) (outstanding (terms settings) (port_in e) v.turns)
    else []

-- both clients of a port stand alike here
abbrev again_asks_sent : Event → Batch → Lists → List (Option Ask)
again_asks_sent e b v =
    if is_stepped settings e v && delivers_message settings e v then []
    else map (ask_of_bytes (standing_in (terms settings) v.turns (codes "1"))
    (order_number (terms settings) (port_in e) (accepted (terms settings) v.turns))) (messages b)

-- ---- a history

pub record IsComputed (h : History) : Type 0 where
  pub client_out : in_batches (λ b. b.client_out) h ≡ by_law (due_to_client settings) h
  pub reports : in_batches (λ b. b.reports) h ≡ by_law (due_reports settings) h
  pub port_out : in_batches (λ b. b.port_out) h ≡ by_law (due_to_port settings) h
  pub fault : in_batches (λ b. b.fault) h ≡ by_law (due_fault settings) h
  pub client : in_batches (λ b. b.client) h ≡ by_law (λ e b v. due_client e b) h
  pub port : in_batches (λ b. b.port) h ≡ by_law (λ e b v. due_port settings e b) h
  pub again : by_law again_sent h ≡ by_law again_due h
  pub asks : by_law again_asks_sent h ≡ by_law again_asks_due h

-- ---- the order level

-- a client's message as the session delivers it: the same tags, in the order of the standard's message
abbrev typed_event : orders.OrderEvent → orders.OrderEvent
typed_event (Came client m port) = Came client (message_fields (application_of m)) port
typed_event (Heard port m) = Heard port m

abbrev pub typed : orders.OrderHistory → orders.OrderHistory
typed h = map (λ (t : orders.OrderTurn). record t { event = typed_event t.event }) h

-- the batches have this exchange
abbrev pub HasTurns : History → orders.OrderHistory → Type 0
HasTurns h turns = order_turns settings h ≡ typed turns
