-- When the messages that are kept are those that are asked: one by one, on their ports, of their orders, and each
-- says what is asked.
use Rattle.std.specs.Prelude.{◌≡◌, ℕ, List, ◌++◌, Option, Some, map}
use Rattle.std.specs.Str.Parse.{digits_value}
use Rattle.order_law.specs.ouch_codec.declared.inbound.Inbound.{Inbound}
use Rattle.order_law.specs.ouch_codec.Inbound.{inbound_bytes}
use Rattle.order_law.specs.ouch_codec.declared.outbound.Outbound.{Outbound}
use Rattle.order_law.specs.Asks.{Standing}
use Rattle.order_law.specs.Life.{is_closed}
use Rattle.order_law.specs.History.{Asked}
use Rattle.order_law.specs.Headline.{Each, EachWith, Says}
use Rattle.order_machine.specs.OrderRecord.{OrderRecord}
use Rattle.order_machine.specs.Runs.{Finds}
use Rattle.order_machine.specs.Outstanding.{OnPort, asked_on, on_port, unanswered_by}
use Rattle.outstanding.specs.Kept.{KeptMessage, bytes_on, kept_from, left_by}

-- whatever the token, it is this order that is meant
abbrev pub always : List ℕ → List ℕ → Option ℕ
always order token = Some (digits_value 10 order)

-- A message says what is asked, of the order that is asked, for a client that stands as its orders do.
abbrev pub SaysAsked : (List ℕ → Standing) → Asked → List ℕ → Type 0
SaysAsked standing_of asked message = Says (standing_of asked.order) (always asked.order) asked message

-- the same, where the tokens of the port lead to these orders
abbrev pub SaysBy : (List ℕ → Standing) → (List ℕ → Option ℕ) → Asked → List ℕ → Type 0
SaysBy standing_of order_of asked message = Says (standing_of asked.order) order_of asked message

-- what is asked of a port is kept
pub record IsKept (standing_of : List ℕ → Standing) (q : OnPort) (k : KeptMessage) : Type 0 where
  pub port : q.port ≡ k.port
  pub order : q.asked.order ≡ k.order
  pub says : SaysAsked standing_of q.asked k.bytes

-- all that is asked is kept, in order, and nothing else
abbrev pub AreKept : (List ℕ → Standing) → List OnPort → List KeptMessage → Type 0
AreKept standing_of asked kept = EachWith (IsKept standing_of) asked kept

-- ---- the laws

-- What a port is asked of one order stands behind the rest, with the messages that say it.
abbrev pub PushingKeeps : Type 0
PushingKeeps =
    (standing_of : List ℕ → Standing) (asked : List OnPort) (kept : List KeptMessage) → AreKept standing_of asked kept
    → (port : ℕ) (order : List ℕ) (asks : List Asked) (messages : List Inbound)
    → Each (λ (a : Asked). a.order ≡ order) asks → EachWith (SaysAsked standing_of) asks (map inbound_bytes messages)
    → AreKept standing_of (asked ++ asked_on port asks) (kept ++ kept_from port order messages)

-- A message from the market answers the same of what is asked and of what is kept, whatever tokens the pending replaces
-- of its order ask for, and so does the closing of the order.
abbrev pub AnsweringKeeps : Type 0
AnsweringKeeps =
    (standing_of : List ℕ → Standing) (asked : List OnPort) (kept : List KeptMessage) → AreKept standing_of asked kept
    → (port : ℕ) (m : Outbound) (next : List (List ℕ)) (o : OrderRecord)
    → AreKept standing_of (unanswered_by port m next o asked) (left_by port m next o.new.order (is_closed o.stage) kept)

-- A port's own messages say what it is asked, in order: where its tokens lead to the orders that are meant.
abbrev pub PortsAreSaid : Type 0
PortsAreSaid =
    (standing_of : List ℕ → Standing) (asked : List OnPort) (kept : List KeptMessage) → AreKept standing_of asked kept
    → (port : ℕ) (order_of : List ℕ → Option ℕ) → Each (Finds order_of) (on_port port asked)
    → EachWith (SaysBy standing_of order_of) (on_port port asked) (bytes_on port kept)

-- Clients may be said to stand otherwise, where those of the orders that are asked of stand as before.
abbrev pub StandingsMayGrow : Type 0
StandingsMayGrow =
    (earlier later : List ℕ → Standing) (asked : List OnPort) (kept : List KeptMessage) → AreKept earlier asked kept
    → Each (λ (q : OnPort). later q.asked.order ≡ earlier q.asked.order) asked → AreKept later asked kept
