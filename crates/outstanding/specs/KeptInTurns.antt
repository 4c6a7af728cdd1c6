-- What is kept from turn to turn, beside the table that the turns leave: on each port what the law says is outstanding.
use Rattle.std.specs.Prelude.{◌≡◌, ℕ, List, [], ◌∷◌, ◌++◌, map, Option, Some, None, Result, Ok}
use Rattle.order_law.specs.ouch_codec.declared.inbound.Inbound.{Inbound}
use Rattle.order_law.specs.ouch_codec.Inbound.{inbound_bytes}
use Rattle.order_law.specs.ouch_codec.declared.outbound.Outbound.{Outbound}
use Rattle.order_law.specs.ouch_codec.declared.refusal.DecodeRefusal.{DecodeRefusal}
use Rattle.order_law.specs.Asks.{Standing}
use Rattle.order_law.specs.Life.{is_closed}
use Rattle.order_machine.specs.fix_fields.Field.{Message}
use Rattle.order_law.specs.Verdicts.{Port}
use Rattle.order_law.specs.History.{Asked, Came, Heard, OrderHistory, Terms, OrderTurn, outstanding, terms_of}
use Rattle.order_law.specs.Headline.{Each, EachWith, Says, SaysIn, standing_in}
use Rattle.order_machine.specs.OrderRecord.{OrderRecord, replacements}
use Rattle.order_machine.specs.Table.{TableState, record_by_token, put}
use Rattle.order_machine.specs.Machine.{client_step, market_step}
use Rattle.order_machine.specs.Outstanding.{OnPort, on_port}
use Rattle.order_machine.specs.Runs.{Finds, Leads, NumbersLeft, TurnsLeave}
use Rattle.outstanding.specs.Kept.{KeptMessage, bytes_on, kept_from, left_by}
use Rattle.outstanding.specs.Keeping.{AreKept, always}

-- After these turns, the newest first, these messages are asked and not answered, and no others.
abbrev pub KeepsOutstanding : List Terms → OrderHistory → List KeptMessage → Type 0
KeepsOutstanding terms h kept =
    (asked : List OnPort) × ((p : ℕ) → on_port p asked ≡ outstanding terms p h)
    × AreKept (standing_in terms h) asked kept

-- ---- the laws

-- before the first turn
abbrev pub NothingIsKept : Type 0
NothingIsKept = (terms : List Terms) → KeepsOutstanding terms [] []

-- Messages that say what is asked of an order wherever the tokens that it is about lead to the order, say it where
-- every token does.
abbrev pub SaidOfOrder : Type 0
SaidOfOrder =
    (standing : Standing) (order : List ℕ) (asks : List Asked) (messages : List (List ℕ))
    → Each (λ (a : Asked). a.order ≡ order) asks
    → ((order_of : List ℕ → Option ℕ) → Each (Finds order_of) asks → EachWith (Says standing order_of) asks messages)
    → EachWith (Says standing (always order)) asks messages

-- A turn of a client's message: the messages that say what it asks of an order stand behind the others, whether they
-- are sent at once or not.
abbrev pub ClientTurnsKeep : Type 0
ClientTurnsKeep =
    (terms : List Terms) (before : OrderHistory) (s : TableState) → NumbersLeft before → TurnsLeave terms before s
    → (kept : List KeptMessage) → KeepsOutstanding terms before kept
    → (t : OrderTurn) (new : TableState) (client : ℕ) (m : Message) (port : Port) → t.event ≡ Came client m port
    → Leads s t new
    → (order : List ℕ) (messages : List Inbound) → Each (λ (a : Asked). a.order ≡ order)
    (client_step s client m port).asks
    → EachWith (Says (terms_of s.terms client).standing (always order)) (client_step s client m port).asks
    (map inbound_bytes messages)
    → KeepsOutstanding terms (t ∷ before) (kept ++ kept_from (terms_of s.terms client).port order messages)

-- A turn of a message by which a token of the port has its order become this one: of what the port was asked of it that
-- goes which the message answers, and all if it is closed now.
abbrev pub MarketTurnsKeep : Type 0
MarketTurnsKeep =
    (terms : List Terms) (before : OrderHistory) (s : TableState) → NumbersLeft before → TurnsLeave terms before s
    → (kept : List KeptMessage) → KeepsOutstanding terms before kept
    → (t : OrderTurn) (new : TableState) (port : ℕ) (m : Outbound) → t.event ≡ Heard port (Ok m) → Leads s t new
    → (token : List ℕ) (order now : OrderRecord) → record_by_token s port token ≡ Some order → now.new ≡ order.new
    → (market_step s port (Ok m)).fault ≡ None → (market_step s port (Ok m)).state.orders ≡ put now s.orders
    → KeepsOutstanding terms (t ∷ before)
    (left_by port m (replacements order.replaces) now.new.order (is_closed now.stage) kept)

-- A turn of a payload that changes no order, be it a fault or not: nothing goes.
abbrev pub QuietTurnsKeep : Type 0
QuietTurnsKeep =
    (terms : List Terms) (before : OrderHistory) (s : TableState) → NumbersLeft before → TurnsLeave terms before s
    → (kept : List KeptMessage) → KeepsOutstanding terms before kept
    → (t : OrderTurn) (new : TableState) (port : ℕ) (heard : Result Outbound DecodeRefusal)
    → t.event ≡ Heard port heard → Leads s t new
    → (market_step s port heard).state ≡ s
    → KeepsOutstanding terms (t ∷ before) kept

-- A port's own messages say what is outstanding on it, one by one and in order.
abbrev pub OutstandingIsKept : Type 0
OutstandingIsKept =
    (terms : List Terms) (h : OrderHistory) (s : TableState) → NumbersLeft h → TurnsLeave terms h s
    → (kept : List KeptMessage) → KeepsOutstanding terms h kept
    → (port : ℕ) → EachWith (SaysIn terms h port) (outstanding terms port h) (bytes_on port kept)
