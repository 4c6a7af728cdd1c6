-- What is kept of the messages that ports were asked, and what a message from the market takes out of it.
use Rattle.std.specs.Prelude.{ℕ, ◌==◌, Bool, not, ◌&&◌, ◌||◌, List, map, filter, bytes_eq, codes, decimal}
use Rattle.std.specs.Prelude.{if◌then◌else◌}
use Rattle.order_law.specs.ouch_codec.declared.inbound.Inbound.{Inbound}
use Rattle.order_law.specs.ouch_codec.declared.inbound.Inbound.TheVariants.{Enter, Replace, Cancel}
use Rattle.order_law.specs.ouch_codec.Inbound.{inbound_bytes}
use Rattle.order_law.specs.ouch_codec.declared.outbound.Outbound.{Outbound}
use Rattle.order_law.specs.ouch_codec.ToMarket as said
use Rattle.order_law.specs.Headline.{has_type}
use Rattle.order_law.specs.History.{Said, SaysNew, SaysReplace, SaysCancel, answers}
use Rattle.outstanding.specs.declared.asked.AskedMessage.{AskedMessage}

-- one message that a port was asked
pub record KeptMessage : Type 0 where
  pub port : ℕ
  -- the OrderID (37) of its order
  pub order : List ℕ
  pub bytes : List ℕ

-- the messages, the oldest first, now and as they were settled, and for how many more there is room
pub record HeldMessages : Type 0 where
  pub messages : List KeptMessage
  pub settled : List KeptMessage
  pub room : ℕ

-- a message of an order, as a port is asked it
abbrev pub kept_of : ℕ → List ℕ → Inbound → KeptMessage
kept_of port order message = record { port = port; order = order; bytes = inbound_bytes message }

-- messages of one order, as a port is asked them
abbrev pub kept_from : ℕ → List ℕ → List Inbound → List KeptMessage
kept_from port order messages = map (kept_of port order) messages

-- what the code keeps
abbrev pub seen : AskedMessage → KeptMessage
seen asked = kept_of asked.port (decimal asked.order_id) asked.message

-- What the bytes of a message to the market ask, by its type and its tokens.
unfoldable pub asked_by_bytes : List ℕ → Said
asked_by_bytes m =
    if has_type (codes "O") m then SaysNew (said.token m)
    else if has_type (codes "U") m then SaysReplace (said.token m) (said.replacement_token m)
    else SaysCancel (said.token m)

-- what a message asks, by its fields
abbrev pub asked_by_fields : Inbound → Said
asked_by_fields (Enter message) = SaysNew message.token
asked_by_fields (Replace message) = SaysReplace message.token message.replacement_token
asked_by_fields (Cancel message) = SaysCancel message.token

abbrev pub is_kept_on : ℕ → KeptMessage → Bool
is_kept_on port k = k.port == port

-- A message from the market on a port, on the order with this OrderID, whose pending replaces ask for these tokens, and
-- which is closed then or not: of what is kept of the order it answers what it says it does, and, where it is closed
-- then, all.
abbrev pub is_answered_by : ℕ → Outbound → List (List ℕ) → List ℕ → Bool → KeptMessage → Bool
is_answered_by port m next order is_closed k =
    is_kept_on port k && (bytes_eq k.order order && (answers m next (asked_by_bytes k.bytes) || is_closed))

-- what the message leaves
abbrev pub left_by : ℕ → Outbound → List (List ℕ) → List ℕ → Bool → List KeptMessage → List KeptMessage
left_by port m next order is_closed kept =
    filter (λ (k : KeptMessage). not (is_answered_by port m next order is_closed k)) kept

-- the bytes of a port's own messages, in order
abbrev pub bytes_on : ℕ → List KeptMessage → List (List ℕ)
bytes_on port kept = map (λ (k : KeptMessage). k.bytes) (filter (is_kept_on port) kept)
