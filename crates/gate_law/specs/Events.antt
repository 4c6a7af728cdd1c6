-- Events, and the batches that they give, as the law sees them. Clients and ports go by their numbers, links by
-- theirs; moments are in milliseconds.
use Rattle.std.specs.Prelude.{ℕ, ◌==◌, Bool, false, not, ◌&&◌, List, [], length, Option, Some, None, is_some}
use Rattle.soup_packets.specs.declared.packet.Packet.{Packet}
use Rattle.soup_session.specs.declared.port_fault.PortFault.{PortFault}
use Rattle.fix_fields.specs.Field.{Message}

-- what comes: a link is up, brings a whole frame or packet, or is gone; or time passes
pub data Event : Type 0 where
  ClientUp : (client link at : ℕ) → Event
  ClientMessage : (client link at : ℕ) (frame : Message) → Event
  ClientGone : (client link at : ℕ) → Event
  ClientTick : (client at : ℕ) → Event
  PortUp : (port link at : ℕ) → Event
  PortPacket : (port link at : ℕ) (packet : Packet) → Event
  PortGone : (port link at : ℕ) → Event
  PortTick : (port at : ℕ) → Event

-- what a link is told: the bytes of one frame or packet, or that it is closed
pub data LinkOut : Type 0 where
  Write : (link : ℕ) (bytes : List ℕ) → LinkOut
  Close : (link : ℕ) → LinkOut

-- what one event gives
pub record Batch : Type 0 where
  -- the client that something is for, if there is one, and the port likewise
  pub client : Option ℕ
  -- each report and reject as it was issued, with its number, written or not
  pub reports : List Message
  pub client_out : List LinkOut
  pub port : Option ℕ
  pub port_out : List LinkOut
  -- of the port's packets or messages
  pub fault : Option PortFault

-- there is nothing in it
abbrev pub empty : Batch
empty = record { client = None; reports = []; client_out = []; port = None; port_out = []; fault = None }

abbrev pub is_for_client : Batch → Bool
is_for_client b = not ((length b.reports == 0) && (length b.client_out == 0))

abbrev pub is_for_port : Batch → Bool
is_for_port b = not ((length b.port_out == 0) && not (is_some b.fault))

-- an event with its batch
pub record Turn : Type 0 where
  pub event : Event
  pub batch : Batch

-- all turns so far, the newest first
abbrev pub History : Type 0
History = List Turn

-- this is the number
abbrev pub is_the_number : ℕ → Option ℕ → Bool
is_the_number n None = false
is_the_number n (Some m) = m == n
