-- What a port's session delivered, read off a history: the session is called once more, at no moment, with the links
-- that came and went and the packets on them. What it was sent, and when it was silent, shows in the links that
-- batches closed. (SoupBinTCP 3.00, "Sequenced Data Packet".)
use Rattle.std.specs.Prelude.{ℕ, ◌==◌, ◌&&◌, List, [], ◌∷◌, ◌++◌, Option, Some, None, is_some, option_to_list, Result}
use Rattle.std.specs.Prelude.{Ok, Err, if◌then◌else◌}
use Rattle.std.specs.List.{list_any}
use Rattle.soup_packets.specs.declared.packet.Packet.{Packet}
use Rattle.order_accounts.specs.ouch_codec.declared.outbound.Outbound.{Outbound}
use Rattle.order_accounts.specs.ouch_codec.declared.refusal.DecodeRefusal.{DecodeRefusal}
use Rattle.order_accounts.specs.ouch_codec.Values.{decoded}
use Rattle.gate_core.specs.soup_session.declared.port_fault.PortFault.{PortFault}
use Rattle.gate_core.specs.soup_session.Table as port
use Rattle.gate_law.specs.Events.{Event, PortUp, PortPacket, PortGone}
use Rattle.gate_law.specs.Events.{Batch, History, is_the_number}
use Rattle.gate_law.specs.After.{is_close, is_within_day}

-- a port's current link, the calls of its session, and the messages that it delivered and that were no fault, both
-- the newest first
pub record Again : Type 0 where
  pub link : Option ℕ
  pub calls : List port.PortCall
  pub handled : List Outbound

abbrev pub called_at_first : Again
called_at_first = record { link = None; calls = []; handled = [] }

-- a link comes where none is current, and goes
abbrev pub called_up : ℕ → Option ℕ → Again → Again
called_up link None r = record r { link = Some link; calls = port.OnUp 0 ∷ r.calls }
called_up link (Some current) r = r

abbrev pub called_gone : Again → Again
called_gone r = record r { link = None; calls = port.OnGone ∷ r.calls }

-- what a payload is decoded as, where that is a message and was no fault
abbrev pub unless_fault : Result Outbound DecodeRefusal → Option PortFault → Option Outbound
unless_fault (Err refusal) fault = None
unless_fault (Ok m) fault = if is_some fault then None else Some m

abbrev pub message_of : Option (List ℕ) → Option PortFault → Option Outbound
message_of None fault = None
message_of (Some payload) fault = unless_fault (decoded payload) fault

abbrev pub and_handled : Option (List ℕ) → Option PortFault → List Outbound → List Outbound
and_handled payload fault earlier = option_to_list (message_of payload fault) ++ earlier

abbrev pub called_packet : port.LoginTerms → Packet → Batch → Again → Again
called_packet terms packet b r = record r {
  calls = port.OnPacket packet 0 ∷ r.calls;
  handled = and_handled (port.answer terms r.calls (port.OnPacket packet 0)).payload b.fault r.handled;
}

-- an event with its batch, of the port of this number
abbrev pub called_by_event : port.LoginTerms → ℕ → Event → Batch → Again → Again
called_by_event terms p (PortUp q link at) b r = if q == p then called_up link r.link r else r
called_by_event terms p (PortPacket q link at packet) b r = if (q == p) && is_the_number link r.link
    then called_packet terms packet b r else r
called_by_event terms p (PortGone q link at) b r = if (q == p) && is_the_number link r.link then called_gone r else r
called_by_event terms p other b r = r

-- a link that the batch closes is gone
abbrev pub unless_lost : ℕ → Batch → Again → Again
unless_lost p b r = if is_the_number p b.port && list_any (is_close r.link) b.port_out then called_gone r else r

abbrev pub called_again : port.LoginTerms → ℕ → History → Again
called_again terms p [] = called_at_first
called_again terms p (t ∷ before) = if is_within_day before
    then unless_lost p t.batch (called_by_event terms p t.event t.batch (called_again terms p before))
    else called_again terms p before
