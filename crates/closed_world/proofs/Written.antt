-- What a batch of the core writes to a port's link are packets.
use Rattle.std.proofs.Common.{◌≡◌, ℕ, Bool, true, false, List, [], ◌∷◌, ◌++◌, map, Option, Some, None, refl, sym, ap}
use Rattle.std.proofs.Common.{subst}
use Rattle.soup_packets.specs.declared.packet.Packet.{Packet}
use Rattle.gate_law.specs.soup_session.declared.port_turn.PortOut.{PortOut}
use Rattle.gate_law.specs.soup_session.declared.port_turn.PortOut.TheVariants as packets
use Rattle.gate_law.specs.Settings.{Settings}
use Rattle.gate_law.specs.Events.{Batch, Event, History, LinkOut, Write, Close, empty}
use Rattle.gate_law.specs.Lists.{Lists}
use Rattle.gate_law.specs.Sessions.{port_line, to_port}
use Rattle.gate_law.specs.Outcome.{LinkMove, Stays, Comes, Goes, Refused, Outcome, outcome}
use Rattle.gate_law.specs.After.{is_within_day, lists}
use Rattle.gate_law.specs.Due.{Gives, to_port_of}
use Rattle.gate_law.specs.Holds.{Holds, OfTurn}
use Rattle.closed_world.specs.Lines.{ArePackets}

on-link : (link : ℕ) (outs : List PortOut) → ArePackets (map (port_line link) outs)
on-link link [] = tt
on-link link (packets.Packet packet ∷ outs) = ((packet, refl), on-link link outs)
on-link link (packets.Close ∷ outs) = (tt, on-link link outs)

on-some : (link : Option ℕ) (outs : List PortOut) → ArePackets (to_port link outs)
on-some None outs = tt
on-some (Some link) outs = on-link link outs

due-packets : (s : Settings) (o : Outcome) (v : Lists) → ArePackets (to_port_of s o v)
due-packets s o v = by_move o.port_link refl
  where
    by_move : (move : LinkMove) → o.port_link ≡ move → ArePackets (to_port_of s o v)
    by_move Stays is = rw is (on-some _ _)
    by_move (Comes link) is = rw is (on-some _ _)
    by_move Goes is = rw is (on-some _ _)
    by_move (Refused link) is = rw is (tt, on-some _ _)

-- of a history that keeps the promise
pub batch-packets : (s : Settings) (e : Event) (b : Batch) (h : History) → Holds s (record { event = e; batch = b } ∷ h)
    → ArePackets b.port_out
batch-packets s e b h holds = by_day (is_within_day h) holds.run.0
  where
    by_day : (day : Bool) → OfTurn day (Gives s e b (lists s h)) b → ArePackets b.port_out
    by_day true gives = subst ArePackets (sym gives.port_out) (due-packets s (outcome s e b (lists s h)) (lists s h))
    by_day false is = subst ArePackets (sym (ap (λ (x : Batch). x.port_out) is)) tt
