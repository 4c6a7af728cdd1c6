-- The market's end of a session as a run of the market's machine: what each event is to the machine.
use Rattle.std.specs.Prelude.{◌≡◌, ◌==◌, List, [], ◌∷◌, map, reverse, Option, Some, None, if◌then◌else◌}
use Rattle.ouch_codec.specs.declared.inbound.Inbound.{Inbound}
use Rattle.soup_packets.specs.declared.packet.Packet.{Packet}
use Rattle.market_law.specs.declared.choice.Choice.{Choice}
use Rattle.market_law.specs.Run.{Move, Comes, Acts, ran}
use Rattle.market_sim.specs.declared.event.SimEvent.{SimEvent}
use Rattle.market_sim.specs.declared.event.SimEvent.TheVariants as events
use Rattle.market_sim.specs.declared.link.SimLink.{SimLink}
use Rattle.market_sim.specs.declared.link.SimLink.TheVariants.{NoLink, Connected, LoggedIn}
use Rattle.market_sim.specs.Outbound.{outbound_bytes}
use Rattle.market_sim.specs.Sim.{SimState}

-- a message comes in an unsequenced packet behind a login (SoupBinTCP 3.00, "Unsequenced Data Packet")
abbrev pub heard_on : SimLink → Packet → Option Inbound → Choice → List Move
heard_on LoggedIn packet (Some message) choice = if packet.kind == 85 then Comes message choice ∷ [] else []
heard_on LoggedIn packet None choice = []
heard_on NoLink packet read choice = []
heard_on Connected packet read choice = []

-- what an event is to the machine: a message that comes, an act, or nothing; `read` is what its payload is read as
abbrev pub moves_by : SimState → SimEvent → Option Inbound → List Move
moves_by s events.Up read = []
moves_by s (events.Packet packet choice) read = heard_on s.link packet read choice
moves_by s (events.Act choice) read = Acts choice ∷ []
moves_by s events.Gone read = []

-- The market is as these moves leave the machine, the newest first: it has the machine's book, and has kept all that
-- the machine said, the oldest first.
pub record IsAfterMoves (moves : List Move) (s : SimState) : Type 0 where
  pub book : s.book ≡ (ran moves).machine
  pub kept : s.kept ≡ map outbound_bytes (reverse (ran moves).said)
