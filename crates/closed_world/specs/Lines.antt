-- A port of the closed world: its market, its connection with what is on its way, and how many connections it has had;
-- and what becomes of it. (SoupBinTCP 3.00, "SoupBinTCP Session"; the connections are our own.)
use Rattle.std.specs.Prelude.{◌≡◌, ℕ, ◌+◌, ◌==◌, true, List, [], ◌∷◌, ◌++◌, map, Option, Some, None, is_some}
use Rattle.std.specs.Prelude.{option_map, if◌then◌else◌}
use Rattle.std.specs.List.{flat_map, list_all, list_any}
use Rattle.market_law.specs.declared.choice.Choice.{Choice}
use Rattle.market_law.specs.order_law.ouch_codec.declared.inbound.Inbound.{Inbound}
use Rattle.market_law.specs.order_law.ouch_codec.Values.{is_byte}
use Rattle.soup_packets.specs.declared.packet.Packet.{Packet}
use Rattle.soup_packets.specs.Spelling.{packet_bytes}
use Rattle.market_sim.specs.declared.event.SimEvent.TheVariants as sims
use Rattle.market_sim.specs.Sim.{ReadsEvent, SimState, SimStep, opening_sim, sim_step}
use Rattle.gate_law.specs.After.{is_close}
use Rattle.gate_law.specs.Events.{LinkOut, Write, Close}
use Rattle.closed_world.specs.declared.connection.Connection.{Connection}
use Rattle.closed_world.specs.declared.port_line.PortLine.{PortLine}

-- a link with the bytes of the packets on their way to the market, and the packets on their way to the core, each the
-- oldest first
pub record Way : Type 0 where
  pub link : ℕ
  pub to_market : List (List ℕ)
  pub to_core : List Packet

pub record Line : Type 0 where
  pub market : SimState
  pub connection : Option Way
  pub links : ℕ

-- nothing has come to it yet
abbrev pub opening_line : Line
opening_line = record { market = opening_sim; connection = None; links = 0 }

-- ---- what the code has

abbrev pub way_seen : Connection → Way
way_seen c = record { link = c.link; to_market = map packet_bytes c.to_market.items; to_core = c.to_core.items }

abbrev pub line_seen : PortLine → Line
line_seen l = record { market = l.market; connection = option_map way_seen l.connection; links = l.links }

abbrev pub with_way : Option Way → Line → Line
with_way c l = record l { connection = c }

-- ---- connections that open and end

abbrev pub opened_line : Line → Line
opened_line l = record {
  market = (sim_step l.market sims.Up None).state;
  connection = Some (record { link = l.links + 1; to_market = []; to_core = [] });
  links = l.links + 1;
}

-- it ends with all that is on its way, and the market has no link
abbrev pub ended_line : Line → Line
ended_line l = record l { market = (sim_step l.market sims.Gone None).state; connection = None }

-- a connection opens by this link, or there is one already
abbrev pub OpensTo : Line → Line → Option ℕ → Type 0
OpensTo old new None = (is_some old.connection ≡ true) × (new ≡ old)
OpensTo old new (Some link) = (old.connection ≡ None) × (link ≡ old.links + 1) × (new ≡ opened_line old)

-- the connection of this link ends, or there is none
abbrev pub LosesTo : Line → Line → Option ℕ → Type 0
LosesTo old new None = (old.connection ≡ None) × (new ≡ old)
LosesTo old new (Some link) = (c : Way) × (old.connection ≡ Some c) × (link ≡ c.link) × (new ≡ ended_line old)

-- ---- what a batch tells a port's link

-- what is written to a link is a packet
abbrev pub IsPacketOut : LinkOut → Type 0
IsPacketOut (Write link bytes) = (packet : Packet) × (packet_bytes packet ≡ bytes)
IsPacketOut (Close link) = Unit {0}

abbrev pub ArePackets : List LinkOut → Type 0
ArePackets [] = Unit {0}
ArePackets (out ∷ outs) = IsPacketOut out × ArePackets outs

-- what is written to this link
abbrev pub written_to : ℕ → LinkOut → List (List ℕ)
written_to link (Close other) = []
written_to link (Write other bytes) = if other == link then bytes ∷ [] else []

abbrev pub with_written : List LinkOut → Way → Way
with_written outs c = record c { to_market = c.to_market ++ flat_map (written_to c.link) outs }

-- it goes on its way to the market; a connection whose link is closed is over
abbrev pub told_on : List LinkOut → Option Way → Line → Line
told_on outs None l = l
told_on outs (Some c) l =
    if list_any (is_close (Some c.link)) outs then ended_line l else with_way (Some (with_written outs c)) l

abbrev pub told_line : List LinkOut → Line → Line
told_line outs l = told_on outs l.connection l

-- ---- packets that are delivered

abbrev pub NothingToCore : Option Way → Type 0
NothingToCore None = Unit {0}
NothingToCore (Some c) = c.to_core ≡ []

-- the oldest packet on its way to the core leaves the connection of this link, or there is none
abbrev pub TakesToCore : Line → Line → Option (ℕ × Packet) → Type 0
TakesToCore old new None = NothingToCore old.connection × (new ≡ old)
TakesToCore old new (Some taken) = (c : Way) × (rest : List Packet) × (old.connection ≡ Some c)
    × (c.to_core ≡ taken.1 ∷ rest) × (taken.0 ≡ c.link)
    × (new ≡ with_way (Some (record c { to_core = rest })) old)

-- what a market says goes behind what is on its way to the core
abbrev pub said_on : List Packet → Option Way → Option Way
said_on packets None = None
said_on packets (Some c) = Some (record c { to_core = c.to_core ++ packets })

-- the market has made this step
abbrev pub market_line : SimStep → Line → Line
market_line step l = record l { market = step.state; connection = said_on step.packets l.connection }

-- the oldest packet on its way to the market, in bytes, is delivered, by this choice
abbrev pub DeliversOn : Choice → Way → List (List ℕ) → Line → Line → Type 0
DeliversOn choice c [] old new = new ≡ with_way (Some c) old
DeliversOn choice c (bytes ∷ rest) old new = (packet : Packet) × (read : Option Inbound)
    × (packet_bytes packet ≡ bytes) × (list_all is_byte packet.payload ≡ true)
    × ReadsEvent (sims.Packet packet choice) read
    × (new ≡ market_line (sim_step old.market (sims.Packet packet choice) read)
    (with_way (Some (record c { to_market = rest })) old))

abbrev pub Delivers : Choice → Option Way → Line → Line → Type 0
Delivers choice None old new = new ≡ old
Delivers choice (Some c) old new = DeliversOn choice c c.to_market old new
