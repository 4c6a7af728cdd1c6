-- How many places of an outlet's ring an event leaves free. The ring has 2,112: what a client says uses 1,024 of them,
-- so that one that doesn't take its lists holds up neither its market's messages nor time; what a market says uses
-- 1,024 more, and 64 are for time alone. A long list counts for more than one of those that what a client says uses,
-- and for one of the others. (Own.)
use Rattle.std.specs.Prelude.{ℕ}
use Rattle.desk_side.specs.desk_rings.Sizes.{for_markets_and_time}
use Rattle.gate_journal.specs.gate_law.Events.{Event, ClientUp, ClientMessage, ClientGone, ClientTick, PortUp}
use Rattle.gate_journal.specs.gate_law.Events.{PortPacket, PortGone}
use Rattle.gate_journal.specs.gate_law.Events.{PortTick}

abbrev pub reserved : Event → ℕ
reserved (ClientUp client link at) = for_markets_and_time
reserved (ClientMessage client link at frame) = for_markets_and_time
reserved (ClientGone client link at) = for_markets_and_time
reserved (ClientTick client at) = 0
reserved (PortUp p link at) = 64
reserved (PortPacket p link at packet) = 64
reserved (PortGone p link at) = 64
reserved (PortTick p at) = 0
