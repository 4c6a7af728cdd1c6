-- The lines that a batch prints.
use Rattle.std.specs.Prelude.{ℕ, List, [], ◌∷◌, ◌++◌, codes, decimal, Option, Some, None}
use Rattle.std.specs.List.{flat_map}
use Rattle.soup_session.specs.declared.port_fault.PortFault.{PortFault}
use Rattle.soup_session.specs.Faults.{fault_number}
use Rattle.gate_law.specs.Events.{LinkOut, Write, Close, Batch}
use Rattle.gate_lines.specs.declared.flags.Flags.{Flags}
use Rattle.gate_lines.specs.Words.{shown_number}
use Rattle.gate_lines.specs.Frames.{shown_frame}
use Rattle.gate_lines.specs.Packets.{shown_bytes}

-- what a client's link is told: `C1 > `, and a frame or `close`
abbrev pub shown_client_out : Flags → ℕ → LinkOut → List ℕ
shown_client_out flags client (Write link bytes) = codes "C" ++ decimal client ++ codes " > "
    ++ shown_frame flags bytes ++ 10 ∷ []
shown_client_out flags client (Close link) = codes "C" ++ decimal client ++ codes " > close" ++ 10 ∷ []

-- what a port's link is told: `P1 >`, and what a packet says or `close`
abbrev pub shown_port_out : ℕ → LinkOut → List ℕ
shown_port_out port (Write link bytes) = codes "P" ++ decimal port ++ codes " >" ++ shown_bytes bytes ++ 10 ∷ []
shown_port_out port (Close link) = codes "P" ++ decimal port ++ codes " > close" ++ 10 ∷ []

-- a port's fault, if there is one: `P1 fault 2`
abbrev pub shown_fault : ℕ → Option PortFault → List ℕ
shown_fault port None = []
shown_fault port (Some fault) = codes "P" ++ decimal port ++ codes " fault" ++ shown_number (fault_number fault) ++ 10
    ∷ []

-- the lines of the client that a batch names
abbrev pub shown_client : Flags → Option ℕ → List LinkOut → List ℕ
shown_client flags None outs = []
shown_client flags (Some client) outs = flat_map (shown_client_out flags client) outs

-- the lines of the port that it names: its fault stands first
abbrev pub shown_port : Option ℕ → Option PortFault → List LinkOut → List ℕ
shown_port None fault outs = []
shown_port (Some port) fault outs = shown_fault port fault ++ flat_map (shown_port_out port) outs

-- the client's lines, then the port's
abbrev pub shown_batch : Flags → Batch → List ℕ
shown_batch flags b = shown_client flags b.client b.client_out ++ shown_port b.port b.fault b.port_out
