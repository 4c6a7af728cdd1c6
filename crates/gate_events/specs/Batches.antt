-- A batch of these parts.
use Rattle.std.specs.Prelude.{ℕ, ◌==◌, not, ◌&&◌, List, length, Option, Some, None, is_some, if◌then◌else◌}
use Rattle.soup_session.specs.declared.port_fault.PortFault.{PortFault}
use Rattle.fix_fields.specs.Field.{Message}
use Rattle.gate_law.specs.Events.{LinkOut, Batch}

-- a batch by its parts, that names this client and this port where there is something for them
abbrev pub batch_of : ℕ → List Message → List LinkOut → ℕ → List LinkOut → Option PortFault → Batch
batch_of client reports client_out port port_out fault = record {
  client = if not ((length reports == 0) && (length client_out == 0)) then Some client else None;
  reports = reports;
  client_out = client_out;
  port = if not ((length port_out == 0) && not (is_some fault)) then Some port else None;
  port_out = port_out;
  fault = fault;
}
