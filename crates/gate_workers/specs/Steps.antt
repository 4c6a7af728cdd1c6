-- How a link ends by a step of its writer.
use Rattle.std.specs.Prelude.{Bool, not, ◌&&◌, Option, Some, None, Result, Ok, Err, if◌then◌else◌}
use Rattle.link_io.specs.declared.link_fault.LinkFault.{LinkFault}
use Rattle.link_io.specs.declared.writer.Wrote.{Wrote}
use Rattle.link_io.specs.Limits.{end_by}
use Rattle.gate_workers.specs.declared.writer.WriterEnd.{WriterEnd}
use Rattle.gate_workers.specs.declared.writer.WriterEnd.TheVariants.{Closed, Stopped}

-- by the fault, where it ends the link
abbrev pub fault_end : Option LinkFault → Option (Result WriterEnd LinkFault)
fault_end (Some fault) = Some (Err fault)
fault_end None = None

-- closed, where the step says so; stopped, where it took nothing and the writer is to stop; by a fault
abbrev pub step_end : Result Wrote LinkFault → (is_stopped : Bool) → Option (Result WriterEnd LinkFault)
step_end (Ok w) is_stopped =
    if w.closed then Some (Ok Closed) else (if is_stopped && not w.taken then Some (Ok Stopped) else None)
step_end (Err fault) is_stopped = fault_end (end_by fault)
