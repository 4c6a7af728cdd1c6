-- Faults of links, and of lines.
use Rattle.std.specs.Prelude.{Option, Some, None, Result, Ok, Err}
use Rattle.gate_workers.specs.link_io.declared.link_fault.LinkFault.{LinkFault}
use Rattle.gate_workers.specs.declared.writer.WriterEnd.{WriterEnd}

-- the fault that ended a link, the reader's before the writer's
abbrev pub end_fault : (reader : Result Unit LinkFault) → (writer : Result WriterEnd LinkFault) → Option LinkFault
end_fault (Err fault) writer = Some fault
end_fault (Ok ended) (Ok how) = None
end_fault (Ok ended) (Err fault) = Some fault

-- the first of two faults
abbrev pub first_fault : (first then : Option LinkFault) → Option LinkFault
first_fault None then = then
first_fault (Some fault) then = Some fault
