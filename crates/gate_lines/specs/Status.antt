-- The status that a run ends with.
use Rattle.std.specs.Prelude.{◌≡◌, ℕ, List}
use Rattle.script_steps.specs.script_lines.declared.fault.LineFault.{LineFault}
use Rattle.script_steps.specs.script_lines.declared.fault.LineFault.TheVariants as line_fault
use Rattle.wire_streams.specs.declared.stream_fault.StreamFault.{StreamFault}
use Rattle.wire_streams.specs.declared.stream_fault.StreamFault.TheVariants as stream_fault
use Rattle.gate_lines.specs.declared.stop.Stop.{Stop}
use Rattle.gate_lines.specs.declared.stop.Stop.TheVariants.{NotUnderstood, NoMemory, Stream}
use Rattle.script_steps.specs.Lines.{MayStopAt}

-- 2 for a line that isn't understood, 1 for what isn't the script's fault
abbrev pub stop_status : Stop → ℕ
stop_status (NotUnderstood line) = 2
stop_status NoMemory = 1
stop_status Stream = 1

-- why a run stops at a line: memory ran out there, or the line isn't understood
abbrev pub stop_at : ℕ → LineFault → Stop
stop_at number line_fault.NoMemory = NoMemory
stop_at number line_fault.NotUnderstood = NotUnderstood number

-- why a run stops where a stream gives no line
abbrev pub stop_of_stream : StreamFault → Stop
stop_of_stream stream_fault.NoMemory = NoMemory
stop_of_stream stream_fault.Stream = Stream

-- it stops at this line, for whichever of the two, and isn't said not to be understood where it is a line that stops
-- nothing
abbrev pub IsStopAt : ℕ → List ℕ → Stop → Type 0
IsStopAt number text stop = (fault : LineFault) × (stop ≡ stop_at number fault)
    × (fault ≡ line_fault.NotUnderstood → MayStopAt text)
