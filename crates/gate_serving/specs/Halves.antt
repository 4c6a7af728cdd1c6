-- Lines and their halves: how one is made of the other, and what a half has done.
use Rattle.std.specs.Prelude.{◌≡◌, ℕ, false, List, Result}
use Rattle.gate_law.specs.Events.{LinkOut}
use Rattle.gate_workers.specs.link_io.declared.link_fault.LinkFault.{LinkFault}
use Rattle.gate_workers.specs.declared.writer.WriterEnd.{WriterEnd}
use Rattle.gate_serving.specs.declared.halves.Reads.{Reads}
use Rattle.gate_serving.specs.declared.halves.Writes.{Writes}
use Rattle.gate_serving.specs.declared.line.Line.{Line}
use Rattle.gate_serving.specs.declared.line.Worker.{Worker}
use Rattle.gate_serving.specs.Lines.{LineRead, LineWrittenBy, ReaderLog, reads_of}

-- the halves of a line, before anything was done: they share a slot
abbrev pub IsSplit : {O A B P W K : Type 0} → Line O A B → Reads O A P W K × Writes B W K → Type 0
IsSplit line half =
    (half.0.peer ≡ line.peer) × (half.0.steps ≡ line.steps) × (half.0.opener ≡ line.opener)
    × (half.0.worker ≡ line.reader) × (half.0.all_over ≡ false) × (half.1.worker ≡ line.writer)
    × (half.0.fault ≡ line.fault) × (half.1.peer ≡ line.peer) × (half.1.steps ≡ line.steps)
    × (half.1.slot ≡ half.0.slot)

-- the line that two halves are
abbrev pub IsJoined : {O A B P W K : Type 0} → Reads O A P W K × Writes B W K → Line O A B → Type 0
IsJoined half line =
    (line.peer ≡ half.0.peer) × (line.steps ≡ half.0.steps) × (line.opener ≡ half.0.opener)
    × (line.reader ≡ half.0.worker) × (line.writer ≡ half.1.worker) × (line.fault ≡ half.0.fault)

-- what was done of a line's links by its reader
abbrev pub ReadsDid : {O G C P W K : Type 0} → (O → Type 0) → (O → ℕ) → (Worker G C → ReaderLog)
    → (G → List (List LinkOut)) → (old new : Reads O (Worker G C) P W K) → Type 0
ReadsDid has_ended opened log was_taken old new =
    (new.peer ≡ old.peer) × (new.steps ≡ old.steps)
    × LineRead (reads_of old.peer) new.all_over (has_ended new.opener) (opened old.opener) (opened new.opener)
    old.fault new.fault (log old.worker) (log new.worker)
    × (was_taken new.worker.gate ≡ was_taken old.worker.gate)

-- what was done by its writer
abbrev pub WritesDid : {B W K : Type 0} → (has_ended : Result WriterEnd LinkFault → Type 0) → (old new : Writes B W K)
    → Type 0
WritesDid has_ended old new = LineWrittenBy has_ended old.worker new.worker
