-- What a step tells of the calls of its stream. `did_read` and `did_write` say what a call answered: so many bytes, or,
-- where no number is said, that it failed.
use Rattle.std.specs.Prelude.{◌≡◌, ℕ, ◌<◌, ◌⊎◌, List, length, Option, Some, None, Result, Ok, Err}
use Rattle.link_io.specs.declared.link_fault.LinkFault.{LinkFault}
use Rattle.link_io.specs.declared.link_fault.LinkFault.TheVariants.{ReadFailed, WriteFailed, Malformed, StepLimit}
use Rattle.link_io.specs.declared.link_fault.LinkFault.TheVariants.{NoMemory}
use Rattle.link_io.specs.declared.progress.Progress.{Progress}
use Rattle.link_io.specs.declared.progress.Progress.TheVariants.{Read, Ended, Held}

-- a read gave so many bytes, or failed
abbrev pub FillsBy : {S : Type 0} → (S → Option ℕ → S → Type 0) → Result ℕ LinkFault → (old new : S) → Type 0
FillsBy did_read (Ok count) old new = did_read old (Some count) new
FillsBy did_read (Err fault) old new = did_read old None new

-- the stream is as it was, or a read gave some bytes
abbrev pub NoneFailed : {S : Type 0} → (S → Option ℕ → S → Type 0) → (old new : S) → Type 0
NoneFailed did_read old new = (new ≡ old) ⊎ ((count : ℕ) × did_read old (Some count) new)

-- what a step tells of its read: so many bytes, the end, or a fault, where it gave so many, gave none, or failed; where
-- it tells nothing of it, none failed
abbrev pub ReadsBy : {S : Type 0} → (S → Option ℕ → S → Type 0) → Result Progress LinkFault → (old new : S) → Type 0
ReadsBy did_read (Ok (Read count)) old new = did_read old (Some count) new
ReadsBy did_read (Ok Ended) old new = did_read old (Some 0) new
ReadsBy did_read (Ok Held) old new = NoneFailed did_read old new
ReadsBy did_read (Err ReadFailed) old new = did_read old None new
ReadsBy did_read (Err WriteFailed) old new = NoneFailed did_read old new
ReadsBy did_read (Err Malformed) old new = NoneFailed did_read old new
ReadsBy did_read (Err StepLimit) old new = NoneFailed did_read old new
ReadsBy did_read (Err NoMemory) old new = NoneFailed did_read old new

-- a write of some bytes failed or took none, and left the stream so
abbrev pub FailedWrite : {S : Type 0} → (S → List ℕ → Option ℕ → S → Type 0) → (new : S) → Type 0
FailedWrite {S = S} did_write new =
    (old : S) × (bytes : List ℕ) × (0 < length bytes)
    × (did_write old bytes None new ⊎ did_write old bytes (Some 0) new)

-- the stream is as it was, or was written promptly just once
abbrev pub TriesOnce : {S : Type 0} → (S → List ℕ → Option ℕ → S → Type 0) → (old new : S) → Type 0
TriesOnce did_try old new = (new ≡ old) ⊎ ((bytes : List ℕ) × (took : Option ℕ) × did_try old bytes took new)
