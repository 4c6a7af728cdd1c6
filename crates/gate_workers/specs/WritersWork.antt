-- What is written of a link when it is over, and of links one after another.
use Rattle.std.specs.Prelude.{◌≡◌, ℕ, ◌<◌, ◌+◌, ◌++◌, Bool, true, false, List, [], ◌∷◌, length, Option, Result, Ok, Err}
use mathlib.Core.List.{IsPrefix}
use Rattle.std.specs.Io.KnownBytes.{Appends}
use Rattle.link_io.specs.Events.{LinkOut}
use Rattle.link_io.specs.declared.link_fault.LinkFault.{LinkFault}
use Rattle.link_io.specs.declared.link_fault.LinkFault.TheVariants.{ReadFailed, WriteFailed, Malformed, StepLimit}
use Rattle.link_io.specs.declared.link_fault.LinkFault.TheVariants.{NoMemory}
use Rattle.link_io.specs.Writing.{do_close, lists_bytes}
use Rattle.gate_workers.specs.declared.writer.WriterEnd.{WriterEnd}
use Rattle.gate_workers.specs.declared.writer.WriterEnd.TheVariants.{Closed, Stopped}

-- How a link's writing ended. Where the link was closed, or the worker was stopped, all that the lists say is written.
abbrev pub TellsEnd : Result WriterEnd LinkFault → (is_closed : Bool) → (rest : List ℕ) → Type 0
TellsEnd (Ok Closed) is_closed rest = (is_closed ≡ true) × (rest ≡ [])
TellsEnd (Ok Stopped) is_closed rest = (is_closed ≡ false) × (rest ≡ [])
TellsEnd (Err WriteFailed) is_closed rest = 0 < length rest
TellsEnd (Err StepLimit) is_closed rest = Unit {0}
TellsEnd (Err ReadFailed) is_closed rest = ⊥
TellsEnd (Err Malformed) is_closed rest = ⊥
TellsEnd (Err NoMemory) is_closed rest = ⊥

-- A link from its beginning to its end: of the bytes of its writes in the lists that were taken those in front were
-- written, and all of them where no fault ended it.
pub record WritesLink (link : ℕ) (answer : Result WriterEnd LinkFault) (taken_old taken_new : List (List LinkOut))
    (sent_old sent_new : Option (List ℕ)) : Type 0 where
  pub taken : List (List LinkOut)
  pub written : List ℕ
  pub rest : List ℕ
  pub takes : taken_new ≡ taken_old ++ taken
  pub appends : Appends sent_old sent_new written
  pub whole : lists_bytes link taken ≡ written ++ rest
  pub tells : TellsEnd answer (do_close link taken) rest

-- it holds of what some stream had before and has after
abbrev pub OfAStream : (Option (List ℕ) → Option (List ℕ) → Type 0) → Type 0
OfAStream holds = (before after : Option (List ℕ)) × holds before after

-- Links that were written one after the other, numbered from 1, by how each ended, the last one first: what was taken
-- for each link, in order. What was taken between two links, and behind the last, was let go.
abbrev pub LinksWritten : (ends : List (Result WriterEnd LinkFault)) → (taken_old taken_new : List (List LinkOut))
    → Type 0
LinksWritten [] taken_old taken_new = taken_new ≡ taken_old
LinksWritten (end ∷ before) taken_old taken_new =
    (between over : List (List LinkOut)) × LinksWritten before taken_old between
    × OfAStream (WritesLink (length before + 1) end between over) × IsPrefix over taken_new

-- links were written
abbrev pub LineWritten : (taken_old taken_new : List (List LinkOut)) → Type 0
LineWritten taken_old taken_new =
    (ends : List (Result WriterEnd LinkFault)) × LinksWritten ends taken_old taken_new
