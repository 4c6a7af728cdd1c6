-- What a desk with a journal keeps: nobody is told more than the journal's file has, durably. (Own.)
use Rattle.std.specs.Prelude.{◌≡◌, ◌⊎◌, ℕ, true, Option, Some, None, slice_get, List}
use mathlib.Core.List.{IsPrefix}
use Rattle.gate_events.specs.Sources.{lists_to}
use Rattle.journal_pages.specs.declared.version.Version.TheVariants.{Two}
use Rattle.gate_journal.specs.Cut.{IsMoreOf}
use Rattle.gate_journal.specs.Day.{day_records}
use Rattle.gate_journal.specs.Kept.{Kept, kept_in}
use Rattle.gate_law.specs.Events.{LinkOut}
use Rattle.gate_events.specs.declared.source.Recipient.{Recipient}
use Rattle.desk_rings.specs.Rings.{Done, took_at}
use Rattle.desk_rings.specs.CoreEnds.{OutletProducerState}
use Rattle.desk_steps.specs.Agreeing.{DeskState}
use Rattle.journal_log.specs.declared.host_file.HostFile.{HostFile}
use Rattle.journal_log.specs.Seen.{host_may_leave, host_seen}
use Rattle.journal_log.specs.Kept.{HasDay, HasEnd, LeavesAll, TurnLogState}

-- What lies in the ring of each producer, or was taken out of it, is a beginning of what a history tells its recipient;
-- the rest of what was sent waits beside the ring.
abbrev pub AreOutputFrom : List (List ℕ) → List OutletProducerState → Type 0
AreOutputFrom history producers = (d : ℕ) (w : OutletProducerState) → slice_get producers d ≡ Some w
    → (w.stages ≡ true) × IsPrefix w.released (lists_to w.name.to (kept_in history).batches)
    × IsPrefix w.released w.sent

-- The log has a history, durably: the desk's own, or a beginning of it. Nobody is told more than that has.
pub record IsWrittenAhead (log : TurnLogState HostFile) (s : DeskState) : Type 0 where
  pub history : List (List ℕ)
  pub has : HasDay host_seen host_may_leave history log
  pub more : IsMoreOf history s.recorded.kept.pages
  pub output : AreOutputFrom history s.side.producers

-- Each crash leaves a file in front of which the pages of a day stand; and what finished outlets took is a beginning of
-- what that day tells them. So nothing that anybody was told is forgotten.
pub record EachCrashTells (finished : List Done) (log : TurnLogState HostFile) : Type 0 where
  pub history : List (List ℕ)
  pub left : LeavesAll host_seen host_may_leave history log.file
  pub output : (i d : ℕ) (to : Recipient) (lists : List (List LinkOut))
      → slice_get finished i ≡ Some (took_at d to lists)
      → IsPrefix lists (lists_to to (kept_in history).batches)

-- where there is a journal
abbrev pub OutputIsKept : List Done → Option (TurnLogState HostFile) → Type 0
OutputIsKept finished None = Unit {0}
OutputIsKept finished (Some log) = EachCrashTells finished log

-- The file of a journal is a history and an end, all of it durable.
abbrev pub IsEnded : Kept → Option (TurnLogState HostFile) → Type 0
IsEnded kept None = Unit {0}
IsEnded kept (Some log) = HasEnd host_seen host_may_leave kept.pages log.file

-- what a journal had, before and after it was to end: that, or a whole history that goes on with it
abbrev pub HasStill : Kept → Option (TurnLogState HostFile) → Option (TurnLogState HostFile) → Type 0
HasStill now None None = Unit {0}
HasStill now (Some old) (Some new) = (now ≡ kept_in now.pages) × ((before : List (List ℕ))
    → HasDay host_seen host_may_leave before old → IsMoreOf before now.pages
    → HasDay host_seen host_may_leave before new ⊎ HasDay host_seen host_may_leave now.pages new)
HasStill now None (Some new) = ⊥
HasStill now (Some old) None = ⊥

-- and once it ended
abbrev pub Ends : Kept → Option (TurnLogState HostFile) → Option (TurnLogState HostFile) → Type 0
Ends now None None = Unit {0}
Ends now (Some old) (Some new) = (before : List (List ℕ)) → HasDay host_seen host_may_leave before old
    → IsMoreOf before now.pages → HasEnd host_seen host_may_leave now.pages new.file
Ends now None (Some new) = ⊥
Ends now (Some old) None = ⊥

-- of a desk that has a journal
abbrev pub KeepsAhead : Option (TurnLogState HostFile) → DeskState → Type 0
KeepsAhead None s = Unit {0}
KeepsAhead (Some log) s = IsWrittenAhead log s
