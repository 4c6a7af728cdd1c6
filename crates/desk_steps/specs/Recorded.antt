-- What contracts see of a core with its history, and what one step makes of it. (Own.)
use Rattle.std.specs.Prelude.{◌≡◌, [], ◌∷◌, ◌++◌}
use Rattle.gate_journal.specs.gate_law.Settings.{Settings}
use Rattle.gate_journal.specs.gate_law.Events.{Batch}
use Rattle.gate_journal.specs.gate_law.Holds.{Holds}
use Rattle.gate_events.specs.declared.event.Event.{Event}
use Rattle.gate_journal.specs.Cut.{IsMoreOf}
use Rattle.gate_journal.specs.Kept.{Kept, kept_turn, turns}
use Rattle.desk_side.specs.declared.batch_output.BatchOutput.{BatchOutput}
use Rattle.desk_side.specs.BatchOutput.{IsOutputOf}

-- its settings, and what the history keeps
pub record Recorded : Type 0 where
  pub settings : Settings
  pub kept : Kept

-- The event is kept with a batch, behind what was kept, and this is what the batch tells; all that is promised holds
-- with it.
pub record IsKeptStep (e : Event) (output : BatchOutput) (old new : Recorded) : Type 0 where
  pub batch : Batch
  pub settings : new.settings ≡ old.settings
  pub events : new.kept.events ≡ old.kept.events ++ e ∷ []
  pub batches : new.kept.batches ≡ old.kept.batches ++ batch ∷ []
  pub pages : IsMoreOf old.kept.pages new.kept.pages
  pub says : IsOutputOf batch output
  pub holds : Holds old.settings (kept_turn e batch ∷ turns old.kept)
