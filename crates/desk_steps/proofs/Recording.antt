-- What the core is after, carried along, and what one step makes of a core with its history.
use Rattle.std.proofs.Common.{◌≡◌, Result, Ok, Err, OnErr, ◌∷◌, ◌++◌, [], refl, sym, ap, ◌∙◌, subst}
use Rattle.gate_journal.specs.gate_law.Settings.{Settings}
use Rattle.gate_journal.specs.gate_law.Events.{Batch, History}
use Rattle.gate_journal.specs.gate_law.Holds.{Holds}
use Rattle.gate_events.specs.declared.event.Event.{Event}
use Rattle.gate_core.specs.Core.{After, CoreState, IsAfter}
use Rattle.gate_journal.specs.Cut.{IsMoreOf, with_records}
use Rattle.gate_journal.specs.Kept.{Kept, kept_turn, turns}
use Rattle.gate_journal.specs.Parts.{turn_records}
use Rattle.desk_side.specs.declared.batch_output.BatchOutput.{BatchOutput}
use Rattle.desk_side.specs.BatchOutput.{IsOutputOf}
use Rattle.desk_steps.specs.Recorded.{IsKeptStep, Recorded}

pub holds-after : (s : Settings) (h : History) (core : CoreState) → IsAfter s h core → Holds s h
unfolding IsAfter
holds-after s h core is = is.holds

-- a core that stands as another is after what that one is after
pub after-same : (s : Settings) (h : History) (c d : CoreState) → d.now ≡ c.now → IsAfter s h c → IsAfter s h d
unfolding IsAfter
after-same s h c d same after = subst (After s h) (sym same) after

-- the same turns
pub after-turns : (s : Settings) (h g : History) (c : CoreState) → g ≡ h → IsAfter s h c → IsAfter s g c
after-turns s h g c same after = subst (λ (z : History). IsAfter s z c) (sym same) after

-- what is kept with its batch is a step
pub step-is : (e : Event) (output : BatchOutput) (batch : Batch) (settings : Settings) (kept more : Kept)
    (old : Recorded)
    → record { settings = settings; kept = kept } ≡ old
    → more.events ≡ kept.events ++ e ∷ [] → more.batches ≡ kept.batches ++ batch ∷ []
    → more.pages ≡ with_records kept.pages (turn_records e batch)
    → IsOutputOf batch output → Holds settings (kept_turn e batch ∷ turns kept)
    → IsKeptStep e output old (record { settings = settings; kept = more })
step-is e output batch settings kept more old is events batches pages says holds =
    subst (λ (z : Recorded). IsKeptStep e output z (record { settings = settings; kept = more })) is
    (record {
      batch = batch;
      settings = refl;
      events = events;
      batches = batches;
      pages =
          record { records = turn_records e batch; same = pages };
      says = says;
      holds = holds;
    })

-- what is refused changes nothing
pub same-recorded : (settings : Settings) (kept more : Kept) (old : Recorded)
    → record { settings = settings; kept = kept } ≡ old → more ≡ kept
    → record { settings = settings; kept = more } ≡ old
same-recorded settings kept more old is same = ap (λ (k : Kept). record { settings = settings; kept = k }) same ∙ is

pub on-err : {T E P : Type 0} (r : Result T E) → P → OnErr r P
on-err (Ok x) is = tt
on-err (Err e) is = is
