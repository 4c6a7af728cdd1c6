-- How the core goes on by the lines of a script, and what is kept of it.
use Rattle.std.specs.Prelude.{◌≡◌, List, ◌++◌}
use Rattle.script_lines.specs.declared.line.Line.{Line}
use Rattle.gate_journal.specs.gate_law.Settings.{Settings}
use Rattle.gate_journal.specs.gate_law.Events.{History}
use Rattle.gate_events.specs.declared.event.Event.{Event}
use Rattle.gate_core.specs.Core.{CoreState, IsAfter}
use Rattle.gate_journal.specs.Kept.{Kept, turns}
use Rattle.script_steps.specs.declared.events.Links.{Links}
use Rattle.script_steps.specs.Lines.{Becomes}

-- the core was stepped by the events that were kept meanwhile, in their order, each once, and gave the batches beside
-- them: it is after them, where it was after what was kept before
unfoldable pub ScriptGoesOn : CoreState → Kept → CoreState → Kept → Type 0
ScriptGoesOn core kept later more =
    (s : Settings) (before : History) → IsAfter s (turns kept ++ before) core → IsAfter s (turns more ++ before) later

-- the events that were kept are those of the line
abbrev pub KeepsLine : CoreState → Line → Links → Links → Kept → Kept → Type 0
KeepsLine core line old new kept more =
    (events : List Event) × Becomes core line old new events × (more.events ≡ kept.events ++ events)
