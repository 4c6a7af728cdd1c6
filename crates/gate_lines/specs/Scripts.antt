-- What a script comes to, line after line.
use Rattle.std.specs.Prelude.{◌≡◌, ℕ, ◌-◌, ◌⊎◌, Bool, true, false, List, [], ◌∷◌, ◌++◌, length, Option, ⊤}
use Rattle.std.specs.List.{flat_map, FoldsTo}
use Rattle.std.specs.Io.KnownBytes.{Appends, Keeps}
use Rattle.gate_lines.specs.declared.flags.Flags.{Flags}
use Rattle.gate_lines.specs.BatchLines.{shown_batch}
use Rattle.gate_audit.specs.gate_journal.Kept.{Kept, nothing_kept}
use Rattle.wire_streams.specs.Unread.{lines_of}
use Rattle.script_steps.specs.Lines.{MayStopAt}
use Rattle.script_steps.specs.Standing.{IsCold, IsTextStep, IsWarm, RunSoFar, Runner, StepsText}
use Rattle.gate_lines.specs.declared.stop.Stop.{Stop}
use Rattle.gate_lines.specs.declared.stop.Stop.TheVariants.{NotUnderstood, NoMemory, Stream}

-- ---- the history of a script

-- It begins with the sessions, and its lines step it, one after another, each once.
abbrev pub ComesTo : List ℕ → Kept → Type 0
ComesTo text kept =
    (start : RunSoFar) × IsWarm start × (later : Runner)
    × FoldsTo IsTextStep start (lines_of text) (record { runner = later; kept = kept })

-- ---- what a script prints

-- what is kept, as it is printed
abbrev pub printed_of : Flags → Kept → List ℕ
printed_of flags kept = flat_map (shown_batch flags) kept.batches

-- a line steps a runner, and what is kept of it is written
abbrev pub PrintsLine : Flags → Runner → List ℕ → Runner → Option (List ℕ) → Option (List ℕ) → Type 0
PrintsLine flags old text new before after = (kept : Kept) × StepsText old nothing_kept text new kept
    × Appends before after (printed_of flags kept)

-- a runner, and what was printed of the lines that stepped it
pub record Printing : Type 0 where
  pub runner : Runner
  pub printed : List ℕ

abbrev pub IsPrintedStep : Flags → Printing → List ℕ → Printing → Type 0
IsPrintedStep flags from text to =
    (kept : Kept) × StepsText from.runner nothing_kept text to.runner kept
    × (to.printed ≡ from.printed ++ printed_of flags kept)

-- lines step a runner, one after another, each once, and what is kept of each is written
abbrev pub Prints : Flags → Runner → List (List ℕ) → Runner → Option (List ℕ) → Option (List ℕ) → Type 0
Prints flags start texts later before after =
    (printed : List ℕ)
    × FoldsTo (IsPrintedStep flags) (record { runner = start; printed = [] }) texts
    (record { runner = later; printed = printed })
    × Appends before after printed

-- a script begins with this runner: cold where that is asked, and else with the sessions
abbrev pub BeginsScript : Bool → Runner → Type 0
BeginsScript true runner = IsCold runner
BeginsScript false runner = (kept : Kept) × IsWarm (record { runner = runner; kept = kept })

-- all lines of a script are printed
abbrev pub PrintsAll : Flags → List ℕ → Option (List ℕ) → Option (List ℕ) → Type 0
PrintsAll flags text before after =
    (start : Runner) × BeginsScript flags.cold start × (later : Runner)
    × Prints flags start (lines_of text) later before after

-- the first lines of a text are stepped and printed, so many of them
abbrev pub PrintsFirst : Flags → Runner → List ℕ → ℕ → Option (List ℕ) → Option (List ℕ) → Type 0
PrintsFirst flags start text count before after =
    (given : List (List ℕ)) × (rest : List (List ℕ)) × (later : Runner)
    × (lines_of text ≡ given ++ rest) × (length given ≡ count) × Prints flags start given later before after

-- the same, and the line behind them may stop a script
abbrev pub StopsBehind : Flags → Runner → List ℕ → ℕ → Option (List ℕ) → Option (List ℕ) → Type 0
StopsBehind flags start text count before after =
    (given : List (List ℕ)) × (last : List ℕ) × (rest : List (List ℕ)) × (later : Runner)
    × (lines_of text ≡ given ++ last ∷ rest) × (length given ≡ count) × MayStopAt last
    × Prints flags start given later before after

-- What is printed where a run stops: where a line isn't understood, the lines before it; where memory ran out, some
-- of the first. Of a read or a write that failed nothing is known, since a write may have taken a part.
abbrev pub StopsAmong : Flags → Runner → List ℕ → Stop → Option (List ℕ) → Option (List ℕ) → Type 0
StopsAmong flags start text (NotUnderstood number) before after = StopsBehind flags start text (number - 1) before after
StopsAmong flags start text NoMemory before after = (count : ℕ) × PrintsFirst flags start text count before after
StopsAmong flags start text Stream before after = ⊤

-- the same of a whole script, which may stop before it begins
abbrev pub StopsScript : Flags → List ℕ → Stop → Option (List ℕ) → Option (List ℕ) → Type 0
StopsScript flags text stop before after = Keeps before after
    ⊎ ((start : Runner) × BeginsScript flags.cold start × StopsAmong flags start text stop before after)

-- one line stopped it: this one where it isn't understood, and nothing of it is written
abbrev pub WritesNothing : ℕ → List ℕ → Stop → Option (List ℕ) → Option (List ℕ) → Type 0
WritesNothing number text (NotUnderstood told) before after = (told ≡ number) × MayStopAt text × Keeps before after
WritesNothing number text NoMemory before after = Keeps before after
WritesNothing number text Stream before after = ⊤
