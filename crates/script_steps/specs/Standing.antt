-- What a line makes of a runner, and where a script begins.
use Rattle.std.specs.Prelude.{◌≡◌, ℕ, List, [], ◌∷◌, ◌++◌, codes}
use Rattle.std.specs.List.{FoldsTo}
use Rattle.fix_fields.specs.Field.{Field}
use Rattle.script_lines.specs.declared.client.Client.{Client}
use Rattle.script_lines.specs.declared.client.Client.TheVariants as client
use Rattle.script_lines.specs.declared.port.Port.{Port}
use Rattle.script_lines.specs.declared.port.Port.TheVariants as port
use Rattle.script_lines.specs.declared.line.Line.{Line}
use Rattle.script_lines.specs.declared.line.Line.TheVariants as line
use Rattle.script_lines.specs.Lines.{SaysLine}
use Rattle.gate_core.specs.Core.{CoreState, IsAfter}
use Rattle.gate_journal.specs.Kept.{Kept, nothing_kept}
use Rattle.script_steps.specs.declared.events.Links.{Links}
use Rattle.script_steps.specs.Lines.{NoLinks}
use Rattle.script_steps.specs.Settings.{fixed}
use Rattle.script_steps.specs.Steps.{ScriptGoesOn, KeepsLine}

-- the core, and what the lines have told of links and of the time
pub record Runner : Type 0 where
  pub core : CoreState
  pub links : Links

-- ---- lines

-- A line steps a runner: the core goes on by what is kept of it, and that is the events that the line is.
pub record StepsLine (old : Runner) (kept : Kept) (said : Line) (new : Runner) (more : Kept) : Type 0 where
  pub on : ScriptGoesOn old.core kept new.core more
  pub events : KeepsLine old.core said old.links new.links kept more

-- the line of this text
abbrev pub StepsText : Runner → Kept → List ℕ → Runner → Kept → Type 0
StepsText old kept text new more = (said : Line) × SaysLine text said × StepsLine old kept said new more

-- a runner, and what is kept of the lines that stepped it
pub record RunSoFar : Type 0 where
  pub runner : Runner
  pub kept : Kept

abbrev pub IsStep : RunSoFar → Line → RunSoFar → Type 0
IsStep from said to = StepsLine from.runner from.kept said to.runner to.kept

abbrev pub IsTextStep : RunSoFar → List ℕ → RunSoFar → Type 0
IsTextStep from text to = StepsText from.runner from.kept text to.runner to.kept

-- ---- where a script begins

-- no line was stepped
abbrev pub IsCold : Runner → Type 0
IsCold runner = IsAfter fixed [] runner.core × NoLinks runner.links

-- Logon (A): no encryption, a heartbeat every 30 seconds
abbrev pub logon : List Field
logon =
    record { tag = 35; value = codes "A" } ∷ record { tag = 98; value = codes "0" }
    ∷ record { tag = 108; value = codes "30" } ∷ []

-- a client comes up and logs on
abbrev pub logs_on_lines : Client → List Line
logs_on_lines who = line.ClientUp who ∷ line.ClientMessage who logon ∷ []

-- a port comes up and is logged in
abbrev pub logs_in_lines : Port → List Line
logs_in_lines who = line.PortUp who ∷ line.PortLogin who (codes "SESSION001") (codes "                   1") ∷ []

-- what stands before the first line of a script, unless it is asked to begin cold
abbrev pub opening_lines : List Line
opening_lines = logs_on_lines client.First ++ (logs_on_lines client.Second
    ++ (logs_on_lines client.Third ++ (logs_in_lines port.First ++ logs_in_lines port.Second)))

-- the sessions are up, and what was stepped for it is kept
abbrev pub IsWarm : RunSoFar → Type 0
IsWarm stands =
    (cold : Runner) × IsCold cold × FoldsTo IsStep (record { runner = cold; kept = nothing_kept }) opening_lines stands
