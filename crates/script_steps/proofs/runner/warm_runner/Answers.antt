use Rattle.std.proofs.Common.{subst}
use Rattle.std.specs.List.{FoldsTo}
use Rattle.gate_journal.specs.Kept.{Kept}
use Rattle.script_steps.specs.Standing.{IsStep, RunSoFar, opening_lines}
use Rattle.script_steps.proofs.runner.warm_runner.Goals as goal

pub returns : goal.returns
returns g c =
    let warm : RunSoFar = record { runner = c.open_sessions.new.runner; kept = c.open_sessions.new.kept } in
    λ none. (
      c.args.cold,
      c.requires,
      subst (λ (kept : Kept). FoldsTo IsStep
          (record { runner = c.args.cold; kept = kept }) opening_lines warm) none c.in_ok-open_sessions.ensures,
    )
