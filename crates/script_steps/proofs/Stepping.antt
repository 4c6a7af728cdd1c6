-- How lines step a runner, one after another.
use Rattle.std.proofs.Common.{List, [], ◌∷◌, ◌++◌, refl, sym, subst}
use Rattle.std.specs.List.{FoldsTo}
use Rattle.gate_journal.specs.Kept.{Kept, nothing_kept, turns}
use Rattle.gate_core.specs.Core.{IsAfter}
use Rattle.script_lines.specs.declared.line.Line.{Line}
use Rattle.script_steps.specs.Standing.{IsStep, IsWarm, RunSoFar, Runner, opening_lines}
use Rattle.script_steps.specs.Settings.{fixed}
use Rattle.script_steps.specs.Steps.{ScriptGoesOn}
use Rattle.script_steps.proofs.Going.{same-on, both-on, from-nothing}

pub folds-append : {P A : Type 0} (R : P → A → P → Type 0) (p : P) (xs : List A) (q : P) (ys : List A) (r : P)
    → FoldsTo R p xs q → FoldsTo R q ys r → FoldsTo R p (xs ++ ys) r
folds-append R p [] q ys r first second = subst (λ x. FoldsTo R x ys r) (sym first) second
folds-append R p (x ∷ xs) q ys r (j, step, first) second = (j, step, folds-append R j xs q ys r first second)

-- lines that step a runner leave the core after what is kept of them
pub on-by-steps : (start : RunSoFar) (lines : List Line) (end : RunSoFar) → FoldsTo IsStep start lines end
    → ScriptGoesOn start.runner.core start.kept end.runner.core end.kept
on-by-steps start [] end is =
    subst (λ (later : RunSoFar). ScriptGoesOn start.runner.core start.kept later.runner.core later.kept) is
    (same-on start.runner.core start.kept)
on-by-steps start (line ∷ lines) end (between, step, others) =
    both-on start.runner.core between.runner.core end.runner.core start.kept between.kept end.kept step.on
    (on-by-steps between lines end others)

-- with the sessions up, the core is after what was stepped for them
pub after-opening : (stands : RunSoFar) → IsWarm stands → IsAfter fixed (turns stands.kept) stands.runner.core
after-opening stands (cold, is, steps) = from-nothing fixed cold.core stands.runner.core nothing_kept stands.kept refl
    (on-by-steps (record { runner = cold; kept = nothing_kept }) opening_lines stands steps) is.0
