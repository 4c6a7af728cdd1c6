use Rattle.std.proofs.Common.{ℕ, List, [], ◌∷◌, ◌++◌, refl, subst}
use Rattle.std.proofs.lemmas.Fn.{FoldsTo-push}
use Rattle.wire_streams.proofs.Given.{none-given, one-given}
use Rattle.script_steps.specs.Standing.{IsTextStep, StepsText}
use Rattle.script_steps.proofs.Going.{same-on, both-on}
use Rattle.gate_lines.proofs.Stepping.{all-stepped}
use Rattle.gate_lines.proofs.script.step_lines.Goals as goal

pub loop-number-init : goal.loop-number-init
loop-number-init g c = record { on = same-on _ _; lines = ([], refl, none-given _ _ (c.new-lines.ensures _)) }

pub loop-number-preserved : goal.loop-number-preserved
loop-number-preserved g c =
    let was = c.loop-number.invariant.lines in
    let line = c.in-Some.line.items in
    let step = subst (λ (text : List ℕ). StepsText c.loop-number.runner c.loop-number.kept text c.step_line.new.runner
    c.step_line.new.kept) c.as_slice.ensures.value c.in_ok-step_line.ensures.stepped in
    record {
      on = both-on _ _ _ _ _ _ c.loop-number.invariant.on c.in_ok-step_line.ensures.stepped.2.on;
      lines = (
        was.0 ++ line ∷ [],
        FoldsTo-push IsTextStep (record { runner = c.args.runner.now; kept = c.args.kept.now }) was.0
            (record { runner = c.loop-number.runner; kept = c.loop-number.kept }) line
            (record { runner = c.step_line.new.runner; kept = c.step_line.new.kept }) was.1 step,
        one-given _ _ _ _ _ was.2 (rw c.in-Some.is at c.in_ok-line.ensures),
      );
    }

pub returns-in_default-clause-lines : goal.returns-in_default-clause-lines
returns-in_default-clause-lines g c =
    let was = c.loop-number.invariant.lines in
    all-stepped _ _ _ _ _ _ was.1 was.2 (rw c.in_default.is at c.in_ok-line.ensures)
