use Rattle.std.proofs.Common.{ℕ, List, [], ◌∷◌, ◌++◌, subst, arith, length-append}
use Rattle.wire_streams.proofs.Given.{none-given, one-given}
use Rattle.gate_lines.specs.Scripts.{PrintsLine, WritesNothing}
use Rattle.gate_lines.specs.Status.{stop_of_stream}
use Rattle.gate_lines.proofs.Printing.{none-printed, one-printed, all-printed, line-stopped, stream-stopped, passed-on}
use Rattle.gate_lines.proofs.script.run_lines.Goals as goal

pub loop-number-init : goal.loop-number-init
loop-number-init g c = (
  [],
  none-printed c.args.flags c.args.runner.now
      (g.W.Write.contents c.args.output.now),
  none-given _ _ (c.new-lines.ensures _),
  omega arith,
)

pub loop-number-preserved : goal.loop-number-preserved
loop-number-preserved g c =
    let was = c.loop-number.invariant in
    let line = c.in-Some.line.items in
    let prints = subst (λ (text : List ℕ). PrintsLine c.args.flags c.loop-number.runner text c.print_line.new.runner
    (g.W.Write.contents c.loop-number.output) (g.W.Write.contents c.print_line.new.output)) c.as_slice.ensures.value
    c.in_ok-print_line.ensures.printed in (
      was.0 ++ line ∷ [],
      one-printed c.args.flags c.args.runner.now c.loop-number.runner c.print_line.new.runner was.0 line
          (g.W.Write.contents c.args.output.now) (g.W.Write.contents c.loop-number.output)
          (g.W.Write.contents c.print_line.new.output) was.1 prints,
      one-given _ _ _ _ _ was.2 (rw c.in-Some.is at c.in_ok-line.ensures),
      omega (arith, was.3, length-append was.0 (line ∷ [])),
    )

pub returns-in_default-clause-printed : goal.returns-in_default-clause-printed
returns-in_default-clause-printed g c =
    let was = c.loop-number.invariant in
    all-printed _ c.args.flags c.args.runner.now c.loop-number.runner was.0 _ _ _ _ was.2
    (rw c.in_default.is at c.in_ok-line.ensures) was.1

pub returns-in_err-line-clause-stopped : goal.returns-in_err-line-clause-stopped
returns-in_err-line-clause-stopped g c =
    let was = c.loop-number.invariant in
    let fault = c.in_err-line.field-0.0 in
    let stop = stop_of_stream fault in
    passed-on c.from_residual.result stop _ c.from_residual.ensures.1
    (stream-stopped (g.R.Read.remaining c.args.input.now) c.args.flags c.args.runner.now c.loop-number.runner was.0 _
    (g.W.Write.contents c.args.output.now) (g.W.Write.contents c.loop-number.output) fault was.2 was.1)

pub returns-in_err-print_line-clause-stopped : goal.returns-in_err-print_line-clause-stopped
returns-in_err-print_line-clause-stopped g c =
    let was = c.loop-number.invariant in
    let stop = c.in_err-print_line.field-0.0 in
    let nothing = subst (λ (text : List ℕ). WritesNothing c.loop-number.number text stop
    (g.W.Write.contents c.loop-number.output) (g.W.Write.contents c.print_line.new.output)) c.as_slice.ensures.value
    c.in_err-print_line.ensures.stopped in
    passed-on c.from_residual-in_err-print_line.result stop _ c.from_residual-in_err-print_line.ensures.1
    (line-stopped (g.R.Read.remaining c.args.input.now) c.args.flags c.args.runner.now c.loop-number.runner was.0
    c.in-Some.line.items _ (g.W.Write.contents c.args.output.now) (g.W.Write.contents c.loop-number.output)
    (g.W.Write.contents c.print_line.new.output)
    c.loop-number.number stop (one-given _ _ _ _ _ was.2 (rw c.in-Some.is at c.in_ok-line.ensures)) was.1 was.3 nothing)
