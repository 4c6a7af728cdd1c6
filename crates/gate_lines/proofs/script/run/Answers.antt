use Rattle.gate_lines.proofs.Printing.{begun-all, begun-stops, not-begun, passed-on}
use Rattle.gate_lines.proofs.script.run.Goals as goal

pub returns-clause-printed : goal.returns-clause-printed
returns-clause-printed g c =
    begun-all (g.R.Read.remaining c.args.input.now) c.args.flags c.in_ok-runner.runner c.run_lines.new.runner
    (g.W.Write.contents c.args.output.now) (g.W.Write.contents c.run_lines.new.output)
    c.in_ok-runner.ensures c.in_ok-run_lines.ensures.printed

pub returns-in_err-run_lines-clause-stopped : goal.returns-in_err-run_lines-clause-stopped
returns-in_err-run_lines-clause-stopped g c =
    passed-on c.from_residual-in_err-run_lines.result c.in_err-run_lines.field-0.0 _
    c.from_residual-in_err-run_lines.ensures.1
    (begun-stops (g.R.Read.remaining c.args.input.now) c.args.flags c.in_ok-runner.runner c.in_err-run_lines.field-0.0
    (g.W.Write.contents c.args.output.now) (g.W.Write.contents c.run_lines.new.output)
    c.in_ok-runner.ensures c.in_err-run_lines.ensures.stopped)

pub returns-in_err-runner-clause-stopped : goal.returns-in_err-runner-clause-stopped
returns-in_err-runner-clause-stopped g c =
    passed-on c.from_residual-in_err-runner.result c.in_err-runner.field-0.0 _ c.from_residual-in_err-runner.ensures.1
    (not-begun (g.R.Read.remaining c.args.input.now) c.args.flags c.in_err-runner.field-0.0
    (g.W.Write.contents c.args.output.now))
