use Rattle.gate_lines.proofs.Printing.{flushed-all, flushed-stops}
use Rattle.gate_lines.proofs.script.run_script.Goals as goal

pub returns-in-Ok-clause-printed : goal.returns-in-Ok-clause-printed
returns-in-Ok-clause-printed g c =
    λ none. flushed-all (g.R.Read.remaining c.args.input.now) c.args.flags (g.W.Write.contents c.args.output.now)
    (g.W.Write.contents c.run-ended.new.output) (g.W.Write.contents c.flushed.new.output)
    c.run-ended.result _ c.in-Ok.ensures.ended c.run-ended.ensures.printed c.flushed.ensures.kept

pub returns-in-Err-clause-stopped : goal.returns-in-Err-clause-stopped
returns-in-Err-clause-stopped g c =
    λ two. flushed-stops (g.R.Read.remaining c.args.input.now) c.args.flags (g.W.Write.contents c.args.output.now)
    (g.W.Write.contents c.run-ended.new.output) (g.W.Write.contents c.flushed.new.output)
    c.run-ended.result c.in-Err.stop c.tell.result c.in-Err.ensures.ended c.run-ended.ensures.stopped
    c.flushed.ensures.kept c.tell.ensures two
