use Rattle.std.proofs.Common.{◌∙◌}
use Rattle.desk_steps.proofs.Draining.{goes-further}
use Rattle.desk.proofs.replaying.step_all.Goals as goal

pub returns-in_err-step_again-clause-goes_on : goal.returns-in_err-step_again-clause-goes_on
returns-in_err-step_again-clause-goes_on g c = goes-further c.args.desk.now.recorded c.loop-event.desk.recorded
    c.step_again.new.desk.recorded c.loop-event.invariant.on c.step_again.ensures.goes_on

pub loop-event-preserved : goal.loop-event-preserved
loop-event-preserved g c = record {
  on = goes-further c.args.desk.now.recorded c.loop-event.desk.recorded c.step_again.new.desk.recorded
      c.loop-event.invariant.on c.step_again.ensures.goes_on;
  count = c.put.ensures ∙ c.loop-event.invariant.count;
}
