use Rattle.std.proofs.Common.{sym, ◌∙◌, subst}
use Rattle.desk_steps.specs.Agreeing.{DeskState}
use Rattle.desk_steps.specs.Settling.{HistoryGoesOn}
use Rattle.desk_steps.proofs.Onward.{round-on}
use Rattle.desk.proofs.replaying.step_again.Goals as goal

pub returns-in_err-turned : goal.returns-in_err-turned
returns-in_err-turned g c = record {
  goes_on = (round-on c.round.result c.args.desk.now c.round.new.self c.round.ensures.ok c.round.ensures.err).history;
}

pub returns-then-turned-eq0 : goal.returns-then-turned-eq0
returns-then-turned-eq0 g c = record {
  goes_on = subst (λ (s : DeskState). HistoryGoesOn c.args.desk.now.recorded s.recorded)
      (sym (c.take_waiting.ensures ∙ c.take_prompt.ensures))
      (round-on c.round.result c.args.desk.now c.round.new.self c.round.ensures.ok c.round.ensures.err).history;
}

pub returns : goal.returns
returns g c = record {
  goes_on = subst (λ (s : DeskState). HistoryGoesOn c.args.desk.now.recorded s.recorded)
      (sym (c.take_waiting.ensures ∙ c.take_prompt.ensures))
      (round-on c.round.result c.args.desk.now c.round.new.self c.round.ensures.ok c.round.ensures.err).history;
}
