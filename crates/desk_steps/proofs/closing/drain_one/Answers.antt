use Rattle.std.proofs.Common.{◌∙◌, sym, inl, inr}
use Rattle.std.proofs.lemmas.Result.{on_ok_weaker}
use Rattle.desk_steps.proofs.Turns.{dropped}
use Rattle.desk_steps.proofs.closing.drain_one.Goals as goal

pub returns-clause-ok : goal.returns-clause-ok
returns-clause-ok g c = on_ok_weaker c.step_front.result (λ x. inl x) c.step_front.ensures.ok

pub returns-then-not-is_from-clause-ok : goal.returns-then-not-is_from-clause-ok
returns-then-not-is_from-clause-ok g c =
    inr (dropped c.args.place c.args.recorded.now c.args.side.now c.pop.new.self c.front-event.result.now c.pop.result
    c.source.result c.requires.inside c.front-event.ensures c.source.ensures
    (sym c.is_from.ensures ∙ c.if-not-is_from.true) c.pop.ensures.consumers c.pop.ensures.producers
    c.pop.ensures.counts)
