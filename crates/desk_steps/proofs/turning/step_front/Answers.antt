use Rattle.desk_steps.proofs.Turns.{first-some, stepped}
use Rattle.desk_steps.proofs.turning.step_front.Goals as goal

pub front-requires : goal.front-requires
front-requires g c = record {
  inside = c.requires.inside;
  some = λ a at. first-some (c.requires.own a at).0 a (c.requires.own a at).1;
}

pub pop-requires : goal.pop-requires
pop-requires g c = record {
  inside = c.requires.inside;
  some = λ a at. first-some (c.requires.own a at).0 a (c.requires.own a at).1;
}

pub returns-clause-ok : goal.returns-clause-ok
returns-clause-ok g c =
    stepped c.args.place c.args.recorded.now c.step.new.self c.args.side.now c.pop.new.self c.send.new.self
    c.front.result.now c.pop.result c.in_ok-output.output c.requires.inside c.requires.own c.front.ensures
    c.in_ok-output.ensures.ok
    c.pop.ensures.consumers c.pop.ensures.producers c.pop.ensures.counts c.send.ensures.consumers
    c.send.ensures.producers
    c.send.ensures.counts
