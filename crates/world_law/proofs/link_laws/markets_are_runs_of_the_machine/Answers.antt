use Rattle.world_law.proofs.Moving.{at-first, step-kept}
use Rattle.world_law.proofs.link_laws.markets_are_runs_of_the_machine.Goals as goal

pub returns : goal.returns
returns c = record { first = at-first; step = λ ms s e read k. step-kept ms s k e read }
