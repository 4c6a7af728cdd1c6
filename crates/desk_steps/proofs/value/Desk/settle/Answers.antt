use Rattle.desk_steps.proofs.Ahead.{ahead-on}
use Rattle.desk_steps.proofs.value.Desk.settle.Goals as goal

pub invariant_of-self : goal.invariant_of-self
invariant_of-self g c = (
  c.settle.ensures.agrees,
  ahead-on c.self.inside.journal (record { recorded = c.self.inside.recorded; side = c.self.inside.side })
      (record { recorded = c.settle.new.recorded; side = c.settle.new.side })
      (record { history = c.settle.ensures.goes_on; producers = c.settle.ensures.holds }) c.self.invariant.1,
)
