use Rattle.desk_steps.proofs.Ahead.{ahead-on}
use Rattle.desk_steps.proofs.Rounding.{few-consumers, round-agrees}
use Rattle.desk_steps.proofs.Onward.{round-on}
use Rattle.desk_steps.proofs.value.Desk.round.Goals as goal

pub round-requires : goal.round-requires
round-requires g c = record {
  few = few-consumers g.K.DeskName.inlets g.K.DeskName.outlets
      (record { recorded = c.self.inside.recorded; side = c.self.inside.side }) c.self.invariant.0;
}

pub invariant_of-self : goal.invariant_of-self
invariant_of-self g c = (
  round-agrees g.K.DeskName.inlets g.K.DeskName.outlets c.round.result
      (record { recorded = c.self.inside.recorded; side = c.self.inside.side })
      (record { recorded = c.round.new.recorded; side = c.round.new.side }) c.self.invariant.0 c.round.ensures.ok
      c.round.ensures.err,
  ahead-on c.self.inside.journal (record { recorded = c.self.inside.recorded; side = c.self.inside.side })
      (record { recorded = c.round.new.recorded; side = c.round.new.side })
      (round-on c.round.result (record { recorded = c.self.inside.recorded; side = c.self.inside.side })
      (record { recorded = c.round.new.recorded; side = c.round.new.side }) c.round.ensures.ok c.round.ensures.err)
      c.self.invariant.1,
)

pub returns-clause-ok : goal.returns-clause-ok
returns-clause-ok g c = rw (← c.self.view_is) c.round.ensures.ok

pub returns-clause-err : goal.returns-clause-err
returns-clause-err g c = rw (← c.self.view_is) c.round.ensures.err
