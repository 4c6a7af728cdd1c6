use Rattle.std.proofs.lemmas.Result.{IfOk-weaker}
use Rattle.session_law.specs.Runs.{OnTick}
use Rattle.fix_session.proofs.Turns.{tells, one-more, one-more-headline}
use Rattle.fix_session.proofs.session.Session.on_tick.Goals as goal

pub returns-clause-turn : goal.returns-clause-turn
returns-clause-turn c = IfOk-weaker c.tick_step.result _ _
    (λ turn m. tells c.args.self.now.session c.args.at OnTick turn c.tick_step.new.self.session m)
    c.tick_step.ensures.meets

pub returns-clause-leaves : goal.returns-clause-leaves
returns-clause-leaves c = IfOk-weaker c.tick_step.result _ _
    (λ turn m gate client h. one-more gate client h c.args.self.now.session c.args.at OnTick turn
    c.tick_step.new.self.session m) c.tick_step.ensures.meets

pub returns-clause-headline : goal.returns-clause-headline
returns-clause-headline c = IfOk-weaker c.tick_step.result _ _
    (λ turn m gate client h. one-more-headline gate client h c.args.self.now.session c.args.at OnTick turn
    c.tick_step.new.self.session m) c.tick_step.ensures.meets
