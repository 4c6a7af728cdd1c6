use Rattle.session_law.specs.Runs.{OnLink}
use Rattle.fix_session.proofs.Turns.{tells, one-more, one-more-headline}
use Rattle.fix_session.proofs.session.Session.on_link.Goals as goal

pub returns-clause-turn : goal.returns-clause-turn
returns-clause-turn c = tells c.args.self.now.session c.args.at
    (OnLink c.args.up) c.link_step.result c.link_step.new.self.session c.link_step.ensures.meets

pub returns-clause-leaves : goal.returns-clause-leaves
returns-clause-leaves c = λ gate client h. one-more gate client h c.args.self.now.session c.args.at
    (OnLink c.args.up) c.link_step.result c.link_step.new.self.session c.link_step.ensures.meets

pub returns-clause-headline : goal.returns-clause-headline
returns-clause-headline c = λ gate client h. one-more-headline gate client h c.args.self.now.session c.args.at
    (OnLink c.args.up) c.link_step.result c.link_step.new.self.session c.link_step.ensures.meets
