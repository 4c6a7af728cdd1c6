use Rattle.std.proofs.lemmas.Result.{IfOk-weaker}
use Rattle.fix_session.specs.Issues.{call_of_body}
use Rattle.fix_session.proofs.Turns.{headline-more, leaves-more, tells-frame}
use Rattle.fix_session.proofs.session.Session.issue.Goals as goal

pub returns-clause-frame : goal.returns-clause-frame
returns-clause-frame c = IfOk-weaker c.issue_step.result _ _
    (λ issued m. tells-frame c.args.self.now.session c.args.at
    (call_of_body c.args.body.now) issued.frame c.issue_step.new.self.session m) c.issue_step.ensures.meets

pub returns-clause-leaves : goal.returns-clause-leaves
returns-clause-leaves c = IfOk-weaker c.issue_step.result _ _
    (λ issued m gate client h. leaves-more gate client h c.args.self.now.session c.args.at
    (call_of_body c.args.body.now) c.issue_step.new.self.session m.state) c.issue_step.ensures.meets

pub returns-clause-headline : goal.returns-clause-headline
returns-clause-headline c = IfOk-weaker c.issue_step.result _ _
    (λ issued m gate client h. headline-more gate client h c.args.self.now.session c.args.at
    (call_of_body c.args.body.now) c.issue_step.new.self.session m.state) c.issue_step.ensures.meets
