use Rattle.std.proofs.lemmas.Result.{IfOk-weaker}
use Rattle.std.proofs.Common.{Some}
use Rattle.session_law.specs.Formats.{application_of}
use Rattle.session_law.specs.Runs.{OnMessage}
use Rattle.fix_session.proofs.Turns.{delivers, little, tells, one-more, one-more-headline}
use Rattle.fix_session.proofs.session.Session.on_message.Goals as goal

pub returns-clause-turn : goal.returns-clause-turn
returns-clause-turn c = IfOk-weaker c.message_step.result _ _
    (λ turn m. tells c.args.self.now.session c.args.at (OnMessage c.args.m.now) turn c.message_step.new.self.session m)
    c.message_step.ensures.meets

pub returns-clause-delivered : goal.returns-clause-delivered
returns-clause-delivered c = IfOk-weaker c.message_step.result _ _
    (λ turn app is. delivers c.args.self.now.session c.args.at (OnMessage c.args.m.now)
    (Some (application_of c.args.m.now)) (app is)) c.message_step.ensures.delivered

pub returns-clause-leaves : goal.returns-clause-leaves
returns-clause-leaves c = IfOk-weaker c.message_step.result _ _
    (λ turn m gate client h. one-more gate client h c.args.self.now.session c.args.at
    (OnMessage c.args.m.now) turn c.message_step.new.self.session m) c.message_step.ensures.meets

pub returns-clause-headline : goal.returns-clause-headline
returns-clause-headline c = IfOk-weaker c.message_step.result _ _
    (λ turn m gate client h. one-more-headline gate client h c.args.self.now.session c.args.at
    (OnMessage c.args.m.now) turn c.message_step.new.self.session m) c.message_step.ensures.meets

pub returns-clause-numbers : goal.returns-clause-numbers
returns-clause-numbers c = IfOk-weaker c.message_step.result _ _
    (λ turn m. little c.args.self.now.session c.args.at (OnMessage c.args.m.now) turn c.message_step.new.self.session m)
    c.message_step.ensures.meets
