use Rattle.std.proofs.Common.{subst, sym}
use Rattle.soup_session.specs.Table.{Send}
use Rattle.soup_session.specs.Calls.{CallsLeave, PortHeld}
use Rattle.soup_session.proofs.Kept.{leaves_more, answers_call}
use Rattle.soup_session.proofs.session.PortSession.send.Goals as goal

pub returns-clause-leaves : goal.returns-clause-leaves
returns-clause-leaves c = λ terms before l.
    rw c.take.ensures.port (leaves_more terms before c.self.inside.port
    (Send c.args.message c.args.at) c.send-answered.result c.send-answered.ensures
    (subst (λ (h : PortHeld). CallsLeave terms before h.port) (sym c.self.view_is) l))

pub returns-clause-answers : goal.returns-clause-answers
returns-clause-answers c = λ terms before l.
    answers_call terms before c.self.inside.port
    (Send c.args.message c.args.at) c.send-answered.result c.take.result c.send-answered.ensures c.take.ensures.out
    c.take.ensures.delivered (subst (λ (h : PortHeld). CallsLeave terms before h.port) (sym c.self.view_is) l)
