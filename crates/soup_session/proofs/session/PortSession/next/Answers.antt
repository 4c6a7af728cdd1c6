use Rattle.std.proofs.Common.{subst, sym}
use Rattle.soup_session.specs.Calls.{CallsLeave, PortHeld}
use Rattle.soup_session.proofs.Kept.{next_left}
use Rattle.soup_session.proofs.session.PortSession.next.Goals as goal

pub returns-clause-next : goal.returns-clause-next
returns-clause-next c = λ terms before l. next_left terms before c.self.inside.port
    (subst (λ (h : PortHeld). CallsLeave terms before h.port) (sym c.self.view_is) l)
