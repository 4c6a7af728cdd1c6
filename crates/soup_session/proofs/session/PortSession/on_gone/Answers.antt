use Rattle.std.proofs.Common.{subst, sym}
use Rattle.soup_session.specs.Calls.{CallsLeave, PortHeld}
use Rattle.soup_session.proofs.Kept.{goes_more}
use Rattle.soup_session.proofs.session.PortSession.on_gone.Goals as goal

pub returns-clause-leaves : goal.returns-clause-leaves
returns-clause-leaves c = λ terms before l. rw c.on_gone-port.ensures
    (goes_more terms before c.self.inside.port
    (subst (λ (h : PortHeld). CallsLeave terms before h.port) (sym c.self.view_is) l))
