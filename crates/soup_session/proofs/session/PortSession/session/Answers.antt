use Rattle.std.proofs.Common.{subst, sym}
use Rattle.soup_session.specs.Calls.{CallsLeave, PortHeld}
use Rattle.soup_session.proofs.Kept.{session_left}
use Rattle.soup_session.proofs.session.PortSession.session.Goals as goal

pub returns : goal.returns
returns c = λ terms before l. session_left terms before c.self.inside.port
    (subst (λ (h : PortHeld). CallsLeave terms before h.port) (sym c.self.view_is) l)
