use Rattle.std.proofs.Common.{subst, sym}
use Rattle.soup_session.specs.Calls.{CallsLeave, PortHeld}
use Rattle.soup_session.proofs.Kept.{state_left}
use Rattle.soup_session.proofs.session.PortSession.state.Goals as goal

pub returns-clause-state : goal.returns-clause-state
returns-clause-state c = λ terms before l. state_left terms before c.self.inside.port
    (subst (λ (h : PortHeld). CallsLeave terms before h.port) (sym c.self.view_is) l)
