use Rattle.std.proofs.Common.{◌∙◌, ap}
use Rattle.session_law.proofs.Expects.{Leaves-expected}
use Rattle.fix_session.specs.Held.{SessionHeld}
use Rattle.fix_session.proofs.session.Session.next_in.Goals as goal

pub returns-clause-number : goal.returns-clause-number
returns-clause-number c = λ gate client h leaves. ap (λ (h : SessionHeld). h.session.expected) c.self.view_is
    ∙ Leaves-expected gate client h c.args.self.now.session leaves
