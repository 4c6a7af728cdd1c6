use Rattle.fix_session.proofs.Resends.{sent}
use Rattle.fix_session.proofs.draft.Draft.send_again.Goals as goal

pub returns : goal.returns
returns c =
    sent c.args.session.now.session c.args.self.now c.phase_resent-self.result c.args.from c.args.to c.requires.given
    c.requires.silent.0 c.requires.silent.1 c.requires.from c.requires.to c.phase_resent-self.ensures
