use Rattle.std.proofs.Common.{ap, ◌∙◌, sym, arith}
use Rattle.session_law.specs.Session.{Given, Answer, answered}
use Rattle.session_law.specs.Runs.{at_moment, heard}
use Rattle.session_law.proofs.Bounds.{logon-little}
use Rattle.fix_session.proofs.session.Session.on_first.Goals as goal

pub take-requires : goal.take-requires
take-requires c =
    let s = c.args.self.now.session in
    let begun = heard (at_moment c.args.at s) in
    let little = (logon-little s c.args.at c.args.m.now).expected in
    let same = ap (λ (g : Given). g.state.expected) c.in_ok-draft.ensures
    ∙ ap (λ (a : Answer). (answered begun a).state.expected) (sym c.judge_logon-row.ensures) in
    let low = c.requires.expected in
    record { expected = rw same (omega arith) }
