use Rattle.std.proofs.Common.{◌≡◌, Some, true, subst, rules}
use Rattle.std.specs.Prelude.{IfOk}
use Rattle.session_law.specs.declared.phase.Phase.{Phase}
use Rattle.session_law.specs.declared.phase.Phase.TheVariants.{AwaitingLogon, LoggedOn}
use Rattle.session_law.specs.Formats.{application_of}
use Rattle.session_law.specs.Table.{message_rows}
use Rattle.session_law.specs.Runs.{heard, at_moment, by_rows}
use Rattle.fix_session.specs.Meets.{Meets}
use Rattle.fix_session.proofs.session.Session.message_step.Goals as goal

pub returns-in-AwaitingLogon-clause-meets : goal.returns-in-AwaitingLogon-clause-meets
returns-in-AwaitingLogon-clause-meets c =
    let s = c.args.self.now.session in
    let phase : AwaitingLogon c.in-AwaitingLogon.field-0 ≡ s.phase = search rules in
    subst (λ (p : Phase). IfOk c.on_first.result
    (λ turn. Meets s (by_rows (heard (at_moment c.args.at s)) (message_rows s c.args.m.now p)) turn
    c.on_first.new.self.session)) phase c.on_first.ensures.meets

pub returns-in-LoggedOn-clause-meets : goal.returns-in-LoggedOn-clause-meets
returns-in-LoggedOn-clause-meets c =
    let s = c.args.self.now.session in
    let phase : LoggedOn c.in-LoggedOn.field-0 ≡ s.phase = search rules in
    subst (λ (p : Phase). IfOk c.on_next.result
    (λ turn. Meets s (by_rows (heard (at_moment c.args.at s)) (message_rows s c.args.m.now p)) turn
    c.on_next.new.self.session)) phase c.on_next.ensures.meets

pub returns-in-LoggedOn-clause-delivered : goal.returns-in-LoggedOn-clause-delivered
returns-in-LoggedOn-clause-delivered c =
    let s = c.args.self.now.session in
    let m = c.args.m.now in
    let phase : LoggedOn c.in-LoggedOn.field-0 ≡ s.phase = search rules in
    subst (λ (p : Phase). IfOk c.on_next.result
    (λ turn. turn.is_delivered ≡ true → (by_rows (heard (at_moment c.args.at s)) (message_rows s m p)).app
    ≡ Some (application_of m))) phase c.on_next.ensures.delivered
