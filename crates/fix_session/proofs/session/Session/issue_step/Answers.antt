use Rattle.std.proofs.Common.{◌≡◌, ℕ, ◌++◌, ◌∷◌, [], Some, ap, ◌∙◌}
use Rattle.fix_fields.specs.Field.{Message}
use Rattle.session_law.specs.declared.kind.Kind.{Kind}
use Rattle.session_law.specs.Frames.{frame_fields}
use Rattle.session_law.specs.Session.{Slot, State, fresh, next_out}
use Rattle.session_writing.specs.Heads.{BothNames}
use Rattle.session_writing.specs.Issued.{issued_body}
use Rattle.session_writing.specs.fix_stamp.Stamp.{stamp_text}
use Rattle.fix_session.specs.Held.{SessionHeld}
use Rattle.fix_session.specs.Issues.{issued_kind}
use Rattle.fix_session.proofs.Issuing.{issued}
use Rattle.fix_session.proofs.session.Session.issue_step.Goals as goal

pub returns-clause-meets : goal.returns-clause-meets
returns-clause-meets c =
    let old = c.args.self.now.session in
    let inside = c.self.inside in
    let body = issued_body c.args.body.now in
    let kind = issued_kind c.args.body.now in
    let now = c.max-now.result in
    let under : BothNames → State = λ n. record {
      gate = n.gate;
      client = n.client;
      phase = inside.phase;
      expected = inside.expected;
      given =
          inside.given.given;
      latest = inside.latest;
    } in
    let s = under c.print.new.self in
    let kept : Kind → Message → Slot = λ k b. Some (record { kind = k; body = b; at = now }) in
    let keeps = c.in_ok-keep.ensures.given
    ∙ ap (λ (b : Message). inside.given.given ++ kept c.kind_of-kind.result b ∷ [])
    (c.body.ensures.same ∙ c.in_ok-made.ensures.body)
    ∙ ap (λ (k : Kind). inside.given.given ++ kept k body ∷ []) c.kind_of-kind.ensures in
    let same : s ≡ old = ap under c.print.ensures ∙ ap (λ (h : SessionHeld). h.session) c.self.view_is in
    let report = c.report.ensures ∙ c.in_ok-made.ensures.report
    ∙ ap (λ (m : ℕ). frame_fields stamp_text s.gate s.client (fresh (next_out s) c.kind_of-kind.result body m))
    c.move_to.ensures
    ∙ ap (λ (k : Kind). frame_fields stamp_text s.gate s.client (fresh (next_out s) k body now)) c.kind_of-kind.ensures
    ∙ ap (λ (o : State). frame_fields stamp_text o.gate o.client (fresh (next_out o) kind body now)) same in
    issued s old c.args.at kind body c.in_ok-frame.frame now c.phase_issued-self-inside.result c.keep.new.self.given
    same
    c.max-now.ensures
    c.phase_issued-self-inside.ensures
    keeps
    (c.in_ok-frame.ensures old.gate old.client (fresh (next_out old) kind body now) report)
