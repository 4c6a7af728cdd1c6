use Rattle.std.proofs.Common.{ap, ◌∙◌, sym, subst, arith}
use Rattle.session_law.specs.Session.{Given, Answer, answered}
use Rattle.session_law.specs.Runs.{at_moment, heard}
use Rattle.session_law.specs.Table.{message_number}
use Rattle.session_reading.specs.Judged.{row_answer}
use Rattle.session_law.proofs.Bounds.{logged-on-little}
use Rattle.fix_session.specs.Meets.{Meets}
use Rattle.fix_session.proofs.Deliveries.{delivery-answer, delivery-little}
use Rattle.fix_session.proofs.session.Session.on_next.Goals as goal

pub deliver-requires : goal.deliver-requires
deliver-requires c =
    record {
      expected = delivery-little c.args.self.now.session c.args.at c.args.m.now c.judge-row.result
          (sym c.is_delivery.ensures ∙ c.if-is_delivery.true) c.judge-row.ensures.answer c.requires.expected;
    }

pub returns-then-is_delivery-clause-meets : goal.returns-then-is_delivery-clause-meets
returns-then-is_delivery-clause-meets c =
    let s = c.args.self.now.session in
    subst (λ (a : Answer). Meets s (answered (heard (at_moment c.args.at s)) a) c.deliver.result
    c.deliver.new.self.session)
    (sym (delivery-answer s c.args.m.now c.judge-row.result
    (sym c.is_delivery.ensures ∙ c.if-is_delivery.true) c.judge-row.ensures.answer))
    (c.deliver.ensures.meets c.args.m.now)

pub take-requires : goal.take-requires
take-requires c =
    let s = c.args.self.now.session in
    let m = c.args.m.now in
    let begun = heard (at_moment c.args.at s) in
    let row = row_answer s m (message_number m) s.expected c.judge-row.result in
    let little = (logged-on-little s c.args.at m).expected in
    let same = ap (λ (g : Given). g.state.expected) c.in_ok-answer.ensures
    ∙ ap (λ (g : Given). (answered g.state row).state.expected) c.heard_at-draft.ensures.made
    ∙ ap (λ (a : Answer). (answered begun a).state.expected) (sym c.judge-row.ensures.answer) in
    let low = c.requires.expected in
    record { expected = rw same (omega arith) }
