use Rattle.std.proofs.Common.{sym, ◌∙◌, arith, eq-eqb, ne_eqb}
use Rattle.std.specs.Prelude.{◌==◌}
use Rattle.order_law.specs.History.{answers}
use Rattle.outstanding.specs.Kept.{asked_by_fields}
use Rattle.outstanding.proofs.Holding.{answered-by_fields, is-answer, is-closing, is-other}
use Rattle.outstanding.proofs.marking.is_answered.Goals as goal

pub returns-then-answers : goal.returns-then-answers
returns-then-answers c =
    let a = c.args.asked.now in
    let on = eq-eqb a.port c.args.port c.if-asked-port.true in
    let own = eq-eqb a.order_id c.args.order_id c.if-asked-order_id.true in
    let answered = sym c.answers.ensures ∙ c.if-answers.true in
    c.if-answers.true
    ∙ sym (is-answer (a.port == c.args.port) (a.order_id == c.args.order_id)
    (answers c.args.heard.now c.args.next.now (asked_by_fields a.message)) c.args.is_closed on own answered)
    ∙ sym (answered-by_fields a c.args.port c.args.heard.now c.args.next.now c.args.order_id c.args.is_closed
    (omega arith) (omega arith))

pub returns-else-answers : goal.returns-else-answers
returns-else-answers c =
    let a = c.args.asked.now in
    let on = eq-eqb a.port c.args.port c.if-asked-port.true in
    let own = eq-eqb a.order_id c.args.order_id c.if-asked-order_id.true in
    let not_answered = sym c.answers.ensures ∙ c.if-answers.false in
    sym (is-closing (a.port == c.args.port) (a.order_id == c.args.order_id)
    (answers c.args.heard.now c.args.next.now (asked_by_fields a.message)) c.args.is_closed on own not_answered)
    ∙ sym (answered-by_fields a c.args.port c.args.heard.now c.args.next.now c.args.order_id c.args.is_closed
    (omega arith) (omega arith))

pub returns-else-asked-order_id : goal.returns-else-asked-order_id
returns-else-asked-order_id c =
    let a = c.args.asked.now in
    let on = eq-eqb a.port c.args.port c.if-asked-port.true in
    let other = ne_eqb a.order_id c.args.order_id c.if-asked-order_id.false in
    other
    ∙ sym (is-other (a.port == c.args.port) (a.order_id == c.args.order_id)
    (answers c.args.heard.now c.args.next.now (asked_by_fields a.message)) c.args.is_closed on other)
    ∙ sym (answered-by_fields a c.args.port c.args.heard.now c.args.next.now c.args.order_id c.args.is_closed
    (omega arith) (omega arith))
