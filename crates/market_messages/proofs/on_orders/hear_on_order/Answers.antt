use Rattle.std.proofs.Common.{sym, subst}
use Rattle.std.specs.Prelude.{IfOk}
use Rattle.ouch_codec.specs.declared.outbound.Outbound.{Outbound}
use Rattle.ouch_codec.specs.declared.outbound.Outbound.TheVariants as market
use Rattle.market_messages.specs.Rows.{IsJudgedOf}
use Rattle.market_messages.proofs.on_orders.hear_on_order.Goals as goal

pub returns-in-Accepted : goal.returns-in-Accepted
returns-in-Accepted c =
    subst (λ (m : Outbound). IfOk c.answer_of.result (IsJudgedOf c.args.issued m c.args.order.now))
    (sym c.in-Accepted.is)
    (c.answer_of.ensures c.args.issued (market.Accepted c.in-Accepted.said) c.on_accepted.ensures)

pub returns-in-Replaced : goal.returns-in-Replaced
returns-in-Replaced c =
    subst (λ (m : Outbound). IfOk c.answer_of-in-Replaced.result (IsJudgedOf c.args.issued m c.args.order.now))
    (sym c.in-Replaced.is)
    (c.answer_of-in-Replaced.ensures c.args.issued (market.Replaced c.in-Replaced.said) c.on_replaced.ensures)

pub returns-in-Canceled : goal.returns-in-Canceled
returns-in-Canceled c =
    subst (λ (m : Outbound). IfOk c.answer_of-in-Canceled.result (IsJudgedOf c.args.issued m c.args.order.now))
    (sym c.in-Canceled.is)
    (c.answer_of-in-Canceled.ensures c.args.issued (market.Canceled c.in-Canceled.said) c.on_canceled.ensures)

pub returns-in-Executed : goal.returns-in-Executed
returns-in-Executed c =
    subst (λ (m : Outbound). IfOk c.answer_of-in-Executed.result (IsJudgedOf c.args.issued m c.args.order.now))
    (sym c.in-Executed.is)
    (c.answer_of-in-Executed.ensures c.args.issued (market.Executed c.in-Executed.said) c.on_executed.ensures)

pub returns-in-Broken : goal.returns-in-Broken
returns-in-Broken c =
    subst (λ (m : Outbound). IfOk c.answer_of-in-Broken.result (IsJudgedOf c.args.issued m c.args.order.now))
    (sym c.in-Broken.is)
    (c.answer_of-in-Broken.ensures c.args.issued (market.Broken c.in-Broken.said) c.on_broken.ensures)

pub returns-in-Rejected : goal.returns-in-Rejected
returns-in-Rejected c =
    subst (λ (m : Outbound). IfOk c.answer_of-in-Rejected.result (IsJudgedOf c.args.issued m c.args.order.now))
    (sym c.in-Rejected.is)
    (c.answer_of-in-Rejected.ensures c.args.issued (market.Rejected c.in-Rejected.said) c.on_rejected.ensures)

pub returns-in-CancelReject : goal.returns-in-CancelReject
returns-in-CancelReject c =
    subst (λ (m : Outbound). IfOk c.answer_of-in-CancelReject.result (IsJudgedOf c.args.issued m c.args.order.now))
    (sym c.in-CancelReject.is)
    (c.answer_of-in-CancelReject.ensures c.args.issued (market.CancelReject c.in-CancelReject.said)
    (c.on_cancel_reject.ensures c.args.issued))
