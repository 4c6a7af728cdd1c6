use Rattle.std.proofs.Common.{rules}
use Rattle.market_messages.proofs.CancelRejectRow.{reject-now}
use Rattle.market_messages.proofs.cancel_reject.on_cancel_reject.Goals as goal

pub returns-then-not-may_reject_cancel : goal.returns-then-not-may_reject_cancel
returns-then-not-may_reject_cancel c = λ issued. (search rules)

pub returns : goal.returns
returns c = λ issued. record {
  lawful = (search rules);
  told = c.in_ok-tell_cancel_reject.ensures.told issued;
  now = reject-now c.args.message.now c.args.order.now issued;
  fits = tt;
}
