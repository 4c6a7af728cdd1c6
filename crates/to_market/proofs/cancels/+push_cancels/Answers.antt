use Rattle.std.proofs.lemmas.Result.{IfOk-weaker}
use Rattle.tokens.proofs.Digits.{printable-token}
use Rattle.to_market.proofs.Sending.{cancels-pushed}
use Rattle.to_market.proofs.cancels.+push_cancels.Goals as goal

pub say_cancel-requires : goal.say_cancel-requires
say_cancel-requires t c = printable-token c.first-item.result.token c.first-item.result.token_number
    c.first-item.result.text_set

pub returns-clause-says : goal.returns-clause-says
returns-clause-says t c =
    IfOk-weaker c.push_cancels.result _ _
    (λ nothing says tokens say.
    cancels-pushed c.args.replaces.now c.first-item.result c.args.asks.now.items c.push.new.self.items
    c.push_cancels.new.asks.items _
    c.first-item.is c.in-len1-up.len_at_least c.in_ok-push.ensures.items
    (λ m kind order standing order_of leads. c.say_cancel.ensures.says m kind order standing order_of leads)
    says tokens say)
    c.push_cancels.ensures.says
