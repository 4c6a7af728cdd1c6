use Rattle.std.proofs.Common.{sym, subst}
use Rattle.order_law.specs.wire_law.Printable.{ArePrintable}
use Rattle.to_market.proofs.Sending.{replace-said}
use Rattle.to_market.proofs.replaces.replaces_of.Goals as goal

pub returns-clause-says : goal.returns-clause-says
returns-clause-says c = λ m standing order_of asks finds.
    let o = c.args.order.now in
    replace-said o c.next_token.result.now c.args.ask.now.token m standing order_of c.say_replace-message.result
    c.in_ok-vec.field-0.items
    c.next_token.ensures c.in_ok-vec.ensures.items finds
    (c.say_replace-message.ensures.says m asks o.new.order standing order_of)

pub say_replace-message-requires : goal.say_replace-message-requires
say_replace-message-requires c = subst ArePrintable (sym c.next_token.ensures) c.requires
