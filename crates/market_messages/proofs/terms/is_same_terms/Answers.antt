use Rattle.std.proofs.Common.{rules, ◌≡◌, ◌∙◌, bytes_eq}
use Rattle.std.specs.Prelude.{◌==◌, ◌&&◌}
use Rattle.ouch_codec.specs.Parts.{unpadded}
use Rattle.order_machine.specs.fix_fields.Field.{character, text}
use Rattle.market_messages.specs.Sides.{fix_side}
use Rattle.market_messages.proofs.AcceptedRow.{same-sides}
use Rattle.market_messages.proofs.terms.is_same_terms.Goals as goal

pub returns-then-is_stock : goal.returns-then-is_stock
returns-then-is_stock c =
    let o = c.args.order.now in
    let is : c.is_same_side.result ≡ (bytes_eq (unpadded c.args.stock.now) (text 55 o.new.message)
    && (fix_side c.args.side == character 54 o.new.message)) = (search rules) in
    is ∙ same-sides c.args.stock.now c.args.side o

pub returns-else-is_stock : goal.returns-else-is_stock
returns-else-is_stock c =
    let o = c.args.order.now in
    let is : c.is_stock.result ≡ (bytes_eq (unpadded c.args.stock.now) (text 55 o.new.message)
    && (fix_side c.args.side == character 54 o.new.message)) = (search rules) in
    is ∙ same-sides c.args.stock.now c.args.side o
