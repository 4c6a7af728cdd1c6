use Rattle.std.proofs.Common.{ℕ, sym, ap, ◌∙◌, arith}
use Rattle.std.specs.Prelude.{nat_eq}
use Rattle.std.specs.Str.Parse.{digits_value}
use Rattle.order_machine.proofs.Texts.{number-decimal}
use Rattle.order_machine.specs.OrderRecord.{OrderRecord}
use Rattle.order_table.proofs.keys.is_key_of_number.Goals as goal

pub returns : goal.returns
returns c =
    ap (λ (n : ℕ). nat_eq c.args.key.now.number n)
    (sym (number-decimal c.order.inside.order_id (omega arith))
    ∙ ap (λ (o : OrderRecord). digits_value 10 o.new.order) c.order.view_is)
