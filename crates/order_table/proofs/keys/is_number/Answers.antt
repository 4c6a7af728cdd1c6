use Rattle.std.proofs.Common.{decimal, ap, ◌∙◌, arith}
use Rattle.order_machine.specs.Table as table
use Rattle.order_table.proofs.Newest.{number-test}
use Rattle.order_table.proofs.keys.is_number.Goals as goal

pub returns : goal.returns
returns c = number-test c.order.inside.order_id c.args.order_id (omega arith) (omega arith)
    ∙ ap (table.has_number (decimal c.args.order_id)) c.order.view_is
