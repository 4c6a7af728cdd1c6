use Rattle.std.proofs.Common.{decimal, sym, ap, ◌∙◌}
use Rattle.std.specs.List.{count_by}
use Rattle.order_machine.specs.Table.{is_replacement_of}
use Rattle.order_table.specs.Held.{Held}
use Rattle.order_table.proofs.Newest.{count-reverse}
use Rattle.order_table.proofs.table.Table.replace_count.Goals as goal

pub returns : goal.returns
returns g c =
    c.replace_count.ensures
    ∙ sym (count-reverse (is_replacement_of (decimal c.args.order_id)) c.self.inside.tokens.now)
    ∙ ap (λ (h : Held). count_by (is_replacement_of (decimal c.args.order_id)) h.tokens) c.self.view_is
