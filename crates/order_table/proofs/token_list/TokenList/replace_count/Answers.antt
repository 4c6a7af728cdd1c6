use Rattle.std.proofs.Common.{decimal, ap, ◌∙◌, arith}
use Rattle.std.specs.List.{count_by}
use Rattle.order_machine.specs.Table.{GivenToken, is_replacement_of}
use Rattle.undo_index.specs.Undoing.{Undoable}
use Rattle.order_table.proofs.token_list.TokenList.replace_count.Goals as goal

pub returns : goal.returns
returns c =
    c.of.ensures ∙ c.self.invariant.1 c.args.order_id (omega (arith, c.ranges.order_id.fits))
    ∙ ap (λ (u : Undoable GivenToken). count_by (is_replacement_of (decimal c.args.order_id)) u.now) c.self.view_is
