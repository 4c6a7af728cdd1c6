use Rattle.std.proofs.Common.{◌∙◌, sym, ap}
use Rattle.std.specs.Prelude.{filter}
use Rattle.outstanding.specs.Marks.{is_held, is_unanswered}
use Rattle.outstanding.proofs.Marks.{held-settled_one, held-unanswered, unanswered-settled_one, unanswered-twice}
use Rattle.outstanding.proofs.places.Places.settle.Goals as goal

pub returns-then-is_sparse-clause-unanswered : goal.returns-then-is_sparse-clause-unanswered
returns-then-is_sparse-clause-unanswered c =
    ap (filter is_unanswered) c.compact.ensures ∙ unanswered-twice c.settle_marked.new.self.items
    ∙ ap (filter is_unanswered) c.settle_marked.ensures ∙ unanswered-settled_one c.args.self.now.items

pub returns-then-is_sparse-clause-held : goal.returns-then-is_sparse-clause-held
returns-then-is_sparse-clause-held c =
    ap (filter is_held) c.compact.ensures ∙ held-unanswered c.settle_marked.new.self.items
    ∙ sym (ap (filter is_unanswered) c.compact.ensures ∙ unanswered-twice c.settle_marked.new.self.items)

pub returns-else-is_sparse-clause-unanswered : goal.returns-else-is_sparse-clause-unanswered
returns-else-is_sparse-clause-unanswered c =
    ap (filter is_unanswered) c.settle_marked.ensures ∙ unanswered-settled_one c.args.self.now.items

pub returns-else-is_sparse-clause-held : goal.returns-else-is_sparse-clause-held
returns-else-is_sparse-clause-held c =
    ap (filter is_held) c.settle_marked.ensures ∙ held-settled_one c.args.self.now.items
    ∙ sym (ap (filter is_unanswered) c.settle_marked.ensures)
