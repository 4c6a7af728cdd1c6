use Rattle.std.proofs.Common.{List, sym, ap, ◌∙◌, ◌%◌, take, arith}
use Rattle.fix_fields.specs.Field.{Field}
use Rattle.fix_fields.specs.Fault.{stood_before}
use Rattle.fix_fields.proofs.Faults.{new_behind}
use Rattle.fix_fields.proofs.fields.Fields.is_new_behind.Goals as goal

pub returns : goal.returns
returns c = λ yes.
    let skip = c.self.invariant.1 (c.args.tag % 64) (omega arith) in
    ap (λ (fields : List Field). stood_before c.args.tag (take c.args.count fields)) (sym c.self.view_is)
    ∙ new_behind c.self.inside.text.items c.args.tag c.args.count _ c.self.inside.spans.items skip.elsewhere
    (c.is_new_behind.ensures yes)
