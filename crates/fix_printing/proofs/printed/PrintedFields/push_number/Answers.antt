use Rattle.std.proofs.Common.{◌++◌, ◌∷◌, [], List, length, take, drop, decimal, ap, ◌∙◌, arith}
use Rattle.fix_fields.specs.Field.{Field}
use Rattle.fix_fields.specs.Printed.{fields_in}
use Rattle.fix_printing.proofs.Placing.{Holds, field-behind}
use Rattle.fix_fields.proofs.Decimals.{inside-decimal}
use Rattle.fix_printing.proofs.printed.PrintedFields.push_number.Goals as goal

is_written : (c : goal.After-self-2-1) → Holds
    (take c.reserve.new.text.len (c.put_number-self-inside.new.text
    ++ drop (length c.put_number-self-inside.new.text) c.reserve.new.text.items)) c.put_number-self-inside.result
    (fields_in (take c.self.inside.size c.self.inside.text.items)
    ++ record { tag = c.args.tag; value = decimal c.args.number } ∷ [])
is_written c =
    field-behind c.self.inside.text.items c.reserve.new.text.items c.as_mut_slice.result.now
    c.put_number-self-inside.new.text (decimal c.args.number) c.self.inside.size c.put_number-self-inside.result
    c.reserve.new.text.len c.args.tag c.self.invariant.1 c.reserve.ensures.kept c.as_mut_slice.ensures.value
    c.reserve.new.text.ok.0 c.put_number-self-inside.ensures.length c.put_number-self-inside.ensures.within
    c.put_number-self-inside.ensures.written c.requires.tag.0 c.requires.tag.1
    (inside-decimal c.args.number (omega arith))

pub invariant_of-self-2 : goal.invariant_of-self-2
invariant_of-self-2 c = ((is_written c).fits, (is_written c).prints)

pub returns-clause-ok : goal.returns-clause-ok
returns-clause-ok c = (is_written c).same
    ∙ ap (λ (fs : List Field). fs ++ record { tag = c.args.tag; value = decimal c.args.number } ∷ []) c.self.view_is
