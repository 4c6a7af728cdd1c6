use Rattle.std.proofs.Common.{◌+◌, ◌++◌, List, length, take, drop, ap, ◌∙◌, arith}
use Rattle.fix_fields.specs.Field.{Field}
use Rattle.fix_fields.specs.Printed.{fields_in}
use Rattle.fix_printing.proofs.Placing.{Holds, text-behind}
use Rattle.fix_printing.proofs.printed.PrintedFields.append_text.Goals as goal

is_written : (c : goal.After-self-2-1) → Holds
    (take c.reserve.new.text.len (c.put.new.text ++ drop (length c.put.new.text) c.reserve.new.text.items))
    (c.self.inside.size + length c.args.text.now)
    (fields_in (take c.self.inside.size c.self.inside.text.items) ++ fields_in c.args.text.now)
is_written c =
    text-behind c.self.inside.text.items c.reserve.new.text.items c.as_mut_slice.result.now c.put.new.text
    c.args.text.now c.self.inside.size c.reserve.new.text.len c.self.invariant.1 c.reserve.ensures.kept
    c.as_mut_slice.ensures.value c.reserve.new.text.ok.0 c.put.ensures.length
    (omega (arith, c.put.ensures.length, ap length c.as_mut_slice.ensures.value, c.in_ok-reserve.ensures.room))
    c.put.ensures.written c.requires

pub invariant_of-self-2 : goal.invariant_of-self-2
invariant_of-self-2 c = ((is_written c).fits, (is_written c).prints)

pub returns-clause-ok : goal.returns-clause-ok
returns-clause-ok c = (is_written c).same ∙ ap (λ (fs : List Field). fs ++ fields_in c.args.text.now) c.self.view_is
