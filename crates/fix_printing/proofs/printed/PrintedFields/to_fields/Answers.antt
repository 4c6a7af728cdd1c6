use Rattle.std.proofs.Common.{◌∙◌, sym, ap}
use Rattle.std.specs.Prelude.{unwrap_or, [], Option}
use Rattle.fix_fields.specs.Field.{Message}
use Rattle.fix_fields.specs.Printed.{prints_fields, fields_in}
use Rattle.fix_printing.proofs.printed.PrintedFields.to_fields.Goals as goal

pub known-requires : goal.known-requires
unfolding prints_fields
known-requires c = c.text.ensures.prints

pub returns : goal.returns
unfolding fields_in
returns c = c.in_ok-fields.ensures ∙ ap (λ (o : Option Message). unwrap_or o []) (sym c.known.ensures)
    ∙ c.text.ensures.same
