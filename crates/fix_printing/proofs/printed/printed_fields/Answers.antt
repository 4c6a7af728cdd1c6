use Rattle.std.proofs.Common.{sym}
use Rattle.fix_fields.proofs.Printing.{printed-is}
use Rattle.fix_printing.proofs.printed.printed_fields.Goals as goal

pub returns-clause-prints : goal.returns-clause-prints
returns-clause-prints c = (printed-is c.text.result.now c.args.fields.now c.text.ensures.fields
    (sym c.text.ensures.text)).prints

pub returns-clause-same : goal.returns-clause-same
returns-clause-same c = (printed-is c.text.result.now c.args.fields.now c.text.ensures.fields
    (sym c.text.ensures.text)).same
