use Rattle.std.proofs.Common.{rules, ◌++◌, ◌∷◌, List, map, reverse, subst, sym, take}
use Rattle.std.specs.Prelude.{IsErrOf, Err}
use Rattle.order_accounts.specs.declared.reading_fault.ReadingFault.{ReadingFault}
use Rattle.order_accounts.specs.declared.reading_fault.ReadingFault.TheVariants.{TooLarge}
use Rattle.gate_law.specs.fix_fields.Field.{Message}
use Rattle.gate_audit.specs.Pairs.{HasTokenNumbers, SaidToClient, said_to}
use Rattle.gate_audit.proofs.Counting.{has-next}
use Rattle.gate_audit.proofs.told.hear_all.Goals as goal

pub returns-in_err-hear-clause-large : goal.returns-in_err-hear-clause-large
returns-in_err-hear-clause-large c all of err has =
    let before : List SaidToClient = reverse (map (said_to c.args.client)
    (take c.loop-report.report-index c.args.reports.now)) ++ all in
    let own_error : IsErrOf {T = Unit {0}} {E = ReadingFault} (Err c.in_err-hear.field-0.0) TooLarge =
    search (rules, c.from_residual-in_err-hear.ensures, err) in
    c.in_err-hear.ensures.large before (c.loop-report.invariant.opened all of) own_error
    (subst (λ (m : Message). HasTokenNumbers (said_to c.args.client m ∷ before)) (sym c.in_ok-fields.ensures.fields)
    (has-next c.args.client c.args.reports.now c.loop-report.report-index c.report-item.result all
    c.loop-report-test.true c.report-item.is has))
