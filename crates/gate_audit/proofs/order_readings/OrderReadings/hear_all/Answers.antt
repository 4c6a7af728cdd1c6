use Rattle.std.proofs.Common.{rules, ◌++◌, ◌∷◌, List, map, reverse, subst, sym, take}
use Rattle.std.specs.Prelude.{IsErrOf, Err}
use Rattle.order_accounts.specs.declared.reading_fault.ReadingFault.{ReadingFault}
use Rattle.order_accounts.specs.declared.reading_fault.ReadingFault.TheVariants.{TooLarge}
use Rattle.gate_law.specs.fix_fields.Field.{Message}
use Rattle.gate_audit.specs.Pairs.{SaidToClient, said_to}
use Rattle.gate_audit.specs.Passes.{StayRead}
use Rattle.gate_audit.proofs.Counting.{up-to-one}
use Rattle.gate_audit.proofs.Rereading.{read-behind}
use Rattle.gate_audit.proofs.order_readings.OrderReadings.hear_all.Goals as goal

pub returns-in_err-hear-clause-large : goal.returns-in_err-hear-clause-large
returns-in_err-hear-clause-large c os all are err held =
    let before : List SaidToClient = reverse (map (said_to c.args.client)
    (take c.loop-report.report-index c.args.reports.now)) ++ all in
    let own_error : IsErrOf {T = Unit {0}} {E = ReadingFault} (Err c.in_err-hear.field-0.0) TooLarge =
    search (rules, c.from_residual-in_err-hear.ensures, err) in
    c.in_err-hear.ensures.large os before (c.loop-report.invariant os all are) own_error
    (subst (λ (m : Message). StayRead (said_to c.args.client m ∷ before) os) (sym c.in_ok-fields.ensures.fields)
    (up-to-one (λ (told : List SaidToClient). StayRead told os) (read-behind os) c.args.client c.args.reports.now
    c.loop-report.report-index c.report-item.result all c.loop-report-test.true c.report-item.is held))
