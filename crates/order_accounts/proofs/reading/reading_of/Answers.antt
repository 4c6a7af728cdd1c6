use Rattle.std.proofs.Common.{◌≡◌, sym, ap, subst, arith}
use Rattle.std.specs.Prelude.{Err}
use Rattle.std.proofs.lemmas.Result.{err_from_is_err_and}
use Rattle.order_accounts.specs.declared.reading_fault.ReadingFault.TheVariants.{TooLarge}
use Rattle.order_accounts.specs.Held.{IsHeld}
use Rattle.order_law.specs.Reading.{Reading, with_report}
use Rattle.order_accounts.proofs.Held.{held_after}
use Rattle.order_accounts.proofs.reading.reading_of.Goals as goal

pub returns-in_err-hear-clause-large : goal.returns-in_err-hear-clause-large
returns-in_err-hear-clause-large c = λ large stays.
    let report = c.report-item.result in
    let held = held_after c.args.order.now c.args.reports.now c.loop-report.report-index report
    (omega arith) c.report-item.is (sym c.if-is_report_on.ensures) stays in
    let is_err = err_from_is_err_and c.from_residual.result c.from_residual.ensures.1 in
    let same : c.in_err-hear.field-0.0 ≡ TooLarge = cc (is_err.1, is_err.2, large) in
    c.in_err-hear.ensures.large (ap Err same)
    (subst (λ (x : Reading). IsHeld (with_report x report)) (sym c.loop-report.invariant.reading) held)
