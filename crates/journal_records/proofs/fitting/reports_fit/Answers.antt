use Rattle.journal_records.specs.Whole.{IsShortReport}
use Rattle.journal_records.proofs.Fits.{each-all, each-more}
use Rattle.journal_records.proofs.fitting.reports_fit.Goals as goal

pub loop-report-preserved : goal.loop-report-preserved
loop-report-preserved c =
    each-more IsShortReport c.args.reports.now c.loop-report.report-index c.report-item.result c.loop-report-test.true
    c.report-item.is c.loop-report.invariant c.report_fits.ensures

pub returns : goal.returns
returns c = each-all IsShortReport c.args.reports.now c.loop-report.report-index c.loop-report-test.false
    c.loop-report.invariant
