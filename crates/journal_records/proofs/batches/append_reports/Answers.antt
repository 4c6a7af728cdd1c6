use Rattle.std.proofs.Common.{◌≡◌, List, ℕ, ◌∷◌, [], take, ap, ◌∙◌, sym, subst}
use Rattle.std.specs.Prelude.{map}
use Rattle.journal_pages.specs.declared.head.RecordHead.{RecordHead}
use Rattle.journal_pages.specs.declared.kind.RecordKind.TheVariants as kinds
use Rattle.journal_pages.specs.Record.{Record}
use Rattle.journal_pages.specs.Seen.{record_of}
use Rattle.journal_days.specs.Cut.{with_records}
use Rattle.journal_records.specs.Events.{record_with}
use Rattle.journal_records.specs.Parts.{report_record}
use Rattle.journal_records.proofs.More.{more-by, one-more}
use Rattle.journal_records.proofs.Behind.{writable-at}
use Rattle.journal_pages.specs.Ordered.{IsWritable}
use Rattle.journal_records.proofs.batches.append_reports.Goals as goal

pub loop-report-preserved : goal.loop-report-preserved
loop-report-preserved c =
    let is : record_of c.head.result c.text.result.now ≡ report_record c.args.at c.args.client c.report-item.result =
    ap (λ (h : RecordHead). record_of h c.text.result.now) c.head.ensures
    ∙ ap (λ (p : List ℕ). record_with kinds.Report c.args.client 0 c.args.at p) c.text.ensures.text in
    one-more (report_record c.args.at c.args.client) c.args.out.now c.loop-report.out c.append_record.new.out
    c.args.reports.now c.loop-report.report-index c.report-item.result
    c.loop-report-test.true c.report-item.is c.loop-report.invariant
    (c.in_ok-append_record.ensures.ok ∙ ap (λ (r : Record). with_records c.loop-report.out (r ∷ [])) is)

pub returns-in_err-append_record-clause-kept : goal.returns-in_err-append_record-clause-kept
returns-in_err-append_record-clause-kept c =
    more-by c.args.out.now c.append_record.new.out
    (map (report_record c.args.at c.args.client) (take c.loop-report.report-index c.args.reports.now))
    (c.in_err-append_record.ensures.err ∙ c.loop-report.invariant)

pub returns-clause-kept : goal.returns-clause-kept
returns-clause-kept c =
    more-by c.args.out.now c.loop-report.out (map (report_record c.args.at c.args.client)
    (take c.loop-report.report-index c.args.reports.now)) c.loop-report.invariant

pub append_record-requires-clause-writable : goal.append_record-requires-clause-writable
append_record-requires-clause-writable c =
    let is : record_of c.head.result c.text.result.now ≡ report_record c.args.at c.args.client c.report-item.result =
    ap (λ (h : RecordHead). record_of h c.text.result.now) c.head.ensures
    ∙ ap (λ (p : List ℕ). record_with kinds.Report c.args.client 0 c.args.at p) c.text.ensures.text in
    subst (λ (r : Record). IsWritable r) (sym is)
    (writable-at (report_record c.args.at c.args.client) c.args.reports.now c.loop-report.report-index
    c.report-item.result c.loop-report-test.true c.report-item.is c.requires)
