use Rattle.std.proofs.Common.{List, ℕ, ap, ◌∙◌, sym, subst}
use Rattle.std.specs.Prelude.{map}
use Rattle.journal_pages.specs.fix_fields.Field.{Message}
use Rattle.gate_law.specs.Events.{Batch}
use Rattle.gate_events.specs.declared.batch.LinkOut.{LinkOut}
use Rattle.gate_events.specs.Seen.{batch_seen, link_out_seen}
use Rattle.journal_pages.specs.declared.kind.RecordKind.TheVariants as kinds
use Rattle.journal_days.specs.Cut.{with_records}
use Rattle.journal_records.specs.Parts.{client_records, out_record, report_record}
use Rattle.journal_records.proofs.More.{both-parts, more-both}
use Rattle.journal_records.proofs.Behind.{first-writable, later-writable}
use Rattle.journal_pages.specs.Ordered.{AreWritable}
use Rattle.journal_records.proofs.batches.append_client_part.Goals as goal

pub returns-in_err-append_outs-clause-kept : goal.returns-in_err-append_outs-clause-kept
returns-in_err-append_outs-clause-kept c =
    more-both c.args.out.now c.append_reports.new.out c.append_outs.new.out c.in_ok-append_reports.ensures.kept
    c.in_err-append_outs.ensures.kept

pub returns-clause-kept : goal.returns-clause-kept
returns-clause-kept c =
    more-both c.args.out.now c.append_reports.new.out c.append_outs.new.out c.in_ok-append_reports.ensures.kept
    c.in_ok-append_outs.ensures.kept

pub returns-clause-ok : goal.returns-clause-ok
returns-clause-ok c =
    let out : List (List ℕ) = c.args.out.now in
    let b : Batch = batch_seen c.args.batch.now in
    let n : ℕ = c.client_of-client.result in
    let at : ℕ = c.args.at in
    both-parts out c.append_reports.new.out c.append_outs.new.out
    (map (report_record at n) c.as_slice.result.now)
    (map (out_record kinds.ClientWrite kinds.ClientClose at n) (map link_out_seen c.as_slice-2.result.now))
    c.in_ok-append_reports.ensures.ok c.in_ok-append_outs.ensures.ok
    ∙ ap (λ (rs : List Message). with_records out (client_records at n rs (map link_out_seen c.as_slice-2.result.now)))
    c.as_slice.ensures.value
    ∙ ap (λ (os : List LinkOut). with_records out (client_records at n b.reports (map link_out_seen os)))
    c.as_slice-2.ensures.value
    ∙ ap (λ m. with_records out (client_records at m b.reports b.client_out)) c.client_of-client.ensures

pub append_reports-requires : goal.append_reports-requires
append_reports-requires c =
    let b : Batch = batch_seen c.args.batch.now in
    let n : ℕ = c.client_of-client.result in
    let at : ℕ = c.args.at in
    subst (λ (rs : List Message). AreWritable (map (report_record at n) rs)) (sym c.as_slice.ensures.value)
    (subst (λ m. AreWritable (map (report_record at m) b.reports)) (sym c.client_of-client.ensures)
    (first-writable _ _ c.requires))

pub append_outs-requires : goal.append_outs-requires
append_outs-requires c =
    let b : Batch = batch_seen c.args.batch.now in
    let n : ℕ = c.client_of-client.result in
    let at : ℕ = c.args.at in
    subst (λ (os : List LinkOut).
    AreWritable (map (out_record kinds.ClientWrite kinds.ClientClose at n) (map link_out_seen os)))
    (sym c.as_slice-2.ensures.value)
    (subst (λ m. AreWritable (map (out_record kinds.ClientWrite kinds.ClientClose at m) b.client_out))
    (sym c.client_of-client.ensures) (later-writable _ _ c.requires))
