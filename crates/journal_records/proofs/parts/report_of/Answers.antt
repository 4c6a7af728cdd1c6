use Rattle.std.proofs.Common.{◌≡◌, List, ℕ, ◌++◌, length, Option, ap, subst, ◌∙◌, arith}
use Rattle.std.specs.Option.{IfSome}
use Rattle.journal_pages.specs.fix_fields.Field.{Message, fields_text}
use Rattle.journal_pages.specs.fix_fields.Printed.{fields_in}
use Rattle.journal_pages.specs.Seen.{record_seen}
use Rattle.journal_records.specs.Events.{payload_fields}
use Rattle.journal_records.proofs.Parting.{IsReport, prints, report-of, same-fields, same-size}
use Rattle.journal_records.proofs.parts.report_of.Goals as goal

pub append_text-requires : goal.append_text-requires
append_text-requires c = prints c.args.record.now.payload.now
    (report-of (record_seen c.args.record.now) c.args.record.now.sound c.requires).fields

pub unwrap-requires : goal.unwrap-requires
unwrap-requires c =
    let payload : List ℕ = c.args.record.now.payload.now in
    let is : IsReport payload = report-of (record_seen c.args.record.now) c.args.record.now.sound c.requires in
    let printed : c.append_text.new.self ≡ payload_fields payload = c.in_ok-append_text.ensures.ok
    ∙ ap (λ (m : Message). m ++ fields_in payload) c.in_ok-printed.ensures ∙ same-fields payload in
    let size = ap (λ (m : Message). length (fields_text m)) printed ∙ same-size payload is.fields in
    c.of-made.ensures.in_limit.1 (omega (arith, size, is.few))

pub returns : goal.returns
returns c =
    let payload : List ℕ = c.args.record.now.payload.now in
    let printed : c.append_text.new.self ≡ payload_fields payload = c.in_ok-append_text.ensures.ok
    ∙ ap (λ (m : Message). m ++ fields_in payload) c.in_ok-printed.ensures ∙ same-fields payload in
    let made : c.unwrap.result ≡ c.append_text.new.self =
    subst (λ (o : Option Message). IfSome o (λ report. report ≡ c.append_text.new.self)) c.unwrap.ensures
    c.of-made.ensures.value in
    made ∙ printed
