use Rattle.std.proofs.Common.{List, length, sym, ap, ◌∙◌, arith}
use Rattle.journal_pages.specs.Record.{Record}
use Rattle.journal_pages.specs.Seen.{record_seen}
use Rattle.journal_days.specs.Left.{records_left}
use Rattle.journal_records.specs.Reading.{BatchSaid, batch_said, parts_said}
use Rattle.journal_records.specs.PartsSeen.{parts_seen}
use Rattle.journal_records.proofs.Parting.{no-part-behind, no-part-said, part-behind, part-said}
use Rattle.journal_records.proofs.reading.batch_of.Goals as goal

pub loop-record-preserved : goal.loop-record-preserved
loop-record-preserved c =
    let ahead : List Record = records_left c.loop-record.ahead in
    let r : Record = record_seen c.in-Some.record in
    let behind : List Record = records_left c.in-Some.behind in
    let said : BatchSaid = parts_seen c.loop-record.parts in
    record {
      said = ap (λ (s : BatchSaid). parts_said s behind) c.in_ok-add.ensures
          ∙ sym (part-said said ahead r behind c.in-Some.ensures.0 c.in-Some.ensures.1) ∙ c.loop-record.invariant.said;
      behind = sym (part-behind ahead r behind c.in-Some.ensures.0 c.in-Some.ensures.1)
          ∙ c.loop-record.invariant.behind;
    }

pub loop-record-smaller : goal.loop-record-smaller
loop-record-smaller c = let longer = ap length c.in-Some.ensures.1 in omega (arith, longer)

pub returns-clause-batch : goal.returns-clause-batch
returns-clause-batch c =
    let ahead : List Record = records_left c.loop-record.ahead in
    let said : BatchSaid = parts_seen c.loop-record.parts in
    c.into_batch.ensures ∙ ap batch_said (sym (no-part-said said ahead c.in_default.ensures)
    ∙ c.loop-record.invariant.said)

pub returns-clause-behind : goal.returns-clause-behind
returns-clause-behind c =
    let ahead : List Record = records_left c.loop-record.ahead in
    sym (no-part-behind ahead c.in_default.ensures) ∙ c.loop-record.invariant.behind
