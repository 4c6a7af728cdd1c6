use Rattle.std.specs.Prelude.{map}
use Rattle.gate_events.specs.Seen.{batch_seen}
use Rattle.journal_pages.specs.Seen.{record_seen}
use Rattle.journal_days.specs.Left.{records_left}
use Rattle.journal_records.specs.Days.{batches_in}
use Rattle.journal_records.proofs.Listing.{all-batches, batch-more, shorter}
use Rattle.journal_records.proofs.days.batches_of.Goals as goal

pub loop-record-preserved : goal.loop-record-preserved
loop-record-preserved c =
    batch-more (map batch_seen c.loop-record.batches.items) (map batch_seen c.push_batch.new.batches.items)
    (records_left c.loop-record.ahead) (records_left c.in-Some.behind) (record_seen c.in-Some.record)
    (batches_in (records_left c.args.records))
    c.in_ok-push_batch.ensures c.in-Some.ensures c.loop-record.invariant

pub loop-record-smaller : goal.loop-record-smaller
loop-record-smaller c = shorter (records_left c.loop-record.ahead) (records_left c.in-Some.behind)
    (record_seen c.in-Some.record) c.in-Some.ensures

pub returns : goal.returns
returns c = all-batches (map batch_seen c.loop-record.batches.items) (records_left c.loop-record.ahead)
    (batches_in (records_left c.args.records)) c.in_default.ensures c.loop-record.invariant
