use Rattle.std.proofs.Common.{sym, ◌∙◌}
use Rattle.gate_events.specs.Seen.{batch_seen}
use Rattle.journal_pages.specs.Seen.{record_seen}
use Rattle.journal_records.specs.journal_days.Left.{records_left}
use Rattle.gate_journal.proofs.Turning.{batches-first, events-first}
use Rattle.gate_journal.proofs.turns.Turns.split_first.Goals as goal

pub returns-in-Some-2 : goal.returns-in-Some-2
returns-in-Some-2 c = (
  sym c.loop-record.invariant.events ∙ events-first (records_left c.loop-record.ahead) (records_left c.in-Some.behind)
      (records_left c.in_ok-batch.records) (record_seen c.in-Some.record) c.in_ok-event.field-0 c.in-Some-2.event
      c.in-Some.ensures c.in_ok-event.ensures c.in-Some-2.is c.in_ok-batch.ensures.behind,
  sym c.loop-record.invariant.batches ∙ batches-first (records_left c.loop-record.ahead) (records_left c.in-Some.behind)
      (records_left c.in_ok-batch.records) (record_seen c.in-Some.record) c.in_ok-event.field-0 c.in-Some-2.event
      (batch_seen c.in_ok-batch.batch) c.in-Some.ensures c.in_ok-event.ensures c.in-Some-2.is
      c.in_ok-batch.ensures.batch c.in_ok-batch.ensures.behind,
)
