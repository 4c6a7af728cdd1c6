use Rattle.journal_pages.specs.Seen.{record_seen}
use Rattle.journal_days.specs.Left.{records_left}
use Rattle.journal_records.specs.Days.{events_in}
use Rattle.journal_records.proofs.Listing.{all-events, event-more, shorter}
use Rattle.journal_records.proofs.days.events_of.Goals as goal

pub loop-record-preserved : goal.loop-record-preserved
loop-record-preserved c =
    event-more c.loop-record.events.items c.push_event.new.events.items c.in_ok-event_of.field-0
    (records_left c.loop-record.ahead) (records_left c.in-Some.behind) (record_seen c.in-Some.record)
    (events_in (records_left c.args.records))
    c.in_ok-push_event.ensures c.in_ok-event_of.ensures c.in-Some.ensures c.loop-record.invariant

pub loop-record-smaller : goal.loop-record-smaller
loop-record-smaller c = shorter (records_left c.loop-record.ahead) (records_left c.in-Some.behind)
    (record_seen c.in-Some.record) c.in-Some.ensures

pub returns : goal.returns
returns c = all-events c.loop-record.events.items (records_left c.loop-record.ahead)
    (events_in (records_left c.args.records)) c.in_default.ensures c.loop-record.invariant
