use Rattle.std.proofs.Common.{refl}
use Rattle.journal_pages.specs.Seen.{record_seen}
use Rattle.journal_days.specs.Left.{records_left}
use Rattle.journal_days.proofs.Sides.{one-more}
use Rattle.journal_days.proofs.comparing.difference_behind.Goals as goal

pub loop-first-preserved : goal.loop-first-preserved
loop-first-preserved c =
    one-more c.args.before c.loop-first.batches c.with_record-batches.result c.in-Some.first.kind (record_seen c.in-Some.first)
    (record_seen c.in-Some-split_first.second)
    (records_left c.args.records) (records_left c.args.others) (records_left c.loop-first.rest)
    (records_left c.loop-first.left) (records_left c.in-Some.behind) (records_left c.in-Some-split_first.further)
    c.loop-first.invariant c.in-Some.ensures c.in-Some-split_first.ensures
    (c.is_same_record.ensures.same c.if-not-is_same_record.false) refl c.with_record-batches.ensures
