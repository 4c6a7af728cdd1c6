use Rattle.journal_pages.specs.Seen.{record_seen}
use Rattle.journal_records.proofs.Rows.{packet-got, packet-of}
use Rattle.journal_records.proofs.reading.packet_of.Goals as goal

pub unwrap-requires : goal.unwrap-requires
unwrap-requires c = c.in_ok-read.ensures.spelled.1
    (packet-of (record_seen c.args.record.now) c.args.record.now.sound c.requires)

pub returns : goal.returns
returns c = packet-got c.in_ok-read.read c.unwrap.result c.args.record.now.payload.now c.unwrap.ensures
    c.in_ok-read.ensures.same
