use Rattle.std.proofs.Common.{arith}
use Rattle.journal_pages.specs.Seen.{record_seen}
use Rattle.journal_pages.proofs.Spelled.{AreBytes, front-spelled}
use Rattle.journal_pages.proofs.reading.front.Goals as goal

pub returns-clause-spelled : goal.returns-clause-spelled
returns-clause-spelled c =
    let below : AreBytes c.args.bytes.now = λ i. omega (arith, c.type_inv.bytes i) in
    front-spelled c.args.bytes.now (record_seen c.in_ok-record.record) below c.in_ok-record.ensures.front
