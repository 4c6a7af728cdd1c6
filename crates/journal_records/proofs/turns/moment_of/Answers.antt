use Rattle.std.proofs.Common.{ap}
use Rattle.journal_pages.specs.Record.{Record}
use Rattle.journal_records.proofs.turns.moment_of.Goals as goal

pub returns : goal.returns
returns c = ap (λ (r : Record). r.at) c.event_head-head.ensures
