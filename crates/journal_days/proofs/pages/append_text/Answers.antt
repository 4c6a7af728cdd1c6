use Rattle.journal_days.specs.Cut.{record_text}
use Rattle.journal_days.proofs.pages.append_text.Goals as goal

pub returns-clause-ok : goal.returns-clause-ok
unfolding record_text
returns-clause-ok c = c.append.ensures.ok
