use Rattle.world_law.proofs.Totals.{stays-within}
use Rattle.world_law.proofs.laws.books_stay_within_what_was_accepted.Goals as goal

pub returns : goal.returns
returns c = stays-within
