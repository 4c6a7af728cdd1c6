use Rattle.std.proofs.Common.{length}
use Rattle.day_export.proofs.writing.+push_columns_of.Given as goal

abbrev pub decreases-push_columns_of : goal.decreases-push_columns_of
decreases-push_columns_of l = length l.names.now
