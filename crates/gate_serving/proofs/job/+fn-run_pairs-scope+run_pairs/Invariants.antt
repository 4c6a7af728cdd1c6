use Rattle.std.specs.Prelude.{length, ◌+◌, ◌*◌}
use Rattle.gate_serving.proofs.job.+fn-run_pairs-scope+run_pairs.Given as goal

-- one pair fewer
abbrev pub decreases-scope : goal.decreases-scope
decreases-scope g l = 2 * length l.pairs.items + 1

abbrev pub decreases-run_pairs : goal.decreases-run_pairs
decreases-run_pairs g l = 2 * length l.pairs.items
