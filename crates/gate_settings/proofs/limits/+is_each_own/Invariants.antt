use Rattle.std.proofs.Common.{length}
use Rattle.gate_settings.proofs.limits.+is_each_own.Given as goal

abbrev pub decreases-is_each_own : goal.decreases-is_each_own
decreases-is_each_own l = length l.clients.now
