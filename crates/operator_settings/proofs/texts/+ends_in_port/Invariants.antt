use Rattle.std.proofs.Common.{length}
use Rattle.operator_settings.proofs.texts.+ends_in_port.Given as goal

abbrev pub decreases-ends_in_port : goal.decreases-ends_in_port
decreases-ends_in_port l = length l.text.now
