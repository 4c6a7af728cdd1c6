use Rattle.std.proofs.Common.{ap, refl}
use Rattle.wire_streams.specs.Buffer.{Buffer}
use Rattle.fix_framing.specs.Stream.{Rest}
use Rattle.fix_framing.proofs.Passing.{nothing_passed}
use Rattle.fix_framing.proofs.framer.Framer.new.Goals as goal

pub returns-clause-passed : goal.returns-clause-passed
returns-clause-passed c = nothing_passed _ (ap (λ (b : Buffer). Rest b.kept.held) c.new.ensures) refl
