use Rattle.std.proofs.Common.{◌≡◌, length}
use Rattle.ouch_codec.specs.Parts.{unpadded}
use Rattle.market_messages.proofs.terms.trimmed.Given as goal

abbrev pub invariant-loop-front : goal.invariant-loop-front
invariant-loop-front l = unpadded l.front ≡ unpadded l.text

abbrev pub decreases-loop-front : goal.decreases-loop-front
decreases-loop-front l = length l.front
