use Rattle.std.proofs.Common.{refl}
use Rattle.outstanding.specs.Chaining.{bucket}
use Rattle.outstanding.proofs.chains.bucket_of.Goals as goal

pub returns-clause-bucket : goal.returns-clause-bucket
unfolding bucket
returns-clause-bucket c = refl
