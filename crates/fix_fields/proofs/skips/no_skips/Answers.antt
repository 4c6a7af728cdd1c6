use Rattle.std.proofs.lemmas.List.{get_or-replicate}
use Rattle.fix_fields.proofs.Skipping.{nothing}
use Rattle.fix_fields.proofs.skips.no_skips.Goals as goal

pub returns : goal.returns
returns c = λ spans remainder small. nothing spans remainder _ (get_or-replicate 64 remainder 0 0 small)
