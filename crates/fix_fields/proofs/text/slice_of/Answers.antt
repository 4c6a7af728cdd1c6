use Rattle.std.proofs.Common.{subst}
use Rattle.fix_fields.specs.declared.text.TextBytes.{TextBytes}
use Rattle.fix_fields.specs.Texts.{AreThere}
use Rattle.fix_fields.proofs.text.slice_of.Goals as goal

pub shared_ref_as_front-result : goal.shared_ref_as_front-result
shared_ref_as_front-result c = subst (λ (b : TextBytes). AreThere b) c.in-Few.is c.requires
