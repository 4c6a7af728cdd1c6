use Rattle.std.proofs.Common.{◌∙◌, sym}
use Rattle.wire_law.proofs.Visible.{printable-visible}
use Rattle.wire_law.proofs.printable.are_visible.Goals as goal

pub returns-clause-printable : goal.returns-clause-printable
returns-clause-printable c = λ h. printable-visible c.args.text.now (sym c.all_visible.ensures ∙ h)
