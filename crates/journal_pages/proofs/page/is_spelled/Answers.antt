use Rattle.std.proofs.Common.{arith}
use Rattle.journal_pages.proofs.Spelled.{AreBytes}
use Rattle.journal_pages.proofs.Listed.{page-spelled}
use Rattle.journal_pages.proofs.page.is_spelled.Goals as goal

pub returns : goal.returns
returns c =
    let below : AreBytes c.args.text.now = λ i. omega (arith, c.type_inv.text i) in
    page-spelled c.args.text.now below c.requires
