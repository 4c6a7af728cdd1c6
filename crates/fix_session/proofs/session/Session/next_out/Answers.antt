use Rattle.std.proofs.Common.{ℕ, ◌+◌, length, ap, ◌∙◌, List}
use Rattle.session_law.specs.Session.{Slot}
use Rattle.session_law.proofs.Runs.{Leaves-numbers}
use Rattle.fix_session.proofs.session.Session.next_out.Goals as goal

pub returns-clause-number : goal.returns-clause-number
returns-clause-number c = λ gate client h leaves. ap (λ (n : ℕ). n + 1) c.last.ensures.number
    ∙ ap (λ (l : List Slot). length l + 1) (Leaves-numbers gate client h c.args.self.now.session leaves)
