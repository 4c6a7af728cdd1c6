-- Texts that are added one after another.
use Rattle.std.proofs.Common.{◌≡◌, ℕ, List, ◌++◌, append_assoc}

pub joined3 : (p a b c : List ℕ) → ((p ++ a) ++ b) ++ c ≡ p ++ ((a ++ b) ++ c)
joined3 p a b c = simp append_assoc
