-- Texts that are added one after another.
use Rattle.std.proofs.Common.{◌≡◌, ℕ, List, ◌++◌, append_assoc}

pub joined4 : (p a b c d : List ℕ) → ((p ++ a) ++ b) ++ (c ++ d) ≡ p ++ (((a ++ b) ++ c) ++ d)
joined4 p a b c d = simp append_assoc
