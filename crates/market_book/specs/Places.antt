-- Where the first element stands that passes a test.
use Rattle.std.specs.Prelude.{◌≡◌, ℕ, Bool, true, false, List, ◌∷◌, ◌++◌, length}
use Rattle.std.specs.List.{list_any}

-- it is the one with this index
pub record IsFirstAt {X : Type 0} (test : X → Bool) (xs : List X) (index : ℕ) : Type 0 where
  pub before : List X
  pub one : X
  pub behind : List X
  pub parts : xs ≡ before ++ one ∷ behind
  pub place : length before ≡ index
  pub none_before : list_any test before ≡ false
  pub passes : test one ≡ true
