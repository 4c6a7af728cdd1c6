-- Pages of which the first may have left memory: the last of all, and at least one where there are some. (Own.)
use Rattle.std.specs.Prelude.{◌≡◌, ℕ, List, [], ◌++◌, length}

-- pages are the last of all, behind so many that left memory
pub record AreLast (left : ℕ) (pages all : List (List ℕ)) : Type 0 where
  pub front : List (List ℕ)
  pub parts : all ≡ front ++ pages
  pub count : length front ≡ left
  pub some : pages ≡ [] → front ≡ []
