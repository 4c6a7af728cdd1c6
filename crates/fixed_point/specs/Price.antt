-- The one text of a price in 1/10,000.
use Rattle.std.specs.Prelude.{ℕ, ◌+◌, ◌/◌, ◌%◌, List, [], ◌∷◌, ◌++◌, take, decimal, ◌==◌, if◌then◌else◌}

-- the four digits of a number below 10,000
abbrev pub four_digits : ℕ → List ℕ
four_digits n = (48 + n / 1000) ∷ (48 + n / 100 % 10) ∷ (48 + n / 10 % 10) ∷ (48 + n % 10) ∷ []

-- how many of the four digits stand up to the last that is no 0, or 1 where all are
abbrev pub significant : ℕ → ℕ
significant n =
    if n % 1000 == 0 then 1 else if n % 100 == 0 then 2 else if n % 10 == 0 then 3 else 4

-- a point and the fraction without the zeros at its end, or nothing where it is 0
abbrev pub fraction_text : ℕ → List ℕ
fraction_text n = if n == 0 then [] else (46 ∷ take (significant n) (four_digits n))

-- The text of `n` / 10,000: the whole part, and the fraction where it isn't 0.
unfoldable pub price_text : ℕ → List ℕ
price_text n = decimal (n / 10_000) ++ fraction_text (n % 10_000)
