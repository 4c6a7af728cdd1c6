-- Decimal digits, and the number that they write.
--
-- Source: FIX 4.4 Volume 1, data type int: digits, zeros in front allowed; SoupBinTCP 3.00, "Data Types", numeric.
use Rattle.std.specs.Prelude.{◌≡◌, refl, codes, ℕ, ◌+◌, ◌-◌, ◌*◌, ◌^◌, ◌<◌, true, List, [], ◌∷◌, length}
use Rattle.std.specs.Char.{is_ascii_digit}
use Rattle.std.specs.List.{list_all}

-- what digits stand for, each by its place
abbrev pub number_of : List ℕ → ℕ
number_of [] = 0
number_of (digit ∷ digits) = (digit - 48) * 10 ^ length digits + number_of digits

-- digits, of a number below a limit
abbrev pub AreDigitsBelow : ℕ → List ℕ → Type 0
AreDigitsBelow limit digits = (list_all is_ascii_digit digits ≡ true) × (number_of digits < limit)

values :
    (number_of (codes "0") ≡ 0)
    × (number_of (codes "007") ≡ 7)  -- zeros in front
    × (number_of (codes "1234567890") ≡ 1_234_567_890)  -- each digit by its place
    × (number_of [] ≡ 0)  -- no digit
values = (refl, refl, refl, refl)
