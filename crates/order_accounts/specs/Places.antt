-- Places by the numbers that digits write, and by tokens that lead on.
use Rattle.std.specs.Prelude.{ℕ, ◌%◌, ◌^◌, Bool, ◌&&◌, nat_lt, List, length, get_or, drop, take, if◌then◌else◌}
use Rattle.std.specs.Char.{is_ascii_digit}
use Rattle.std.specs.List.{list_all}
use Rattle.wire_bytes.specs.Digits.{number_of}

-- digits that write a number below 2^64
abbrev pub are_short : List ℕ → Bool
are_short digits = list_all is_ascii_digit digits && nat_lt (number_of digits) (2 ^ 64)

-- a place of so many
unfoldable pub place : ℕ → List ℕ → ℕ
place count digits = if are_short digits then number_of digits % count else 0

-- The place that a token leads to: behind its first letter stand digits, and the place that they name says where it
-- leads on. (Token texts are this gateway's own, `tokens`.)
abbrev pub digits_of : List ℕ → List ℕ
digits_of token = take 13 (drop 1 token)

unfoldable pub lead : List ℕ → List ℕ → ℕ
lead leads token = get_or leads (place (length leads) (digits_of token)) 0 % length leads
