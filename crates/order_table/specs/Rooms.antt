-- Room in a list and in its indexes, as one number.
use Rattle.std.specs.Prelude.{ℕ, ◌&&◌, nat_le}
use Rattle.order_table.specs.Held.{one_if}

-- one token more, by its text, and counted
abbrev pub room_of_token : ℕ → ℕ → ℕ → ℕ
room_of_token list texts counts = one_if (nat_le 1 list && (nat_le 1 texts && nat_le 1 counts))

-- one order more, which has no pending replace: by its number and by two names
abbrev pub room_of_order : ℕ → ℕ → ℕ → ℕ
room_of_order list numbers names = one_if (nat_le 1 list && (nat_le 1 numbers && nat_le 2 names))
