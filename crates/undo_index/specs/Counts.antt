-- How often each number was counted.
use Rattle.std.specs.Prelude.{ℕ, Bool, ◌&&◌, List, Option, Some, None, nat_eq, nat_le, reverse, if◌then◌else◌}
use Rattle.std.specs.List.{find}
use Rattle.undo_index.specs.declared.number_count.NumberCount.{NumberCount}
use Rattle.undo_index.specs.declared.number_count.NumberKey.{NumberKey}

-- the count is that of the number
abbrev pub is_of : ℕ → NumberCount → Bool
is_of number c = nat_eq number c.number

-- none is 0
abbrev pub count_or_none : Option NumberCount → ℕ
count_or_none None = 0
count_or_none (Some c) = c.count

-- how often a number was counted
abbrev pub counted : ℕ → List NumberCount → ℕ
counted number cs = count_or_none (find (is_of number) (reverse cs))

abbrev pub one_if : Bool → ℕ
one_if b = if b then 1 else 0

-- by what a count is found
abbrev pub same_number : NumberKey → NumberKey → Bool
same_number x y = nat_eq x.number y.number

abbrev pub has_number : NumberKey → NumberCount → Bool
has_number k c = is_of k.number c

-- room to count one number more, be it there or not
abbrev pub room_of_count : ℕ → ℕ → ℕ → ℕ
room_of_count pushes changes numbers = one_if (nat_le 1 pushes && (nat_le 1 changes && nat_le 1 numbers))
