-- How many bytes a list has to be written, and for how many places more than one it counts. (Own.)
use Rattle.std.specs.Prelude.{ℕ, ◌+◌, ◌-◌, ◌/◌, nat_le, List, [], ◌∷◌, length, if◌then◌else◌}
use Rattle.gate_law.specs.Events.{LinkOut, Write, Close}

abbrev pub out_size : LinkOut → ℕ
out_size (Write link bytes) = length bytes
out_size (Close link) = 0

abbrev pub list_size : List LinkOut → ℕ
list_size [] = 0
list_size (out ∷ outs) = out_size out + list_size outs

-- a list counts for a place more for each 2,048 bytes, and for 1,024 more at most
abbrev pub more_places : List LinkOut → ℕ
more_places list = (if nat_le 2_097_152 (list_size list) then 2_097_152 else list_size list) / 2_048

abbrev pub all_more : List (List LinkOut) → ℕ
all_more [] = 0
all_more (list ∷ lists) = more_places list + all_more lists

-- Of the places of an outlet's ring, those that are for what its market says and for time: a client's own events leave
-- them free.
abbrev pub for_markets_and_time : ℕ
for_markets_and_time = 1_088

-- Of so many free places those that a client's own events find, where the lists that lie there count for so many more:
-- the others are free to markets and time whatever lies there.
abbrev pub room_beside : ℕ → ℕ → ℕ
room_beside free more =
    if nat_le free for_markets_and_time then free
    else if nat_le (free - more) for_markets_and_time then for_markets_and_time else free - more
