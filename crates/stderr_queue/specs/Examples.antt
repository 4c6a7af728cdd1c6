-- Computed: what a line shows.
use Rattle.std.specs.Prelude.{◌≡◌, refl, List, ℕ, [], ◌∷◌, codes, length, replicate, ◌++◌}
use Rattle.stderr_queue.specs.Shown.{appended, cut, shown_byte}

-- the first and the last printable byte stand for themselves, their neighbours don't
a_space_is_shown : shown_byte 32 ≡ 32
a_space_is_shown = refl

a_tilde_is_shown : shown_byte 126 ≡ 126
a_tilde_is_shown = refl

a_control_byte_is_a_dot : shown_byte 31 ≡ 46
a_control_byte_is_a_dot = refl

a_delete_is_a_dot : shown_byte 127 ≡ 46
a_delete_is_a_dot = refl

-- a text that would begin a line of its own
a_line_stays_one : cut (codes "C1 ") (codes "up" ++ 10 ∷ codes "C2 up") ≡ codes "C1 up.C2 up"
a_line_stays_one = refl

-- the 1,024th byte is there, the next one isn't
a_last_byte_has_room : length (appended (replicate 1023 65) 66) ≡ 1024
a_last_byte_has_room = refl

a_further_byte_has_none : appended (replicate 1024 65) 66 ≡ replicate 1024 65
a_further_byte_has_none = refl
