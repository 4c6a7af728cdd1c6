-- What was taken through a gate, of an outlet from which lists may have been taken before. (Own.)
use Rattle.std.specs.Prelude.{◌≤◌, List, length, drop}
use Rattle.gate_law.specs.Events.{LinkOut}
use Rattle.desk.specs.desk_rings.Rings.{Taking}

-- the lists that were taken since an outlet was as it first came
abbrev pub took_since : Taking → Taking → List (List LinkOut)
took_since first now = drop (length first.took) now.took

abbrev pub Earlier : Taking → Taking → Type 0
Earlier first now = length first.took ≤ length now.took
