-- Whether the current link is closed. (Own.)
use Rattle.std.specs.Prelude.{ℕ, Bool, List, Option}
use Rattle.std.specs.List.{list_any}
use Rattle.gate_law.specs.After.{is_close}
use Rattle.gate_law.specs.Events.{LinkOut}

-- the link is closed by these
abbrev pub is_link_closed : Option ℕ → List LinkOut → Bool
is_link_closed link outs = list_any (is_close link) outs
