-- What sessions say, on a link: nothing where there is none.
use Rattle.std.specs.Prelude.{ℕ, ◌==◌, List, [], map, Option, Some, None, if◌then◌else◌}
use Rattle.session_law.specs.Frames.{ToldLink}
use Rattle.gate_law.specs.Events.{LinkOut}
use Rattle.gate_law.specs.Sessions.{to_link}
use Rattle.gate_law.specs.After.{unless_closed}

-- what a client's session says, in bytes
abbrev pub outs_told_on : Option ℕ → List ToldLink → List LinkOut
outs_told_on None told = []
outs_told_on (Some link) told = map (to_link link) told

-- the current links, where one number's is told this: it goes where that closes it
abbrev pub unlinked : ℕ → List LinkOut → (ℕ → Option ℕ) → ℕ → Option ℕ
unlinked n outs links m = if m == n then unless_closed outs (links m) else links m
