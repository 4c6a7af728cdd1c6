-- What of a stream isn't given yet, in lines.
use Rattle.std.specs.Prelude.{◌≡◌, ℕ, List, [], ◌∷◌, ◌==◌, Option, None, Some, option_map, if◌then◌else◌, ⊤}
use Rattle.std.specs.List.{slice_split}
use Rattle.std.specs.Io.KnownBytes.{prepend_known}
use Rattle.wire_streams.specs.declared.lines.Lines.{Lines}

-- the lines of a text: it is cut at each newline, and what stands behind the last newline is a line too, be it empty
abbrev pub lines_of : List ℕ → List (List ℕ)
lines_of text = slice_split (λ byte. byte == 10) text

-- the lines that aren't given yet: those of what was read and isn't given, with the reader's bytes behind it, where
-- these are known; none once the last was given
abbrev pub lines_left : Lines → Option (List ℕ) → Option (List (List ℕ))
lines_left lines known = if lines.is_over then Some [] else option_map lines_of (prepend_known lines.piece known)

-- the line that is given is the first of those that were left, and the others are left then; none is given where none
-- was left
abbrev pub GivesLine : Option (List (List ℕ)) → Option (List (List ℕ)) → Option (List ℕ) → Type 0
GivesLine None later given = ⊤
GivesLine (Some lines) None given = ⊥
GivesLine (Some lines) (Some rest) (Some line) = lines ≡ line ∷ rest
GivesLine (Some lines) (Some rest) None = (lines ≡ []) × (rest ≡ [])
