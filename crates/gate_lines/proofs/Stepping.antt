-- The lines of a script step a runner, one after another.
use Rattle.std.proofs.Common.{ℕ, List, Option, None, Some, IfSome, subst}
use Rattle.std.specs.List.{FoldsTo}
use Rattle.gate_audit.specs.gate_journal.Kept.{Kept}
use Rattle.wire_streams.specs.Unread.{GivesLine, lines_of}
use Rattle.wire_streams.proofs.Given.{Leaves, all-given}
use Rattle.script_steps.specs.Standing.{IsTextStep, IsWarm, RunSoFar, Runner}
use Rattle.gate_lines.specs.Scripts.{ComesTo}

-- all lines of a script were given
pub all-stepped : (known : Option (List ℕ)) (start end : RunSoFar) (given : List (List ℕ))
    (left last : Option (List (List ℕ)))
    → FoldsTo IsTextStep start given end → Leaves known given left → GivesLine left last None
    → IfSome known (λ text. FoldsTo IsTextStep start (lines_of text) end)
all-stepped None start end given left last steps leaves gives = tt
all-stepped (Some text) start end given left last steps leaves gives =
    subst (λ l. FoldsTo IsTextStep start l end) (all-given (Some text) given left last leaves gives) steps

-- they stepped a runner with its sessions up
pub comes-to : (known : Option (List ℕ)) (start : RunSoFar) (later : Runner) (kept : Kept)
    → IsWarm start → IfSome known (λ text. FoldsTo IsTextStep start (lines_of text)
    (record { runner = later; kept = kept }))
    → IfSome known (λ text. ComesTo text kept)
comes-to None start later kept warm steps = tt
comes-to (Some text) start later kept warm steps = (start, warm, later, steps)
