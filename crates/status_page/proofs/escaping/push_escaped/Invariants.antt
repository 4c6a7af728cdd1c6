use Rattle.std.proofs.Common.{◌≡◌, ◌++◌, take}
use Rattle.std.specs.Prelude.{string_bytes}
use Rattle.status_page.specs.Html.{escaped}
use Rattle.status_page.proofs.escaping.push_escaped.Given as goal

-- that of the bytes so far
abbrev pub invariant-loop-byte : goal.invariant-loop-byte
invariant-loop-byte l = string_bytes l.page ≡ string_bytes l.initial.page ++ escaped (take l.byte-index l.text)
