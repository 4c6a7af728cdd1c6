use Rattle.std.proofs.Common.{◌≡◌, take}
use Rattle.std.specs.Prelude.{string_bytes}
use Rattle.status_page.specs.Json.{printable}
use Rattle.status_page.proofs.json_values.printable.Given as goal

-- those of the bytes so far
abbrev pub invariant-loop-byte : goal.invariant-loop-byte
invariant-loop-byte l = string_bytes l.shown ≡ printable (take l.byte-index l.text)
