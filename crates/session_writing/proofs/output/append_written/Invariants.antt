use Rattle.std.proofs.Common.{◌≡◌, ◌++◌, map, take}
use Rattle.session_reading.specs.session_law.Frames.{told_of_out}
use Rattle.session_writing.specs.Written.{told_bytes}
use Rattle.session_writing.proofs.output.append_written.Given as goal

-- the outputs passed so far
abbrev pub invariant-loop-out : goal.invariant-loop-out
invariant-loop-out l = map told_bytes l.all.items
    ≡ map told_bytes l.fn.all.items ++ map (told_of_out l.names.gate l.names.client) (take l.out-index l.outs)
