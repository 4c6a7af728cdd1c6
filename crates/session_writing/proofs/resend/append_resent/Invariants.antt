use Rattle.std.proofs.Common.{◌≡◌, ◌+◌, ◌++◌, map, drop}
use Rattle.session_reading.specs.session_law.Session as law
use Rattle.session_writing.specs.Keeping.{slots_at}
use Rattle.session_writing.specs.Resent.{HeadsFit}
use Rattle.session_writing.specs.Written.{told_bytes, told_frames}
use Rattle.session_writing.proofs.resend.append_resent.Given as goal

-- what is appended so far, and what is left, are all
abbrev pub invariant-loop-place : goal.invariant-loop-place
invariant-loop-place l = record {
  heads : HeadsFit l.resent l.names.gate l.names.client l.now;
  number : l.number ≡ l.fn.first + l.place-index;
  told : map told_bytes l.outs.items ++ told_frames l.names.gate l.names.client
      (law.resent l.now l.start l.number (slots_at l.text (drop l.place-index l.places)))
      ≡ map told_bytes l.fn.outs.items ++ told_frames l.names.gate l.names.client
      (law.resent l.now l.fn.first l.fn.first (slots_at l.text l.places));
}
