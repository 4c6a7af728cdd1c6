-- What becomes of a line that is told.
use Rattle.std.specs.Prelude.{◌≡◌, ◌+◌, ◌-◌, ◌^◌, ◌++◌, ◌⊎◌, [], ◌∷◌}
use Rattle.rtrb.specs.Ring.{sent, known_free}
use Rattle.stderr_queue.specs.declared.line.Line.{Line}
use Rattle.stderr_queue.specs.declared.sender.LineSender.{LineSender}

-- it is the last line of the queue, and says how many were dropped before it
pub record WentIn (before after : LineSender) (line : Line) : Type 0 where
  pub last : sent after.ring ≡ sent before.ring ++ (record line { dropped = before.dropped }) ∷ []
  pub dropped : after.dropped ≡ before.dropped

-- there was no room for it: it is counted
pub record WasDropped (before after : LineSender) : Type 0 where
  pub same : sent after.ring ≡ sent before.ring
  pub full : known_free after.ring ≡ 0
  pub counted : after.dropped ≡ before.dropped + 1

-- no line is told behind the last number
pub record IsTheEnd (before after : LineSender) : Type 0 where
  pub told : before.told ≡ 2 ^ 64 - 1
  pub same : after ≡ before

abbrev pub WasSent : LineSender → LineSender → Line → Type 0
WasSent before after line = WentIn before after line ⊎ (WasDropped before after ⊎ IsTheEnd before after)
