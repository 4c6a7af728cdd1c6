use Rattle.std.proofs.Common.{◌≡◌}
use Rattle.gateway_serve.proofs.waiting_room.WaitingRoom.speaker.Given as goal

abbrev pub invariant-loop-at : goal.invariant-loop-at
invariant-loop-at g l = l.self.opened ≡ l.initial.self.opened
