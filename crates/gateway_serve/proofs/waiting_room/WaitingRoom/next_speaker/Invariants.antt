use Rattle.std.proofs.Common.{◌≡◌}
use Rattle.gateway_serve.proofs.waiting_room.WaitingRoom.next_speaker.Given as goal

abbrev pub invariant-loop : goal.invariant-loop
invariant-loop g l = l.self.opened ≡ l.initial.self.opened
