use Rattle.std.proofs.Common.{◌≡◌}
use Rattle.gateway_serve.proofs.waiting_room.WaitingRoom.take_all.Given as goal

abbrev pub invariant-loop : goal.invariant-loop
invariant-loop g l = l.self.opened ≡ l.initial.self.opened
