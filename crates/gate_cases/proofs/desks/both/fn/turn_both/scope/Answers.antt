-- What the threads share of a desk may be shared, and an inlet may go to a thread.
use denote.Param.Send.{sendable}
use Rattle.std.proofs.Crossing.{crosses}
use Rattle.desk.proofs.Sent.{inlet_send, shared_sync}
use Rattle.gate_cases.proofs.desks.both.fn.turn_both.scope.Goals as goal

pub spawn-requires-send-F : goal.spawn-requires-send-F
spawn-requires-send-F g c κs l = search (shared_sync, inlet_send, sendable, crosses) depth 100 fits 500000

pub spawn-requires-2-send-F : goal.spawn-requires-2-send-F
spawn-requires-2-send-F g c κs l = search (shared_sync, inlet_send, sendable, crosses) depth 100 fits 500000
