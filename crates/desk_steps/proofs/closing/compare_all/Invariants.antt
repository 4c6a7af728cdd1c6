use Rattle.std.proofs.Common.{◌≡◌}
use Rattle.desk_side.specs.desk_rings.CoreEnds.{ConsumersLooked, ProducersLooked}
use Rattle.desk_steps.specs.Settling.{AreBegun}
use Rattle.desk_steps.proofs.Comparing.{FirstBegun, FirstBorneOut}
use Rattle.desk_steps.proofs.closing.compare_all.Given as goal

-- the ends so far are compared
abbrev pub invariant-loop-i : goal.invariant-loop-i
invariant-loop-i g l = record {
  same : l.finished.items ≡ l.initial.finished.items;
  consumers : ConsumersLooked l.initial.side.consumers l.side.consumers;
  producers : ProducersLooked l.initial.side.producers l.side.producers;
  clients : l.side.clients ≡ l.initial.side.clients;
  ports : l.side.ports ≡ l.initial.side.ports;
  begun : FirstBegun l.i l.initial.finished.items l.side.consumers;
  borne_out : AreBegun l.initial.finished.items l.initial.side.consumers
      → FirstBorneOut l.i l.initial.finished.items l.side.consumers l.side.producers;
}
