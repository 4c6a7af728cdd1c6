-- The packets that were taken are on their way.
use Rattle.std.proofs.Common.{◌≡◌, ◌++◌}
use Rattle.closed_world.proofs.connection.Connection.say_all.Given as goal

abbrev pub invariant-loop-packet : goal.invariant-loop-packet
invariant-loop-packet l = record {
  link : l.self.link ≡ l.fn.self.link;
  market : l.self.to_market.items ≡ l.fn.self.to_market.items;
  core : l.self.to_core.items ≡ l.fn.self.to_core.items ++ l.yielded;
}
