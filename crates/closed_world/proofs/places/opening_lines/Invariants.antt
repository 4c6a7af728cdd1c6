-- So many so far, and nothing has come to any.
use Rattle.std.proofs.Common.{◌≡◌, length}
use Rattle.world_law.specs.World.{opening_world}
use Rattle.closed_world.specs.Worlds.{AreLines}
use Rattle.closed_world.proofs.places.opening_lines.Given as goal

abbrev pub invariant-loop : goal.invariant-loop
invariant-loop l = record {
  count : length l.ports.items ≡ l.counter;
  lines : AreLines opening_world l.ports.items;
}
