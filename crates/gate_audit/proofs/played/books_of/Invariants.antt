-- The rows of the clients so far.
use Rattle.std.proofs.Common.{◌≡◌}
use Rattle.world_law.specs.World.{World}
use Rattle.closed_world.specs.Worlds.{IsAsWorld}
use Rattle.gate_audit.specs.Read.{for_clients}
use Rattle.gate_audit.specs.Played as played
use Rattle.gate_audit.proofs.played.books_of.Given as goal

abbrev pub invariant-loop-place : goal.invariant-loop-place
invariant-loop-place l = (x : World) → IsAsWorld l.settings x l.world
    → l.books.items ≡ for_clients (played.books_of l.settings x) l.place
