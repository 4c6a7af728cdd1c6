-- The rows of the orders so far.
use Rattle.std.proofs.Common.{◌≡◌, ◌++◌, true, map, take}
use Rattle.gate_law.specs.Settings.{Settings, has_port}
use Rattle.world_law.specs.World.{World}
use Rattle.closed_world.specs.Worlds.{IsAsWorld}
use Rattle.gate_audit.specs.Pairs as read
use Rattle.gate_audit.specs.Played as played
use Rattle.gate_audit.proofs.played.push_rows.Given as goal

abbrev pub invariant-loop-opening : goal.invariant-loop-opening
invariant-loop-opening l = (s : Settings) (x : World) → IsAsWorld s x l.world → has_port s l.port ≡ true
    → l.books.items ≡ l.fn.books.items ++ map (played.book_of x l.port)
    (read.orders_of l.client (take l.opening-index l.openings))
