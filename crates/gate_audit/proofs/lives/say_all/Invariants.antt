-- What the market said of the client's orders so far.
use Rattle.std.proofs.Common.{◌≡◌, ◌++◌, map, reverse, take}
use Rattle.gate_audit.specs.Pairs.{orders_of}
use Rattle.gate_audit.specs.Passes.{said_of}
use Rattle.gate_audit.proofs.lives.say_all.Given as goal

abbrev pub invariant-loop-opening : goal.invariant-loop-opening
invariant-loop-opening l = l.said.items ≡ l.fn.said.items
    ++ map (said_of (reverse l.handled)) (orders_of l.client (take l.opening-index l.openings))
