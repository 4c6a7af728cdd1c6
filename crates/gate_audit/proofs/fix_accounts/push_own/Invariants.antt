-- What the client read of its orders so far.
use Rattle.std.proofs.Common.{◌≡◌, ◌++◌, List, map, take}
use Rattle.gate_audit.specs.Kept.{AreKept}
use Rattle.gate_audit.specs.Pairs.{SaidToClient, orders_of}
use Rattle.gate_audit.specs.Passes.{StayHeld, fix_in}
use Rattle.gate_audit.proofs.fix_accounts.push_own.Given as goal

abbrev pub invariant-loop-opening : goal.invariant-loop-opening
invariant-loop-opening l = record {
  read : (all : List SaidToClient) → AreKept all l.readings → l.accounts.items ≡ l.fn.accounts.items
      ++ map (fix_in all) (orders_of l.client (take l.opening-index l.openings));
  held : (all : List SaidToClient) → AreKept all l.readings
      → StayHeld all (orders_of l.client (take l.opening-index l.openings));
}
