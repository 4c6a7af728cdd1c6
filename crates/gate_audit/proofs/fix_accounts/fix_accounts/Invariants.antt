-- What the clients so far read of their orders.
use Rattle.std.proofs.Common.{◌≡◌, ◌≤◌, ℕ, List, map}
use Rattle.gate_audit.specs.Kept.{AreKept}
use Rattle.gate_audit.specs.Pairs.{SaidToClient, orders_of}
use Rattle.gate_audit.specs.Passes.{StayHeld, fix_in}
use Rattle.gate_audit.specs.Read.{for_clients}
use Rattle.gate_audit.proofs.fix_accounts.fix_accounts.Given as goal

abbrev pub invariant-loop-place : goal.invariant-loop-place
invariant-loop-place l = record {
  read : (all : List SaidToClient) → AreKept all l.fn.readings
      → l.accounts.items ≡ for_clients (λ c. map (fix_in all) (orders_of c l.openings)) l.place;
  held : (all : List SaidToClient) → AreKept all l.fn.readings
      → (c : ℕ) → 1 ≤ c → c ≤ l.place → StayHeld all (orders_of c l.openings);
}
