use Rattle.std.proofs.Common.{◌≡◌, ◌∷◌, map, take}
use Rattle.market_sim.specs.Sim as spec
use Rattle.market_sim.proofs.sim.resent.Given as goal

abbrev pub invariant-loop-payload : goal.invariant-loop-payload
invariant-loop-payload l = l.packets.items
    ≡ spec.accepts_login l.number ∷ map spec.sequenced_packet (take l.payload-index l.rest)
