use Rattle.std.proofs.Common.{◌≡◌, map, ap, Some}
use Rattle.std.proofs.lemmas.Result.{IfOk-weaker}
use Rattle.gate_law.specs.After.{lists}
use Rattle.gate_events.specs.Seen.{batch_seen, link_out_seen}
use Rattle.world_law.specs.World.{asked_by_event}
use Rattle.closed_world.specs.Worlds.{after_turn}
use Rattle.closed_world.proofs.Going.{tell-some, told-packets-of}
use Rattle.closed_world.proofs.world.ClosedWorld.tell.Goals as goal

pub returns-in-Some : goal.returns-in-Some
returns-in-Some c =
    let is : c.args.batch.now.port ≡ Some c.number.result = cc (c.in-Some.is, c.in-Some.port-is, c.number.ensures.value)
    in
    IfOk-weaker c.tell_port.result _ _
    (λ u told s x e same.
    tell-some s x e (batch_seen c.args.batch.now) c.number.result (map link_out_seen c.deref.result.now) _ is
    (ap (map link_out_seen) c.deref.ensures.value)
    (told s (after_turn e (batch_seen c.args.batch.now) x) (asked_by_event s e (lists s x.history) c.number.result)
    (told-packets-of s e (batch_seen c.args.batch.now) x (map link_out_seen c.deref.result.now) _
    (ap (map link_out_seen) c.deref.ensures.value) same) same))
    c.tell_port.ensures
