use Rattle.std.proofs.Common.{◌≡◌, ◌<◌, length, subst}
use Rattle.gate_events.specs.Sources.{unless_empty}
use Rattle.desk_rings.specs.CoreEnds.{ProducerSent, OutletProducerState}
use Rattle.desk_side.proofs.Moves.{changes-set}
use Rattle.desk_side.proofs.slots.send_at.Goals as goal

pub returns-clause-at : goal.returns-clause-at
returns-clause-at c d is =
    let inside : c.in-Some.place < length c.args.producers.now.items = rw c.in-Some.is at c.requires.inside in
    let sent = subst (λ (z : OutletProducerState). ProducerSent (unless_empty c.args.output) z c.send.new.self)
    c.index_mut.ensures.value
    c.send.ensures in
    let same : d ≡ c.in-Some.place = cc (is, c.in-Some.is) in
    rw same (changes-set (ProducerSent (unless_empty c.args.output)) c.args.producers.now.items c.in-Some.place
    c.index_mut.result.now c.send.new.self inside sent)
