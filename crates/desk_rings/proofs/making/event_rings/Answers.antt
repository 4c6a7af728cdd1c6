use Rattle.std.proofs.Common.{◌≡◌, ◌∙◌, refl}
use Rattle.desk_rings.specs.CoreEnds.{consumer_name}
use Rattle.desk_rings.specs.declared.rings.EventRing.{EventRing}
use Rattle.desk_rings.specs.Made.{inlet_name}
use Rattle.desk_rings.proofs.Rows.{events-more}
use Rattle.desk_rings.proofs.making.event_rings.Goals as goal

pub loop-source-preserved : goal.loop-source-preserved
loop-source-preserved c =
    let ring : EventRing = record { source = c.source-item.result; producer = c.in_ok-producer.producer } in
    let pair = c.in_ok-producer.ensures.pair in
    let name : inlet_name ring ≡ consumer_name c.new-in-loop-source.result = cc (c.new-in-loop-source.ensures.name) in
    rw (c.in_ok-push.ensures.items, c.in_ok-push_back.ensures.items)
    (events-more c.args.sources.now c.loop-source.source-index c.source-item.result c.loop-source.rings.items
    c.loop-source.consumers.items ring c.new-in-loop-source.result
    c.loop-source-test.true c.source-item.is c.loop-source.invariant refl name
    (c.in_ok-producer.ensures.producer.0, c.in_ok-producer.ensures.producer.1) (
      c.new-in-loop-source.ensures.events.0 ∙ c.in_ok-producer.ensures.consumer.0,
      c.new-in-loop-source.ensures.events.1
          ∙ c.in_ok-producer.ensures.consumer.1,
    ))
