use Rattle.std.proofs.Common.{◌≡◌, ◌∙◌, ap}
use Rattle.desk_rings.specs.Rings.{NamedOutlet}
use Rattle.desk_rings.specs.CoreEnds.{producer_name}
use Rattle.desk_rings.specs.declared.rings.OutputRing.{OutputRing}
use Rattle.desk_rings.specs.Made.{outlet_name}
use Rattle.desk_rings.proofs.Rows.{lists-more}
use Rattle.desk_rings.proofs.making.output_rings.Goals as goal

pub loop-to-preserved : goal.loop-to-preserved
loop-to-preserved c =
    let ring : OutputRing = record { to = c.to-item.result; consumer = c.in_ok-producer.consumer } in
    let pair = c.in_ok-producer.ensures.pair in
    let name : producer_name c.new-in-loop-to.result ≡ outlet_name ring = cc (c.new-in-loop-to.ensures.name) in
    rw (c.in_ok-push.ensures.items, c.in_ok-push_back.ensures.items)
    (lists-more c.args.recipients.now c.loop-to.to-index c.to-item.result c.loop-to.producers.items
    c.loop-to.rings.items
    c.new-in-loop-to.result ring
    c.loop-to-test.true c.to-item.is c.loop-to.invariant
    (ap (λ (n : NamedOutlet). n.to) c.new-in-loop-to.ensures.name) name (
      c.new-in-loop-to.ensures.lists.0 ∙ c.in_ok-producer.ensures.producer.0,
      c.new-in-loop-to.ensures.lists.1
          ∙ c.in_ok-producer.ensures.producer.1,
      c.new-in-loop-to.ensures.whole,
      c.new-in-loop-to.ensures.places.0
          ∙ c.in_ok-producer.ensures.producer.2,
      c.new-in-loop-to.ensures.places.1,
    )
    (c.in_ok-producer.ensures.consumer.0, c.in_ok-producer.ensures.consumer.1))
