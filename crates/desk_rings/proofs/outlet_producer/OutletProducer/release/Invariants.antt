use Rattle.std.proofs.Common.{◌≡◌, ◌++◌, ◌-◌}
use Rattle.std.specs.VecDeque.{deque_len}
use Rattle.rtrb.specs.Ring.{known_free, producer_capacity, sent}
use Rattle.desk_rings.specs.Rings.{producer_ring}
use Rattle.desk_rings.proofs.outlet_producer.OutletProducer.release.Given as goal

-- what was sent stays, and for how much more there is room
abbrev pub invariant-loop-output : goal.invariant-loop-output
invariant-loop-output l = record {
  to : l.self-inside.to ≡ l.initial.self-inside.to;
  ring : producer_ring l.self-inside.producer ≡ producer_ring l.initial.self-inside.producer;
  sent : sent l.self-inside.producer ++ l.self-inside.staged.items
      ≡ sent l.initial.self-inside.producer ++ l.initial.self-inside.staged.items;
  free : known_free l.self-inside.producer - deque_len l.self-inside.staged
      ≡ known_free l.initial.self-inside.producer - deque_len l.initial.self-inside.staged;
  overflowed : l.self-inside.overflowed ≡ l.initial.self-inside.overflowed;
  stages : l.self-inside.stages ≡ l.initial.self-inside.stages;
  places : producer_capacity l.self-inside.producer ≡ producer_capacity l.initial.self-inside.producer;
  more : l.self-inside.more ≡ l.initial.self-inside.more;
}

abbrev pub decreases-loop-output : goal.decreases-loop-output
decreases-loop-output l = deque_len l.self-inside.staged
