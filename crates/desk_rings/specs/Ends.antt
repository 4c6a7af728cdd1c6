-- What an end that has finished tells, and when it is the one that a desk's name names. (Own.)
use Rattle.std.specs.Prelude.{◌≡◌, ℕ, Option, Some, None, slice_get, List}
use Rattle.rtrb.specs.Ring.{all_sent, received}
use Rattle.gate_events.specs.Sources.{events_from}
use Rattle.desk_rings.specs.Rings.{NamedInlet, NamedOutlet, Done, put_at, took_at, finished_ring, consumer_ring}
use Rattle.desk_rings.specs.declared.finished.FinishedEnd.{FinishedEnd}
use Rattle.desk_rings.specs.declared.finished.FinishedEnd.TheVariants.{Put, Took}

abbrev pub done_of : ℕ → FinishedEnd → Done
done_of at (Put source f) = put_at at source (all_sent f)
done_of at (Took to c) = took_at at to (received c)

abbrev pub position_of : Done → ℕ
position_of (put_at at source events) = at
position_of (took_at at to lists) = at

-- an inlet's position
abbrev pub inlet_of : Done → Option ℕ
inlet_of (put_at at source events) = Some at
inlet_of (took_at at to lists) = None

-- The end is that of the ring at this position, and what an inlet put is all of its source.
abbrev pub IsNamedEnd : List NamedInlet → List NamedOutlet → ℕ → FinishedEnd → Type 0
IsNamedEnd inlets outlets at (Put source f) =
    (slice_get inlets at ≡ Some (record { source = source; ring = finished_ring f }))
    × (events_from source (all_sent f) ≡ all_sent f)
IsNamedEnd inlets outlets at (Took to c) = slice_get outlets at ≡ Some (record { to = to; ring = consumer_ring c })
