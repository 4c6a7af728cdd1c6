-- The rings of a desk that was just made, from both sides. (Own.)
use Rattle.std.specs.Prelude.{◌≡◌, ℕ, All, List, map}
use Rattle.desk_rings.specs.CoreEnds.{consumer_name, producer_name}
use Rattle.desk_rings.specs.declared.rings.EventRing.{EventRing}
use Rattle.desk_rings.specs.declared.rings.OutputRing.{OutputRing}
use Rattle.desk_rings.specs.Made.{IsFreshEvents, IsFreshLists, IsFreshConsumer, IsFreshProducer, inlet_name}
use Rattle.desk_rings.specs.Made.{outlet_name}
use Rattle.desk_side.specs.Side.{IsArranged, SideState}

-- for so many clients and ports; the ends that are handed out are those of the desk's, by position, and nothing went
-- through any ring
pub record IsOpened (clients ports : ℕ) (side : SideState) (inlets : List EventRing)
    (outlets : List OutputRing) : Type 0 where
  pub client_count : side.clients ≡ clients
  pub port_count : side.ports ≡ ports
  pub arranged : IsArranged side
  pub inlet_names : map inlet_name inlets ≡ map consumer_name side.consumers
  pub outlet_names : map outlet_name outlets ≡ map producer_name side.producers
  pub inlets_fresh : All IsFreshEvents inlets
  pub outlets_fresh : All IsFreshLists outlets
  pub consumers_fresh : All IsFreshConsumer side.consumers
  pub producers_fresh : All IsFreshProducer side.producers
