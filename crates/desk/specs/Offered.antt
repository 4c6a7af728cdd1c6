-- What is offered to be opened as a desk. (Own.)
use Rattle.std.specs.Prelude.{◌≡◌, ℕ, ◌+◌, All, Some, slice_get, List, length, map}
use Rattle.gate_law.specs.Settings.{Settings}
use Rattle.desk_steps.specs.Recorded.{Recorded}
use Rattle.desk_rings.specs.Rings.{NamedInlet, NamedOutlet}
use Rattle.desk_rings.specs.declared.rings.EventRing.{EventRing}
use Rattle.desk_rings.specs.declared.rings.OutputRing.{OutputRing}
use Rattle.desk_rings.specs.Made.{IsFreshEvents, IsFreshLists, inlet_name, outlet_name}
use Rattle.desk_steps.specs.desk_side.Places.{recipient_at, source_at}
use Rattle.desk_steps.specs.desk_side.Side.{SideState}
use Rattle.desk_steps.specs.Agreeing.{Agrees}

-- the settings of the core, and which rings there are, by position
pub record Offered : Type 0 where
  pub settings : Settings
  pub inlets : List NamedInlet
  pub outlets : List NamedOutlet

-- the core, the desk's side and the other ends agree, and nothing went through any ring
pub record IsOffer (recorded : Recorded) (side : SideState) (inlets : List EventRing)
    (outlets : List OutputRing) : Type 0 where
  pub agrees : Agrees (map inlet_name inlets) (map outlet_name outlets) (record { recorded = recorded; side = side })
  pub inlets_fresh : All IsFreshEvents inlets
  pub outlets_fresh : All IsFreshLists outlets

-- an inlet for each client, each port and the clock, an outlet for each client and each port
pub record AreFor (clients ports : ℕ) (offered : Offered) : Type 0 where
  pub inlet_count : length offered.inlets ≡ clients + ports + 1
  pub sources : (k : ℕ) (a : NamedInlet) → slice_get offered.inlets k ≡ Some a → a.source ≡ source_at clients ports k
  pub outlet_count : length offered.outlets ≡ clients + ports
  pub recipients : (d : ℕ) (w : NamedOutlet) → slice_get offered.outlets d ≡ Some w → w.to ≡ recipient_at clients d
