-- What was put as time passed while lines were served.
use Rattle.std.specs.Prelude.{◌≡◌, ◌⊎◌, ℕ, Option, Some, None, List}
use Rattle.gate_law.specs.Events.{Event, LinkOut}
use Rattle.gate_workers.specs.TickersWork.{PutsTicks}
use Rattle.gate_serving.specs.declared.ticks.Ticks.{Ticks}

-- a round of ticks of these clients and ports at each moment that the clock reported, and nothing else
abbrev pub TicksDid : {G C : Type 0} → (gave_back : Event → Type 0) → (G → List Event) → (G → List (List LinkOut))
    → (reported : C → Option (List ℕ)) → (old new : Ticks G C) → Type 0
TicksDid gave_back was_put was_taken reported old new =
    (new.clients ≡ old.clients) × (new.ports ≡ old.ports)
    × PutsTicks gave_back old.clients old.ports (reported old.clock) (reported new.clock) (was_put old.gate)
    (was_put new.gate)
    × (was_taken new.gate ≡ was_taken old.gate)

-- a job was done, where there was one
abbrev pub WasDone : {A : Type 0} → (A → A → Type 0) → (old new : Option A) → Type 0
WasDone did None None = Unit {0}
WasDone did None (Some new) = ⊥
WasDone did (Some old) None = ⊥
WasDone did (Some old) (Some new) = did old new
