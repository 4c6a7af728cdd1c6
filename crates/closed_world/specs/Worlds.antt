-- When the code's world is one that steps lead to.
use Rattle.std.specs.Prelude.{◌≡◌, ℕ, ◌+◌, List, ◌∷◌, length, map, Option, Some, option_map, slice_get}
use Rattle.gate_law.specs.Settings.{Settings}
use Rattle.gate_law.specs.Events.{Batch, Event, History}
use Rattle.gate_core.specs.Core.{IsAfter}
use Rattle.gate_journal.specs.Kept.{turns}
use Rattle.world_law.specs.World as world
use Rattle.world_law.specs.World.{Carried, CoreGets, Happens, LeadsTo, World}
use Rattle.closed_world.specs.Lines.{Line, Way, line_seen}
use Rattle.closed_world.specs.declared.port_line.PortLine.{PortLine}
use Rattle.closed_world.specs.declared.world.ClosedWorld.{ClosedWorld}

-- ---- what a world has of a port: no program keeps what a packet on its way asks

abbrev pub way_of : world.Connection → Way
way_of c = record { link = c.link; to_market = map (λ (x : Carried). x.bytes) c.to_market; to_core = c.to_core }

abbrev pub line_at : World → ℕ → Line
line_at x p = record { market = x.markets p; connection = option_map way_of (x.connections p); links = x.links p }

-- each port is the world's
abbrev pub AreLines : World → List PortLine → Type 0
AreLines x ports = (i : ℕ) (line : PortLine) → slice_get ports i ≡ Some line → line_seen line ≡ line_at x (i + 1)

-- ---- worlds

-- the core stands as the world's history leaves it, the history that is kept is the world's, and so is each port
pub record IsAsWorld (s : Settings) (x : World) (w : ClosedWorld) : Type 0 where
  pub core : IsAfter s x.history w.core
  pub history : turns w.history ≡ x.history
  pub moment : w.moment ≡ x.now
  pub count : length w.ports.items ≡ length s.ports
  pub lines : AreLines x w.ports.items

-- the steps, the newest first, lead to a world, and the code's world is this one
pub record IsWorld (s : Settings) (steps : List world.WorldStep) (w : ClosedWorld) : Type 0 where
  pub x : World
  pub leads : LeadsTo s steps x
  pub same : IsAsWorld s x w

-- from this world the step goes to one that the code's is
pub record Goes (s : Settings) (step : world.WorldStep) (x : World) (w : ClosedWorld) : Type 0 where
  pub after : World
  pub happens : Happens s step x after
  pub same : IsAsWorld s after w

-- in this world the core gets the event, which leads to one that the code's is
pub record Gets (s : Settings) (e : Event) (x : World) (w : ClosedWorld) : Type 0 where
  pub after : World
  pub gets : CoreGets s e x after
  pub same : IsAsWorld s after w

-- ---- the core has stepped an event

-- the history has it, and its batch is not yet told
abbrev pub after_turn : Event → Batch → World → World
after_turn e b x = record x { history = record { event = e; batch = b } ∷ x.history }

pub record IsStepped (e : Event) (old new : ClosedWorld) (b : Batch) : Type 0 where
  pub core : (s : Settings) (h : History) → IsAfter s h old.core
      → IsAfter s (record { event = e; batch = b } ∷ h) new.core
  pub history : turns new.history ≡ record { event = e; batch = b } ∷ turns old.history
  pub ports : new.ports ≡ old.ports
  pub moment : new.moment ≡ old.moment
