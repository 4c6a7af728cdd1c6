-- Runs of the machine, and what it said of one order.
use Rattle.std.specs.Prelude.{ℕ, ◌==◌, List, [], ◌∷◌, ◌++◌, if◌then◌else◌}
use Rattle.order_law.specs.ouch_codec.declared.inbound.Inbound.{Inbound}
use Rattle.order_law.specs.ouch_codec.declared.outbound.Outbound.{Outbound}
use Rattle.order_law.specs.declared.stage.Stage.TheVariants.{Working, Closed}
use Rattle.order_law.specs.Life.{Life}
use Rattle.market_law.specs.declared.choice.Choice.{Choice}
use Rattle.market_law.specs.Machine.{Machine, BookOrder, Step, opening_machine, inbound, act, tokens_of}

-- a message comes and is answered by a choice, or the market acts by itself
pub data Move : Type 0 where
  Comes : Inbound → Choice → Move
  Acts : Choice → Move

abbrev pub moves : Machine → Move → Step
moves m (Comes message choice) = inbound m message choice
moves m (Acts choice) = act m choice

pub record Ran : Type 0 where
  pub machine : Machine
  -- all that it said, the newest first
  pub said : List Outbound

abbrev pub then_says : Step → List Outbound → Ran
then_says step earlier = record { machine = step.machine; said = step.says ++ earlier }

-- after these moves, the newest first
abbrev pub ran : List Move → Ran
ran [] = record { machine = opening_machine; said = [] }
ran (move ∷ before) = then_says (moves (ran before).machine move) (ran before).said

-- what the machine keeps of an order, as the life that the gateway reads of it; `side` is any
abbrev pub life_in_book : ℕ → BookOrder → Life
life_in_book side c = record {
  side = side;
  tokens = tokens_of c;
  stage = if c.unfilled == 0 then Closed else Working;
  unfilled = c.unfilled;
  executed = c.executed;
  cancelled = c.cancelled;
  value = c.value;
  trades = c.trades;
}
