-- What a call did is a step of the law.
use Rattle.std.specs.Prelude.{◌≡◌, List}
use Rattle.ouch_codec.specs.declared.outbound.Outbound.{Outbound}
use Rattle.market_law.specs.Machine.{Machine, Step}

-- the machine is the step's, and so is what was said
pub record IsStepOf (step : Step) (machine : Machine) (says : List Outbound) : Type 0 where
  pub machine_is : machine ≡ step.machine
  pub says_is : says ≡ step.says
