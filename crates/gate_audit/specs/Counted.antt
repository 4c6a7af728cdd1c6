-- What the code keeps of the reports so far is what they say.
use Rattle.std.specs.Prelude.{◌≡◌, List, reverse}
use Rattle.gate_audit.specs.declared.openings.Openings.{Openings}
use Rattle.gate_audit.specs.Pairs.{HasTokenNumbers, SaidToClient, opened_orders, tokens_given}

pub record IsOf (all : List SaidToClient) (x : Openings) : Type 0 where
  pub given : x.given ≡ tokens_given all
  pub few : HasTokenNumbers all
  pub orders : x.orders.items ≡ reverse (opened_orders all)
