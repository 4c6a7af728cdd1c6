-- A round keeps what a desk keeps, whatever it answers.
use Rattle.std.proofs.Common.{◌<◌, ◌^◌, List, length, map, Result, Ok, Err, IfOk, OnErr, ap, arith}
use Rattle.std.proofs.lemmas.List.{length-map}
use Rattle.desk_rings.specs.Rings.{NamedInlet, NamedOutlet}
use Rattle.desk_rings.specs.CoreEnds.{consumer_name}
use Rattle.desk_steps.specs.Agreeing.{Agrees, DeskState}
use Rattle.desk_steps.specs.Turning.{RoundIsRefused, Rounds}
use Rattle.desk_steps.specs.declared.turned.Turned.{Turned}
use Rattle.desk_steps.proofs.OneMore.{refused-agree, rounds-agree}

pub round-agrees : {E : Type 0} (inlets : List NamedInlet) (outlets : List NamedOutlet) (result : Result Turned E)
    (s t : DeskState) → Agrees inlets outlets s
    → IfOk result (λ turned. Rounds turned s t) → OnErr result (RoundIsRefused s t) → Agrees inlets outlets t
round-agrees inlets outlets (Ok turned) s t h ok err = rounds-agree inlets outlets turned s t h ok
round-agrees inlets outlets (Err e) s t h ok err = refused-agree inlets outlets s t h err

pub few-consumers : (inlets : List NamedInlet) (outlets : List NamedOutlet) (s : DeskState) → Agrees inlets outlets s
    → length s.side.consumers < 2 ^ 32
few-consumers inlets outlets s h = omega (
  arith,
  h.few,
  ap length h.consumer_names,
  length-map s.side.consumers
      consumer_name,
)
