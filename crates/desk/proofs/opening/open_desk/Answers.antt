use Rattle.std.proofs.Common.{List, ap, subst, ◌∙◌}
use Rattle.std.specs.Prelude.{map}
use Rattle.desk_rings.specs.Made.{inlet_name}
use Rattle.desk_rings.specs.Rings.{NamedInlet, NamedOutlet}
use Rattle.desk_steps.specs.Agreeing.{Agrees}
use Rattle.desk.specs.Offered.{Offered}
use Rattle.desk.proofs.opening.open_desk.Goals as goal

pub new-requires : goal.new-requires
new-requires g c =
    let inlets = ap (λ (o : Offered). o.inlets) c.parts.view_is ∙ c.requires.named.0 in
    let outlets = ap (λ (o : Offered). o.outlets) c.parts.view_is ∙ c.requires.named.1 in
    record {
      agree = subst (λ (z : List NamedInlet). Agrees z g.K.DeskName.outlets
          (record { recorded = c.parts.inside.recorded; side = c.parts.inside.side })) inlets
          (subst (λ (z : List NamedOutlet). Agrees (map inlet_name c.parts.inside.inlets.items) z
          (record { recorded = c.parts.inside.recorded; side = c.parts.inside.side })) outlets
          c.parts.invariant.agrees);
    }
