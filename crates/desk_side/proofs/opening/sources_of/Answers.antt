use Rattle.std.proofs.Common.{◌≡◌, ◌∙◌, ◌∷◌, [], ap, arith, length, length-append}
use Rattle.gate_events.specs.declared.source.Source.{Source}
use Rattle.desk_side.specs.Places.{source_at}
use Rattle.desk_side.proofs.Arranging.{each-and-one}
use Rattle.desk_side.proofs.opening.sources_of.Goals as goal

pub loop-place-preserved : goal.loop-place-preserved
loop-place-preserved c = record {
  count = ap length c.in_ok-push.ensures.items
      ∙ omega (arith, length-append c.loop-place.sources.items (c.source_at.result ∷ []), c.loop-place.invariant.count);
  each = rw c.in_ok-push.ensures.items (each-and-one
      (λ k (source : Source). source ≡ source_at c.args.clients c.args.ports k) c.loop-place.sources.items
      c.source_at.result c.loop-place.invariant.each
      (rw c.loop-place.invariant.count c.source_at.ensures));
}
