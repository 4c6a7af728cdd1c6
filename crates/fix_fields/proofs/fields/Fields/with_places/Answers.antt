use Rattle.std.proofs.Common.{List, ℕ, sym, ap, subst}
use Rattle.fix_fields.specs.declared.span.Span.{Span}
use Rattle.fix_fields.specs.Skips.{AreSkips}
use Rattle.fix_fields.specs.Spans.{AreSpans, fields_at}
use Rattle.fix_fields.proofs.fields.Fields.with_places.Goals as goal

pub invariant_of-result : goal.invariant_of-result
invariant_of-result c = (
  subst (λ (t : List ℕ). AreSpans t c.args.spans.items)
      (sym c.in_ok-text.ensures.items) c.requires,
  subst
      (λ (l : List Span). AreSkips c.skips_of-skips.result l) c.as_slice.ensures.value c.skips_of-skips.ensures,
)

pub returns : goal.returns
returns c = ap (λ (t : List ℕ). fields_at t c.args.spans.items) c.in_ok-text.ensures.items
