use Rattle.std.proofs.Common.{ℕ, ap, ◌∙◌, arith}
use Rattle.std.specs.Prelude.{slice_index}
use Rattle.std.proofs.lemmas.List.{get_or-replicate}
use Rattle.fix_fields.proofs.Skipping.{none_yet, one_more_at}
use Rattle.fix_fields.proofs.skips.skips_among.Goals as goal

pub loop-at-init : goal.loop-at-init
loop-at-init c = record {
  within = omega arith;
  skips = λ remainder small. none_yet c.args.spans.now remainder c.args.count _
      (get_or-replicate 64 remainder c.args.count 0 small) c.requires;
}

pub loop-at-preserved : goal.loop-at-preserved
loop-at-preserved c = record {
  within = omega (arith, c.loop-at.invariant.within);
  skips = λ remainder small.
      one_more_at c.args.spans.now remainder c.loop-at.at c.from.result _ _ _ c.from.ensures c.loop-at-test.true
      (omega (arith, c.loop-at.invariant.within, c.requires)) (c.loop-at.invariant.skips remainder small)
      (λ e. ap (λ (n : ℕ). slice_index c.set_skip.new.skips n) e ∙ c.set_skip.ensures.set)
      (c.set_skip.ensures.others remainder);
}
