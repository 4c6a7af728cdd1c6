use Rattle.std.proofs.Common.{[], ap, ◌∙◌, sym, arith}
use Rattle.fix_framing.specs.Stream.{place}
use Rattle.fix_framing.proofs.Parts.{on_skipped}
use Rattle.fix_framing.proofs.scan.next_of.Goals as goal

pub loop-at-preserved : goal.loop-at-preserved
loop-at-preserved c = on_skipped c.args.text.now [] c.loop-at.at c.loop-at.at c.loop-at.invariant
    (sym c.in-Skipped.ensures ∙ ap place c.split_at.ensures.back)

pub loop-at-smaller : goal.loop-at-smaller
loop-at-smaller c =
    let on = on_skipped c.args.text.now [] c.loop-at.at c.loop-at.at c.loop-at.invariant
    (sym c.in-Skipped.ensures ∙ ap place c.split_at.ensures.back) in
    omega (arith, on.within)
