use Rattle.std.proofs.Common.{arith}
use Rattle.fix_fields.proofs.TagPlaces.{not_soh, is_soh}
use Rattle.fix_fields.proofs.soh.next_soh_by_one.Goals as goal

pub loop-end-preserved : goal.loop-end-preserved
loop-end-preserved c =
    let l = c.loop-end.invariant in
    let before = not_soh c.args.text.now c.args.start c.loop-end.end c.requires l.most c.loop-end-test.true in
    record { ordered = omega arith; most = omega (arith, before) }

pub returns : goal.returns
returns c =
    let l = c.loop-end.invariant in
    is_soh c.args.text.now c.args.start c.loop-end.end l.ordered l.most c.loop-end-test.false
