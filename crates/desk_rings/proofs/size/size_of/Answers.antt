use Rattle.std.proofs.Common.{arith}
use Rattle.desk_rings.proofs.Sizes.{size_more}
use Rattle.desk_rings.proofs.size.size_of.Goals as goal

pub loop-out-preserved : goal.loop-out-preserved
loop-out-preserved c =
    let more = size_more c.as_slice-out-items.result.now c.loop-out.out-index c.out-item.result
    (omega (arith, c.loop-out-test.true)) c.out-item.is in
    let now = c.bytes_of.ensures in
    let sum = c.saturating_add.ensures in
    let least = c.min-size.ensures in
    let was = c.loop-out.invariant in (
      omega (arith, least),
      omega (arith, more, now, sum, least, was.1),
      λ less. omega (arith, more, now, sum, least, was.0, was.1, was.2, less),
    )
