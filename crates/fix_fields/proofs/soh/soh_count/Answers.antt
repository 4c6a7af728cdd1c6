use Rattle.std.proofs.Common.{◌≡◌, ◌+◌, ◌-◌, ℕ, ap, arith, length, drop}
use Rattle.fix_fields.specs.Front.{sohs}
use Rattle.fix_fields.proofs.Ending.{sohs_more, sohs_all, few_sohs}
use Rattle.fix_fields.proofs.soh.soh_count.Goals as goal

pub overflow_add-count : goal.overflow_add-count
overflow_add-count c =
    let text = c.args.text.now in
    let more = sohs_more text c.loop-at.at 16 in
    omega (
      arith,
      c.loop-at.invariant.counted,
      c.soh_count_of_lanes-count.ensures,
      more,
      few_sohs text
          (c.loop-at.at + 16),
    )

pub loop-at-preserved : goal.loop-at-preserved
loop-at-preserved c =
    let more = sohs_more c.args.text.now c.loop-at.at 16 in
    record {
      within = omega arith;
      counted = omega
          (arith, c.loop-at.invariant.counted, c.soh_count_of_lanes-count.ensures, more);
    }

pub returns : goal.returns
returns c =
    let text = c.args.text.now in
    let behind : length text - (length text - c.loop-at.at) ≡ c.loop-at.at =
    omega (arith, c.loop-at.invariant.within) in
    let rest = ap (λ (n : ℕ). sohs (drop n text)) behind in
    omega (arith, c.loop-at.invariant.counted, c.soh_count_of_last.ensures, rest, sohs_all text c.loop-at.at)
