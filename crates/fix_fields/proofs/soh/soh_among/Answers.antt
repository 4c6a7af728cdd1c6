use Rattle.std.proofs.Common.{eqb, sym, ap, ◌∙◌, arith, w8, take, drop}
use lib.Count.{count_trailing_zeros}
use Rattle.std.proofs.lemmas.Simd.{length-chunk, bitmask_splat, leading_from_mask_l, trailing_mask_l}
use Rattle.fix_fields.proofs.Ending.{soh_among, soh_after}
use Rattle.fix_fields.proofs.soh.soh_among.Goals as goal

pub returns-then-marks-eq0 : goal.returns-then-marks-eq0
returns-then-marks-eq0 c =
    let bytes = take 16 (drop c.args.at c.args.text.now) in
    let long = length-chunk c.args.at 16 c.args.text.now c.requires in
    let marks = bitmask_splat w8 eqb bytes 16 1 long (omega arith) in
    soh_after c.args.text.now c.args.at c.requires
    (leading_from_mask_l (λ byte. eqb byte 1) bytes (sym marks ∙ c.if-marks-eq0.true) ∙ long)

pub returns-else-marks-eq0 : goal.returns-else-marks-eq0
returns-else-marks-eq0 c =
    let bytes = take 16 (drop c.args.at c.args.text.now) in
    let long = length-chunk c.args.at 16 c.args.text.now c.requires in
    let marks = bitmask_splat w8 eqb bytes 16 1 long (omega arith) in
    soh_among c.args.text.now c.args.at _ c.requires (λ none. c.if-marks-eq0.false (marks ∙ none))
    (ap (count_trailing_zeros 64) marks ∙ trailing_mask_l (λ byte. eqb byte 1) 64 bytes (omega arith) (omega arith))
