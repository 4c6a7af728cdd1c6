use Rattle.std.proofs.Common.{eqb, ap, ◌∙◌, arith, w8, take, drop}
use lib.Count.{ones}
use Rattle.std.proofs.lemmas.Simd.{length-chunk, bitmask_splat, ones-mask_l}
use Rattle.fix_fields.proofs.soh.soh_count_of_lanes.Goals as goal

pub returns : goal.returns
returns c =
    let bytes = take 16 (drop c.args.at c.args.text.now) in
    let long = length-chunk c.args.at 16 c.args.text.now c.requires in
    ap ones (bitmask_splat w8 eqb bytes 16 1 long (omega arith)) ∙ ones-mask_l (λ byte. eqb byte 1) bytes
