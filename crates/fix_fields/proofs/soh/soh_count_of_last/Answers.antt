use Rattle.std.proofs.Common.{ℕ, eqb, ap, ◌∙◌, ◌-◌, ◌/◌, ◌^◌, arith, w8, length, take, drop}
use lib.Count.{ones}
use Rattle.std.proofs.lemmas.Simd.{length-chunk, bitmask_splat, ones-mask_l}
use Rattle.fix_fields.proofs.Marks.{last_marks}
use Rattle.fix_fields.proofs.soh.soh_count_of_last.Goals as goal

pub returns : goal.returns
returns c =
    let text = c.args.text.now in
    let bytes = take 16 (drop (length text - 16) text) in
    let long = length-chunk (length text - 16) 16 text (omega (arith, c.requires.room)) in
    ap (λ (n : ℕ). ones (n / 2 ^ (16 - c.args.size))) (bitmask_splat w8 eqb bytes 16 1 long (omega arith))
    ∙ ap ones (last_marks (λ byte. eqb byte 1) text c.args.size c.requires.few c.requires.room)
    ∙ ones-mask_l (λ byte. eqb byte 1) (drop (length text - c.args.size) text)
