use Rattle.std.proofs.Common.{List, ℕ, length, ap, ◌∙◌, arith}
use Rattle.fix_fields.proofs.Decimals.{length-tag}
use Rattle.fix_printing.proofs.placed.put_long_tag.Goals as goal

pub put-requires-2 : goal.put-requires-2
put-requires-2 c =
    omega (
      arith,
      ap (λ (l : List ℕ). length l)
          (c.as_bytes-digits.ensures.value ∙ c.format.ensures.text),
      length-tag c.args.tag c.requires.tag.0
          c.requires.tag.1,
      c.requires.room,
      c.put.ensures.length,
    )

pub returns-clause-end : goal.returns-clause-end
returns-clause-end c =
    omega (
      arith,
      ap (λ (l : List ℕ). length l)
          (c.as_bytes-digits.ensures.value ∙ c.format.ensures.text),
      length-tag c.args.tag c.requires.tag.0
          c.requires.tag.1,
    )
