use Rattle.std.proofs.Common.{◌≡◌, ◌≤◌, ◌<◌, ◌+◌, ◌%◌, ◌/◌, ◌++◌, ◌∷◌, [], List, length, decimal, ℕ, arith, ap, ◌∙◌}
use Rattle.std.proofs.Common.{refl, append_assoc}
use Rattle.fix_fields.proofs.Decimals.{length-tag, one_digit, two_digits, three_digits}
use Rattle.fix_fields.proofs.written.append_tag.Goals as goal
use Rattle.fix_fields.proofs.written.append_tag.Goals.{then-tag-ge10, else-tag-ge10}

pub append_bytes-requires : goal.append_bytes-requires
append_bytes-requires c =
    omega (
      arith,
      ap (λ (l : List ℕ). length l)
          (c.as_bytes.ensures.value ∙ c.format.ensures.text),
      length-tag c.args.tag c.requires.tag.0 c.requires.tag.1,
      c.requires.room,
    )

pub returns-then-tag-ge1000-clause-len : goal.returns-then-tag-ge1000-clause-len
returns-then-tag-ge1000-clause-len c =
    omega (
      arith,
      c.append_bytes.ensures.len,
      ap (λ (l : List ℕ). length l)
          (c.as_bytes.ensures.value ∙ c.format.ensures.text),
      length-tag c.args.tag c.requires.tag.0 c.requires.tag.1,
    )

joined : (text after whole : List ℕ) (a b : ℕ) → after ≡ text ++ a ∷ [] → whole ≡ after ++ b ∷ []
    → whole ≡ text ++ (a ∷ b ∷ [])
joined text after whole a b first then = rw (then, first) (append_assoc text (a ∷ []) (b ∷ []))

pub returns-then-tag-ge100-clause-items : goal.returns-then-tag-ge100-clause-items
returns-then-tag-ge100-clause-items c =
    let a = c.last_digit.result in
    let b = c.last_digit-then-tag-ge100.result in
    let d = c.last_digit-then-tag-ge100-2.result in
    let t = c.args.text.now.items in
    rw (
      three_digits c.args.tag c.if-tag-ge100.true c.if-tag-ge1000.false,
      ← c.last_digit.ensures,
      ←
          c.last_digit-then-tag-ge100.ensures,
      ← c.last_digit-then-tag-ge100-2.ensures,
      c.push_reserved-then-tag-ge100-2.ensures.items,
      c.push_reserved-then-tag-ge100.ensures.items,
      c.push_reserved.ensures.items,
      append_assoc t (a ∷ []) (b ∷ []),
    ) (append_assoc t (a ∷ b ∷ []) (d ∷ []))

pub returns-clause-items : goal.returns-clause-items
returns-clause-items c =
    elim c.if-tag-ge10.branch [
      | then-tag-ge10 w ↦ rw (
        two_digits c.args.tag w.if-tag-ge10.true c.if-tag-ge100.false,
        ←
            w.last_digit-then-tag-ge10.ensures,
        ← c.last_digit-2.ensures,
      )
          (joined c.args.text.now.items c.if-tag-ge10.text.items c.push_reserved-2.new.self.items
          w.last_digit-then-tag-ge10.result c.last_digit-2.result
          (rw w.text-is w.push_reserved-then-tag-ge10.ensures.items) c.push_reserved-2.ensures.items)
      | else-tag-ge10 w ↦ rw (one_digit c.args.tag w.if-tag-ge10.false, ← c.last_digit-2.ensures)
          (rw (← w.text-is) c.push_reserved-2.ensures.items)
    ]
