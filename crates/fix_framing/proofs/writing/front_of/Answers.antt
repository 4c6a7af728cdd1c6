use Rattle.std.proofs.Common.{◌≡◌, ◌≤◌, ◌+◌, ◌-◌, ℕ, List, [], ◌∷◌, ◌++◌, length, take, drop, decimal, rules, arith, ap}
use Rattle.std.proofs.Common.{◌∙◌, length-append}
use Rattle.std.proofs.lemmas.Fmt.{length-decimal-le}
use Rattle.std.proofs.lemmas.List.{drop_at, drop-drop, take_all, length-drop, length-take-le}
use borrow.Rule.Slice.PartMut.{put_mid}
use Rattle.fix_framing.specs.Frame.{head, opening}
use Rattle.fix_framing.proofs.writing.front_of.Goals as goal

pub write_digits-digits-requires : goal.write_digits-digits-requires
write_digits-digits-requires c = search (rules, length-decimal-le 20)

-- the room behind the place of the digits
room : (buffer : List ℕ) (digits size : ℕ) → drop digits buffer ≡ decimal size ++ 1 ∷ [] → digits ≤ length buffer
room buffer digits size behind = omega (
  arith,
  ap length behind
      ∙ length-append (decimal size) (1 ∷ []),
  length-drop digits buffer,
)

-- what stands from the opening on
opened : (buffer written : List ℕ) (digits size : ℕ) → 12 ≤ digits → digits + length (decimal size) ≡ 39
    → drop digits buffer ≡ decimal size ++ 1 ∷ [] → written ≡ opening
    → take (40 - (digits - 12)) (drop (digits - 12) (put_mid (digits - 12) (digits - (digits - 12)) buffer written))
    ≡ head (decimal size)
opened buffer written digits size some ends behind is =
    let after : drop (digits - (digits - 12)) (drop (digits - 12) buffer) ≡ decimal size ++ 1 ∷ [] =
    drop-drop (digits - (digits - 12)) (digits - 12) buffer ∙ ap (λ n. drop n buffer) (omega (arith, some)) ∙ behind in
    let whole : drop (digits - 12) (put_mid (digits - 12) (digits - (digits - 12)) buffer written)
    ≡ head (decimal size) =
    drop_at (take (digits - 12) buffer) (written ++ drop (digits - (digits - 12)) (drop (digits - 12) buffer))
    (digits - 12) (length-take-le (digits - 12) buffer (omega (arith, room buffer digits size behind)))
    ∙ ap (λ (l : List ℕ). l ++ drop (digits - (digits - 12)) (drop (digits - 12) buffer)) is
    ∙ ap (λ (l : List ℕ). opening ++ l) after in
    ap (λ (l : List ℕ). take (40 - (digits - 12)) l) whole
    ∙ take_all (40 - (digits - 12)) (head (decimal size))
    (omega (arith, some, ends, length-append (decimal size) (1 ∷ [])))

pub overflow_sub-start : goal.overflow_sub-start
overflow_sub-start c =
    let short : length (decimal c.args.size) ≤ 20 = search (rules, length-decimal-le 20) in
    omega (arith, short, c.write_digits-digits.ensures.start)

pub copy_from_slice-requires : goal.copy_from_slice-requires
copy_from_slice-requires c =
    let short : length (decimal c.args.size) ≤ 20 = search (rules, length-decimal-le 20) in
    let digits = c.write_digits-digits.result in
    let fits = room c.write_digits-digits.new.buf digits c.args.size c.write_digits-digits.ensures.written in
    length-take-le (digits - (digits - 12)) (drop (digits - 12) c.write_digits-digits.new.buf)
    (omega (
      arith,
      short,
      c.write_digits-digits.ensures.start,
      fits,
      length-drop
          (digits - 12) c.write_digits-digits.new.buf,
    ))
    ∙ omega (arith, short, c.write_digits-digits.ensures.start)

pub returns-clause-front : goal.returns-clause-front
returns-clause-front c =
    let short : length (decimal c.args.size) ≤ 20 = search (rules, length-decimal-le 20) in
    opened c.write_digits-digits.new.buf c.copy_from_slice.new.self c.write_digits-digits.result c.args.size
    (omega (arith, short, c.write_digits-digits.ensures.start)) c.write_digits-digits.ensures.start
    c.write_digits-digits.ensures.written c.copy_from_slice.ensures.after
