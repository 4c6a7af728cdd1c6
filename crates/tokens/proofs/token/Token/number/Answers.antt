use Rattle.std.proofs.Common.{rules, ◌≡◌, ℕ, List, get_or, drop, arith, sym, ap, ◌∙◌}
use Rattle.std.proofs.lemmas.List.{get_or-take}
use Rattle.wire_bytes.proofs.Numbers.{number_of_short}
use Rattle.tokens.specs.TokenText.{last_digits}
use Rattle.tokens.proofs.Digits.{no_digits, spelled_all, digits_behind, token_number, text_from}
use Rattle.tokens.proofs.token.Token.number.Goals as goal

pub returns-in_err-number : goal.returns-in_err-number
returns-in_err-number c = rw c.from_residual.ensures
    (λ n has e. no_digits c.split_at.result.1.now c.in_err-number.ensures n
    (c.split_at.ensures.back ∙ digits_behind c.args.bytes.now n e))

pub returns-then-number-eq0 : goal.returns-then-number-eq0
returns-then-number-eq0 c = λ n has e.
    let read = c.in_ok-number.ensures in
    let digits : drop 1 c.args.bytes.now ≡ last_digits 13 c.in_ok-number.number =
    sym c.split_at.ensures.back ∙ spelled_all c.split_at.result.1.now (search rules) read.0.0
    ∙ ap (λ n. last_digits 13 n) (sym read.1) in
    let same = token_number c.args.bytes.now c.in_ok-number.number n (omega arith) has.short digits e in
    omega (arith, same, has.some)

pub returns-else-number-eq0 : goal.returns-else-number-eq0
returns-else-number-eq0 c =
    let read = c.in_ok-number.ensures in
    let digits : drop 1 c.args.bytes.now ≡ last_digits 13 c.in_ok-number.number =
    sym c.split_at.ensures.back ∙ spelled_all c.split_at.result.1.now (search rules) read.0.0
    ∙ ap (λ n. last_digits 13 n) (sym read.1) in
    let small = number_of_short c.split_at.result.1.now 13 read.0.0 (search rules) in (
      record { some = omega arith; short = omega (arith, small, read.1) },
      text_from c.args.bytes.now
          c.in_ok-number.number (search rules) (sym (get_or-take 1 c.args.bytes.now 0 0 (omega arith))
          ∙ ap (λ (t : List ℕ). get_or t 0 0) (sym c.split_at.ensures.front) ∙ c.if-first-ne71.false) digits,
    )
