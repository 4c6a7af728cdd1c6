use Rattle.std.proofs.Common.{◌≡◌, ℕ, ◌+◌, ◌-◌, ◌%◌, ◌++◌, ◌≢◌, ◌<◌, List, subst, drop, arith, ◌∙◌, length-set}
use Rattle.std.proofs.Common.{get_or-set_other}
use Rattle.tokens.specs.TokenText.{last_digits, token_text}
use Rattle.tokens.proofs.Digits.{text_from, digit_before, printable-token}
use Rattle.tokens.proofs.token.text_of.Goals as goal

pub loop-i-preserved : goal.loop-i-preserved
loop-i-preserved c =
    let lt : c.loop-i.i < 13 = c.loop-i-test.true in
    let ne : 0 ≢ 13 - c.loop-i.i = omega arith in
    record {
      len = length-set c.loop-i.bytes (13 - c.loop-i.i) (48 + c.loop-i.rest % 10) ∙ c.loop-i.invariant.len;
      first = get_or-set_other c.loop-i.bytes (13 - c.loop-i.i) 0 (48 + c.loop-i.rest % 10) 0 ne
          ∙ c.loop-i.invariant.first;
      digits = digit_before c.loop-i.i c.loop-i.rest c.loop-i.bytes lt c.loop-i.invariant.len
          ∙ c.loop-i.invariant.digits;
    }

at_end : (i n rest : ℕ) (bytes : List ℕ) → i ≡ 13 → last_digits (13 - i) rest ++ drop (14 - i) bytes ≡ last_digits 13 n
    → drop 1 bytes ≡ last_digits 13 n
unfolding last_digits
at_end i n rest bytes e h = subst (λ (k : ℕ). last_digits (13 - k) rest ++ drop (14 - k) bytes ≡ last_digits 13 n) e h

text : (c : goal.After-loop-i) → c.loop-i.bytes ≡ token_text c.args.number
text c = text_from c.loop-i.bytes c.args.number c.loop-i.invariant.len c.loop-i.invariant.first
    (at_end c.loop-i.i c.args.number c.loop-i.rest c.loop-i.bytes (omega arith) c.loop-i.invariant.digits)

pub returns : goal.returns
returns c = record { text = text c; printable = printable-token c.loop-i.bytes c.args.number (text c) }
