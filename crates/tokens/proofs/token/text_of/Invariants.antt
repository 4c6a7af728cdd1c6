use Rattle.std.proofs.Common.{◌≡◌, ◌-◌, ◌++◌, drop, get_or, length}
use Rattle.tokens.specs.TokenText.{last_digits}
use Rattle.tokens.proofs.token.text_of.Given as goal

abbrev pub invariant-loop-i : goal.invariant-loop-i
invariant-loop-i l = record {
  len : length l.bytes ≡ 14;
  first : get_or l.bytes 0 0 ≡ 71;
  digits : last_digits (13 - l.i) l.rest ++ drop (14 - l.i) l.bytes ≡ last_digits 13 l.number;
}
