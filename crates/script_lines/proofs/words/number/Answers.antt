-- Digits, one at least, are read as they stand.
use Rattle.std.proofs.Common.{rules, ◌≡◌, ◌↔◌, ℕ, ◌<◌, ◌^◌, List, length, sym, true, false, refl, arith}
use Rattle.std.specs.Prelude.{Option, Some, None, IsSome, SomeIff, is_some}
use Rattle.std.proofs.lemmas.Bool.Decides.{nat_tests}
use Rattle.wire_bytes.specs.Digits.{number_of, AreDigitsBelow}
use Rattle.script_lines.specs.Words.{IsNumberBelow}
use Rattle.script_lines.specs.Forms.{is_number64}
use Rattle.script_lines.proofs.Tests.{any_number_form}
use Rattle.script_lines.proofs.words.number.Goals as goal

read : (n : Option ℕ) (word : List ℕ) → SomeIff n (AreDigitsBelow (2 ^ 64) word) (number_of word) → 0 < length word
    → IsSome n ↔ IsNumberBelow (2 ^ 64) word
read None word h some = (λ is. cc, λ below. absurd (h (below.0, below.2)))
read (Some n) word h some = (λ is. (h.0.0, some, h.0.1), λ below. refl)

pub returns-clause-number : goal.returns-clause-number
returns-clause-number c = read c.number_of.result c.args.word.now c.number_of.ensures (grind (arith, nat_tests))

pub returns-clause-form : goal.returns-clause-form
unfolding is_number64
returns-clause-form c = any_number_form (2 ^ 64) c.args.word.now (is_some c.number_of.result) (returns-clause-number c)

pub returns-then-is_empty-clause-form : goal.returns-then-is_empty-clause-form
unfolding is_number64
returns-then-is_empty-clause-form c = any_number_form (2 ^ 64) c.args.word.now false (search rules)
