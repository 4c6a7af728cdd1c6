use Rattle.std.proofs.Common.{rules, sym, ◌∙◌, ap}
use Rattle.std.specs.Int.{to_le_bytes, w64}
use Rattle.wire_bytes.proofs.SameTokens.{same-bytes}
use Rattle.wire_bytes.proofs.same_token.is_same_token.Goals as goal

pub returns-then-word_of : goal.returns-then-word_of
returns-then-word_of c =
    same-bytes c.args.token.now c.args.other.now c.word_of-then-word_of.result c.word_of-then-word_of-2.result
    (search rules) (search rules)
    (sym c.word_of.ensures.bytes ∙ ap (λ k. to_le_bytes w64 k) c.if-word_of.true ∙ c.word_of-2.ensures.bytes)
    c.word_of-then-word_of.ensures.word c.word_of-then-word_of.ensures.bytes c.word_of-then-word_of-2.ensures.word
    c.word_of-then-word_of-2.ensures.bytes
