use Rattle.std.proofs.Common.{◌≡◌, List, ℕ, sym, ap, ◌∙◌, arith}
use Rattle.std.specs.Int.{w64, from_be_bytes}
use Rattle.journal_file.specs.Sum.{mixed, sum_from}
use Rattle.journal_file.proofs.Summed.{word-more}
use Rattle.journal_file.proofs.sum.sum_of.Goals as goal

pub loop-rest-preserved : goal.loop-rest-preserved
loop-rest-preserved c =
    let rest : List ℕ = c.loop-rest.rest.now in
    let sum : c.mixed-sum.result ≡ mixed c.loop-rest.sum (from_be_bytes w64 rest) = c.mixed-sum.ensures
    ∙ ap (mixed c.loop-rest.sum) c.first_word.ensures in
    ap (λ n. sum_from n c.split_at.result.1.now) sum
    ∙ ap (sum_from (mixed c.loop-rest.sum (from_be_bytes w64 rest))) c.split_at.ensures.back
    ∙ sym (word-more c.loop-rest.sum rest (omega arith)) ∙ c.loop-rest.invariant
