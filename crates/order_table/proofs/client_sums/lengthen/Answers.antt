use Rattle.std.proofs.Common.{◌≡◌, List, [], ◌∷◌, ◌++◌, length-append, ap, ◌∙◌, arith}
use Rattle.order_table.specs.declared.sums.Sums.{Sums}
use Rattle.order_table.specs.Sums.{no_sums, sums_at}
use Rattle.order_table.proofs.Summed.{none-more}
use Rattle.order_table.proofs.client_sums.lengthen.Goals as goal

pub loop-place-preserved : goal.loop-place-preserved
loop-place-preserved c =
    let longer : c.push.new.self.now ≡ c.loop-place.sums.now ++ no_sums ∷ [] = c.push.ensures.now
    ∙ ap (λ (s : Sums). c.reserve_push.new.self.now ++ s ∷ []) c.none.ensures
    ∙ ap (λ (xs : List Sums). xs ++ no_sums ∷ []) c.in_ok-reserve_push.ensures.now in record {
      as_long = rw longer (omega (
        arith,
        c.loop-place.invariant.as_long,
        length-append c.loop-place.sums.now
            (no_sums ∷ []),
      ));
      longer = rw longer (omega (
        arith,
        c.loop-place.invariant.longer,
        length-append c.loop-place.sums.now
            (no_sums ∷ []),
      ));
      same = λ other. ap (λ (xs : List Sums). sums_at xs other) longer ∙ none-more c.loop-place.sums.now other
          ∙ c.loop-place.invariant.same other;
      settled = c.push.ensures.settled ∙ c.in_ok-reserve_push.ensures.settled ∙ c.loop-place.invariant.settled;
    }
