-- Equal keys are had alike.
use Rattle.std.proofs.Common.{◌≡◌, true, ap, eqb-true}
use Rattle.undo_index.specs.declared.number_count.NumberCount.{NumberCount}
use Rattle.undo_index.specs.declared.number_count.NumberKey.{NumberKey}
use Rattle.undo_index.specs.Counts.{has_number, is_of, same_number}

pub count-alike : (x y : NumberKey) (c : NumberCount) → same_number x y ≡ true → has_number x c ≡ has_number y c
count-alike x y c e = ap (λ n. is_of n c) (eqb-true x.number y.number e)
