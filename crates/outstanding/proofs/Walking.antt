-- What a message from the market answers is of its order, so the chain of the order's bucket leads to it.
use Rattle.std.proofs.Common.{◌≡◌, ℕ, ◌<◌, ◌^◌, Bool, true, false, List, refl, ap, ◌∙◌, decimal, ne_eqb}
use Rattle.std.specs.Prelude.{◌==◌, ◌&&◌, ◌||◌}
use Rattle.order_law.specs.ouch_codec.declared.outbound.Outbound.{Outbound}
use Rattle.order_law.specs.History.{answers}
use Rattle.outstanding.specs.Chaining.{bucket}
use Rattle.outstanding.specs.Kept.{asked_by_fields, is_answered_by}
use Rattle.outstanding.specs.Marks.{marked_by}
use Rattle.outstanding.proofs.Holding.{answered-by_fields}
use Rattle.outstanding.proofs.Answered.{IsOfBucket, marked-not, marked-settled, marked-twice}

and-other : (p o x : Bool) → o ≡ false → (p && (o && x)) ≡ false
and-other true o x e = rw e refl
and-other false o x e = refl

pub answers-own : (n port : ℕ) (m : Outbound) (next : List (List ℕ)) (order_id : ℕ) (is_closed : Bool)
    → order_id < 2 ^ 64
    → IsOfBucket (marked_by (is_answered_by port m next (decimal order_id) is_closed)) n (bucket n order_id)
answers-own n port m next order_id is_closed small = record {
  twice = marked-twice (is_answered_by port m next (decimal order_id) is_closed);
  settled = marked-settled (is_answered_by port m next (decimal order_id) is_closed);
  other = λ x x_small differ. marked-not (is_answered_by port m next (decimal order_id) is_closed) x
      (answered-by_fields x port m next order_id is_closed x_small small
      ∙ and-other (x.port == port) (x.order_id == order_id)
      (answers m next (asked_by_fields x.message) || is_closed)
      (ne_eqb x.order_id order_id (λ same. differ (ap (bucket n) same))));
}
