use Rattle.std.proofs.Common.{◌≡◌, length, map, sym, ap, subst, arith}
use Rattle.std.specs.Prelude.{filter, vec_len}
use Rattle.std.proofs.lemmas.List.{length-map}
use Rattle.outstanding.specs.Chaining.{AreNoted}
use Rattle.outstanding.specs.Leading.{AreChained}
use Rattle.outstanding.specs.Marks.{settled_now, settled_one, is_unanswered}
use Rattle.outstanding.proofs.Chaining.{chained-kept}
use Rattle.outstanding.proofs.Marks.{unanswered-settled_one}
use Rattle.outstanding.proofs.Answered.{settled_one-given, noted-free, map-keeps, settled-now}
use Rattle.outstanding.proofs.places.Places.settle_marked.Goals as goal

pub invariant_of-self-inside : goal.invariant_of-self-inside
invariant_of-self-inside c =
    let p = c.self.inside in
    let xs = p.messages.items in
    let n = vec_len p.chains.heads in
    let same : vec_len c.settle_marked.new.messages ≡ vec_len p.messages =
    omega (arith, ap length c.settle_marked.ensures.items, length-map xs settled_one) in (
      subst (AreChained p.chains) (sym c.settle_marked.ensures.items)
          (chained-kept n p.chains.heads.items p.chains.older.items xs (map settled_one xs)
          (map-keeps (λ x. settled_now) (λ x r e. settled-now r e) xs) p.chained),
      (
        subst (AreNoted c.settle_marked.new.given.items) (sym c.settle_marked.ensures.items)
            (noted-free settled_one settled_one-given c.settle_marked.new.given.items xs),
        (
          omega (arith, same, c.settle_marked.ensures.messages_fit),
          (
            omega (arith, same),
            (
              omega (
                arith,
                c.settle_marked.ensures.given_fit,
                ap length c.settle_marked.ensures.none,
                ap (λ ys. length (filter is_unanswered ys)) c.settle_marked.ensures.items,
                ap length (unanswered-settled_one xs),
              ),
              (omega (arith, same), (λ some. p.buckets some, tt)),
            ),
          ),
        ),
      ),
    )
