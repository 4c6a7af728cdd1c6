use Rattle.std.proofs.Common.{◌≡◌, length, map, sym, ap, subst, arith}
use Rattle.std.specs.Prelude.{vec_len}
use Rattle.std.proofs.lemmas.List.{length-map}
use Rattle.outstanding.specs.Chaining.{AreNoted}
use Rattle.outstanding.specs.Leading.{AreChained}
use Rattle.outstanding.specs.Marks.{awaited_again, unmarked}
use Rattle.outstanding.proofs.Chaining.{chained-kept}
use Rattle.outstanding.proofs.Answered.{unmarked-given, noted-free, map-keeps, settled-again}
use Rattle.outstanding.proofs.places.Places.unmark.Goals as goal

pub invariant_of-self-inside : goal.invariant_of-self-inside
invariant_of-self-inside c =
    let p = c.self.inside in
    let xs = p.messages.items in
    let n = vec_len p.chains.heads in
    let same : vec_len c.unmark.new.messages ≡ vec_len p.messages =
    omega (arith, ap length c.unmark.ensures.items, length-map xs unmarked) in (
      subst (AreChained p.chains) (sym c.unmark.ensures.items)
          (chained-kept n p.chains.heads.items p.chains.older.items xs (map unmarked xs)
          (map-keeps (λ x. awaited_again) (λ x r e. settled-again r e) xs) p.chained),
      (
        subst (AreNoted c.unmark.new.given.items) (sym c.unmark.ensures.items)
            (noted-free unmarked unmarked-given c.unmark.new.given.items xs),
        (
          omega (arith, same, c.unmark.ensures.messages_fit),
          (
            omega (arith, same),
            (
              omega (arith, c.unmark.ensures.given_fit, ap length c.unmark.ensures.none, c.unmark.ensures.room),
              (omega (arith, same), (λ some. p.buckets some, tt)),
            ),
          ),
        ),
      ),
    )
