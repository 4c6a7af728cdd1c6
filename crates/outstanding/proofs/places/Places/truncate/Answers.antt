use Rattle.std.proofs.Common.{◌≤◌, length, sym, ap, subst, arith}
use Rattle.std.specs.Prelude.{filter, vec_len}
use Rattle.std.proofs.lemmas.List.{length-take}
use Rattle.outstanding.specs.Chaining.{AreNoted}
use Rattle.outstanding.specs.Marks.{is_unanswered}
use Rattle.outstanding.proofs.Marks.{count-first}
use Rattle.outstanding.proofs.Answered.{noted-first}
use Rattle.outstanding.proofs.places.Places.truncate.Goals as goal

pub invariant_of-self-inside : goal.invariant_of-self-inside
invariant_of-self-inside c =
    let p = c.self.inside in
    let xs = p.messages.items in
    let fewer : vec_len c.truncate.new.messages ≤ vec_len p.messages =
    omega (arith, ap length c.truncate.ensures.items, length-take c.args.count xs) in (
      c.truncate.ensures.chained,
      (
        subst (AreNoted p.given.items) (sym c.truncate.ensures.items)
            (noted-first p.given.items c.args.count xs p.noted),
        (
          omega (arith, fewer, c.truncate.ensures.messages_fit),
          (
            omega (arith, fewer, c.truncate.ensures.chains_fit),
            (
              omega (
                arith,
                ap (λ ys. length (filter is_unanswered ys)) c.truncate.ensures.items,
                count-first is_unanswered c.args.count xs,
              ),
              (omega (arith, fewer), (λ some. omega (arith, c.truncate.ensures.heads, p.buckets some), tt)),
            ),
          ),
        ),
      ),
    )
