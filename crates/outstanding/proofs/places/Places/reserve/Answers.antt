use Rattle.std.proofs.Common.{length, sym, ap, subst, arith}
use Rattle.outstanding.specs.Chaining.{AreNoted}
use Rattle.outstanding.specs.Leading.{AreChained}
use Rattle.outstanding.specs.Marks.{is_unanswered}
use Rattle.outstanding.proofs.Marks.{count-all}
use Rattle.outstanding.proofs.places.Places.reserve.Goals as goal

pub invariant_of-self-inside-2 : goal.invariant_of-self-inside-2
invariant_of-self-inside-2 c =
    let p = c.self.inside in
    let chains = c.reserve-2.new.self in
    let messages = c.reserve.new.self in (
      subst (AreChained chains) c.deref.ensures.value
          c.reserve-2.ensures.chained,
      (
        subst (λ ps. AreNoted ps messages.items) (sym c.reserve-3.ensures.items)
            (subst (AreNoted p.given.items) (sym c.reserve.ensures.items) p.noted),
        (
          omega (arith, c.in_ok-reserve.ensures.ok),
          (
            omega (
              arith,
              c.in_ok-reserve-2.ensures.room,
              c.in_ok-reserve.ensures.len,
              ap length c.reserve.ensures.items,
              c.reserve-2.ensures.chained.long,
            ),
            (
              omega (arith, c.in_ok-reserve-3.ensures.ok, c.len.ensures, count-all is_unanswered messages.items),
              (
                omega (
                  arith,
                  c.in_ok-reserve-2.ensures.few,
                  c.in_ok-reserve.ensures.len,
                  ap length c.reserve.ensures.items,
                  c.reserve-2.ensures.chained.long,
                ),
                (λ some. c.in_ok-reserve-2.ensures.heads some, tt),
              ),
            ),
          ),
        ),
      ),
    )
