use Rattle.std.proofs.Common.{◌≡◌, ◌∙◌, length, sym, ap, subst, arith, rules}
use Rattle.std.specs.Prelude.{filter}
use Rattle.std.proofs.lemmas.Fn.{filter_same}
use Rattle.outstanding.specs.Chaining.{AreNoted, Placed}
use Rattle.outstanding.specs.Leading.{AreChained}
use Rattle.outstanding.specs.Marks.{is_unanswered}
use Rattle.outstanding.proofs.Marks.{unanswered-twice}
use Rattle.outstanding.proofs.Answered.{noted-awaited}
use Rattle.outstanding.proofs.places.Places.compact.Goals as goal

pub invariant_of-self-inside : goal.invariant_of-self-inside
invariant_of-self-inside c =
    let p = c.self.inside in
    let chains = c.relink.new.self in
    let left : c.retain.new.self.items ≡ filter is_unanswered p.messages.items =
    filter_same _ is_unanswered _ (λ x b f k. search rules) _ _ c.retain.ensures.filtered in (
      subst (AreChained chains) c.deref.ensures.value
          c.relink.ensures.chained,
      (
        subst (AreNoted p.given.items) (sym left) (noted-awaited p.given.items p.messages.items),
        (
          omega (arith, c.retain.ensures.bound, c.retain.ensures.capacity),
          (
            omega (arith, c.retain.ensures.bound, c.relink.ensures.room),
            (
              omega (
                arith,
                ap (λ xs. length (filter is_unanswered xs)) left,
                ap length (unanswered-twice p.messages.items),
              ),
              (
                omega (arith, c.retain.ensures.bound),
                (
                  λ some. omega
                      (arith, c.relink.ensures.heads, p.buckets some),
                  tt,
                ),
              ),
            ),
          ),
        ),
      ),
    )

pub returns : goal.returns
returns c =
    filter_same _ is_unanswered _ (λ x b f k. search rules) _ _ c.retain.ensures.filtered
    ∙ ap (λ (p : Placed). filter is_unanswered p.items) c.self.view_is
