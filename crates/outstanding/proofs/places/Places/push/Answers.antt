use Rattle.std.proofs.Common.{◌≡◌, ◌∙◌, ◌+◌, ◌∷◌, [], length, refl, sym, ap, subst, arith}
use Rattle.std.specs.Prelude.{filter}
use Rattle.std.proofs.lemmas.List.{length_push}
use Rattle.std.proofs.lemmas.List.Elements.{filter-append}
use Rattle.outstanding.specs.declared.asked.AskedMessage.{AskedMessage}
use Rattle.outstanding.specs.Chaining.{AreNoted, Placed}
use Rattle.outstanding.specs.Leading.{AreChained}
use Rattle.outstanding.specs.Marks.{asked_of, is_unanswered}
use Rattle.outstanding.proofs.Answered.{noted-pushed}
use Rattle.outstanding.proofs.places.Places.push.Goals as goal

pub invariant_of-self-inside : goal.invariant_of-self-inside
invariant_of-self-inside c =
    let p = c.self.inside in
    let chains = c.link.new.self in
    let x : AskedMessage = asked_of c.args.port c.args.order_id c.args.message.now in
    let room : p.room ≡ c.args.self.now.room = ap (λ (q : Placed). q.room) c.self.view_is in
    let waiting : length (filter is_unanswered c.push_reserved.new.self.items)
    ≡ length (filter is_unanswered p.messages.items) + 1 =
    ap (λ xs. length (filter is_unanswered xs)) c.push_reserved.ensures.items
    ∙ ap length (filter-append is_unanswered p.messages.items (x ∷ []))
    ∙ length_push (filter is_unanswered p.messages.items) x in (
      subst (AreChained chains)
          (sym c.push_reserved.ensures.items) (c.link.ensures.chained p.messages.items x refl p.chained),
      (
        subst (AreNoted p.given.items) (sym c.push_reserved.ensures.items)
            (noted-pushed p.given.items p.messages.items x p.noted refl),
        (
          omega (arith, room, c.requires, c.push_reserved.ensures.len, c.push_reserved.ensures.capacity),
          (
            omega (arith, room, c.requires, c.push_reserved.ensures.len, c.link.ensures.room),
            (
              omega (arith, room, c.requires, waiting),
              (
                omega (arith, room, c.requires, c.push_reserved.ensures.len),
                (λ some. omega (arith, c.link.ensures.heads, p.buckets (omega arith)), tt),
              ),
            ),
          ),
        ),
      ),
    )
