use Rattle.std.proofs.Common.{◌≡◌, ◌+◌, ◌≤◌, refl, sym, ap, ◌∙◌, subst}
use Rattle.std.specs.Prelude.{nat_eq}
use Rattle.undo_index.proofs.Standing.{covered-changed}
use Rattle.undo_index.specs.Newest.{IsNewest}
use Rattle.undo_index.specs.Undoing.{Undoable}
use Rattle.undo_index.specs.declared.number_count.NumberCount.{NumberCount}
use Rattle.undo_index.specs.Counts.{counted, has_number, is_of, one_if, same_number}
use Rattle.undo_index.proofs.Counting.{counted-raised, number-at}
use Rattle.undo_index.proofs.Rooms.{room-in}
use Rattle.undo_index.proofs.counts.NumberCounts.raise.Goals as goal

pub item_at-requires : goal.item_at-requires
item_at-requires g c =
    let newest : IsNewest (is_of c.args.number) c.self.inside.counts.now c.args.place =
    subst (λ (u : Undoable NumberCount). IsNewest (is_of c.args.number) u.now c.args.place)
    (sym c.self.view_is) c.requires.at in
    newest.inside

pub change-requires : goal.change-requires
change-requires g c = record {
  inside =
      let newest : IsNewest (is_of c.args.number) c.self.inside.counts.now c.args.place =
      subst (λ (u : Undoable NumberCount). IsNewest (is_of c.args.number) u.now c.args.place)
      (sym c.self.view_is) c.requires.at in
      newest.inside;
  room = (room-in c.self.inside.counts.pushes c.self.inside.counts.changes c.self.inside.numbers.room
      (subst (λ (u : Undoable NumberCount). 1 ≤ u.pushes) (sym c.self.view_is) c.requires.room)).1;
}

pub invariant_of-self : goal.invariant_of-self
invariant_of-self g c =
    let newest : IsNewest (is_of c.args.number) c.self.inside.counts.now c.args.place =
    subst (λ (u : Undoable NumberCount). IsNewest (is_of c.args.number) u.now c.args.place)
    (sym c.self.view_is) c.requires.at in
    let was = c.item_at.result.now in
    let now : NumberCount = record { number = c.args.number; count = was.count + 1 } in
    let own : c.args.number ≡ was.number = number-at c.self.inside.counts.now c.args.number c.args.place was newest
    c.item_at.ensures in
    covered-changed same_number has_number c.self.inside.numbers c.self.inside.counts c.change.new.self now c.args.place
    (λ k t. c.self.invariant.now k c.args.place was c.item_at.ensures (ap (λ n. nat_eq k.number n) (sym own) ∙ t))
    c.change.ensures.settled c.self.invariant c.change.ensures.now

pub returns-clause-now : goal.returns-clause-now
returns-clause-now g c = λ other.
    let newest : IsNewest (is_of c.args.number) c.self.inside.counts.now c.args.place =
    subst (λ (u : Undoable NumberCount). IsNewest (is_of c.args.number) u.now c.args.place)
    (sym c.self.view_is) c.requires.at in
    let was = c.item_at.result.now in
    let now : NumberCount = record { number = c.args.number; count = was.count + 1 } in
    ap (counted other) c.change.ensures.now
    ∙ counted-raised c.self.inside.counts.now c.args.number c.args.place other was now newest c.item_at.ensures refl
    refl
    ∙ ap (λ (u : Undoable NumberCount). counted other u.now + one_if (nat_eq other c.args.number)) c.self.view_is
