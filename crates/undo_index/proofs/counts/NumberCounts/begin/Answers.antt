use Rattle.std.proofs.Common.{◌≡◌, ◌+◌, ◌≤◌, List, length, refl, reverse, sym, ap, ◌∙◌, subst}
use Rattle.std.specs.Prelude.{None, nat_eq}
use Rattle.std.specs.List.{find}
use Rattle.undo_index.proofs.Standing.{covered-pushed}
use Rattle.undo_index.specs.Undoing.{Undoable}
use Rattle.undo_index.specs.declared.number_count.NumberCount.{NumberCount}
use Rattle.undo_index.specs.Counts.{counted, has_number, is_of, one_if, same_number}
use Rattle.undo_index.proofs.Counting.{counted-pushed, key-leads}
use Rattle.undo_index.proofs.Rooms.{room-in}
use Rattle.undo_index.proofs.counts.NumberCounts.begin.Goals as goal

pub note-requires : goal.note-requires
note-requires g c = record {
  room = (room-in c.self.inside.counts.pushes c.self.inside.counts.changes
      c.self.inside.numbers.room (subst (λ (u : Undoable NumberCount). 1 ≤ u.pushes)
      (sym c.self.view_is) c.requires.room)).2;
}

pub push-requires : goal.push-requires
push-requires g c = (room-in c.self.inside.counts.pushes c.self.inside.counts.changes c.self.inside.numbers.room
    (subst (λ (u : Undoable NumberCount). 1 ≤ u.pushes) (sym c.self.view_is) c.requires.room)).0

pub invariant_of-self : goal.invariant_of-self
invariant_of-self g c =
    let place = length c.as_slice-place.result.now in
    let count : NumberCount = record { number = c.args.number; count = 1 } in
    covered-pushed same_number has_number c.note.new.self c.self.inside.counts c.push.new.self count place
    (key-leads c.note.new.self c.args.number place c.note.ensures.leads count refl)
    c.push.ensures.settled (c.note.ensures.covered c.self.invariant)
    (sym (ap (λ (xs : List NumberCount). length xs) c.as_slice-place.ensures)) c.push.ensures.now

pub returns-clause-now : goal.returns-clause-now
returns-clause-now g c = λ other.
    let count : NumberCount = record { number = c.args.number; count = 1 } in
    let new = subst (λ (u : Undoable NumberCount). find (is_of c.args.number) (reverse u.now) ≡ None)
    (sym c.self.view_is) c.requires.new in
    ap (counted other) c.push.ensures.now
    ∙ counted-pushed c.self.inside.counts.now count other new refl
    ∙ ap (λ (u : Undoable NumberCount). counted other u.now + one_if (nat_eq other c.args.number)) c.self.view_is
