use Rattle.std.proofs.Common.{◌≡◌, List, reverse, sym, subst}
use Rattle.std.specs.Prelude.{None, MatchOption}
use Rattle.std.specs.List.{find}
use Rattle.undo_index.specs.Newest.{IsNewest}
use Rattle.undo_index.specs.Undoing.{Undoable}
use Rattle.undo_index.proofs.Standing.{led-by}
use Rattle.undo_index.specs.Hints.{LedBy, hint_of}
use Rattle.undo_index.specs.declared.number_count.NumberCount.{NumberCount}
use Rattle.undo_index.specs.Counts.{has_number, is_of, same_number}
use Rattle.undo_index.proofs.counts.NumberCounts.place_of.Goals as goal

pub place_of-requires : goal.place_of-requires
place_of-requires g c =
    subst (λ (xs : List NumberCount). LedBy (hint_of same_number c.self.inside.numbers
    (record { number = c.args.number })) (is_of c.args.number) xs) (sym c.as_slice.ensures)
    (led-by same_number has_number c.self.inside.numbers c.self.inside.counts.now (record { number = c.args.number })
    (is_of c.args.number) c.self.invariant.now
    (λ count t. t))

pub returns : goal.returns
returns g c =
    subst (λ (u : Undoable NumberCount). MatchOption c.place_of.result
    (find (is_of c.args.number) (reverse u.now) ≡ None) (λ place. IsNewest (is_of c.args.number) u.now place))
    c.self.view_is
    (subst (λ (xs : List NumberCount). MatchOption c.place_of.result (find (is_of c.args.number) (reverse xs) ≡ None)
    (λ place. IsNewest (is_of c.args.number) xs place)) c.as_slice.ensures c.place_of.ensures)
