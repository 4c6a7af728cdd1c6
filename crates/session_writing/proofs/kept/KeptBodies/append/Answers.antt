use Rattle.std.proofs.Common.{◌≡◌, List, ℕ, ◌++◌, length, map, ap, ◌∙◌, arith, rules}
use Rattle.session_reading.specs.session_law.Session.{Slot}
use Rattle.session_writing.specs.declared.place.KeptPlace.{KeptPlace}
use Rattle.session_writing.specs.Keeping.{place_further, slots_at}
use Rattle.session_writing.proofs.Keeping.{AreKept, all-within, both-kept-at}
use Rattle.session_writing.proofs.kept.KeptBodies.append.Goals as goal

pub further_on-requires-clause-within : goal.further_on-requires-clause-within
further_on-requires-clause-within c =
    let size : c.len-size.result ≡ length c.more.inside.text.items = omega (arith, c.len-size.ensures) in
    rw (size, c.as_slice.ensures.value) (all-within c.more.inside.text.items c.more.inside.places.items
    c.more.invariant)

are_kept : (c : goal.After-drop-places-2)
    → AreKept c.extend_from_slice.new.self.items c.append.new.self.items
    (slots_at c.self.inside.text.items c.self.inside.places.items
    ++ slots_at c.more.inside.text.items c.more.inside.places.items)
are_kept c =
    both-kept-at c.self.inside.text.items c.more.inside.text.items c.extend_from_slice.new.self.items
    c.self.inside.places.items c.more.inside.places.items c.reserve.new.self.items c.in_ok-places.places.items
    c.append.new.self.items c.len-shift.result
    c.self.invariant c.more.invariant (omega (arith, c.len-shift.ensures))
    (c.in_ok-places.ensures ∙ ap (λ (l : List KeptPlace). map (place_further c.len-shift.result) l)
    c.as_slice.ensures.value)
    (c.in_ok-extend_from_slice.ensures.items ∙ ap
    (λ (l : List ℕ). c.self.inside.text.items ++ l) c.as_slice-2.ensures.value)
    c.in_ok-reserve.ensures.items
    (search rules)

pub invariant_of-self-2 : goal.invariant_of-self-2
invariant_of-self-2 c = (are_kept c).places

pub returns-clause-ok : goal.returns-clause-ok
returns-clause-ok c = (are_kept c).view ∙ ap
    (λ (ss : List Slot). ss ++ slots_at c.more.inside.text.items c.more.inside.places.items) c.self.view_is
    ∙ ap (λ (ss : List Slot). c.args.self.now ++ ss) c.more.view_is
