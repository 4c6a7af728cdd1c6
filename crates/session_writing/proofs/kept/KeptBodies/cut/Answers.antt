use Rattle.std.proofs.Common.{◌≡◌, ◌≤◌, ℕ, List, true, ap, subst, ◌∙◌, take}
use Rattle.std.specs.List.{list_all}
use Rattle.session_reading.specs.session_law.Session.{Slot}
use Rattle.session_writing.specs.declared.place.KeptPlace.{KeptPlace}
use Rattle.session_writing.specs.Keeping.{slots_at, is_within}
use Rattle.session_writing.proofs.Keeping.{AreKept, cut-kept}
use Rattle.session_writing.proofs.kept.KeptBodies.cut.Goals as goal

are_kept : (c : goal.After-truncate-2) → AreKept c.truncate-2.new.self.items c.truncate.new.self.items
    (take c.args.count (slots_at c.self.inside.text.items c.self.inside.places.items))
are_kept c =
    cut-kept c.self.inside.text.items c.truncate-2.new.self.items c.self.inside.places.items c.truncate.new.self.items
    c.args.count c.end_of-size.result c.self.invariant c.truncate.ensures.items c.truncate-2.ensures.items
    (subst (λ (ks : List KeptPlace). (n : ℕ) → list_all (is_within n) ks ≡ true
    → (list_all (is_within c.end_of-size.result) ks ≡ true) × (c.end_of-size.result ≤ n)) c.as_slice.ensures.value
    c.end_of-size.ensures)

pub invariant_of-self : goal.invariant_of-self
invariant_of-self c = (are_kept c).places

pub returns : goal.returns
returns c = (are_kept c).view ∙ ap (λ (ss : List Slot). take c.args.count ss) c.self.view_is
