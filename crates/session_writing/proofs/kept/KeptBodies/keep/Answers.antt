use Rattle.std.proofs.Common.{List, ◌++◌, ◌∷◌, [], Some, ap, ◌∙◌, arith}
use Rattle.session_reading.specs.session_law.Session.{Slot}
use Rattle.fix_framing.specs.fix_fields.Printed.{fields_in}
use Rattle.session_writing.specs.Keeping.{slots_at}
use Rattle.session_writing.proofs.Keeping.{AreKept, one-kept-at}
use Rattle.session_writing.proofs.kept.KeptBodies.keep.Goals as goal

are_kept : (c : goal.After-push_place) → AreKept c.extend_from_slice.new.self.items c.push_place.new.places.items
    (slots_at c.self.inside.text.items c.self.inside.places.items
    ++ Some (record { kind = c.args.kind; body = fields_in c.args.body.now; at = c.args.at }) ∷ [])
are_kept c =
    one-kept-at c.self.inside.text.items c.args.body.now c.extend_from_slice.new.self.items c.self.inside.places.items
    c.reserve.new.self.items c.push_place.new.places.items c.args.kind c.args.at c.len-start.result c.len-end.result
    c.self.invariant c.requires (omega (arith, c.len-start.ensures))
    (omega (arith, c.len-end.ensures)) c.in_ok-extend_from_slice.ensures.items c.in_ok-reserve.ensures.items
    c.push_place.ensures

pub invariant_of-self-2 : goal.invariant_of-self-2
invariant_of-self-2 c = (are_kept c).places

pub returns-clause-ok : goal.returns-clause-ok
returns-clause-ok c = (are_kept c).view ∙ ap
    (λ (ss : List Slot). ss ++ Some (record { kind = c.args.kind; body = fields_in c.args.body.now; at = c.args.at }) ∷
    []) c.self.view_is
