use Rattle.std.proofs.Common.{◌≡◌, List, ℕ, ◌+◌, ◌-◌, ◌++◌, ap, ◌∙◌, take, drop, map}
use Rattle.std.proofs.lemmas.Result.{IfOk-weaker}
use Rattle.session_reading.specs.session_law.Session.{Slot, resent}
use Rattle.session_reading.specs.session_law.Frames.{ToldLink}
use Rattle.session_writing.specs.declared.place.KeptPlace.{KeptPlace}
use Rattle.session_writing.specs.Keeping.{slots_at}
use Rattle.session_writing.specs.Written.{told_bytes, told_frames}
use Rattle.session_writing.proofs.Keeping.{some-places, some-slots}
use Rattle.session_writing.proofs.kept.KeptBodies.append_resend.Goals as goal

pub append_resent-requires-clause-places : goal.append_resent-requires-clause-places
append_resent-requires-clause-places c =
    rw (c.as_slice-2.ensures.value, c.between-places.ensures.asked, c.as_slice.ensures.value)
    (some-places c.self.inside.text.items c.self.inside.places.items (c.args.to + 1 - c.args.from)
    (c.args.from - 1) c.self.invariant)

-- the slots that are asked for
asked : (c : goal.After-append_resent) → slots_at c.as_slice-2.result.now c.between-places.result.now
    ≡ take (c.args.to + 1 - c.args.from) (drop (c.args.from - 1) c.args.self.now)
asked c =
    let n = c.args.to + 1 - c.args.from in
    let m = c.args.from - 1 in
    ap (λ (text : List ℕ). slots_at text c.between-places.result.now) c.as_slice-2.ensures.value
    ∙ ap (λ (kept : List KeptPlace). slots_at c.self.inside.text.items kept)
    (c.between-places.ensures.asked ∙ ap (λ (kept : List KeptPlace). take n (drop m kept)) c.as_slice.ensures.value)
    ∙ some-slots c.self.inside.text.items c.self.inside.places.items n m
    ∙ ap (λ (ss : List Slot). take n (drop m ss)) c.self.view_is

pub returns : goal.returns
returns c =
    let told_of : List Slot → List ToldLink =
    λ ss. map told_bytes c.args.outs.now.items
    ++ told_frames c.args.names.now.gate c.args.names.now.client (resent c.args.at c.args.from c.args.from ss) in
    IfOk-weaker c.append_resent.result _ _ (λ u told. told ∙ ap told_of (asked c)) c.append_resent.ensures
