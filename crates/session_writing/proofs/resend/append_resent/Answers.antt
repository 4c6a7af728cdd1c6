use Rattle.std.proofs.Common.{◌≡◌, ◌<◌, ◌++◌, ◌∷◌, [], ℕ, List, length, get_or, map, subst, sym, ap, ◌∙◌, rules}
use Rattle.session_reading.specs.session_law.declared.kind.Kind.{Kind}
use Rattle.session_writing.specs.declared.place.KeptPlace.{KeptPlace}
use Rattle.session_writing.specs.declared.place.KeptPlace.TheVariants as places
use Rattle.fix_framing.specs.fix_fields.Printed.{PrintsFields}
use Rattle.session_writing.specs.Keeping.{ArePlaces}
use Rattle.session_writing.specs.Written.{told_bytes, told_frames}
use Rattle.session_writing.proofs.Keeping.{StandsAt, one-place, place-is}
use Rattle.session_writing.proofs.Resending.{body-told, filled-told, again_frame}
use Rattle.session_writing.proofs.resend.append_resent.Goals as goal
use Rattle.session_writing.proofs.resend.append_resent.Goals.{in-Body+in_ok-append_gap-in-Body+in_ok-append_again-in-Body}
use Rattle.session_writing.proofs.resend.append_resent.Goals.{in-Filled}

-- the body stands in the text
stands : (text : List ℕ) (kept : List KeptPlace) (i : ℕ) (kind : Kind) (start end at : ℕ) → ArePlaces text kept
    → i < length kept → get_or kept i places.Filled ≡ places.Body kind start end at → StandsAt text start end
stands text kept i kind start end at are lt e =
    place-is text kind start end at (one-place text kept i places.Filled (places.Body kind start end at) are lt e)

pub part_of-body-requires : goal.part_of-body-requires
part_of-body-requires c =
    let is = stands c.args.text.now c.args.places.now c.loop-place.place-index c.in-Body.kind c.in-Body.from
    c.in-Body.end c.in-Body.issued c.requires.places c.loop-place-test.true c.in-Body.is in
    record { ordered = is.ordered; ends = is.ends }

pub append_again-requires-clause-body : goal.append_again-requires-clause-body
append_again-requires-clause-body c =
    let is = stands c.args.text.now c.args.places.now c.loop-place.place-index c.in-Body.kind c.in-Body.from
    c.in-Body.end c.in-Body.issued c.requires.places c.loop-place-test.true c.in-Body.is in
    subst (λ (l : List ℕ). PrintsFields l) (sym c.part_of-body.ensures) is.prints

pub loop-place-preserved : goal.loop-place-preserved
loop-place-preserved c = record {
  heads = search rules;
  number = search rules;
  told = elim c.match-place.branch [
    | in-Body+in_ok-append_gap-in-Body+in_ok-append_again-in-Body w ↦ rw (w.outs-is, w.start-is)
        (body-told c.args.names.now.gate c.args.names.now.client c.args.text.now c.args.places.now
        c.loop-place.place-index c.of-now.result c.loop-place.start c.loop-place.number w.in-Body.kind w.in-Body.from
        w.in-Body.end w.in-Body.issued _ (map told_bytes c.loop-place.outs.items)
        (map told_bytes w.append_gap.new.outs.items) (map told_bytes w.append_again.new.outs.items)
        c.loop-place-test.true w.in-Body.is c.loop-place.invariant.told w.in_ok-append_gap-in-Body.ensures
        (w.in_ok-append_again-in-Body.ensures.told
        ∙ ap (λ (l : List ℕ). map told_bytes w.append_gap.new.outs.items
        ++ told_frames c.args.names.now.gate c.args.names.now.client
        (again_frame c.of-now.result c.loop-place.number w.in-Body.kind w.in-Body.issued l ∷ []))
        w.part_of-body.ensures))
    | in-Filled w ↦ rw (w.outs-is, w.start-is)
        (filled-told c.args.names.now.gate c.args.names.now.client c.args.text.now c.args.places.now
        c.loop-place.place-index c.of-now.result c.loop-place.start c.loop-place.number _
        (map told_bytes c.loop-place.outs.items) c.loop-place-test.true w.in-Filled.is c.loop-place.invariant.told)
  ];
}
