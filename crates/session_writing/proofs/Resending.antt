-- Frames that are sent again, one place after another.
use Rattle.std.proofs.Common.{◌≡◌, ◌+◌, ◌<◌, ℕ, List, [], ◌∷◌, ◌++◌, length, get_or, drop, map, sym, ap, ◌∙◌}
use Rattle.std.proofs.Common.{append_assoc, Some}
use Rattle.std.specs.Prelude.{slice_range}
use Rattle.std.proofs.lemmas.List.{drop_more, map-append}
use Rattle.fix_framing.specs.fix_fields.Printed.{fields_in}
use Rattle.session_reading.specs.session_law.declared.frame.Frame.{Frame}
use Rattle.session_reading.specs.session_law.declared.frame.Out.TheVariants.{Write}
use Rattle.session_reading.specs.session_law.declared.kind.Kind.{Kind}
use Rattle.session_reading.specs.session_law.Frames.{ToldLink, told_of_out}
use Rattle.session_reading.specs.session_law.Session.{gap, resent}
use Rattle.session_writing.specs.declared.place.KeptPlace.{KeptPlace}
use Rattle.session_writing.specs.declared.place.KeptPlace.TheVariants as places
use Rattle.session_writing.specs.Heads.{frame_with}
use Rattle.session_writing.specs.Keeping.{slots_at}
use Rattle.session_writing.specs.Written.{told_frames}

-- the link is told frames one after another
pub told-append : (gate client : List ℕ) (a b : List Frame)
    → told_frames gate client (a ++ b) ≡ told_frames gate client a ++ told_frames gate client b
told-append gate client a b = ap (λ outs. map (told_of_out gate client) outs) (map-append Write a b)
    ∙ map-append (told_of_out gate client) (map Write a) (map Write b)

-- the frame of a body that is sent again
abbrev pub again_frame : ℕ → ℕ → Kind → ℕ → List ℕ → Frame
again_frame now number kind issued body =
    frame_with (record { number = number; kind = kind; at = now; first = Some issued }) (fields_in body)

-- a body that comes next, behind the gap before it
pub body-told : (gate client text : List ℕ) (kept : List KeptPlace) (i now start number : ℕ) (kind : Kind)
    (from end issued : ℕ) (all outs one two : List ToldLink)
    → i < length kept → get_or kept i places.Filled ≡ places.Body kind from end issued
    → outs ++ told_frames gate client (resent now start number (slots_at text (drop i kept))) ≡ all
    → one ≡ outs ++ told_frames gate client (gap now start number)
    → two ≡ one ++ told_frames gate client (again_frame now number kind issued (slice_range text from end) ∷ [])
    → two ++ told_frames gate client (resent now (number + 1) (number + 1) (slots_at text (drop (i + 1) kept))) ≡ all
body-told gate client text kept i now start number kind from end issued all outs one two lt is sofar first second =
    let rest = resent now (number + 1) (number + 1) (slots_at text (drop (i + 1) kept)) in
    let frame = again_frame now number kind issued (slice_range text from end) in
    let next : drop i kept ≡ places.Body kind from end issued ∷ drop (i + 1) kept = drop_more kept i places.Filled lt
    ∙ ap (λ (p : KeptPlace). p ∷ drop (i + 1) kept) is in
    let left : outs ++ told_frames gate client (gap now start number ++ frame ∷ rest) ≡ all =
    ap (λ (ks : List KeptPlace). outs ++ told_frames gate client (resent now start number (slots_at text ks)))
    (sym next) ∙ sofar in
    ap (λ (l : List ToldLink). l ++ told_frames gate client rest)
    (second ∙ ap (λ (l : List ToldLink). l ++ told_frames gate client (frame ∷ [])) first)
    ∙ append_assoc (outs ++ told_frames gate client (gap now start number)) (told_frames gate client (frame ∷ []))
    (told_frames gate client rest)
    ∙ append_assoc outs (told_frames gate client (gap now start number)) (told_frames gate client (frame ∷ rest))
    ∙ ap (λ (l : List ToldLink). outs ++ l) (sym (told-append gate client (gap now start number) (frame ∷ rest)))
    ∙ left

-- a number that isn't kept
pub filled-told : (gate client text : List ℕ) (kept : List KeptPlace) (i now start number : ℕ)
    (all outs : List ToldLink)
    → i < length kept → get_or kept i places.Filled ≡ places.Filled
    → outs ++ told_frames gate client (resent now start number (slots_at text (drop i kept))) ≡ all
    → outs ++ told_frames gate client (resent now start (number + 1) (slots_at text (drop (i + 1) kept))) ≡ all
filled-told gate client text kept i now start number all outs lt is sofar =
    let next : drop i kept ≡ places.Filled ∷ drop (i + 1) kept = drop_more kept i places.Filled lt
    ∙ ap (λ (p : KeptPlace). p ∷ drop (i + 1) kept) is in
    ap (λ (ks : List KeptPlace). outs ++ told_frames gate client (resent now start number (slots_at text ks)))
    (sym next) ∙ sofar
