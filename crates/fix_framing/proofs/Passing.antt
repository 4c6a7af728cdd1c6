-- Frames that are passed one by one.
use Rattle.std.proofs.Common.{◌≡◌, ◌≢◌, ℕ, ◌+◌, ◌≤◌, Bool, true, false, List, [], ◌∷◌, ◌++◌, length, take, drop, refl}
use Rattle.std.proofs.Common.{sym, ap, ◌∙◌, subst, arith, append_assoc}
use Rattle.std.specs.Prelude.{Option, Some, None, Result, Ok, Err, OnOk, OnErr, IfOk, IfNone}
use Rattle.wire_streams.specs.Buffer.{Buffer, Takes, LetsGo}
use Rattle.std.proofs.lemmas.List.{append-nil}
use Rattle.fix_fields.specs.Field.{Field}
use Rattle.fix_fields.specs.Reading.{fields_of}
use Rattle.fix_framing.specs.Stream.{Place, Frame, Waiting, End, Rest, Over, StreamParts, place, parts, parts_behind}
use Rattle.fix_framing.specs.Stream.{with_frame, ReaderStanding, with_frames, IsOn, left, end_of, longer, Passed}
use Rattle.fix_framing.specs.Stream.{Sought, IsSeen, IsRemembered, PassesFrame, IsTaken, BytesLeave, Feeds}
use Rattle.fix_framing.specs.Stream.{counted_skips}
use Rattle.fix_fields.specs.declared.view.FieldsView.{FieldsView}
use Rattle.fix_framing.specs.declared.frame_fault.FrameFault.{FrameFault}
use Rattle.fix_framing.specs.declared.frame_fault.FrameFault.TheVariants as fault
use Rattle.fix_framing.specs.Front.{GivesFrame, IsFramed, LendsFrame}
use Rattle.fix_framing.specs.declared.place.Framed.{Framed}
use Rattle.fix_framing.specs.Seen.{IsNext, IsNextFrame}
use Rattle.fix_framing.proofs.Places.{frame_is_there, frame_fields, place_more}
use Rattle.fix_framing.proofs.Parts.{joined, go_on, parts-append, parts-frame, parts-waiting, parts-too_long, feeds}

-- ---- what a reader's fields say

pub open_end : (over : Bool) (bytes : List ℕ) (end : End) → end_of over bytes ≡ end → over ≡ false → end ≡ Rest bytes
open_end over bytes end e o = sym e ∙ ap (λ b. end_of b bytes) o

pub over_end : (over : Bool) (bytes : List ℕ) (end : End) → end_of over bytes ≡ end → over ≡ true → end ≡ Over
over_end over bytes end e o = sym e ∙ ap (λ b. end_of b bytes) o

pub nothing_passed : (reader : ReaderStanding) → reader.end ≡ Rest [] → reader.skipped ≡ 0 → Passed [] [] reader
unfolding Passed parts_behind
nothing_passed reader end skipped = (0, ap (λ (e : End). with_frames [] 0 (left e)) (sym end), skipped)

-- ---- a piece more

joined_with_frames : (given : List (List Field)) (k : ℕ) (p : StreamParts) (more : List ℕ)
    → joined (with_frames given k p) more ≡ with_frames given k (joined p more)
joined_with_frames given k p more = by_end p.end
  where
    by_end : (e : End) → go_on (given ++ p.frames) (k + p.skipped) e more
        ≡ with_frames given k (go_on p.frames p.skipped e more)
    by_end (Rest bytes) =
        let q = parts (bytes ++ more) in
        let count : k + p.skipped + q.skipped ≡ k + (p.skipped + q.skipped) = omega arith in
        ap (λ (l : List (List Field)). record { frames = l; skipped = k + p.skipped + q.skipped; end = q.end })
        (append_assoc given p.frames q.frames)
        ∙ ap (λ n. record { frames = given ++ (p.frames ++ q.frames); skipped = n; end = q.end }) count
    by_end Over = refl

left_longer : (end : End) (piece : List ℕ) → joined (left end) piece ≡ left (longer end piece)
left_longer (Rest bytes) piece = sym (parts-append bytes piece)
left_longer Over piece = refl

pub passed_more : (taken piece : List ℕ) (given : List (List Field)) (old new : ReaderStanding)
    → new.end ≡ longer old.end piece → new.skipped ≡ old.skipped → Passed taken given old
    → Passed (taken ++ piece) given new
unfolding Passed
passed_more taken piece given old new end skipped (k, whole, count) = (
  k,
  parts-append taken piece ∙ ap (λ (p : StreamParts). joined p piece) whole
      ∙ joined_with_frames given k (left old.end) piece
      ∙ ap (with_frames given k) (left_longer old.end piece ∙ ap left (sym end)),
  skipped ∙ count,
)

-- ---- bytes are skipped

with_frames_twice : (given : List (List Field)) (s k : ℕ) (p : StreamParts)
    → with_frames given s (with_frames [] k p) ≡ with_frames given (s + k) p
with_frames_twice given s k p =
    let count : s + (k + p.skipped) ≡ s + k + p.skipped = omega arith in
    ap (λ n. record { frames = given ++ p.frames; skipped = n; end = p.end }) count

left_of_next : (size : Option ℕ) (over : Bool) (rest : List ℕ) → IsNext size over (place rest)
    → parts rest ≡ left (end_of over rest)
left_of_next size false rest next = refl
left_of_next None true rest next = parts-too_long rest next
left_of_next (Some size) true rest next = absurd next

along_end : (size : Option ℕ) (a b : End) → a ≡ b → IsSeen size a → IsSeen size b
along_end size a b e seen = subst (IsSeen size) e seen

pub sought : (old new : ReaderStanding) (held : List ℕ) (k : ℕ) (size : Option ℕ) (over : Bool) → old.end ≡ Rest held
    → IsOn held [] k k → IsNext size over (place (drop k held)) → new.end ≡ end_of over (drop k held)
    → new.skipped ≡ counted_skips (old.skipped + k) → LetsGo k old.kept new.kept → Sought old new
unfolding Passed
sought old new held k size over was on next is skipped kept = record {
  frames = ap (λ (p : StreamParts). p.frames) (sym step);
  end = ap (λ (p : StreamParts). p.end) (sym step);
  passed = λ taken given (s, whole, count). (
    s + k,
    whole ∙ ap (with_frames given s) step ∙ with_frames_twice given s k (left new.end),
    omega (arith, skipped, count),
  );
  kept = (k, kept);
}
  where
    step : left old.end ≡ with_frames [] k (left new.end)
    step = ap left was ∙ on.parts ∙ ap (with_frames [] k) (left_of_next size over (drop k held) next ∙ ap left (sym is))

-- ---- what comes next

none_left : (end : End) → IsSeen None end → (left end).frames ≡ []
none_left (Rest bytes) seen = ap (λ (p : StreamParts). p.frames) (parts-waiting bytes seen)
none_left Over seen = refl

all_passed : (taken : List ℕ) (passed : List (List Field)) (reader : ReaderStanding) → (left reader.end).frames ≡ []
    → Passed taken passed reader → (parts taken).frames ≡ passed
unfolding Passed
all_passed taken passed reader none (s, whole, count) =
    ap (λ (p : StreamParts). p.frames) whole ∙ ap (λ (l : List (List Field)). passed ++ l) none ∙ append-nil passed

pub none_passed : (old new : ReaderStanding) → Sought old new → IsSeen None new.end → PassesFrame false old new
none_passed old new sought seen =
    let none = sym sought.frames ∙ none_left new.end seen in
    (none, sought, λ taken passed before. all_passed taken passed old none before)

pub front_all : (old : ReaderStanding) (r : Result (Option FieldsView) FrameFault) → LendsFrame (left old.end) r
    → IfOk r (λ found. IfNone found ((taken : List ℕ) (passed : List (List Field)) → Passed taken passed old
    → (parts taken).frames ≡ passed))
front_all old (Ok (Some view)) front = tt
front_all old (Ok None) front = λ taken passed before. all_passed taken passed old front.0 before
front_all old (Err fault) front = tt

pub size_there : (size : ℕ) (over : Bool) (held : List ℕ) (end : End) → end_of over held ≡ end → IsSeen (Some size) end
    → size ≤ length held
size_there size true held end e seen = absurd (along_end (Some size) end Over (sym e) seen)
size_there size false held end e seen = let front = along_end (Some size) end (Rest held) (sym e) seen in
    (frame_is_there held size front.0 front.1).there

-- a frame, and what is left behind it
frame_left : (size : ℕ) (over : Bool) (held : List ℕ) (end : End) → end_of over held ≡ end → IsSeen (Some size) end
    → (fields : List Field) × (left end ≡ with_frame fields (left (end_of over (drop size held))))
frame_left size true held end e seen = absurd (along_end (Some size) end Over (sym e) seen)
frame_left size false held end e seen =
    let front = along_end (Some size) end (Rest held) (sym e) seen in
    (front.0, ap left (sym e) ∙ parts-frame held size front.0 front.1)

with_frames_more : (given : List (List Field)) (s : ℕ) (fields : List Field) (p : StreamParts)
    → with_frames given s (with_frame fields p) ≡ with_frames (given ++ fields ∷ []) s p
with_frames_more given s fields p = ap (λ
    (l : List (List Field)). record { frames = l; skipped = s + p.skipped; end = p.end })
    (sym (append_assoc given (fields ∷ []) p.frames))

passes_frame : (old mid new : ReaderStanding) (fields : List Field) → Sought old mid
    → left mid.end ≡ with_frame fields (left new.end) → new.skipped ≡ mid.skipped
    → (taken : List ℕ) (given : List (List Field)) → Passed taken given old → Passed taken (given ++ fields ∷ []) new
unfolding Passed
passes_frame old mid new fields sought step skipped taken given passed =
    let now = sought.passed taken given passed in (
      now.0,
      now.1 ∙ ap (with_frames given now.0) step ∙ with_frames_more given now.0 fields (left new.end),
      skipped ∙ now.2,
    )

pub passes : (old mid new : ReaderStanding) (size : ℕ) (over : Bool) (held : List ℕ) → Sought old mid
    → end_of over held ≡ mid.end → IsSeen (Some size) mid.end → new.end ≡ end_of over (drop size held)
    → new.skipped ≡ mid.skipped → LetsGo size mid.kept new.kept → PassesFrame true old new
passes old mid new size over held sought was seen end skipped kept =
    let frame = frame_left size over held mid.end was seen in
    let step : left mid.end ≡ with_frame frame.0 (left new.end) = frame.1
    ∙ ap (λ (e : End). with_frame frame.0 (left e)) (sym end) in (
      frame.0,
      sym sought.frames ∙ ap (λ (p : StreamParts). p.frames) step,
      passes_frame old mid new frame.0 sought step skipped,
      (mid.kept, sought.kept.0, size, sought.kept.1, kept),
    )

-- ---- the fields that are lent

pub seen_fields : (size : ℕ) (bytes : List ℕ) (end : End) → end ≡ Rest bytes → IsSeen (Some size) end
    → (fields : List Field) × (fields_of (take size bytes) ≡ Some fields)
    × ((left end).frames ≡ fields ∷ (parts (drop size bytes)).frames)
seen_fields size bytes end e seen =
    let front = along_end (Some size) end (Rest bytes) e seen in (
      front.0,
      frame_fields bytes size front.0 front.1,
      ap (λ (d : End). (left d).frames) e ∙ ap (λ (p : StreamParts). p.frames) (parts-frame bytes size front.0 front.1),
    )

pub none_seen : (bytes : List ℕ) (end : End) → end ≡ Rest bytes → IsSeen None end
    → ((left end).frames ≡ []) × ((left end).end ≡ Rest bytes)
none_seen bytes end e seen =
    let waits = parts-waiting bytes (along_end None end (Rest bytes) e seen) in (
      ap (λ (d : End). (left d).frames) e ∙ ap (λ (p : StreamParts). p.frames) waits,
      ap (λ (d : End). (left d).end) e
          ∙ ap (λ (p : StreamParts). p.end) waits,
    )

-- what is remembered of the front stays where a piece comes
pub remembered_longer : (size : Option ℕ) (held piece : List ℕ) → IsRemembered size held
    → IsRemembered size (held ++ piece)
remembered_longer None held piece kept = tt
remembered_longer (Some size) held piece kept =
    (kept.0, place_more held piece (λ w. other (sym kept.1 ∙ w)) ∙ kept.1)
  where
    other : ◌≢◌ {A = Place} (Frame size kept.0) Waiting
    other h = cc

pub put_remembered : {T E : Type 0} (seen : Option ℕ) (r : Result T E) (piece : List ℕ) (old new : Buffer)
    → OnOk r (Takes piece (length piece) old.kept new.kept) → OnErr r (new ≡ old)
    → IsRemembered seen old.kept.held → IsRemembered seen new.kept.held
put_remembered seen (Ok x) piece old new takes same kept =
    subst (IsRemembered seen) (sym takes.held) (remembered_longer seen old.kept.held piece kept)
put_remembered seen (Err e) piece old new takes same kept =
    subst (λ (b : Buffer). IsRemembered seen b.kept.held) (sym same) kept

pub longer_end : (over : Bool) (held piece : List ℕ) (end : End) → end_of over held ≡ end → over ≡ false
    → end_of over (held ++ piece) ≡ longer end piece
longer_end over held piece end e o = ap (λ b. end_of b (held ++ piece)) o
    ∙ ap (λ (d : End). longer d piece) (sym (open_end over held end e o))

pub over_longer : (end : End) (piece : List ℕ) → end ≡ Over → end ≡ longer end piece
over_longer end piece e = e ∙ ap (λ (d : End). longer d piece) (sym e)

pub first_of : (text bytes : List ℕ) (fields lent : List Field) (all more : List (List Field)) → text ≡ bytes
    → fields_of bytes ≡ Some fields → fields_of text ≡ Some lent → all ≡ fields ∷ more
    → (rest : List (List Field)) × (all ≡ lent ∷ rest)
first_of text bytes fields lent all more same found known e =
    let both : Some fields ≡ Some lent = sym found ∙ ap fields_of (sym same) ∙ known in
    let one : fields ≡ lent = cc in
    (more, e ∙ ap (λ (f : List Field). f ∷ more) one)

-- ---- a piece is taken at once

rest_is : (over : Bool) (held bytes : List ℕ) → end_of over held ≡ Rest bytes → held ≡ bytes
rest_is true held bytes e = absurd (never e)
  where
    never : ◌≢◌ {A = End} Over (Rest bytes)
    never h = cc
rest_is false held bytes e = cc

pub taken_of : (found : StreamParts) (over : Bool) (held bytes piece : List ℕ) (old new : ReaderStanding)
    → end_of over held ≡ Rest bytes
    → found ≡ parts (held ++ piece) → new.end ≡ found.end → new.skipped ≡ counted_skips (old.skipped + found.skipped)
    → IsTaken (parts (bytes ++ piece)) found.frames old new
taken_of found over held bytes piece old new was is end count =
    let whole : found ≡ parts (bytes ++ piece) = is
    ∙ ap (λ (b : List ℕ). parts (b ++ piece)) (rest_is over held bytes was) in
    record {
      frames = ap (λ (p : StreamParts). p.frames) whole;
      end = end ∙ ap (λ (p : StreamParts). p.end) whole;
      skipped = count ∙ ap (λ (p : StreamParts). counted_skips (old.skipped + p.skipped)) whole;
    }

pub feeds_taken : (fed piece : List ℕ) (given : List (List Field)) (old new : ReaderStanding) → (old.end ≡ Over → ⊥)
    → ((bytes : List ℕ) → old.end ≡ Rest bytes → IsTaken (parts (bytes ++ piece)) given old new)
    → BytesLeave fed old → Feeds fed piece given new
feeds_taken fed piece given old new open_ taken left = by_end old.end refl
  where
    by_end : (end : End) → old.end ≡ end → Feeds fed piece given new
    by_end (Rest bytes) e =
        let t = taken bytes e in
        subst (λ (g : List (List Field)). Feeds fed piece g new) (sym t.frames)
        (feeds fed piece bytes old new (parts (bytes ++ piece)) left e refl t.end t.skipped)
    by_end Over e = absurd (open_ e)

-- ---- a frame that is given at once

abbrev size_of : Option Framed → Option ℕ
size_of None = None
size_of (Some framed) = Some framed.size

next_of_framed : (found : Option Framed) (over : Bool) (p : Place) → IsNextFrame found over p
    → IsNext (size_of found) over p
next_of_framed (Some framed) true p next = absurd next
next_of_framed (Some framed) false p next = (framed.fields, next)
next_of_framed None true p next = next
next_of_framed None false p next = next

pub sought_frame : (old new : ReaderStanding) (held : List ℕ) (k : ℕ) (found : Option Framed) (over : Bool)
    → old.end ≡ Rest held → IsOn held [] k k → IsNextFrame found over (place (drop k held))
    → new.end ≡ end_of over (drop k held) → new.skipped ≡ counted_skips (old.skipped + k) → LetsGo k old.kept new.kept
    → Sought old new
sought_frame old new held k found over was on next is skipped kept =
    sought old new held k (size_of found) over was on
    (next_of_framed found over (place (drop k held)) next) is skipped kept

pub framed_next : (found : Option Framed) (over : Bool) (rest : List ℕ) (end : End)
    → IsNextFrame found over (place rest) → end ≡ end_of over rest → IsFramed found end
framed_next found over rest end next e = subst (IsFramed found) (sym e) (by_case found over next)
  where
    by_case : (found : Option Framed) (over : Bool) → IsNextFrame found over (place rest)
        → IsFramed found (end_of over rest)
    by_case (Some framed) true next = absurd next
    by_case (Some framed) false next = next
    by_case None true next = tt
    by_case None false next = next

framed_at : (framed : Framed) (a b : End) → a ≡ b → IsFramed (Some framed) a → IsFramed (Some framed) b
framed_at framed a b e h = subst (IsFramed (Some framed)) e h

pub framed_there : (framed : Framed) (over : Bool) (held : List ℕ) (end : End) → end_of over held ≡ end
    → IsFramed (Some framed) end → framed.size ≤ length held
framed_there framed true held end e seen = absurd (framed_at framed end Over (sym e) seen)
framed_there framed false held end e seen =
    (frame_is_there held framed.size framed.fields (framed_at framed end (Rest held) (sym e) seen)).there

framed_left : (framed : Framed) (over : Bool) (held : List ℕ) (end : End) → end_of over held ≡ end
    → IsFramed (Some framed) end
    → left end ≡ with_frame framed.fields (left (end_of over (drop framed.size held)))
framed_left framed true held end e seen = absurd (framed_at framed end Over (sym e) seen)
framed_left framed false held end e seen =
    ap left (sym e) ∙ parts-frame held framed.size framed.fields (framed_at framed end (Rest held) (sym e) seen)

pub gives : (old mid new : ReaderStanding) (framed : Framed) (over : Bool) (held : List ℕ) → Sought old mid
    → end_of over held ≡ mid.end → IsFramed (Some framed) mid.end
    → new.end ≡ end_of over (drop framed.size held) → new.skipped ≡ mid.skipped → LetsGo framed.size mid.kept new.kept
    → GivesFrame (Ok (Some framed.fields)) old new
gives old mid new framed over held sought was seen end skipped kept =
    let step : left mid.end ≡ with_frame framed.fields (left new.end) = framed_left framed over held mid.end was seen
    ∙ ap (λ (e : End). with_frame framed.fields (left e)) (sym end) in (
      sym sought.frames ∙ ap (λ (p : StreamParts). p.frames) step,
      passes_frame old mid new framed.fields sought step skipped,
      (mid.kept, sought.kept.0, framed.size, sought.kept.1, kept),
    )

pub none_framed : (old now : ReaderStanding) (bytes : List ℕ) → now.end ≡ Rest bytes → IsFramed None now.end
    → Sought old now → GivesFrame (Ok None) old now
none_framed old now bytes e seen sought =
    let waits = parts-waiting bytes (subst (IsFramed None) e seen) in (
      sym sought.frames ∙ ap (λ (d : End). (left d).frames) e ∙ ap (λ (p : StreamParts). p.frames) waits,
      (bytes, sym sought.end ∙ ap (λ (d : End). (left d).end) e ∙ ap (λ (p : StreamParts). p.end) waits),
      sought,
    )

pub over_framed : (old now : ReaderStanding) → now.end ≡ Over → Sought old now → GivesFrame (Err fault.TooLong) old now
over_framed old now e sought = (
  sym sought.frames ∙ ap (λ (d : End). (left d).frames) e,
  sym sought.end ∙ ap (λ (d : End). (left d).end) e,
  sought,
)
