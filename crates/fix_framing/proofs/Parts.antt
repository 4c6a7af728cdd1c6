-- The parts of a stream, piece by piece.
use Rattle.std.proofs.Common.{◌≡◌, ◌≢◌, ◌^◌, min, ℕ, zero, suc, ◌+◌, ◌-◌, ◌≤◌, List, [], ◌∷◌, ◌++◌, length, drop, refl}
use Rattle.std.proofs.Common.{sym, ap, ◌∙◌, arith, append_assoc}
use Rattle.std.proofs.lemmas.List.{append-nil, drop-drop, length-drop}
use Rattle.fix_fields.specs.Field.{Field}
use Rattle.fix_framing.specs.Stream.{Place, Frame, Skipped, Waiting, TooLong, End, Rest, Over, StreamParts, place}
use Rattle.fix_framing.specs.Stream.{parts, parts_of, parts_behind, with_frame, with_skipped, only, ReaderStanding}
use Rattle.fix_framing.specs.Stream.{BytesLeave, Feeds, with_frames, IsOn}
use Rattle.fix_framing.proofs.Places.{place_more, frame_is_there, place_of_nothing}

-- ---- what stands in front, and the parts behind it

-- what still belongs to a frame is passed over
pub parts_behind-drop : (inside : ℕ) (s : List ℕ) → parts_behind inside s ≡ parts (drop inside s)
unfolding parts_behind
parts_behind-drop zero s = refl
parts_behind-drop (suc inside) [] = refl
parts_behind-drop (suc inside) (byte ∷ s) = parts_behind-drop inside s

nothing_judged : (p : Place) → place [] ≡ p → p ≢ Waiting → ⊥
nothing_judged p e judged = judged (sym e ∙ place_of_nothing)

pub parts-frame : (s : List ℕ) (size : ℕ) (fields : List Field) → place s ≡ Frame size fields
    → parts s ≡ with_frame fields (parts (drop size s))
unfolding parts_behind
parts-frame [] size fields e = absurd (nothing_judged (Frame size fields) e other)
  where
    other : ◌≢◌ {A = Place} (Frame size fields) Waiting
    other h = cc
parts-frame (byte ∷ s) zero fields e = absurd (omega (arith, (frame_is_there (byte ∷ s) zero fields e).some))
parts-frame (byte ∷ s) (suc size) fields e =
    ap (λ (p : Place). parts_of p (byte ∷ s) (λ inside. parts_behind inside s)) e
    ∙ ap (λ n. with_frame fields (parts_behind n s)) (omega arith)
    ∙ ap (with_frame fields) (parts_behind-drop size s)

pub parts-skipped : (s : List ℕ) → place s ≡ Skipped → parts s ≡ with_skipped (parts (drop 1 s))
unfolding parts_behind
parts-skipped [] e = absurd (nothing_judged Skipped e other)
  where
    other : ◌≢◌ {A = Place} Skipped Waiting
    other h = cc
parts-skipped (byte ∷ s) e = ap (λ (p : Place). parts_of p (byte ∷ s) (λ inside. parts_behind inside s)) e

pub parts-waiting : (s : List ℕ) → place s ≡ Waiting → parts s ≡ only (Rest s)
unfolding parts_behind
parts-waiting [] e = refl
parts-waiting (byte ∷ s) e = ap (λ (p : Place). parts_of p (byte ∷ s) (λ inside. parts_behind inside s)) e

pub parts-too_long : (s : List ℕ) → place s ≡ TooLong → parts s ≡ only Over
unfolding parts_behind
parts-too_long [] e = absurd (nothing_judged TooLong e other)
  where
    other : ◌≢◌ {A = Place} TooLong Waiting
    other h = cc
parts-too_long (byte ∷ s) e = ap (λ (p : Place). parts_of p (byte ∷ s) (λ inside. parts_behind inside s)) e

-- ---- one stream behind another

abbrev pub go_on : List (List Field) → ℕ → End → List ℕ → StreamParts
go_on frames skipped (Rest bytes) more = with_frames frames skipped (parts (bytes ++ more))
go_on frames skipped Over more = record { frames = frames; skipped = skipped; end = Over }

-- the parts of a stream that goes on after its end
abbrev pub joined : StreamParts → List ℕ → StreamParts
joined p more = go_on p.frames p.skipped p.end more

joined-with_frame : (fields : List Field) (p : StreamParts) (more : List ℕ)
    → with_frame fields (joined p more) ≡ joined (with_frame fields p) more
joined-with_frame fields p more = by_end p.end
  where
    by_end : (e : End) → with_frame fields (go_on p.frames p.skipped e more)
        ≡ go_on (fields ∷ p.frames) p.skipped e more
    by_end (Rest bytes) = refl
    by_end Over = refl

joined-with_skipped : (p : StreamParts) (more : List ℕ) → with_skipped (joined p more) ≡ joined (with_skipped p) more
joined-with_skipped p more = by_end p.end
  where
    by_end : (e : End) → with_skipped (go_on p.frames p.skipped e more) ≡ go_on p.frames (p.skipped + 1) e more
    by_end (Rest bytes) =
        let count : p.skipped + (parts (bytes ++ more)).skipped + 1 ≡ p.skipped + 1 + (parts (bytes ++ more)).skipped =
        omega arith in
        rw count refl
    by_end Over = refl

-- nothing before the parts
pub with_frames-nothing : (p : StreamParts) → p ≡ with_frames [] 0 p
with_frames-nothing p = let zero-more : 0 + p.skipped ≡ p.skipped = omega arith in rw zero-more refl

-- at a byte, if what is behind it goes on so
append_at : (byte : ℕ) (s more : List ℕ) →
    ((inside : ℕ) → inside ≤ length s → parts_behind inside (s ++ more) ≡ joined (parts_behind inside s) more)
    → (p : Place) → place (byte ∷ s) ≡ p → parts_of (place (byte ∷ (s ++ more))) (byte ∷ (s ++ more))
    (λ inside. parts_behind inside (s ++ more))
    ≡ joined (parts_of p (byte ∷ s) (λ inside. parts_behind inside s)) more
unfolding parts_behind
append_at byte s more rest (Frame size fields) e =
    let there = frame_is_there (byte ∷ s) size fields e in
    let kept : place (byte ∷ (s ++ more)) ≡ Frame size fields = place_more (byte ∷ s) more (λ w. other (sym e ∙ w)) ∙ e
    in
    ap (λ (p : Place). parts_of p (byte ∷ (s ++ more)) (λ inside. parts_behind inside (s ++ more))) kept
    ∙ ap (with_frame fields) (rest (size - 1) (omega (arith, there.some, there.there)))
    ∙ joined-with_frame fields (parts_behind (size - 1) s) more
  where
    other : ◌≢◌ {A = Place} (Frame size fields) Waiting
    other h = cc
append_at byte s more rest Skipped e =
    let kept : place (byte ∷ (s ++ more)) ≡ Skipped = place_more (byte ∷ s) more (λ w. other (sym e ∙ w)) ∙ e in
    ap (λ (p : Place). parts_of p (byte ∷ (s ++ more)) (λ inside. parts_behind inside (s ++ more))) kept
    ∙ ap with_skipped (rest 0 (omega arith)) ∙ joined-with_skipped (parts_behind 0 s) more
  where
    other : ◌≢◌ {A = Place} Skipped Waiting
    other h = cc
append_at byte s more rest Waiting e = at_place
    (parts_of (place (byte ∷ (s ++ more))) (byte ∷ (s ++ more)) (λ inside. parts_behind inside (s ++ more)))
    (parts ((byte ∷ s) ++ more)) refl
  where
    at_place : (p q : StreamParts) → p ≡ q → p ≡ with_frames [] 0 q
    at_place p q same = same ∙ with_frames-nothing q
append_at byte s more rest TooLong e =
    let kept : place (byte ∷ (s ++ more)) ≡ TooLong = place_more (byte ∷ s) more (λ w. other (sym e ∙ w)) ∙ e in
    ap (λ (p : Place). parts_of p (byte ∷ (s ++ more)) (λ inside. parts_behind inside (s ++ more))) kept
  where
    other : ◌≢◌ {A = Place} TooLong Waiting
    other h = cc

pub parts_behind-append : (inside : ℕ) (s more : List ℕ) → inside ≤ length s
    → parts_behind inside (s ++ more) ≡ joined (parts_behind inside s) more
unfolding parts_behind
parts_behind-append zero [] more le = with_frames-nothing (parts more)
parts_behind-append (suc inside) [] more le = absurd (omega arith)
parts_behind-append (suc inside) (byte ∷ s) more le = parts_behind-append inside s more (omega arith)
parts_behind-append zero (byte ∷ s) more le =
    append_at byte s more (λ inside h. parts_behind-append inside s more h) (place (byte ∷ s)) refl

-- the parts of two pieces are those of the first, and then those of what it left and the second
pub parts-append : (s more : List ℕ) → parts (s ++ more) ≡ joined (parts s) more
parts-append s more = parts_behind-append 0 s more (omega arith)

-- ---- a scan of a text from the left

is_some : (s : List ℕ) → place s ≢ Waiting → 1 ≤ length s
is_some [] judged = absurd (judged place_of_nothing)
is_some (byte ∷ s) judged = omega arith

-- a frame is found
pub on_frame : (text : List ℕ) (frames : List (List Field)) (skipped at size : ℕ) (fields : List Field)
    → IsOn text frames skipped at → Frame size fields ≡ place (drop at text)
    → IsOn text (frames ++ fields ∷ []) skipped (at + size) × (1 ≤ size)
on_frame text frames skipped at size fields on e =
    let there = frame_is_there (drop at text) size fields (sym e) in
    let rest : drop size (drop at text) ≡ drop (at + size) text = drop-drop size at text in
    let step = parts-frame (drop at text) size fields (sym e) ∙ ap (λ (s : List ℕ). with_frame fields (parts s)) rest in (
      record {
        within = omega (arith, on.within, there.there, length-drop at text);
        few = omega (arith, on.few);
        parts = on.parts ∙ ap (with_frames frames skipped) step
            ∙ ap (λ (l : List (List Field)). record (with_frames frames skipped (parts (drop (at + size) text)))
            { frames = l }) (sym (append_assoc frames (fields ∷ []) (parts (drop (at + size) text)).frames));
      },
      there.some,
    )

pub on_skipped : (text : List ℕ) (frames : List (List Field)) (skipped at : ℕ) → IsOn text frames skipped at
    → Skipped ≡ place (drop at text) → IsOn text frames (skipped + 1) (at + 1)
on_skipped text frames skipped at on e =
    let some = is_some (drop at text) (λ w. other (e ∙ w)) in
    let rest : drop 1 (drop at text) ≡ drop (at + 1) text = drop-drop 1 at text in
    let step = parts-skipped (drop at text) (sym e) ∙ ap (λ (s : List ℕ). with_skipped (parts s)) rest in
    let count : skipped + ((parts (drop (at + 1) text)).skipped + 1)
    ≡ skipped + 1 + (parts (drop (at + 1) text)).skipped = omega arith in
    record {
      within = omega (arith, some, length-drop at text);
      few = omega (arith, on.few);
      parts = on.parts ∙ ap (with_frames frames skipped) step
          ∙ ap (λ n. record (with_frames frames skipped (parts (drop (at + 1) text))) { skipped = n }) count;
    }
  where
    other : ◌≢◌ {A = Place} Skipped Waiting
    other h = cc

-- nothing more is judged
at_end : (text : List ℕ) (frames : List (List Field)) (skipped at : ℕ) (end : End) → IsOn text frames skipped at
    → parts (drop at text) ≡ only end → record { frames = frames; skipped = skipped; end = end } ≡ parts text
at_end text frames skipped at end on e =
    let none : skipped + 0 ≡ skipped = omega arith in
    sym (on.parts ∙ ap (with_frames frames skipped) e
    ∙ ap (λ (l : List (List Field)). record { frames = l; skipped = skipped + 0; end = end }) (append-nil frames)
    ∙ ap (λ n. record { frames = frames; skipped = n; end = end }) none)

pub at_rest : (text rest : List ℕ) (frames : List (List Field)) (skipped at : ℕ) → IsOn text frames skipped at
    → Waiting ≡ place (drop at text) → rest ≡ drop at text
    → record { frames = frames; skipped = skipped; end = Rest rest } ≡ parts text
at_rest text rest frames skipped at on e same =
    at_end text frames skipped at (Rest rest) on
    (parts-waiting (drop at text) (sym e) ∙ ap (λ (s : List ℕ). only (Rest s)) (sym same))

pub at_over : (text : List ℕ) (frames : List (List Field)) (skipped at : ℕ) → IsOn text frames skipped at
    → TooLong ≡ place (drop at text) → record { frames = frames; skipped = skipped; end = Over } ≡ parts text
at_over text frames skipped at on e = at_end text frames skipped at Over on (parts-too_long (drop at text) (sym e))

-- ---- a piece that is fed

-- a reader with bytes that wait, fed a piece, is as the parts of both together say
pub feeds : (fed piece bytes : List ℕ) (old after : ReaderStanding) (p : StreamParts) → BytesLeave fed old
    → old.end ≡ Rest bytes → p ≡ parts (bytes ++ piece) → after.end ≡ p.end
    → after.skipped ≡ min (old.skipped + p.skipped) (2 ^ 64 - 1) → Feeds fed piece p.frames after
unfolding BytesLeave
feeds fed piece bytes old after p left waits same end skipped =
    let all : parts (fed ++ piece) ≡ with_frames (parts fed).frames (parts fed).skipped p =
    parts-append fed piece ∙ ap (λ (e : End). go_on (parts fed).frames (parts fed).skipped e piece) (sym left.0 ∙ waits)
    ∙ ap (with_frames (parts fed).frames (parts fed).skipped) (sym same) in
    record {
      frames = ap (λ (q : StreamParts). q.frames) all;
      leaves = (
        end ∙ sym (ap (λ (q : StreamParts). q.end) all),
        omega
            (arith, skipped, left.1, ap (λ (q : StreamParts). q.skipped) all),
      );
    }

-- one that is over gives nothing more
pub feeds_over : (fed piece : List ℕ) (old : ReaderStanding) → BytesLeave fed old → old.end ≡ Over
    → Feeds fed piece [] old
unfolding BytesLeave
feeds_over fed piece old left over =
    let all : parts (fed ++ piece) ≡ record { frames = (parts fed).frames; skipped = (parts fed).skipped; end = Over } =
    parts-append fed piece ∙ ap (λ (e : End). go_on (parts fed).frames (parts fed).skipped e piece) (sym left.0 ∙ over)
    in
    record {
      frames = ap (λ (q : StreamParts). q.frames) all ∙ sym (append-nil (parts fed).frames);
      leaves = (
        over ∙ sym (ap (λ (q : StreamParts). q.end) all),
        omega
            (arith, left.1, ap (λ (q : StreamParts). q.skipped) all),
      );
    }
