-- The next frame of a client's link, and the events of its frames.
use Rattle.std.proofs.Common.{◌≡◌, ℕ, zero, suc, ◌+◌, ◌-◌, ◌<◌, ◌≤◌, ◌⊎◌, inl, inr, ◌++◌, Bool, true, false, List, []}
use Rattle.std.proofs.Common.{◌∷◌, length, take, Option, Some, None, Ok, Err, refl, sym, ◌∙◌, ap, subst, append-nil}
use Rattle.std.proofs.Common.{arith, nat_lt}
use Rattle.std.proofs.lemmas.List.{length-take}
use Rattle.std.proofs.lemmas.Bool.Decides.{nat_tests}
use Rattle.gate_law.specs.Events.{Event, ClientMessage}
use Rattle.fix_framing.specs.fix_fields.Field.{Field, Message, fields_text}
use Rattle.fix_framing.specs.fix_fields.Reading.{fields_of}
use Rattle.fix_framing.proofs.fix_fields.Reading.{fields_of-found}
use Rattle.fix_framing.specs.declared.frame_fault.FrameFault.TheVariants as fault
use Rattle.fix_framing.specs.Front.{GivesFrame}
use Rattle.fix_framing.specs.Frame.{trailer_size}
use Rattle.fix_framing.specs.Stream.{Start, Head, LessThanHead, NoHead, Place, Frame, Skipped, Waiting, TooLong, place}
use Rattle.fix_framing.specs.Stream.{place_of, place_of_head, framed_by, is_whole, parts, parts_behind, parts_of}
use Rattle.fix_framing.specs.Stream.{StreamParts, End, Rest, Over, left, longest, only, Passed}
use Rattle.fix_framing.specs.Stream.{ReaderStanding, start}
use Rattle.link_decoders.specs.declared.decode_fault.DecodeFault.TheVariants.{Malformed}
use Rattle.link_decoders.specs.Decoding.{BringFrames, FramesOfLink, MadeOfFrames, NextFrame}

either : (b : Bool) → (b ≡ true) ⊎ (b ≡ false)
either true = inl refl
either false = inr refl

-- ---- a frame of a stream prints in at most as many bytes as the longest

abbrev AreShort : List Message → Type 0
AreShort [] = Unit {0}
AreShort (fields ∷ more) = (length (fields_text fields) ≤ longest) × AreShort more

short_text : (n : ℕ) (s : List ℕ) (fields : List Field) → n ≤ longest → fields_of (take n s) ≡ Some fields
    → length (fields_text fields) ≤ longest
short_text n s fields short e = omega (
  arith,
  short,
  ap length
      (fields_of-found (take n s) fields e).spelled,
  length-take n s,
)

framed_short : (n : ℕ) (s : List ℕ) (found : Option (List Field)) → n ≤ longest → fields_of (take n s) ≡ found
    → (size : ℕ) (fields : List Field)
    → framed_by n found ≡ Frame size fields → length (fields_text fields) ≤ longest
framed_short n s None short e size fields f = cc
framed_short n s (Some found) short e size fields f =
    let same : found ≡ fields = cc in
    short_text n s fields short (e ∙ ap (λ (g : List Field). Some g) same)

head_short : (h n : ℕ) (s : List ℕ) (size : ℕ) (fields : List Field) → place_of_head h n s ≡ Frame size fields
    → length (fields_text fields) ≤ longest
head_short h n s size fields e = elim (either (nat_lt longest n)) [
  | inl long ↦ let wrong : ◌≡◌ {A = Place} TooLong (Frame size fields) = rw long at e in cc
  | inr short ↦ elim (either (nat_lt (length s) n)) [
    | inl some ↦ let wrong : ◌≡◌ {A = Place} Waiting (Frame size fields) = rw (short, some) at e in cc
    | inr all ↦ elim (either (is_whole h (take n s))) [
      | inl whole ↦ framed_short n s (fields_of (take n s)) (grind (arith, nat_tests)) refl size fields
          (rw (short, all, whole) at e)
      | inr broken ↦ let wrong : ◌≡◌ {A = Place} Skipped (Frame size fields) = rw (short, all, broken) at e in cc
    ]
  ]
]

place_short : (s : List ℕ) (size : ℕ) (fields : List Field) → place s ≡ Frame size fields
    → length (fields_text fields) ≤ longest
unfolding place
place_short s size fields e = by_start (start s) e
  where
    by_start : (b : Start) → place_of b s ≡ Frame size fields → length (fields_text fields) ≤ longest
    by_start (Head h body) e = head_short h (h + body + trailer_size) s size fields e
    by_start LessThanHead e = cc
    by_start NoHead e = cc

short_of : (p : Place) (s : List ℕ) (rest : ℕ → StreamParts) → place s ≡ p → ((n : ℕ) → AreShort (rest n).frames)
    → AreShort (parts_of p s rest).frames
short_of (Frame size fields) s rest e more = (place_short s size fields e, more (size - 1))
short_of Skipped s rest e more = more 0
short_of Waiting s rest e more = tt
short_of TooLong s rest e more = tt

all_short : (stream : List ℕ) (inside : ℕ) → AreShort (parts_behind inside stream).frames
unfolding parts_behind
all_short [] zero = tt
all_short [] (suc inside) = tt
all_short (byte ∷ stream) zero = short_of (place (byte ∷ stream)) (byte ∷ stream)
    (λ inside. parts_behind inside stream) refl (all_short stream)
all_short (byte ∷ stream) (suc inside) = all_short stream inside

first_short : (frames : List Message) (fields : List Field) (more : List Message) → frames ≡ fields ∷ more
    → AreShort frames → length (fields_text fields) ≤ longest
first_short [] fields more e short = cc
first_short (first ∷ rest) fields more e short =
    let same : first ≡ fields = cc in
    subst (λ (f : List Field). length (fields_text f) ≤ longest) same short.0

left_short : (end : End) (fields : List Field) (more : List Message) → (left end).frames ≡ fields ∷ more
    → length (fields_text fields) ≤ longest
left_short (Rest bytes) fields more e = first_short (parts bytes).frames fields more e (all_short bytes 0)
left_short Over fields more e = cc

-- ---- the next frame

next_some : (fields : List Field) (old new : ReaderStanding) → GivesFrame (Ok (Some fields)) old new
    → NextFrame (Ok (Some fields)) old new
next_some fields old new (first, passes, let_go) =
    (passes, first, left_short old.end fields (left new.end).frames first)

end_of_passed : (taken : List ℕ) (passed : List Message) (r : ReaderStanding) → Passed taken passed r
    → (parts taken).end ≡ (left r.end).end
unfolding Passed
end_of_passed taken passed r (skipped, whole, count) = ap (λ (p : StreamParts). p.end) whole

frames_of_passed : (taken : List ℕ) (passed : List Message) (r : ReaderStanding) → Passed taken passed r
    → (left r.end).frames ≡ [] → (parts taken).frames ≡ passed
unfolding Passed
frames_of_passed taken passed r (skipped, whole, count) none =
    ap (λ (p : StreamParts). p.frames) whole ∙ (ap (λ (l : List Message). passed ++ l) none ∙ append-nil passed)

next_none : (old v : ReaderStanding) → GivesFrame (Ok None) old v → NextFrame (Ok None) old v
next_none old v (none, waits, sought) taken passed h = (
  sought.passed taken passed h,
  frames_of_passed taken passed old h none,
  (waits.0, end_of_passed taken passed old h ∙ waits.1),
)

pub next_given : (found : Option Message) (old new : ReaderStanding) → GivesFrame (Ok found) old new
    → NextFrame (Ok found) old new
next_given (Some fields) old new given = next_some fields old new given
next_given None old new given = next_none old new given

pub next_malformed : (old v : ReaderStanding) → GivesFrame (Err fault.TooLong) old v → NextFrame (Err Malformed) old v
next_malformed old v (none, over, sought) taken passed h =
    (sought.passed taken passed h, frames_of_passed taken passed old h none, end_of_passed taken passed old h ∙ over)

-- ---- as events

bring_more : (client link : ℕ) (frames : List Message) (events : List Event) (frame : Message) (event : Event) (at : ℕ)
    → BringFrames client link frames events → event ≡ ClientMessage client link at frame
    → BringFrames client link (frames ++ frame ∷ []) (events ++ event ∷ [])
bring_more client link [] [] frame event at so_far e = ((at, e), tt)
bring_more client link [] (x ∷ events) frame event at so_far e = absurd so_far
bring_more client link (f ∷ frames) [] frame event at so_far e = absurd so_far
bring_more client link (f ∷ frames) (x ∷ events) frame event at so_far e =
    (so_far.0, bring_more client link frames events frame event at so_far.1 e)

pub makes_frame : (old f : FramesOfLink) (at : ℕ) (r : ReaderStanding) (fields frame : Message)
    → NextFrame (Ok (Some fields)) f.framer r → old ≡ f
    → frame ≡ fields
    → ((taken : List ℕ) (events : List Event) → MadeOfFrames old taken events
    → MadeOfFrames (record f { framer = r }) taken (events ++ ClientMessage f.client f.link at frame ∷ []))
    × (length (left r.end).frames < length (left old.framer.end).frames)
makes_frame old f at r fields frame (passes, first, short) is same = (
  λ taken events h.
      let m = subst (λ (z : FramesOfLink). MadeOfFrames z taken events) is h in (
        m.0 ++ fields ∷ [],
        passes taken m.0 m.1,
        bring_more f.client f.link m.0 events fields (ClientMessage f.client f.link at frame) at m.2
            (ap (ClientMessage f.client f.link at) same),
      ),
  let fewer : length (left r.end).frames < length (left f.framer.end).frames = omega (arith, ap length first) in
      subst (λ (z : FramesOfLink). length (left r.end).frames < length (left z.framer.end).frames) (sym is) fewer,
)

-- no byte is held
none_left : parts [] ≡ only (Rest [])
unfolding parts_behind
none_left = refl

pub next_idle : (r : ReaderStanding) → r.end ≡ Rest [] → NextFrame (Ok None) r r
next_idle r e taken passed h = (
  h,
  frames_of_passed taken passed r h (ap (λ (z : End). (left z).frames) e
      ∙ ap (λ (p : StreamParts). p.frames) none_left),
  (
    [],
    end_of_passed taken passed r h ∙ (ap (λ (z : End). (left z).end) e
        ∙ ap (λ (p : StreamParts). p.end) none_left),
  ),
)
