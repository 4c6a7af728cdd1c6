-- What is printed of the lines that were given.
use Rattle.std.proofs.Common.{◌≡◌, ℕ, ◌+◌, ◌-◌, List, [], ◌∷◌, ◌++◌, Option, None, Some, IfSome, Result, Ok, Err}
use Rattle.std.proofs.Common.{IsErrAnd, IfErr, OnOk, ◌⊎◌, inl, inr, length, refl, sym, subst, ◌∙◌, arith, append_assoc}
use Rattle.std.specs.Io.KnownBytes.{Keeps}
use Rattle.std.proofs.KnownBytes.{Appends-nil, Appends-trans, Appends-kept, Keeps-refl, Keeps-trans}
use Rattle.std.proofs.lemmas.Fn.{FoldsTo-push}
use Rattle.gate_lines.specs.declared.flags.Flags.{Flags}
use Rattle.script_steps.specs.script_lines.declared.fault.LineFault.TheVariants as line_fault
use Rattle.wire_streams.specs.declared.stream_fault.StreamFault.{StreamFault}
use Rattle.wire_streams.specs.declared.stream_fault.StreamFault.TheVariants as stream_fault
use Rattle.wire_streams.specs.Unread.{GivesLine, lines_of}
use Rattle.wire_streams.proofs.Given.{Leaves, all-given, first-given}
use Rattle.script_steps.specs.Standing.{Runner}
use Rattle.gate_lines.specs.declared.stop.Stop.{Stop}
use Rattle.gate_lines.specs.declared.stop.Stop.TheVariants.{NotUnderstood, NoMemory, Stream}
use Rattle.gate_lines.specs.Scripts.{BeginsScript, IsPrintedStep, Prints, PrintsAll, PrintsLine, StopsScript}
use Rattle.gate_lines.specs.Scripts.{StopsAmong, WritesNothing, printed_of}
use Rattle.gate_lines.specs.Status.{IsStopAt, stop_status, stop_of_stream}

pub none-printed : (flags : Flags) (start : Runner) (held : Option (List ℕ)) → Prints flags start [] start held held
none-printed flags start held = ([], refl, Appends-nil held)

pub one-printed : (flags : Flags) (start now later : Runner) (given : List (List ℕ)) (text : List ℕ)
    (before held after : Option (List ℕ))
    → Prints flags start given now before held → PrintsLine flags now text later held after
    → Prints flags start (given ++ text ∷ []) later before after
one-printed flags start now later given text before held after (printed, steps, wrote) (kept, step, writes) = (
  printed ++ printed_of flags kept,
  FoldsTo-push (IsPrintedStep flags) (record { runner = start; printed = [] }) given
      (record { runner = now; printed = printed }) text
      (record { runner = later; printed = printed ++ printed_of flags kept }) steps (kept, step, refl),
  Appends-trans before held after printed (printed_of flags kept) wrote writes,
)

pub all-printed : (known : Option (List ℕ)) (flags : Flags) (start later : Runner) (given : List (List ℕ))
    (left last : Option (List (List ℕ))) (before after : Option (List ℕ))
    → Leaves known given left → GivesLine left last None → Prints flags start given later before after
    → IfSome known (λ text. Prints flags start (lines_of text) later before after)
all-printed None flags start later given left last before after leaves gives prints = tt
all-printed (Some text) flags start later given left last before after leaves gives prints =
    subst (λ l. Prints flags start l later before after) (all-given (Some text) given left last leaves gives) prints

-- the stream stopped the run
pub stream-stopped : (known : Option (List ℕ)) (flags : Flags) (start now : Runner) (given : List (List ℕ))
    (left : Option (List (List ℕ))) (before held : Option (List ℕ)) (fault : StreamFault)
    → Leaves known given left → Prints flags start given now before held
    → IfSome known (λ text. StopsAmong flags start text (stop_of_stream fault) before held)
stream-stopped None flags start now given left before held fault leaves prints = tt
stream-stopped (Some text) flags start now given left before held stream_fault.NoMemory leaves prints =
    let first = first-given (Some text) given left leaves in
    (length given, (given, first.0, now, first.1, refl, prints))
stream-stopped (Some text) flags start now given left before held stream_fault.Stream leaves prints = tt

-- the line behind those that were printed stopped it
pub line-stopped : (known : Option (List ℕ)) (flags : Flags) (start now : Runner) (given : List (List ℕ))
    (line : List ℕ) (left : Option (List (List ℕ))) (before held after : Option (List ℕ)) (number : ℕ) (stop : Stop)
    → Leaves known (given ++ line ∷ []) left → Prints flags start given now before held → length given + 1 ≡ number
    → WritesNothing number line stop held after
    → IfSome known (λ text. StopsAmong flags start text stop before after)
line-stopped None flags start now given line left before held after number stop leaves prints count nothing = tt
line-stopped (Some text) flags start now given line left before held after number (NotUnderstood told) leaves
    (printed, steps, wrote) count (is, may, kept) =
    let first = first-given (Some text) (given ++ line ∷ []) left leaves in
    let place : length given ≡ told - 1 = omega arith in (
      given,
      line,
      first.0,
      now,
      first.1 ∙ append_assoc given (line ∷ []) first.0,
      place,
      may,
      (printed, steps, Appends-kept before held after printed wrote kept),
    )
line-stopped (Some text) flags start now given line left before held after number NoMemory leaves
    (printed, steps, wrote) count kept =
    let first = first-given (Some text) (given ++ line ∷ []) left leaves in (
      length given,
      (
        given,
        line ∷ first.0,
        now,
        first.1
            ∙ append_assoc given (line ∷ []) first.0,
        refl,
        (printed, steps, Appends-kept before held after printed wrote kept),
      ),
    )
line-stopped (Some text) flags start now given line left before held after number Stream leaves prints count nothing =
    tt

-- nothing is written for a line that stops
pub not-written : (number : ℕ) (text : List ℕ) (stop : Stop) (held : Option (List ℕ)) → IsStopAt number text stop
    → WritesNothing number text stop held held
not-written number text stop held (line_fault.NoMemory, is, may) =
    subst (λ (s : Stop). WritesNothing number text s held held) (sym is) (Keeps-refl held)
not-written number text stop held (line_fault.NotUnderstood, is, may) =
    subst (λ (s : Stop). WritesNothing number text s held held) (sym is) (refl, may refl, Keeps-refl held)

-- an error that is passed on
pub passed-on : {T : Type 0} (r : Result T Stop) (e : Stop) (P : Stop → Type 0) → IsErrAnd r (λ stop. stop ≡ e) → P e
    → IfErr r P
passed-on (Ok x) e P is holds = tt
passed-on (Err stop) e P is holds = subst P (sym is) holds

-- ---- a whole script

pub begun-all : (known : Option (List ℕ)) (flags : Flags) (start later : Runner) (before after : Option (List ℕ))
    → BeginsScript flags.cold start
    → IfSome known (λ text. Prints flags start (lines_of text) later before after)
    → IfSome known (λ text. PrintsAll flags text before after)
begun-all None flags start later before after begins prints = tt
begun-all (Some text) flags start later before after begins prints = (start, begins, later, prints)

pub begun-stops : (known : Option (List ℕ)) (flags : Flags) (start : Runner) (stop : Stop)
    (before after : Option (List ℕ)) → BeginsScript flags.cold start
    → IfSome known (λ text. StopsAmong flags start text stop before after)
    → IfSome known (λ text. StopsScript flags text stop before after)
begun-stops None flags start stop before after begins stops = tt
begun-stops (Some text) flags start stop before after begins stops = inr (start, begins, stops)

pub not-begun : (known : Option (List ℕ)) (flags : Flags) (stop : Stop) (held : Option (List ℕ))
    → IfSome known (λ text. StopsScript flags text stop held held)
not-begun None flags stop held = tt
not-begun (Some text) flags stop held = inl (Keeps-refl held)

-- ---- a flush adds nothing

kept-all : (flags : Flags) (text : List ℕ) (before held after : Option (List ℕ)) → PrintsAll flags text before held
    → Keeps held after → PrintsAll flags text before after
kept-all flags text before held after (start, begins, later, (printed, steps, wrote)) kept =
    (start, begins, later, (printed, steps, Appends-kept before held after printed wrote kept))

kept-among : (flags : Flags) (start : Runner) (text : List ℕ) (number : ℕ) (before held after : Option (List ℕ))
    → StopsAmong flags start text (NotUnderstood number) before held → Keeps held after
    → StopsAmong flags start text (NotUnderstood number) before after
kept-among flags start text number before held after
    (given, last, rest, later, is, count, may, (printed, steps, wrote)) kept =
    (given, last, rest, later, is, count, may, (printed, steps, Appends-kept before held after printed wrote kept))

kept-stops : (flags : Flags) (text : List ℕ) (number : ℕ) (before held after : Option (List ℕ))
    → StopsScript flags text (NotUnderstood number) before held → Keeps held after
    → StopsScript flags text (NotUnderstood number) before after
kept-stops flags text number before held after (inl nothing) kept = inl (Keeps-trans before held after nothing kept)
kept-stops flags text number before held after (inr (start, begins, stops)) kept =
    inr (start, begins, kept-among flags start text number before held after stops kept)

pub flushed-all : {T : Type 0} (known : Option (List ℕ)) (flags : Flags) (before held after : Option (List ℕ))
    (ended : Result T Stop) (x : T)
    → (Ok x ≡ ended) ⊎ (Ok x ≡ Err Stream) → OnOk ended (IfSome known (λ text. PrintsAll flags text before held))
    → Keeps held after
    → IfSome known (λ text. PrintsAll flags text before after)
flushed-all None flags before held after ended x is prints kept = tt
flushed-all (Some text) flags before held after (Ok y) x is prints kept =
    kept-all flags text before held after prints kept
flushed-all (Some text) flags before held after (Err stop) x (inl is) prints kept = cc
flushed-all (Some text) flags before held after (Err stop) x (inr is) prints kept = cc

pub flushed-stops : {T : Type 0} (known : Option (List ℕ)) (flags : Flags) (before held after : Option (List ℕ))
    (ended : Result T Stop) (stop : Stop) (status : ℕ)
    → (Err stop ≡ ended) ⊎ ◌≡◌ {A = Result T Stop} (Err stop) (Err Stream)
    → IfErr ended (λ e. IfSome known (λ text. StopsScript flags text e before held)) → Keeps held after
    → status ≡ stop_status stop → status ≡ 2 → IfSome known
    (λ text. (number : ℕ) × StopsScript flags text (NotUnderstood number) before after)
flushed-stops None flags before held after ended stop status is stops kept told two = tt
flushed-stops {T} (Some text) flags before held after ended (NotUnderstood number) status (inl is) stops kept told two =
    let at : Result T Stop → Type 0 = λ r. IfErr r (λ e. StopsScript flags text e before held) in
    (number, kept-stops flags text number before held after (subst at (sym is) stops) kept)
flushed-stops (Some text) flags before held after ended (NotUnderstood number) status (inr is) stops kept told two = cc
flushed-stops (Some text) flags before held after ended NoMemory status is stops kept told two =
    absurd (omega (arith, told, two))
flushed-stops (Some text) flags before held after ended Stream status is stops kept told two =
    absurd (omega (arith, told, two))
