-- Events at moments that a clock reported.
use Rattle.std.proofs.Common.{◌≡◌, ℕ, ◌++◌, List, [], ◌∷◌, Option, None, refl, sym, ◌∙◌, ap, subst, append_assoc}
use Rattle.std.proofs.Common.{append-nil}
use Rattle.link_io.specs.Events.{Event}
use Rattle.link_decoders.specs.Making.{event_moment}
use Rattle.link_io.specs.Reading.{AreAt, offered_list}
use Rattle.gate_workers.specs.Moments.{AreAsReported, ComesAsReported}

-- later moments may have been reported
pub reported_later : (moments later : List ℕ) (events : List Event) → AreAsReported moments events
    → AreAsReported (moments ++ later) events
reported_later moments later [] h = tt
reported_later moments later (e ∷ es) (before, after, is, rest) = (
  before,
  after ++ later,
  ap (λ (ms : List ℕ). ms ++ later) is ∙ append_assoc before (event_moment e ∷ after) later,
  reported_later (event_moment e ∷ after) later es rest,
)

-- the first ones
pub reported_front : (moments : List ℕ) (events more : List Event) → AreAsReported moments (events ++ more)
    → AreAsReported moments events
reported_front moments [] more h = tt
reported_front moments (e ∷ es) more (before, after, is, rest) = (
  before,
  after,
  is,
  reported_front (event_moment e ∷ after) es more rest,
)

-- all at the last one
reported_last : (moments : List ℕ) (at : ℕ) (events : List Event) → AreAt at events
    → AreAsReported (moments ++ at ∷ []) events
reported_last moments at [] h = tt
reported_last moments at (e ∷ es) (now, rest) = (
  moments,
  [],
  ap (λ (m : ℕ). moments ++ m ∷ []) (sym now),
  subst (λ (m : ℕ). AreAsReported (m ∷ []) es) (sym now) (reported_last [] at es rest),
)

-- one moment more, with events at it
pub reported_more : (moments : List ℕ) (at : ℕ) (events more : List Event) → AreAsReported moments events
    → AreAt at more
    → AreAsReported (moments ++ at ∷ []) (events ++ more)
reported_more moments at [] more h now = reported_last moments at more now
reported_more moments at (e ∷ es) more (before, after, is, rest) now = (
  before,
  after ++ at ∷ [],
  ap (λ (ms : List ℕ). ms ++ at ∷ []) is ∙ append_assoc before (event_moment e ∷ after) (at ∷ []),
  reported_more (event_moment e ∷ after) at es more rest now,
)

-- of what was given back before a step and behind it
pub comes_none : (offered : Option Event) → ComesAsReported [] offered [] offered
comes_none offered = ([], sym (append-nil (offered_list offered)), tt)

pub comes_more : (moments : List ℕ) (at : ℕ) (a b c : Option Event) (put also more : List Event)
    → ComesAsReported moments a put b → also ++ offered_list c ≡ offered_list b ++ more → AreAt at more
    → ComesAsReported (moments ++ at ∷ []) a (put ++ also) c
comes_more moments at a b c put also more (before, is, reported) joins now = (
  before ++ more,
  append_assoc put also (offered_list c)
      ∙ (ap (λ (es : List Event). put ++ es) joins
      ∙ (sym (append_assoc put (offered_list b) more)
      ∙ (ap (λ (es : List Event). es ++ more) is ∙ append_assoc (offered_list a) before more))),
  reported_more moments at before more reported now,
)

pub comes_later : (moments later : List ℕ) (a b : Option Event) (put : List Event) → ComesAsReported moments a put b
    → ComesAsReported (moments ++ later) a put b
comes_later moments later a b put (before, is, reported) = (before, is, reported_later moments later before reported)

-- what was put of it, where nothing was given back before
pub put_as_reported : (moments : List ℕ) (a b : Option Event) (put : List Event) → a ≡ None
    → ComesAsReported moments a put b
    → AreAsReported moments put
put_as_reported moments a b put fresh (more, is, reported) =
    reported_front moments put (offered_list b)
    (subst (λ (es : List Event). AreAsReported moments es)
    (sym (is ∙ ap (λ (o : Option Event). offered_list o ++ more) fresh)) reported)
