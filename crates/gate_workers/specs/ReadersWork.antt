-- What the reader's worker of a link has put when its link is over.
--
-- SoupBinTCP 3.00, "Logical Packets", and FIX 4.4 Volume 1, "Message Format", say what a stream brings; that a link's
-- beginning and end are events of their own is this gateway's.
use Rattle.std.specs.Prelude.{◌≡◌, ℕ, ◌++◌, Bool, true, false, List, [], ◌∷◌, Option, Result, Ok, Err}
use Rattle.std.specs.Io.KnownBytes.{Consumes, IsAtEnd}
use Rattle.link_io.specs.Events as law
use Rattle.link_io.specs.declared.link_fault.LinkFault.{LinkFault}
use Rattle.link_io.specs.declared.link_fault.LinkFault.TheVariants.{ReadFailed, WriteFailed, Malformed, StepLimit}
use Rattle.link_io.specs.declared.link_fault.LinkFault.TheVariants.{NoMemory}
use Rattle.link_io.specs.Reading.{Reading, Gave, Goes}
use Rattle.gate_workers.specs.Moments.{AreAsReported, ComesAsReported, Tells}

-- steps of a link's reader, one after another: bytes were read, and events were put, at moments that the clock reported
pub record HasRead {D : Type 0} (made : D → List ℕ → List law.Event → Type 0) (old new : Reading D)
    (put_old put_new : List law.Event) (reported_old reported_new left_old left_new : Option (List ℕ)) : Type 0 where
  pub read : List ℕ
  pub put : List law.Event
  pub moments : List ℕ
  pub consumes : Consumes left_old left_new read
  pub puts : put_new ≡ put_old ++ put
  pub tells : Tells reported_old reported_new moments
  pub as_reported : ComesAsReported moments old.offered put new.offered
  pub goes : Goes made read put old new

-- How a link's reading ended. At the end of the stream, and where the read failed, all that stood whole in it is put;
-- at a head of too long a frame, or at an empty packet, all before it. After the last step what is put are the first.
abbrev pub EndsWith : {D : Type 0} → (D → Bool → List ℕ → List law.Event → Type 0) → Result Unit LinkFault
    → (read : List ℕ) → (put : List law.Event) → D → (left : Option (List ℕ)) → Type 0
EndsWith are_all (Ok ended) read put d left = IsAtEnd left × are_all d false read put
EndsWith are_all (Err ReadFailed) read put d left = are_all d false read put
EndsWith are_all (Err Malformed) read put d left = are_all d true read put
EndsWith are_all (Err StepLimit) read put d left = Unit {0}
EndsWith are_all (Err WriteFailed) read put d left = ⊥
EndsWith are_all (Err NoMemory) read put d left = ⊥

-- The steps of a reader until its link is over, with what made the events then.
pub record HasReadAll {D : Type 0} (made : D → List ℕ → List law.Event → Type 0)
    (are_all : D → Bool → List ℕ → List law.Event → Type 0) (IsOf : D → Type 0) (answer : Result Unit LinkFault)
    (old : Reading D) (put_old put_new : List law.Event) (reported_old reported_new left_old left_new : Option (List ℕ))
    : Type 0 where
  pub read : List ℕ
  pub put : List law.Event
  pub moments : List ℕ
  pub consumes : Consumes left_old left_new read
  pub puts : put_new ≡ put_old ++ put
  pub tells : Tells reported_old reported_new moments
  pub reading : Reading D
  pub as_reported : ComesAsReported moments old.offered put reading.offered
  pub is_of : IsOf reading.decoder
  pub goes : Goes made read put old reading
  pub ends : (before : List ℕ) (events : List law.Event) → Gave made before events old
      → EndsWith are_all answer (before ++ read) (events ++ put) reading.decoder left_new

-- A link from its beginning to its end: the event that it is up comes first, then the events of the bytes read, in
-- order, and last the event that it is gone; each at a moment that the clock reported, the first at the first, the last
-- at the last.
pub record ReadsLink {D : Type 0} (made : D → List ℕ → List law.Event → Type 0)
    (are_all : D → Bool → List ℕ → List law.Event → Type 0) (IsOf : D → Type 0) (up gone : ℕ → law.Event)
    (answer : Result Unit LinkFault) (put_old put_new : List law.Event)
    (reported_old reported_new left_old left_new : Option (List ℕ)) : Type 0 where
  pub read : List ℕ
  pub events : List law.Event
  pub began : ℕ
  pub moments : List ℕ
  pub ended : ℕ
  pub puts : put_new ≡ put_old ++ up began ∷ events ++ gone ended ∷ []
  pub tells : Tells reported_old reported_new (began ∷ moments ++ ended ∷ [])
  pub as_reported : AreAsReported moments events
  pub consumes : Consumes left_old left_new read
  -- what made the events of the bytes, when the link was over
  pub reading : Reading D
  pub is_of : IsOf reading.decoder
  pub gave : Gave made read events reading
  pub ends : EndsWith are_all answer read events reading.decoder left_new
