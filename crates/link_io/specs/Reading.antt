-- What a reader of a link has read and put, and what a step of it does.
use Rattle.std.specs.Prelude.{◌≡◌, ℕ, ◌≤◌, ◌<◌, ◌++◌, Bool, true, false, List, []}
use Rattle.std.specs.Prelude.{◌∷◌, length, Option, Some, None, Result, Ok, Err, IsSome}
use Rattle.std.specs.Io.KnownBytes.{Consumes, Keeps, IsAtEnd}
use Rattle.gate_law.specs.Events as law
use Rattle.link_decoders.specs.Making.{Makes, event_moment}
use Rattle.link_io.specs.declared.limit.Limit.{Limit}
use Rattle.link_io.specs.declared.link_fault.LinkFault.{LinkFault}
use Rattle.link_io.specs.declared.link_fault.LinkFault.TheVariants.{ReadFailed, WriteFailed, Malformed, StepLimit}
use Rattle.link_io.specs.declared.link_fault.LinkFault.TheVariants.{NoMemory}
use Rattle.link_io.specs.declared.next.Next.{Next}
use Rattle.link_io.specs.declared.next.Next.TheVariants.{Put, GivenBack, Nothing}
use Rattle.link_io.specs.declared.progress.Progress.{Progress}
use Rattle.link_io.specs.declared.progress.Progress.TheVariants.{Read, Ended, Held}

-- one read
abbrev pub Fills : Result ℕ LinkFault → (piece : List ℕ) → (left_old left_new : Option (List ℕ)) → Type 0
Fills (Ok count) piece left_old left_new =
    Consumes left_old left_new piece × (length piece ≡ count) × (count ≤ 4_096) × (count ≡ 0 → IsAtEnd left_new)
Fills (Err ReadFailed) piece left_old left_new = (piece ≡ []) × Keeps left_old left_new
Fills (Err WriteFailed) piece left_old left_new = ⊥
Fills (Err Malformed) piece left_old left_new = ⊥
Fills (Err StepLimit) piece left_old left_new = ⊥
Fills (Err NoMemory) piece left_old left_new = ⊥

-- ---- a reader

-- what a reader has: what makes its events, the bytes of a read of which none was made, and an event that was made and
-- given back
pub record Reading (D : Type 0) : Type 0 where
  pub decoder : D
  pub piece : List ℕ
  pub offered : Option law.Event
  pub limit : Limit

abbrev pub offered_list : Option law.Event → List law.Event
offered_list None = []
offered_list (Some event) = event ∷ []

-- these bytes were read, and these events were put: with the one that was given back they are what was made of the
-- bytes in front of those that still lie there
abbrev pub Gave : {D : Type 0} → (D → List ℕ → List law.Event → Type 0) → (read : List ℕ)
    → (put : List law.Event) → Reading D → Type 0
Gave made read put r =
    (taken : List ℕ) × (read ≡ taken ++ r.piece) × made r.decoder taken (put ++ offered_list r.offered)

-- each has this moment
abbrev pub AreAt : ℕ → List law.Event → Type 0
AreAt at [] = Unit {0}
AreAt at (event ∷ events) = (event_moment event ≡ at) × AreAt at events

-- Of what was put and then given back, what was given back before comes first: the same event. All behind it have the
-- moment of this step.
abbrev pub ComesFirst : (at : ℕ) → (before : Option law.Event) → (put : List law.Event) → (after : Option law.Event)
    → Type 0
ComesFirst at before put after =
    (more : List law.Event) × (put ++ offered_list after ≡ offered_list before ++ more) × AreAt at more

-- these bytes were read, and these events were put
abbrev pub Goes : {D : Type 0} → (D → List ℕ → List law.Event → Type 0) → (read : List ℕ) → (put : List law.Event)
    → Reading D → Reading D → Type 0
Goes made read put old new =
    (before : List ℕ) (events : List law.Event) → Gave made before events old
    → Gave made (before ++ read) (events ++ put) new

-- and with those before they are all events of all bytes
abbrev pub GoesThrough : {D : Type 0} → (D → List ℕ → List law.Event → Type 0) → (D → Bool → List ℕ
    → List law.Event → Type 0)
    → Bool → (read : List ℕ) → (put : List law.Event) → Reading D → Reading D → Type 0
GoesThrough made are_all over read put old new =
    (before : List ℕ) (events : List law.Event) → Gave made before events old
    → are_all new.decoder over (before ++ read) (events ++ put)

-- what was given back is put, or given back again
abbrev pub Offers : {D : Type 0} → Bool → (old new : Reading D) → (put_old put_new : List law.Event) → Type 0
Offers true old new put_old put_new =
    (new ≡ record old { offered = None }) × (put_new ≡ put_old ++ offered_list old.offered)
Offers false old new put_old put_new = (new ≡ old) × (put_new ≡ put_old) × IsSome new.offered

-- the bytes that were read are taken
pub record FeedsPiece {D : Type 0} (made : D → List ℕ → List law.Event → Type 0) (old new : Reading D) : Type 0 where
  pub goes : Goes made [] [] old new
  pub piece : new.piece ≡ []
  pub offered : new.offered ≡ old.offered

-- the next event is made, to be put, where there is one
abbrev pub MakesNext : {D : Type 0} → (D → List ℕ → List law.Event → Type 0) → (D → Bool → List ℕ
    → List law.Event → Type 0)
    → (D → ℕ) → Result Bool LinkFault → (old new : Reading D) → Type 0
MakesNext made are_all to_make (Ok true) old new =
    Goes made [] [] old new × (new.piece ≡ []) × (to_make new.decoder < to_make old.decoder)
MakesNext made are_all to_make (Ok false) old new =
    Goes made [] [] old new × (new.piece ≡ []) × (new.offered ≡ None) × GoesThrough made are_all false [] [] old new
MakesNext made are_all to_make (Err Malformed) old new = Goes made [] [] old new
    × GoesThrough made are_all true [] [] old new
MakesNext made are_all to_make (Err NoMemory) old new = Goes made [] [] old new
MakesNext made are_all to_make (Err ReadFailed) old new = ⊥
MakesNext made are_all to_make (Err WriteFailed) old new = ⊥
MakesNext made are_all to_make (Err StepLimit) old new = ⊥

-- no event was given back, and of the bytes that were read none is to be made
abbrev pub HasNothing : {D : Type 0} → (D → List ℕ → List law.Event → Type 0) → (D → Bool → List ℕ
    → List law.Event → Type 0)
    → (D → ℕ) → Reading D → Type 0
HasNothing made are_all to_make r =
    (r.offered ≡ None) × (r.piece ≡ []) × Makes made are_all to_make (Ok None) r.decoder r.decoder

-- the next event is made, and put or given back
pub record PutsMade {D : Type 0} (made : D → List ℕ → List law.Event → Type 0) (are_all : D → Bool → List ℕ
    → List law.Event → Type 0)
    (to_make : D → ℕ) (at : ℕ) (gone : Bool) (old new : Reading D) (put_old put_new : List law.Event) : Type 0 where
  pub between : Reading D
  pub makes : MakesNext made are_all to_make (Ok true) old between
  pub moment : AreAt at (offered_list between.offered)
  pub offers : Offers gone between new put_old put_new

-- none is made, and nothing is put
pub record PutsNothing {D : Type 0} (made : D → List ℕ → List law.Event → Type 0) (are_all : D → Bool → List ℕ
    → List law.Event → Type 0)
    (to_make : D → ℕ) (at : ℕ) (answer : Result Bool LinkFault) (old new : Reading D)
    (put_old put_new : List law.Event) : Type 0 where
  pub makes : MakesNext made are_all to_make answer old new
  pub moment : AreAt at (offered_list new.offered)
  pub puts : put_new ≡ put_old

-- the next event is made and put, or given back, where there is one
abbrev pub PutsNext : {D : Type 0} → (D → List ℕ → List law.Event → Type 0) → (D → Bool → List ℕ
    → List law.Event → Type 0)
    → (D → ℕ) → ℕ → Result Next LinkFault → (old new : Reading D) → (put_old put_new : List law.Event) → Type 0
PutsNext made are_all to_make at (Ok Put) old new put_old put_new =
    PutsMade made are_all to_make at true old new put_old put_new
PutsNext made are_all to_make at (Ok GivenBack) old new put_old put_new =
    PutsMade made are_all to_make at false old new put_old put_new
PutsNext made are_all to_make at (Ok Nothing) old new put_old put_new =
    PutsNothing made are_all to_make at (Ok false) old new put_old put_new
PutsNext made are_all to_make at (Err fault) old new put_old put_new =
    PutsNothing made are_all to_make at (Err fault) old new put_old put_new

-- whether all is put: what the answer says
abbrev pub SaysPut : {D : Type 0} → (D → List ℕ → List law.Event → Type 0) → (D → Bool → List ℕ → List law.Event
    → Type 0)
    → Result Bool LinkFault → (put : List law.Event) → (old new : Reading D) → Type 0
SaysPut made are_all (Ok true) put old new =
    (new.offered ≡ None) × (new.piece ≡ []) × GoesThrough made are_all false [] put old new
SaysPut made are_all (Ok false) put old new = IsSome new.offered
SaysPut made are_all (Err Malformed) put old new = GoesThrough made are_all true [] put old new
SaysPut made are_all (Err NoMemory) put old new = Unit {0}
SaysPut made are_all (Err ReadFailed) put old new = ⊥
SaysPut made are_all (Err WriteFailed) put old new = ⊥
SaysPut made are_all (Err StepLimit) put old new = ⊥

-- events were put
pub record HasPut {D : Type 0} (made : D → List ℕ → List law.Event → Type 0) (at : ℕ) (old new : Reading D)
    (put_old put_new : List law.Event)
    : Type 0 where
  pub put : List law.Event
  pub puts : put_new ≡ put_old ++ put
  pub goes : Goes made [] put old new
  pub first : ComesFirst at old.offered put new.offered

-- the same, with what the answer says
pub record Puts {D : Type 0} (made : D → List ℕ → List law.Event → Type 0) (are_all : D → Bool → List ℕ
    → List law.Event → Type 0)
    (at : ℕ) (answer : Result Bool LinkFault) (old new : Reading D) (put_old put_new : List law.Event) : Type 0 where
  pub put : List law.Event
  pub puts : put_new ≡ put_old ++ put
  pub goes : Goes made [] put old new
  pub first : ComesFirst at old.offered put new.offered
  pub says : SaysPut made are_all answer put old new

-- what a step says
abbrev pub SaysRead : {D : Type 0} → (D → List ℕ → List law.Event → Type 0) → (D → Bool → List ℕ → List law.Event
    → Type 0)
    → Result Progress LinkFault → (read : List ℕ) → (put : List law.Event) → (old new : Reading D)
    → (left_new : Option (List ℕ)) → Type 0
SaysRead made are_all (Ok (Read count)) read put old new left_new =
    (length read ≡ count) × (1 ≤ count) × GoesThrough made are_all false read put old new
SaysRead made are_all (Ok Ended) read put old new left_new =
    (read ≡ []) × IsAtEnd left_new × GoesThrough made are_all false [] put old new
SaysRead made are_all (Ok Held) read put old new left_new = IsSome new.offered
SaysRead made are_all (Err ReadFailed) read put old new left_new =
    (read ≡ []) × GoesThrough made are_all false [] put old new
SaysRead made are_all (Err Malformed) read put old new left_new = GoesThrough made are_all true read put old new
SaysRead made are_all (Err NoMemory) read put old new left_new = Unit {0}
SaysRead made are_all (Err WriteFailed) read put old new left_new = ⊥
SaysRead made are_all (Err StepLimit) read put old new left_new = ⊥

-- a step of a reader whose link goes on
pub record Reads {D : Type 0} (made : D → List ℕ → List law.Event → Type 0) (are_all : D → Bool → List ℕ
    → List law.Event → Type 0)
    (at : ℕ) (answer : Result Progress LinkFault) (old new : Reading D) (put_old put_new : List law.Event)
    (left_old left_new : Option (List ℕ)) : Type 0 where
  pub read : List ℕ
  pub put : List law.Event
  pub at_most : length read ≤ 4_096
  pub consumes : Consumes left_old left_new read
  pub puts : put_new ≡ put_old ++ put
  pub goes : Goes made read put old new
  pub first : ComesFirst at old.offered put new.offered
  pub says : SaysRead made are_all answer read put old new left_new
