-- What a shared writer keeps, whoever wrote: what its links were told, what is on their streams, and what is held.
use Rattle.std.specs.Prelude.{◌≡◌, ◌⊎◌, ℕ, ◌+◌, ◌-◌, ◌++◌, false, List, [], length, Option, Some, None, Result, Err, ⊤}
use Rattle.std.specs.Io.KnownBytes.{Appends}
use Rattle.link_io.specs.Events.{LinkOut}
use Rattle.link_io.specs.Answered.{TriesOnce}
use Rattle.link_io.specs.Writing.{WriterState, do_close, lists_bytes, unwritten}
use Rattle.link_io.specs.declared.link_fault.LinkFault.{LinkFault}
use Rattle.link_io.specs.declared.link_fault.LinkFault.TheVariants.{WriteFailed}
use Rattle.gate_workers.specs.declared.writer.WriterEnd.{WriterEnd}
use Rattle.gate_workers.specs.WritersWork.{WritesLink}
use Rattle.gate_workers.specs.WritersWork.{LinksWritten}
use Rattle.gate_workers.specs.declared.link.Link.{Link}
use Rattle.gate_workers.specs.declared.stepped.Stepped.{Stepped}
use Rattle.gate_workers.specs.declared.stepped.Stepped.TheVariants.{Taken, Nothing, Over, NoLink}

-- Of a link that is written: of the bytes of its writes in the lists that were taken since it was opened, in order,
-- those in front went onto its stream, and its writer has the rest.
pub record WritesSoFar (link : ℕ) (now : WriterState) (taken_old taken_new : List (List LinkOut))
    (sent_old sent_new : Option (List ℕ)) : Type 0 where
  pub taken : List (List LinkOut)
  pub written : List ℕ
  pub takes : taken_new ≡ taken_old ++ taken
  pub appends : Appends sent_old sent_new written
  pub whole : lists_bytes link taken ≡ written ++ unwritten now
  pub of_link : now.link ≡ link
  pub is_closing : now.is_closing ≡ do_close link taken
  pub goes_on : now.limit.over ≡ None

-- so many links were written, one after the other, and are over
abbrev pub LinksOver : (over : ℕ) → List (List LinkOut) → Type 0
LinksOver over taken = (ends : List (Result WriterEnd LinkFault)) × (length ends ≡ over) × LinksWritten ends [] taken

-- the links that are over were written, and the one that is written now so far, since it was opened
abbrev pub WriterKept : {W G : Type 0} → (W → Option (List ℕ)) → (G → List (List LinkOut)) → (links : ℕ)
    → Option (Link W G) → G → Type 0
WriterKept contents was_taken links None gate = LinksOver links (was_taken gate)
WriterKept contents was_taken links (Some link) gate =
    (over : ℕ) × (links ≡ over + 1) × LinksOver over (was_taken link.gate_then.value)
    × WritesSoFar links link.writer (was_taken link.gate_then.value) (was_taken gate)
    (contents link.stream_then.value) (contents link.stream)

-- a link is written on this stream, and nothing was taken for it yet
abbrev pub Opens : {W G : Type 0} → (gate : G) → (stream : W) → Option (Link W G) → Type 0
Opens gate stream None = ⊥
Opens gate stream (Some link) =
    (link.gate_then.value ≡ gate) × (link.stream_then.value ≡ stream) × (link.stream ≡ stream)

-- its writer is of this client or port and link, with so many steps
abbrev pub OpensAs : {W G : Type 0} → (number link steps : ℕ) → Option (Link W G) → Type 0
OpensAs number n steps None = ⊥
OpensAs number n steps (Some link) =
    (link.writer.number ≡ number) × (link.writer.link ≡ n)
    × (link.writer.limit ≡ record { left = steps - 1; over = None })

-- the link that was written is written still, or none was and none is
abbrev pub SameLink : {W G : Type 0} → (old new : Option (Link W G)) → Type 0
SameLink None None = ⊤
SameLink None (Some new) = ⊥
SameLink (Some old) None = ⊥
SameLink (Some old) (Some new) = (new.gate_then ≡ old.gate_then) × (new.stream_then ≡ old.stream_then)

-- its stream was written promptly once at most
abbrev pub LinkTried : {W G : Type 0} → (W → List ℕ → Option ℕ → W → Type 0) → (old new : Option (Link W G)) → Type 0
LinkTried did_try None new = ⊤
LinkTried did_try (Some old) None = ⊥
LinkTried did_try (Some old) (Some new) = TriesOnce did_try old.stream new.stream

-- of what it was told nothing is held
abbrev pub NothingHeld : {W G : Type 0} → Option (Link W G) → Type 0
NothingHeld None = ⊥
NothingHeld (Some link) = (unwritten link.writer ≡ []) × (link.writer.is_closing ≡ false)

-- of a link all that was taken is on its stream, and none of it closes it
abbrev pub IsAllWritten : {W G : Type 0} → (W → Option (List ℕ)) → (G → List (List LinkOut)) → Type 0
IsAllWritten {W = W} {G = G} contents was_taken =
    (links : ℕ) × (link : Link W G) × (gate : G) × WriterKept contents was_taken links (Some link) gate
    × NothingHeld (Some link)

-- a link that is over was written: this came back of it
abbrev pub Ends : {W G : Type 0} → (W → Option (List ℕ)) → (G → List (List LinkOut)) → (links : ℕ)
    → (end : Result WriterEnd LinkFault) → (stream : W) → (old new : Option (Link W G)) → (gate : G) → Type 0
Ends contents was_taken links end stream None new gate = ⊥
Ends contents was_taken links end stream (Some old) new gate =
    (new ≡ None)
    × ∥ WritesLink links end (was_taken old.gate_then.value) (was_taken gate) (contents old.stream_then.value)
    (contents stream) ∥₁

-- the link goes on, or it is over
abbrev pub StepsWriter : {W G : Type 0} → (W → Option (List ℕ)) → (G → List (List LinkOut)) → Stepped W → (links : ℕ)
    → (old new : Option (Link W G)) → (gate : G) → Type 0
StepsWriter contents was_taken Taken links old new gate = SameLink old new
StepsWriter contents was_taken Nothing links old new gate = SameLink old new
StepsWriter contents was_taken NoLink links old new gate = (old ≡ None) × (new ≡ None)
StepsWriter contents was_taken (Over end stream) links old new gate =
    Ends contents was_taken links end stream old new gate

-- a link was written on this stream, and ended so
abbrev pub WasWritten : {W : Type 0} → (W → Option (List ℕ)) → Result WriterEnd LinkFault → W → Type 0
WasWritten contents end stream =
    (link : ℕ) × (taken_old taken_new : List (List LinkOut)) × (before : Option (List ℕ))
    × WritesLink link end taken_old taken_new before (contents stream)

-- a link was written on some stream, and ended so; or it wasn't opened
abbrev pub HasEnded : {W : Type 0} → (W → Option (List ℕ)) → Result WriterEnd LinkFault → Type 0
HasEnded {W = W} contents end = (end ≡ Err WriteFailed) ⊎ ((stream : W) × ∥ WasWritten contents end stream ∥₁)

-- where it is over
abbrev pub IsWritten : {W : Type 0} → (W → Option (List ℕ)) → Stepped W → Type 0
IsWritten contents Taken = ⊤
IsWritten contents Nothing = ⊤
IsWritten contents NoLink = ⊤
IsWritten contents (Over end stream) = ∥ WasWritten contents end stream ∥₁
