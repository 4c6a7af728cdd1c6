-- What the two workers of a line's links have put and written when the links are over.
use Rattle.std.specs.Prelude.{◌≡◌, ◌⊎◌, ℕ, ◌≤◌, ◌+◌, Bool, true, List, [], ◌∷◌, Option, Some, None, Result, Ok, Err}
use Rattle.gate_law.specs.Events.{Event, LinkOut, ClientUp, ClientGone, PortUp, PortGone}
use Rattle.gate_events.specs.declared.source.Recipient.{Recipient}
use Rattle.gate_events.specs.declared.source.Recipient.TheVariants as recipients
use Rattle.gate_workers.specs.Decoding.{AreAllOfFrames, AreAllOfPackets, FramesOfLink, MadeOfFrames}
use Rattle.gate_workers.specs.Decoding.{MadeOfPackets, PacketsOfLink}
use Rattle.gate_workers.specs.link_io.declared.link_fault.LinkFault.{LinkFault}
use Rattle.gate_workers.specs.declared.writer.WriterEnd.{WriterEnd}
use Rattle.gate_workers.specs.ReadersWork.{ReadsLink}
use Rattle.gate_workers.specs.WritersWork.{OfAStream}
use Rattle.gate_serving.specs.declared.line.Line.{Line}
use Rattle.gate_serving.specs.declared.line.Worker.{Worker}
use Rattle.gate_serving.specs.declared.opener.LinkEnd.{LinkEnd}
use Rattle.gate_serving.specs.Faults.{end_fault, first_fault}

-- What a line's reader has put, and the moments that its clock reported it, where they are known.
pub record ReaderLog : Type 0 where
  pub put : List Event
  pub reported : Option (List ℕ)

abbrev pub log_of : {G C : Type 0} → (was_put : G → List Event) → (reported : C → Option (List ℕ)) → Worker G C
    → ReaderLog
log_of was_put reported w = record { put = was_put w.gate; reported = reported w.clock }

-- What the reader of a client's or port's link of this number has put by its end, where so many bytes of the stream
-- were left: what the bytes of the link say, between its coming and its going, at moments that its clock reported.
abbrev pub reads_of : Recipient → ℕ → Result Unit LinkFault → ReaderLog → ReaderLog → Option (List ℕ)
    → Option (List ℕ) → Type 0
reads_of (recipients.Client n) link end old new left_old left_new =
    ReadsLink MadeOfFrames AreAllOfFrames (λ (f : FramesOfLink). (f.client ≡ n) × (f.link ≡ link)) (ClientUp n link)
    (ClientGone n link) end old.put new.put old.reported new.reported left_old left_new
reads_of (recipients.Port n) link end old new left_old left_new =
    ReadsLink MadeOfPackets AreAllOfPackets (λ (p : PacketsOfLink). (p.port ≡ n) × (p.link ≡ link)) (PortUp n link)
    (PortGone n link) end old.put new.put old.reported new.reported left_old left_new

-- ---- what became of each try to open a link: its end, or why it couldn't be opened

-- the fault of a try
abbrev pub fault_of : Result LinkEnd LinkFault → Option LinkFault
fault_of (Err fault) = Some fault
fault_of (Ok end) = end_fault end.reader end.writer

-- the first fault of all tries, the last of which comes first here, and of before
abbrev pub line_fault : (before : Option LinkFault) → (tries : List (Result LinkEnd LinkFault)) → Option LinkFault
line_fault before [] = before
line_fault before (last ∷ tries) = first_fault (line_fault before tries) (fault_of last)

-- how many links were opened
abbrev pub count_opened : List (Result LinkEnd LinkFault) → ℕ
count_opened [] = 0
count_opened (Ok end ∷ tries) = count_opened tries + 1
count_opened (Err fault ∷ tries) = count_opened tries

-- Links of a line that were read one after the other, numbered from 1 as they were opened, by what became of each try,
-- the last one first: what was put of each, in order, and nothing else.
abbrev pub LinksRead : (ℕ → Result Unit LinkFault → ReaderLog → ReaderLog → Option (List ℕ) → Option (List ℕ) → Type 0)
    → (tries : List (Result LinkEnd LinkFault)) → (old new : ReaderLog) → Type 0
LinksRead reads [] old new = new ≡ old
LinksRead reads (Err fault ∷ tries) old new = LinksRead reads tries old new
LinksRead reads (Ok end ∷ tries) old new =
    (between : ReaderLog) × LinksRead reads tries old between × (end.link ≡ count_opened tries + 1)
    × OfAStream (reads (count_opened tries + 1) end.reader between new)

-- Links of a line that were written one after the other, the last one first, each to that end; with none all is as it
-- was.
abbrev pub LinksWrittenBy : {B : Type 0} → (has_ended : Result WriterEnd LinkFault → Type 0)
    → (ends : List (Result WriterEnd LinkFault)) → (old new : B) → Type 0
LinksWrittenBy has_ended [] old new = new ≡ old
LinksWrittenBy {B = B} has_ended (end ∷ before) old new =
    (between : B) × LinksWrittenBy has_ended before old between × has_ended end

-- What a line's writer has done: links were written.
abbrev pub LineWrittenBy : {B : Type 0} → (has_ended : Result WriterEnd LinkFault → Type 0) → (old new : B) → Type 0
LineWrittenBy has_ended old new =
    (ends : List (Result WriterEnd LinkFault)) × LinksWrittenBy has_ended ends old new

-- What a line's reader has done: links were read, none that wasn't opened, and the line's fault is the first. Where all
-- are over, each that was opened was read, and no further one comes.
pub record LineRead
    (reads : ℕ → Result Unit LinkFault → ReaderLog → ReaderLog → Option (List ℕ) → Option (List ℕ) → Type 0)
    (all_over : Bool) (HasEnded : Type 0) (opened_old opened_new : ℕ) (fault_old fault_new : Option LinkFault)
    (old new : ReaderLog) : Type 0 where
  pub tries : List (Result LinkEnd LinkFault)
  pub puts : LinksRead reads tries old new
  pub fault : fault_new ≡ line_fault fault_old tries
  pub opened : opened_old + count_opened tries ≤ opened_new
  pub whole : all_over ≡ true → (opened_new ≡ opened_old + count_opened tries) × HasEnded

-- done, or as it was
abbrev pub MayBeDone : {A : Type 0} → (A → A → Type 0) → A → A → Type 0
MayBeDone did old new = (new ≡ old) ⊎ did old new

-- A line that was served, by what its opener, its reader's gate and clock and its writer's ends show.
pub record LineServed {O G C B : Type 0} (has_ended : O → Type 0) (opened : O → ℕ) (log : Worker G C → ReaderLog)
    (reader_taken : G → List (List LinkOut)) (writer_ended : Result WriterEnd LinkFault → Type 0) (all_over : Bool)
    (old new : Line O (Worker G C) B) : Type 0 where
  pub peer : new.peer ≡ old.peer
  pub steps : new.steps ≡ old.steps
  pub read : LineRead (reads_of old.peer) all_over (has_ended new.opener) (opened old.opener) (opened new.opener)
      old.fault new.fault (log old.reader) (log new.reader)
  pub written : LineWrittenBy writer_ended old.writer new.writer
  pub none_taken : reader_taken new.reader.gate ≡ reader_taken old.reader.gate
