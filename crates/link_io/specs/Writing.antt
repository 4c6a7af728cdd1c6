-- What a writer of a link has to write, and what a step of it does.
use Rattle.std.specs.Prelude.{◌≡◌, ◌≤◌, ◌⊎◌, ℕ, ◌<◌, ◌==◌, ◌++◌, Bool, true, false, not, ◌||◌, List, [], ◌∷◌, length}
use Rattle.std.specs.Prelude.{Option, Some, Result, Ok, Err, if◌then◌else◌}
use Rattle.std.specs.List.{flat_map, list_any}
use Rattle.std.specs.Io.KnownBytes.{Appends}
use Rattle.gate_law.specs.Events.{LinkOut, Write, Close}
use Rattle.gate_events.specs.Closing.{is_link_closed}
use Rattle.link_io.specs.declared.limit.Limit.{Limit}
use Rattle.link_io.specs.declared.link_fault.LinkFault.{LinkFault}
use Rattle.link_io.specs.declared.link_fault.LinkFault.TheVariants.{ReadFailed, WriteFailed, Malformed, StepLimit}
use Rattle.link_io.specs.declared.link_fault.LinkFault.TheVariants.{NoMemory}
use Rattle.link_io.specs.declared.writer.Wrote.{Wrote}

-- the bytes that a link is told to be written, one after another
abbrev pub bytes_of_output : ℕ → LinkOut → List ℕ
bytes_of_output link (Write other bytes) = if other == link then bytes else []
bytes_of_output link (Close other) = []

abbrev pub link_bytes : ℕ → List LinkOut → List ℕ
link_bytes link outs = flat_map (bytes_of_output link) outs

-- the same of several lists
abbrev pub lists_bytes : ℕ → List (List LinkOut) → List ℕ
lists_bytes link lists = flat_map (link_bytes link) lists

-- one of these lists closes the link
abbrev pub do_close : ℕ → List (List LinkOut) → Bool
do_close link lists = list_any (is_link_closed (Some link)) lists

-- what a writer has
pub record WriterState : Type 0 where
  -- of the client or port
  pub number : ℕ
  pub link : ℕ
  -- bytes of lists that were taken, and of a list the rest
  pub bytes : List ℕ
  pub held : List LinkOut
  -- since a step last said what it wrote, a list was taken, and one closed the link
  pub is_taken : Bool
  pub is_closing : Bool
  pub limit : Limit

-- the bytes that it took and did not yet write
abbrev pub unwritten : WriterState → List ℕ
unwritten w = w.bytes ++ link_bytes w.link w.held

-- of the list that is held something became bytes
pub record Joins (old new : WriterState) : Type 0 where
  pub whole : unwritten new ≡ unwritten old
  pub number : new.number ≡ old.number
  pub link : new.link ≡ old.link
  pub is_taken : new.is_taken ≡ old.is_taken
  pub is_closing : new.is_closing ≡ old.is_closing
  pub limit : new.limit ≡ old.limit

-- nothing of a list is held, or so many bytes are joined that they are written first
abbrev pub IsAllOrEnough : WriterState → Type 0
IsAllOrEnough w = (w.held ≡ []) ⊎ (16384 ≤ length w.bytes)

-- the bytes of the first item of a list
abbrev pub next_bytes : ℕ → List LinkOut → List ℕ
next_bytes link [] = []
next_bytes link (out ∷ outs) = bytes_of_output link out

-- a list was taken, where there was one
abbrev pub TakesList : Bool → (old new : WriterState) → (taken_old taken_new : List (List LinkOut)) → Type 0
TakesList false old new taken_old taken_new = (new ≡ old) × (taken_new ≡ taken_old)
TakesList true old new taken_old taken_new =
    (outs : List LinkOut) × (taken_new ≡ taken_old ++ outs ∷ [])
    × (new ≡ record old {
      held = outs;
      is_taken = true;
      is_closing = old.is_closing || is_link_closed (Some old.link) outs;
    })

-- behind a list that closes the link no other is taken
abbrev pub StopsAtClose : WriterState → List (List LinkOut) → Type 0
StopsAtClose old taken = (earlier later : List (List LinkOut)) → taken ≡ earlier ++ later
    → (old.is_closing || do_close old.link earlier) ≡ true → later ≡ []

-- lists were taken, and nothing was written
pub record Refills (old new : WriterState) (taken_old taken_new : List (List LinkOut)) : Type 0 where
  pub taken : List (List LinkOut)
  pub takes : taken_new ≡ taken_old ++ taken
  pub whole : unwritten new ≡ unwritten old ++ lists_bytes old.link taken
  pub number : new.number ≡ old.number
  pub link : new.link ≡ old.link
  pub is_taken : new.is_taken ≡ (old.is_taken || not (length taken == 0))
  pub is_closing : new.is_closing ≡ (old.is_closing || do_close old.link taken)
  pub limit : new.limit ≡ old.limit
  pub stops : StopsAtClose old taken

-- of these bytes those in front of the rest went out
abbrev pub HasSent : (bytes rest : List ℕ) → (sent_old sent_new : Option (List ℕ)) → Type 0
HasSent bytes rest sent_old sent_new = (written : List ℕ) × Appends sent_old sent_new written
    × (bytes ≡ written ++ rest)

-- the bytes went out, or, at a failure, those in front of them
abbrev pub Sends : {A : Type 0} → Result A LinkFault → List ℕ → Option (List ℕ) → Option (List ℕ) → Type 0
Sends (Ok done) bytes sent_old sent_new = Appends sent_old sent_new bytes
Sends (Err WriteFailed) bytes sent_old sent_new =
    (rest : List ℕ) × HasSent bytes rest sent_old sent_new × (0 < length rest)
Sends (Err ReadFailed) bytes sent_old sent_new = ⊥
Sends (Err Malformed) bytes sent_old sent_new = ⊥
Sends (Err StepLimit) bytes sent_old sent_new = ⊥
Sends (Err NoMemory) bytes sent_old sent_new = ⊥

-- of these bytes those in front went out, and the others are left, or, at a failure, aren't all written
abbrev pub SendsPart : {A : Type 0} → Result A LinkFault → (bytes left : List ℕ) → Option (List ℕ) → Option (List ℕ)
    → Type 0
SendsPart (Ok done) bytes left sent_old sent_new = HasSent bytes left sent_old sent_new
SendsPart (Err WriteFailed) bytes left sent_old sent_new =
    (rest : List ℕ) × HasSent bytes rest sent_old sent_new × (0 < length rest)
SendsPart (Err ReadFailed) bytes left sent_old sent_new = ⊥
SendsPart (Err Malformed) bytes left sent_old sent_new = ⊥
SendsPart (Err StepLimit) bytes left sent_old sent_new = ⊥
SendsPart (Err NoMemory) bytes left sent_old sent_new = ⊥

-- what a step says of the lists that were taken since it last said so, and of the bytes written, and what it leaves
abbrev pub Tells : Result Wrote LinkFault → (to_write : List ℕ) → (is_taken is_closing : Bool) → (written rest : List ℕ)
    → WriterState → Type 0
Tells (Ok w) to_write is_taken is_closing written rest new =
    (rest ≡ []) × (w.bytes ≡ length written) × (w.taken ≡ is_taken) × (w.closed ≡ is_closing)
    × (unwritten new ≡ []) × (new.is_taken ≡ false) × (new.is_closing ≡ false)
Tells (Err WriteFailed) to_write is_taken is_closing written rest new = 0 < length rest
Tells (Err NoMemory) to_write is_taken is_closing written rest new =
    (written ≡ []) × (unwritten new ≡ to_write) × (new.is_taken ≡ is_taken) × (new.is_closing ≡ is_closing)
Tells (Err ReadFailed) to_write is_taken is_closing written rest new = ⊥
Tells (Err Malformed) to_write is_taken is_closing written rest new = ⊥
Tells (Err StepLimit) to_write is_taken is_closing written rest new = ⊥

-- a step of a writer whose link goes on: of the bytes that were to be written and those of the lists taken, the first
-- are written
pub record Writes (answer : Result Wrote LinkFault) (old new : WriterState) (taken_old taken_new : List (List LinkOut))
    (sent_old sent_new : Option (List ℕ)) : Type 0 where
  pub taken : List (List LinkOut)
  pub written : List ℕ
  pub rest : List ℕ
  pub takes : taken_new ≡ taken_old ++ taken
  pub appends : Appends sent_old sent_new written
  pub whole : unwritten old ++ lists_bytes old.link taken ≡ written ++ rest
  pub number : new.number ≡ old.number
  pub link : new.link ≡ old.link
  pub stops : StopsAtClose old taken
  pub tells : Tells answer (written ++ rest) (old.is_taken || not (length taken == 0))
      (old.is_closing || do_close old.link taken) written rest new

-- one write of a writer whose link goes on: of the bytes that were to be written and those of the lists taken, the
-- first are written, and the others are to be written still
pub record WritesOnce (old new : WriterState) (taken_old taken_new : List (List LinkOut))
    (sent_old sent_new : Option (List ℕ)) : Type 0 where
  pub taken : List (List LinkOut)
  pub written : List ℕ
  pub takes : taken_new ≡ taken_old ++ taken
  pub appends : Appends sent_old sent_new written
  pub whole : unwritten old ++ lists_bytes old.link taken ≡ written ++ unwritten new
  pub number : new.number ≡ old.number
  pub link : new.link ≡ old.link
  pub is_taken : new.is_taken ≡ (old.is_taken || not (length taken == 0))
  pub is_closing : new.is_closing ≡ (old.is_closing || do_close old.link taken)
  pub stops : StopsAtClose old taken
