-- The frames of a stream of bytes. A stream is cut from the left: a frame where one stands, else one byte is skipped,
-- up to what can't be judged yet, or to a head that announces too long a frame.
use Rattle.std.specs.Prelude.{◌≡◌, ◌++◌, ◌^◌, min, ℕ, zero, suc, ◌+◌, ◌-◌, ◌==◌, Bool, ◌&&◌, nat_lt, List, [], ◌∷◌}
use Rattle.std.specs.Prelude.{◌≤◌, true, false, length, take, drop, Option, Some, None, slice_index_or, if◌then◌else◌}
use Rattle.std.specs.Char.{is_ascii_digit}
use Rattle.std.specs.List.{prefix_len}
use Rattle.wire_streams.specs.Buffer.{BytesHeld, LetsGo}
use Rattle.fix_fields.specs.Field.{Field}
use Rattle.wire_bytes.specs.Digits.{number_of}
use Rattle.fix_fields.specs.Reading.{fields_of}
use Rattle.fix_framing.specs.Frame.{opening, begins_with, ends_with, trailer, trailer_size, is_body}

-- the longest frame that is taken, in bytes
abbrev pub longest : ℕ
longest = 8_192

-- the most digits of a length
abbrev pub most_digits : ℕ
most_digits = 6

-- what a stream begins with: a head of so many bytes that announces a body of so many; less than a head, but what a
-- head may begin with; or neither
pub data Start : Type 0 where
  Head : (head body : ℕ) → Start
  LessThanHead : Start
  NoHead : Start

-- the same behind an opening: one to six digits and SOH
unfoldable pub start_behind : List ℕ → Start
start_behind stream =
    let count = prefix_len is_ascii_digit stream in
    if nat_lt most_digits count then NoHead
    else if count == length stream then LessThanHead
    else if count == 0 then NoHead
    else if slice_index_or stream count 0 == 1 then Head (length opening + count + 1) (number_of (take count stream))
    else NoHead

unfoldable pub start : List ℕ → Start
start stream =
    if begins_with opening stream then start_behind (drop (length opening) stream)
    else if begins_with stream opening then LessThanHead
    else NoHead

-- a text with a head of so many bytes has a body, and the check sum of all before it
unfoldable pub is_whole : ℕ → List ℕ → Bool
is_whole head text =
    let counted = take (length text - trailer_size) text in
    is_body (drop head counted) && ends_with (trailer counted) text

-- what stands in front of a stream: a frame of so many bytes with these fields; a byte that is skipped; what has to
-- wait for more; or a head that announces too long a frame
pub data Place : Type 0 where
  Frame : (size : ℕ) (fields : List Field) → Place
  Skipped : Place
  Waiting : Place
  TooLong : Place

abbrev pub framed_by : ℕ → Option (List Field) → Place
framed_by size (Some fields) = Frame size fields
framed_by size None = Skipped

-- of a stream with a head of so many bytes that announces a frame of so many
abbrev pub place_of_head : ℕ → ℕ → List ℕ → Place
place_of_head head size stream =
    if nat_lt longest size then TooLong
    else if nat_lt (length stream) size then Waiting
    else if is_whole head (take size stream) then framed_by size (fields_of (take size stream))
    else Skipped

abbrev pub place_of : Start → List ℕ → Place
place_of (Head head body) stream = place_of_head head (head + body + trailer_size) stream
place_of LessThanHead stream = Waiting
place_of NoHead stream = Skipped

unfoldable pub place : List ℕ → Place
place stream = place_of (start stream) stream

-- how a stream ends, as far as it has come: bytes that wait for more, or a head that announces too long a frame
pub data End : Type 0 where
  Rest : (bytes : List ℕ) → End
  Over : End

-- the parts of a stream
pub record StreamParts : Type 0 where
  pub frames : List (List Field)
  pub skipped : ℕ
  pub end : End

abbrev pub with_frame : List Field → StreamParts → StreamParts
with_frame fields parts = record parts { frames = fields ∷ parts.frames }

abbrev pub with_skipped : StreamParts → StreamParts
with_skipped parts = record parts { skipped = parts.skipped + 1 }

abbrev pub only : End → StreamParts
only end = record { frames = []; skipped = 0; end = end }

-- the parts of a stream with this place in front; `rest` are those of what is behind its first byte, so many bytes
-- further
abbrev pub parts_of : Place → List ℕ → (ℕ → StreamParts) → StreamParts
parts_of (Frame size fields) stream rest = with_frame fields (rest (size - 1))
parts_of Skipped stream rest = with_skipped (rest 0)
parts_of Waiting stream rest = only (Rest stream)
parts_of TooLong stream rest = only Over

-- the parts of a stream of which so many bytes still belong to the last frame
unfoldable pub parts_behind : ℕ → List ℕ → StreamParts
parts_behind inside [] = only (Rest [])
parts_behind (suc inside) (byte ∷ stream) = parts_behind inside stream
parts_behind zero (byte ∷ stream) = parts_of (place (byte ∷ stream)) (byte ∷ stream)
    (λ inside. parts_behind inside stream)

-- the parts of a whole stream
abbrev pub parts : List ℕ → StreamParts
parts stream = parts_behind 0 stream

-- these frames and so many skipped bytes come before the parts
abbrev pub with_frames : List (List Field) → ℕ → StreamParts → StreamParts
with_frames frames skipped p = record { frames = frames ++ p.frames; skipped = skipped + p.skipped; end = p.end }

-- the text was cut so far: behind these frames and so many skipped bytes its parts are those of what is left
pub record IsOn (text : List ℕ) (frames : List (List Field)) (skipped at : ℕ) : Type 0 where
  pub within : at ≤ length text
  pub few : skipped ≤ at
  pub parts : parts text ≡ with_frames frames skipped (parts (drop at text))

-- ---- what a reader of a stream is

-- the bytes that it still has to judge, or that no more frames come; how many bytes it passed over, which doesn't
-- count further than a word of 64 bits does; and what its buffer holds, which is those bytes unless it is over
pub record ReaderStanding : Type 0 where
  pub end : End
  pub skipped : ℕ
  pub kept : BytesHeld

abbrev pub counted_skips : ℕ → ℕ
counted_skips skipped = min skipped (2 ^ 64 - 1)

-- the reader is what these bytes leave, fed in whatever pieces
unfoldable pub BytesLeave : List ℕ → ReaderStanding → Type 0
BytesLeave fed reader = (reader.end ≡ (parts fed).end) × (reader.skipped ≡ counted_skips (parts fed).skipped)

-- fed a piece after these bytes, it gave these frames and is now so: with the frames given before, they are those of
-- all bytes fed
pub record Feeds (fed piece : List ℕ) (given : List (List Field)) (after : ReaderStanding) : Type 0 where
  pub frames : (parts (fed ++ piece)).frames ≡ (parts fed).frames ++ given
  pub leaves : BytesLeave (fed ++ piece) after

-- ---- a reader whose frames are passed one by one

-- the parts of what it still has
abbrev pub left : End → StreamParts
left (Rest bytes) = parts bytes
left Over = only Over

-- these bytes were taken, and these frames passed
unfoldable pub Passed : List ℕ → List (List Field) → ReaderStanding → Type 0
Passed taken passed reader =
    (skipped : ℕ) × (parts taken ≡ with_frames passed skipped (left reader.end))
    × (reader.skipped ≡ counted_skips skipped)

abbrev pub end_of : Bool → List ℕ → End
end_of true bytes = Over
end_of false bytes = Rest bytes

-- behind it a piece
abbrev pub longer : End → List ℕ → End
longer (Rest bytes) piece = Rest (bytes ++ piece)
longer Over piece = Over

-- bytes in front may have been skipped, and nothing else was done
pub record Sought (old new : ReaderStanding) : Type 0 where
  pub frames : (left new.end).frames ≡ (left old.end).frames
  pub end : (left new.end).end ≡ (left old.end).end
  pub passed : (taken : List ℕ) (passed : List (List Field)) → Passed taken passed old → Passed taken passed new
  pub kept : (count : ℕ) × LetsGo count old.kept new.kept

-- what was seen in front: a frame of so many bytes, or none that is whole
abbrev pub IsSeen : Option ℕ → End → Type 0
IsSeen None Over = Unit {0}
IsSeen (Some size) Over = ⊥
IsSeen None (Rest bytes) = place bytes ≡ Waiting
IsSeen (Some size) (Rest bytes) = (fields : List Field) × (place bytes ≡ Frame size fields)

-- what is remembered of the front stands there
abbrev pub IsRemembered : Option ℕ → List ℕ → Type 0
IsRemembered None bytes = Unit {0}
IsRemembered (Some size) bytes = (fields : List Field) × (place bytes ≡ Frame size fields)

-- so many bytes that are skipped were let go, and then a frame's
abbrev pub LetsGoTwice : BytesHeld → BytesHeld → Type 0
LetsGoTwice old new =
    (between : BytesHeld) × (skipped : ℕ) × (size : ℕ) × LetsGo skipped old between × LetsGo size between new

-- the frame that comes next is let go, where one is whole; where none is, those that were passed are the stream's
abbrev pub PassesFrame : Bool → ReaderStanding → ReaderStanding → Type 0
PassesFrame true old new =
    (fields : List Field) × ((left old.end).frames ≡ fields ∷ (left new.end).frames)
    × ((taken : List ℕ) (passed : List (List Field))
    → Passed taken passed old → Passed taken (passed ++ fields ∷ []) new)
    × LetsGoTwice old.kept new.kept
PassesFrame false old new =
    ((left old.end).frames ≡ []) × Sought old new
    × ((taken : List ℕ) (passed : List (List Field)) → Passed taken passed old → (parts taken).frames ≡ passed)

-- with a piece these parts were found: the frames were given, and the rest is held
pub record IsTaken (p : StreamParts) (given : List (List Field)) (old new : ReaderStanding) : Type 0 where
  pub frames : given ≡ p.frames
  pub end : new.end ≡ p.end
  pub skipped : new.skipped ≡ counted_skips (old.skipped + p.skipped)

-- ---- what stands in front of a text of whole frames

-- the body that a head announces, and what stands behind its frame, where all of that is there
abbrev pub body_of_head : Start → List ℕ → Option (List ℕ × List ℕ)
body_of_head (Head head body) text =
    if nat_lt (length text) (head + body + trailer_size) then None
    else Some (take body (drop head text), drop (head + body + trailer_size) text)
body_of_head LessThanHead text = None
body_of_head NoHead text = None

unfoldable pub front_body : List ℕ → Option (List ℕ × List ℕ)
front_body text = body_of_head (start text) text
