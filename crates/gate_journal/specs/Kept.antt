-- What a history keeps.
use Rattle.std.specs.Prelude.{◌≡◌, ℕ, List, [], ◌∷◌, ◌++◌, length, None}
use Rattle.gate_law.specs.Events as law
use Rattle.gate_events.specs.declared.event.Event.{Event}
use Rattle.gate_events.specs.declared.source.Recipient.{Recipient}
use Rattle.gate_events.specs.Seen.{event_seen}
use Rattle.gate_events.specs.Sources.{lists_to}
use Rattle.journal_pages.specs.declared.version.Version.TheVariants.{Two}
use Rattle.journal_records.specs.journal_days.Day.{day_fault, day_records, kept_as, version_of}
use Rattle.journal_records.specs.Days.{batches_in, events_in}

-- events and the batches that they gave, the oldest first, and the bytes of the pages that say them
pub record Kept : Type 0 where
  pub events : List Event
  pub batches : List law.Batch
  pub pages : List (List ℕ)

-- what pages of version 2 say
abbrev pub kept_in : List (List ℕ) → Kept
kept_in pages = record {
  events = events_in (day_records Two pages);
  batches = batches_in (day_records Two pages);
  pages = pages;
}

-- the history that the pages of a day are, of either version: with their events and batches, in pages of version 2
pub record IsRead (pages : List (List ℕ)) (h : Kept) : Type 0 where
  pub day : day_fault (version_of pages) pages ≡ None
  pub same : h ≡ kept_in (kept_as (version_of pages) pages)
  pub records : day_records Two (kept_as (version_of pages) pages) ≡ day_records (version_of pages) pages

abbrev pub nothing_kept : Kept
nothing_kept = record { events = []; batches = []; pages = [] }

-- an event with its batch
abbrev pub kept_turn : Event → law.Batch → law.Turn
kept_turn e b = record { event = event_seen e; batch = b }

-- events with their batches, the newest first, after the turns before
abbrev pub turns_onto : List Event → List law.Batch → law.History → law.History
turns_onto [] batches before = before
turns_onto (e ∷ events) [] before = before
turns_onto (e ∷ events) (b ∷ batches) before = turns_onto events batches (kept_turn e b ∷ before)

-- the same as the core's law has it: each event with its batch, the newest first
abbrev pub turns : Kept → law.History
turns h = turns_onto h.events h.batches []

-- Pages with a part more behind them say the turns of both, in their order.
pub record GoOnBy (before : List (List ℕ)) (part : Kept) (after : List (List ℕ)) : Type 0 where
  pub all : after ≡ before ++ part.pages
  pub told : (kept_in after).events ≡ (kept_in before).events ++ part.events
  pub gave : (kept_in after).batches ≡ (kept_in before).batches ++ part.batches
  pub count : length part.events ≡ length part.batches
  pub onto : turns (kept_in after) ≡ turns_onto part.events part.batches (turns (kept_in before))

-- what the batches told one link
abbrev pub lists_kept : Recipient → Kept → List (List law.LinkOut)
lists_kept to h = lists_to to h.batches
