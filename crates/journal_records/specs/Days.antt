-- The events and the batches that the records of a day say.
use Rattle.std.specs.Prelude.{List, [], ◌∷◌, Option, Some, None, if◌then◌else◌}
use Rattle.gate_law.specs.Events.{Batch}
use Rattle.gate_events.specs.declared.event.Event.{Event}
use Rattle.journal_pages.specs.Page.{is_event}
use Rattle.journal_pages.specs.Record.{Record}
use Rattle.journal_records.specs.Events.{event_in}
use Rattle.journal_records.specs.Reading.{batch_in}

abbrev pub with_event : Option Event → List Event → List Event
with_event None events = events
with_event (Some e) events = e ∷ events

abbrev pub events_in : List Record → List Event
events_in [] = []
events_in (r ∷ rs) = with_event (event_in r) (events_in rs)

-- a batch for each event: what stands behind it
abbrev pub batches_in : List Record → List Batch
batches_in [] = []
batches_in (r ∷ rs) = if is_event r.kind then batch_in rs ∷ batches_in rs else batches_in rs
