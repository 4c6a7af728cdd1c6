-- Turns that are still to be read, as the definitions see them.
use Rattle.std.specs.Prelude.{List}
use Rattle.gate_law.specs.Events as law
use Rattle.gate_events.specs.declared.event.Event.{Event}
use Rattle.journal_records.specs.journal_days.Left.{records_left}
use Rattle.journal_records.specs.Days.{batches_in, events_in}
use Rattle.gate_journal.specs.declared.turns.Turns.{Turns}

abbrev pub events_left : Turns → List Event
events_left t = events_in (records_left t.records)

abbrev pub batches_left : Turns → List law.Batch
batches_left t = batches_in (records_left t.records)
