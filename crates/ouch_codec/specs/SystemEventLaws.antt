-- A System Event is its row.
use Rattle.std.proofs.Common.{refl}
use Rattle.ouch_codec.specs.declared.outbound.system_event.SystemEvent.{SystemEvent}
use Rattle.ouch_codec.specs.Layout.{RowValues, AreValues, ◌⨾◌}
use Rattle.ouch_codec.specs.Layouts.{system_event_layout}
use Rattle.ouch_codec.specs.Rows.{system_event_row}
use Rattle.ouch_codec.specs.LaidOut.{LaidOut}

-- each value of its row is one that the field can say
abbrev known : (m : SystemEvent) → AreValues system_event_layout (system_event_row m)
known m =
    tt
    ⨾ m.timestamp_set
    ⨾ m.event_set
    ⨾ tt

-- the message of a row
abbrev pub system_event_of : (r : RowValues system_event_layout) → AreValues system_event_layout r → SystemEvent
system_event_of (_, (timestamp, (event, _))) (_, (timestamp_set, (event_set, _))) = record {
  timestamp = timestamp;
  event = event;
  timestamp_set = timestamp_set;
  event_set = event_set;
}

abbrev pub system_event_laid_out : LaidOut SystemEvent system_event_layout
system_event_laid_out = record {
  row = system_event_row;
  known = known;
  make = system_event_of;
  made = λ m. refl;
  remade = λ r k. refl;
}
