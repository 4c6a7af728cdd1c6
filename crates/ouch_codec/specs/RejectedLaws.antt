-- A Rejected is its row.
use Rattle.std.proofs.Common.{refl}
use Rattle.ouch_codec.specs.declared.outbound.rejected.Rejected.{Rejected}
use Rattle.ouch_codec.specs.Layout.{RowValues, AreValues, ◌⨾◌}
use Rattle.ouch_codec.specs.Layouts.{rejected_layout}
use Rattle.ouch_codec.specs.Rows.{rejected_row}
use Rattle.ouch_codec.specs.LaidOut.{LaidOut}

-- each value of its row is one that the field can say
abbrev known : (m : Rejected) → AreValues rejected_layout (rejected_row m)
known m =
    tt
    ⨾ m.timestamp_set
    ⨾ m.token_set
    ⨾ m.reason_set
    ⨾ tt

-- the message of a row
abbrev pub rejected_of : (r : RowValues rejected_layout) → AreValues rejected_layout r → Rejected
rejected_of (_, (timestamp, (token, (reason, _)))) (_, (timestamp_set, (token_set, (reason_set, _)))) = record {
  timestamp = timestamp;
  token = token;
  reason = reason;
  timestamp_set = timestamp_set;
  token_set = token_set;
  reason_set = reason_set;
}

abbrev pub rejected_laid_out : LaidOut Rejected rejected_layout
rejected_laid_out = record {
  row = rejected_row;
  known = known;
  make = rejected_of;
  made = λ m. refl;
  remade = λ r k. refl;
}
