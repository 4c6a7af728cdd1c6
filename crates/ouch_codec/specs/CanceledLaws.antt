-- A Canceled is its row.
use Rattle.std.proofs.Common.{refl}
use Rattle.ouch_codec.specs.declared.outbound.canceled.Canceled.{Canceled}
use Rattle.ouch_codec.specs.Layout.{RowValues, AreValues, ◌⨾◌}
use Rattle.ouch_codec.specs.Layouts.{canceled_layout}
use Rattle.ouch_codec.specs.Rows.{canceled_row}
use Rattle.ouch_codec.specs.LaidOut.{LaidOut}

-- each value of its row is one that the field can say
abbrev known : (m : Canceled) → AreValues canceled_layout (canceled_row m)
known m =
    tt
    ⨾ m.timestamp_set
    ⨾ m.token_set
    ⨾ m.decrement_set
    ⨾ m.reason_set
    ⨾ tt

-- the message of a row
abbrev pub canceled_of : (r : RowValues canceled_layout) → AreValues canceled_layout r → Canceled
canceled_of (_, (timestamp, (token, (decrement, (reason, _)))))
    (_, (timestamp_set, (token_set, (decrement_set, (reason_set, _))))) = record {
      timestamp = timestamp;
      token = token;
      decrement = decrement;
      reason = reason;
      timestamp_set = timestamp_set;
      token_set = token_set;
      decrement_set = decrement_set;
      reason_set = reason_set;
    }

abbrev pub canceled_laid_out : LaidOut Canceled canceled_layout
canceled_laid_out = record {
  row = canceled_row;
  known = known;
  make = canceled_of;
  made = λ m. refl;
  remade = λ r k. refl;
}
