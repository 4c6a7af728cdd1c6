-- A Cancel Pending is its row.
use Rattle.std.proofs.Common.{refl}
use Rattle.ouch_codec.specs.declared.outbound.cancel_pending.CancelPending.{CancelPending}
use Rattle.ouch_codec.specs.Layout.{RowValues, AreValues, ◌⨾◌}
use Rattle.ouch_codec.specs.Layouts.{cancel_pending_layout}
use Rattle.ouch_codec.specs.Rows.{cancel_pending_row}
use Rattle.ouch_codec.specs.LaidOut.{LaidOut}

-- each value of its row is one that the field can say
abbrev known : (m : CancelPending) → AreValues cancel_pending_layout (cancel_pending_row m)
known m =
    tt
    ⨾ m.timestamp_set
    ⨾ m.token_set
    ⨾ tt

-- the message of a row
abbrev pub cancel_pending_of : (r : RowValues cancel_pending_layout) → AreValues cancel_pending_layout r → CancelPending
cancel_pending_of (_, (timestamp, (token, _))) (_, (timestamp_set, (token_set, _))) = record {
  timestamp = timestamp;
  token = token;
  timestamp_set = timestamp_set;
  token_set = token_set;
}

abbrev pub cancel_pending_laid_out : LaidOut CancelPending cancel_pending_layout
cancel_pending_laid_out = record {
  row = cancel_pending_row;
  known = known;
  make = cancel_pending_of;
  made = λ m. refl;
  remade = λ r k. refl;
}
