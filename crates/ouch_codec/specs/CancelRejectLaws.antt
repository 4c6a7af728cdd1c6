-- A Cancel Reject is its row.
use Rattle.std.proofs.Common.{refl}
use Rattle.ouch_codec.specs.declared.outbound.cancel_reject.CancelReject.{CancelReject}
use Rattle.ouch_codec.specs.Layout.{RowValues, AreValues, ◌⨾◌}
use Rattle.ouch_codec.specs.Layouts.{cancel_reject_layout}
use Rattle.ouch_codec.specs.Rows.{cancel_reject_row}
use Rattle.ouch_codec.specs.LaidOut.{LaidOut}

-- each value of its row is one that the field can say
abbrev known : (m : CancelReject) → AreValues cancel_reject_layout (cancel_reject_row m)
known m =
    tt
    ⨾ m.timestamp_set
    ⨾ m.token_set
    ⨾ tt

-- the message of a row
abbrev pub cancel_reject_of : (r : RowValues cancel_reject_layout) → AreValues cancel_reject_layout r → CancelReject
cancel_reject_of (_, (timestamp, (token, _))) (_, (timestamp_set, (token_set, _))) = record {
  timestamp = timestamp;
  token = token;
  timestamp_set = timestamp_set;
  token_set = token_set;
}

abbrev pub cancel_reject_laid_out : LaidOut CancelReject cancel_reject_layout
cancel_reject_laid_out = record {
  row = cancel_reject_row;
  known = known;
  make = cancel_reject_of;
  made = λ m. refl;
  remade = λ r k. refl;
}
