-- A Broken Trade is its row.
use Rattle.std.proofs.Common.{refl}
use Rattle.ouch_codec.specs.declared.outbound.broken.Broken.{Broken}
use Rattle.ouch_codec.specs.Layout.{RowValues, AreValues, ◌⨾◌}
use Rattle.ouch_codec.specs.Layouts.{broken_layout}
use Rattle.ouch_codec.specs.Rows.{broken_row}
use Rattle.ouch_codec.specs.LaidOut.{LaidOut}

-- each value of its row is one that the field can say
abbrev known : (m : Broken) → AreValues broken_layout (broken_row m)
known m =
    tt
    ⨾ m.timestamp_set
    ⨾ m.token_set
    ⨾ m.match_number_set
    ⨾ m.reason_set
    ⨾ tt

-- the message of a row
abbrev pub broken_of : (r : RowValues broken_layout) → AreValues broken_layout r → Broken
broken_of (_, (timestamp, (token, (match_number, (reason, _)))))
    (_, (timestamp_set, (token_set, (match_number_set, (reason_set, _))))) = record {
      timestamp = timestamp;
      token = token;
      match_number = match_number;
      reason = reason;
      timestamp_set = timestamp_set;
      token_set = token_set;
      match_number_set = match_number_set;
      reason_set = reason_set;
    }

abbrev pub broken_laid_out : LaidOut Broken broken_layout
broken_laid_out = record { row = broken_row; known = known; make = broken_of; made = λ m. refl; remade = λ r k. refl }
