-- An Executed is its row.
use Rattle.std.proofs.Common.{refl}
use Rattle.ouch_codec.specs.declared.outbound.executed.Executed.{Executed}
use Rattle.ouch_codec.specs.Layout.{RowValues, AreValues, ◌⨾◌}
use Rattle.ouch_codec.specs.Layouts.{executed_layout}
use Rattle.ouch_codec.specs.Rows.{executed_row}
use Rattle.ouch_codec.specs.LaidOut.{LaidOut}

-- each value of its row is one that the field can say
abbrev known : (m : Executed) → AreValues executed_layout (executed_row m)
known m =
    tt
    ⨾ m.timestamp_set
    ⨾ m.token_set
    ⨾ m.shares_set
    ⨾ m.price_set
    ⨾ m.liquidity_set
    ⨾ m.match_number_set
    ⨾ tt

-- the message of a row
abbrev pub executed_of : (r : RowValues executed_layout) → AreValues executed_layout r → Executed
executed_of (_, (timestamp, (token, (shares, (price, (liquidity, (match_number, _)))))))
    (_, (timestamp_set, (token_set, (shares_set, (price_set, (liquidity_set, (match_number_set, _))))))) = record {
      timestamp = timestamp;
      token = token;
      shares = shares;
      price = price;
      liquidity = liquidity;
      match_number = match_number;
      timestamp_set = timestamp_set;
      token_set = token_set;
      shares_set = shares_set;
      price_set = price_set;
      liquidity_set = liquidity_set;
      match_number_set = match_number_set;
    }

abbrev pub executed_laid_out : LaidOut Executed executed_layout
executed_laid_out = record {
  row = executed_row;
  known = known;
  make = executed_of;
  made = λ m. refl;
  remade = λ r k. refl;
}
