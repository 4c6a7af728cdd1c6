-- A Cancel Order is its row.
use Rattle.std.proofs.Common.{refl}
use Rattle.ouch_codec.specs.declared.inbound.cancel.Cancel.{Cancel}
use Rattle.ouch_codec.specs.Layout.{RowValues, AreValues, ◌⨾◌}
use Rattle.ouch_codec.specs.Layouts.{cancel_layout}
use Rattle.ouch_codec.specs.Rows.{cancel_row}
use Rattle.ouch_codec.specs.LaidOut.{LaidOut}

-- each value of its row is one that the field can say
abbrev known : (m : Cancel) → AreValues cancel_layout (cancel_row m)
known m =
    tt
    ⨾ m.token_set
    ⨾ m.shares_set
    ⨾ tt

-- the message of a row
abbrev pub cancel_of : (r : RowValues cancel_layout) → AreValues cancel_layout r → Cancel
cancel_of (_, (token, (shares, _))) (_, (token_set, (shares_set, _))) = record {
  token = token;
  shares = shares;
  token_set = token_set;
  shares_set = shares_set;
}

abbrev pub cancel_laid_out : LaidOut Cancel cancel_layout
cancel_laid_out = record { row = cancel_row; known = known; make = cancel_of; made = λ m. refl; remade = λ r k. refl }
