-- A Replace Order is its row.
use Rattle.std.proofs.Common.{refl}
use Rattle.ouch_codec.specs.declared.inbound.replace.Replace.{Replace}
use Rattle.ouch_codec.specs.Layout.{RowValues, AreValues, ◌⨾◌}
use Rattle.ouch_codec.specs.Layouts.{replace_layout}
use Rattle.ouch_codec.specs.Rows.{replace_row}
use Rattle.ouch_codec.specs.LaidOut.{LaidOut}

-- each value of its row is one that the field can say
abbrev known : (m : Replace) → AreValues replace_layout (replace_row m)
known m =
    tt
    ⨾ m.token_set
    ⨾ m.replacement_token_set
    ⨾ m.shares_set
    ⨾ m.price_set
    ⨾ m.time_in_force_set
    ⨾ m.display_set
    ⨾ m.intermarket_sweep_set
    ⨾ m.minimum_quantity_set
    ⨾ tt

-- the message of a row
abbrev pub replace_of : (r : RowValues replace_layout) → AreValues replace_layout r → Replace
replace_of (
  _,
  (
    token,
    (
      replacement_token,
      (
        shares,
        (price, (time_in_force, (display, (intermarket_sweep, (minimum_quantity, _))))),
      ),
    ),
  ),
) (
  _,
  (
    token_set,
    (
      replacement_token_set,
      (
        shares_set,
        (price_set, (time_in_force_set, (display_set, (intermarket_sweep_set, (minimum_quantity_set, _))))),
      ),
    ),
  ),
) = record {
  token = token;
  replacement_token = replacement_token;
  shares = shares;
  price = price;
  time_in_force = time_in_force;
  display = display;
  intermarket_sweep = intermarket_sweep;
  minimum_quantity = minimum_quantity;
  token_set = token_set;
  replacement_token_set = replacement_token_set;
  shares_set = shares_set;
  price_set = price_set;
  time_in_force_set = time_in_force_set;
  display_set = display_set;
  intermarket_sweep_set = intermarket_sweep_set;
  minimum_quantity_set = minimum_quantity_set;
}

abbrev pub replace_laid_out : LaidOut Replace replace_layout
replace_laid_out = record {
  row = replace_row;
  known = known;
  make = replace_of;
  made = λ m. refl;
  remade = λ r k. refl;
}
