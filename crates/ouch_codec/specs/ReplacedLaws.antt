-- A Replaced is its row.
use Rattle.std.proofs.Common.{refl}
use Rattle.ouch_codec.specs.declared.outbound.replaced.Replaced.{Replaced}
use Rattle.ouch_codec.specs.Layout.{RowValues, AreValues, ◌⨾◌}
use Rattle.ouch_codec.specs.Layouts.{replaced_layout}
use Rattle.ouch_codec.specs.Rows.{replaced_row}
use Rattle.ouch_codec.specs.LaidOut.{LaidOut}

-- each value of its row is one that the field can say
abbrev known : (m : Replaced) → AreValues replaced_layout (replaced_row m)
known m =
    tt
    ⨾ m.timestamp_set
    ⨾ m.token_set
    ⨾ tt
    ⨾ m.shares_set
    ⨾ m.stock_set
    ⨾ m.price_set
    ⨾ m.time_in_force_set
    ⨾ m.firm_set
    ⨾ m.display_set
    ⨾ m.order_reference_set
    ⨾ m.capacity_set
    ⨾ m.intermarket_sweep_set
    ⨾ m.minimum_quantity_set
    ⨾ m.cross_type_set
    ⨾ tt
    ⨾ m.previous_token_set
    ⨾ m.bbo_weight_set
    ⨾ tt

-- the message of a row
abbrev pub replaced_of : (r : RowValues replaced_layout) → AreValues replaced_layout r → Replaced
replaced_of (
  _,
  (
    timestamp,
    (
      token,
      (
        side,
        (
          shares,
          (
            stock,
            (
              price,
              (
                time_in_force,
                (
                  firm,
                  (
                    display,
                    (
                      order_reference,
                      (
                        capacity,
                        (
                          intermarket_sweep,
                          (minimum_quantity, (cross_type, (order_state, (previous_token, (bbo_weight, _))))),
                        ),
                      ),
                    ),
                  ),
                ),
              ),
            ),
          ),
        ),
      ),
    ),
  ),
) (
  _,
  (
    timestamp_set,
    (
      token_set,
      (
        _,
        (
          shares_set,
          (
            stock_set,
            (
              price_set,
              (
                time_in_force_set,
                (
                  firm_set,
                  (
                    display_set,
                    (
                      order_reference_set,
                      (
                        capacity_set,
                        (
                          intermarket_sweep_set,
                          (
                            minimum_quantity_set,
                            (cross_type_set, (_, (previous_token_set, (bbo_weight_set, _)))),
                          ),
                        ),
                      ),
                    ),
                  ),
                ),
              ),
            ),
          ),
        ),
      ),
    ),
  ),
) = record {
  timestamp = timestamp;
  token = token;
  side = side;
  shares = shares;
  stock = stock;
  price = price;
  time_in_force = time_in_force;
  firm = firm;
  display = display;
  order_reference = order_reference;
  capacity = capacity;
  intermarket_sweep = intermarket_sweep;
  minimum_quantity = minimum_quantity;
  cross_type = cross_type;
  order_state = order_state;
  previous_token = previous_token;
  bbo_weight = bbo_weight;
  timestamp_set = timestamp_set;
  token_set = token_set;
  shares_set = shares_set;
  stock_set = stock_set;
  price_set = price_set;
  time_in_force_set = time_in_force_set;
  firm_set = firm_set;
  display_set = display_set;
  order_reference_set = order_reference_set;
  capacity_set = capacity_set;
  intermarket_sweep_set = intermarket_sweep_set;
  minimum_quantity_set = minimum_quantity_set;
  cross_type_set = cross_type_set;
  previous_token_set = previous_token_set;
  bbo_weight_set = bbo_weight_set;
}

abbrev pub replaced_laid_out : LaidOut Replaced replaced_layout
replaced_laid_out = record {
  row = replaced_row;
  known = known;
  make = replaced_of;
  made = λ m. refl;
  remade = λ r k. refl;
}
