-- An Accepted is its row.
use Rattle.std.proofs.Common.{refl}
use Rattle.ouch_codec.specs.declared.outbound.accepted.Accepted.{Accepted}
use Rattle.ouch_codec.specs.Layout.{RowValues, AreValues, ◌⨾◌}
use Rattle.ouch_codec.specs.Layouts.{accepted_layout}
use Rattle.ouch_codec.specs.Rows.{accepted_row}
use Rattle.ouch_codec.specs.LaidOut.{LaidOut}

-- each value of its row is one that the field can say
abbrev known : (m : Accepted) → AreValues accepted_layout (accepted_row m)
known m =
    tt
    ⨾ m.timestamp_set
    ⨾ m.token_set
    ⨾ tt
    ⨾ m.shares_set
    ⨾ m.stock_set
    ⨾ m.price_set
    ⨾ m.time_in_force_set
    ⨾ m.firm_set
    ⨾ m.display_set
    ⨾ m.order_reference_set
    ⨾ m.capacity_set
    ⨾ m.intermarket_sweep_set
    ⨾ m.minimum_quantity_set
    ⨾ m.cross_type_set
    ⨾ tt
    ⨾ m.bbo_weight_set
    ⨾ tt

-- the message of a row
abbrev pub accepted_of : (r : RowValues accepted_layout) → AreValues accepted_layout r → Accepted
accepted_of (
  _,
  (
    timestamp,
    (
      token,
      (
        side,
        (
          shares,
          (
            stock,
            (
              price,
              (
                time_in_force,
                (
                  firm,
                  (
                    display,
                    (
                      order_reference,
                      (
                        capacity,
                        (
                          intermarket_sweep,
                          (minimum_quantity, (cross_type, (order_state, (bbo_weight, _)))),
                        ),
                      ),
                    ),
                  ),
                ),
              ),
            ),
          ),
        ),
      ),
    ),
  ),
) (
  _,
  (
    timestamp_set,
    (
      token_set,
      (
        _,
        (
          shares_set,
          (
            stock_set,
            (
              price_set,
              (
                time_in_force_set,
                (
                  firm_set,
                  (
                    display_set,
                    (
                      order_reference_set,
                      (
                        capacity_set,
                        (intermarket_sweep_set, (minimum_quantity_set, (cross_type_set, (_, (bbo_weight_set, _))))),
                      ),
                    ),
                  ),
                ),
              ),
            ),
          ),
        ),
      ),
    ),
  ),
) = record {
  timestamp = timestamp;
  token = token;
  side = side;
  shares = shares;
  stock = stock;
  price = price;
  time_in_force = time_in_force;
  firm = firm;
  display = display;
  order_reference = order_reference;
  capacity = capacity;
  intermarket_sweep = intermarket_sweep;
  minimum_quantity = minimum_quantity;
  cross_type = cross_type;
  order_state = order_state;
  bbo_weight = bbo_weight;
  timestamp_set = timestamp_set;
  token_set = token_set;
  shares_set = shares_set;
  stock_set = stock_set;
  price_set = price_set;
  time_in_force_set = time_in_force_set;
  firm_set = firm_set;
  display_set = display_set;
  order_reference_set = order_reference_set;
  capacity_set = capacity_set;
  intermarket_sweep_set = intermarket_sweep_set;
  minimum_quantity_set = minimum_quantity_set;
  cross_type_set = cross_type_set;
  bbo_weight_set = bbo_weight_set;
}

abbrev pub accepted_laid_out : LaidOut Accepted accepted_layout
accepted_laid_out = record {
  row = accepted_row;
  known = known;
  make = accepted_of;
  made = λ m. refl;
  remade = λ r k. refl;
}
