-- An Enter Order is its row.
use Rattle.std.proofs.Common.{refl}
use Rattle.ouch_codec.specs.declared.inbound.enter_order.EnterOrder.{EnterOrder}
use Rattle.ouch_codec.specs.Layout.{RowValues, AreValues, ◌⨾◌}
use Rattle.ouch_codec.specs.Layouts.{enter_order_layout}
use Rattle.ouch_codec.specs.Rows.{enter_order_row}
use Rattle.ouch_codec.specs.LaidOut.{LaidOut}

-- each value of its row is one that the field can say
abbrev known : (m : EnterOrder) → AreValues enter_order_layout (enter_order_row m)
known m =
    tt
    ⨾ m.token_set
    ⨾ tt
    ⨾ m.shares_set
    ⨾ m.stock_set
    ⨾ m.price_set
    ⨾ m.time_in_force_set
    ⨾ m.firm_set
    ⨾ m.display_set
    ⨾ m.capacity_set
    ⨾ m.intermarket_sweep_set
    ⨾ m.minimum_quantity_set
    ⨾ m.cross_type_set
    ⨾ m.customer_type_set
    ⨾ tt

-- the message of a row
abbrev pub enter_order_of : (r : RowValues enter_order_layout) → AreValues enter_order_layout r → EnterOrder
enter_order_of (
  _,
  (
    token,
    (
      side,
      (
        shares,
        (
          stock,
          (
            price,
            (
              time_in_force,
              (
                firm,
                (
                  display,
                  (
                    capacity,
                    (intermarket_sweep, (minimum_quantity, (cross_type, (customer_type, _)))),
                  ),
                ),
              ),
            ),
          ),
        ),
      ),
    ),
  ),
) (
  _,
  (
    token_set,
    (
      _,
      (
        shares_set,
        (
          stock_set,
          (
            price_set,
            (
              time_in_force_set,
              (
                firm_set,
                (
                  display_set,
                  (
                    capacity_set,
                    (intermarket_sweep_set, (minimum_quantity_set, (cross_type_set, (customer_type_set, _)))),
                  ),
                ),
              ),
            ),
          ),
        ),
      ),
    ),
  ),
) = record {
  token = token;
  side = side;
  shares = shares;
  stock = stock;
  price = price;
  time_in_force = time_in_force;
  firm = firm;
  display = display;
  capacity = capacity;
  intermarket_sweep = intermarket_sweep;
  minimum_quantity = minimum_quantity;
  cross_type = cross_type;
  customer_type = customer_type;
  token_set = token_set;
  shares_set = shares_set;
  stock_set = stock_set;
  price_set = price_set;
  time_in_force_set = time_in_force_set;
  firm_set = firm_set;
  display_set = display_set;
  capacity_set = capacity_set;
  intermarket_sweep_set = intermarket_sweep_set;
  minimum_quantity_set = minimum_quantity_set;
  cross_type_set = cross_type_set;
  customer_type_set = customer_type_set;
}

abbrev pub enter_order_laid_out : LaidOut EnterOrder enter_order_layout
enter_order_laid_out = record {
  row = enter_order_row;
  known = known;
  make = enter_order_of;
  made = λ m. refl;
  remade = λ r k. refl;
}
