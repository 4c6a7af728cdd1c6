use Rattle.std.proofs.Common.{rules, refl}
use Rattle.ouch_codec.specs.declared.inbound.enter_order.EnterOrder.{EnterOrder}
use Rattle.to_market.proofs.EnterOrders.{Enters, says_what_is_asked}
use Rattle.to_market.proofs.asking.enter_order.Goals as goal

pub returns-clause-says : goal.returns-clause-says
returns-clause-says c =
    let ask = c.args.ask.now in
    let terms = c.args.terms.now in
    let enter : EnterOrder = record {
      token = c.args.token;
      side = ask.side;
      shares = ask.shares;
      stock = ask.stock;
      price = ask.price;
      time_in_force = ask.time_in_force;
      firm = terms.firm;
      display = ask.display;
      capacity = ask.capacity;
      intermarket_sweep = 78;
      minimum_quantity = ask.minimum_quantity;
      cross_type = 78;
      customer_type = terms.customer;
      token_set = search rules;
      shares_set = search rules;
      stock_set = search rules;
      price_set = search rules;
      time_in_force_set = search rules;
      firm_set = search rules;
      display_set = search rules;
      capacity_set = search rules;
      intermarket_sweep_set = search rules;
      minimum_quantity_set = search rules;
      cross_type_set = search rules;
      customer_type_set = search rules;
    } in
    let enters : Enters ask terms enter = record {
      side = refl;
      shares = refl;
      stock = refl;
      price = refl;
      time_in_force = refl;
      firm = refl;
      display = refl;
      capacity = refl;
      sweep = refl;
      minimum = refl;
      cross = refl;
      customer = refl;
    } in
    λ m asks order order_of. rw (c.bytes.ensures.bytes, c.count.ensures.value, c.units.ensures.value)
    (says_what_is_asked ask terms enter m order order_of asks enters)
