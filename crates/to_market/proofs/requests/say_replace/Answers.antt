use Rattle.std.proofs.Common.{rules, refl}
use Rattle.ouch_codec.specs.declared.inbound.replace.Replace.{Replace}
use Rattle.to_market.proofs.RequestBytes.{Replaces, says_replace}
use Rattle.to_market.proofs.requests.say_replace.Goals as goal

pub returns-clause-says : goal.returns-clause-says
returns-clause-says c =
    let ask = c.args.ask.now in
    let message : Replace = record {
      token = c.args.from.now;
      replacement_token = ask.token;
      shares = ask.shares;
      price = ask.price;
      time_in_force = ask.time_in_force;
      display = ask.display;
      intermarket_sweep = 78;
      minimum_quantity = ask.minimum_quantity;
      token_set = search rules;
      replacement_token_set = search rules;
      shares_set = search rules;
      price_set = search rules;
      time_in_force_set = search rules;
      display_set = search rules;
      intermarket_sweep_set = search rules;
      minimum_quantity_set = search rules;
    } in
    let has : Replaces ask c.args.from.now message = record {
      token = refl;
      replacement = refl;
      shares = refl;
      price = refl;
      time_in_force = refl;
      display = refl;
      sweep = refl;
      minimum = refl;
    } in
    λ m asks order standing order_of leads.
    rw (c.bytes.ensures.bytes, c.count.ensures.value, c.units.ensures.value)
    (says_replace ask c.args.from.now message m order standing order_of asks has leads)
