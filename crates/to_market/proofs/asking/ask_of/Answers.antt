use Rattle.std.proofs.Common.{rules, ◌∙◌}
use Rattle.to_market.proofs.Rows.{price-limit, price-refused, price-taken}
use Rattle.to_market.proofs.AskVerdict.{PassesTerms, by_quantity, by_minimum, by_price, AsksAs-fields}
use Rattle.to_market.proofs.asking.ask_of.Goals as goal

pub returns-in_err-shares-clause-verdict : goal.returns-in_err-shares-clause-verdict
returns-in_err-shares-clause-verdict c =
    let m = c.args.order.now in
    let passes : PassesTerms m = record {
      side = search rules;
      symbol = search rules;
      type = search rules;
      life_time = search rules;
      instruction = search rules;
      capacity = search rules;
    } in
    let verdict = by_quantity m passes (search rules) in
    search (rules, verdict)

pub returns-in_err-minimum-clause-verdict : goal.returns-in_err-minimum-clause-verdict
returns-in_err-minimum-clause-verdict c =
    let m = c.args.order.now in
    let passes : PassesTerms m = record {
      side = search rules;
      symbol = search rules;
      type = search rules;
      life_time = search rules;
      instruction = search rules;
      capacity = search rules;
    } in
    let verdict = by_minimum m c.in_ok-shares.shares passes (search rules) (search rules) in
    search (rules, verdict)

pub returns-in_err-price-clause-verdict : goal.returns-in_err-price-clause-verdict
returns-in_err-price-clause-verdict c =
    let m = c.args.order.now in
    let passes : PassesTerms m = record {
      side = search rules;
      symbol = search rules;
      type = search rules;
      life_time = search rules;
      instruction = search rules;
      capacity = search rules;
    } in
    let verdict = by_price m c.in_ok-shares.shares passes (search rules) (search rules)
    ∙ price-refused m.price c.in_err-price.field-0.0 (search rules) in
    search (rules, verdict)

pub returns-clause-verdict : goal.returns-clause-verdict
returns-clause-verdict c =
    let m = c.args.order.now in
    let passes : PassesTerms m = record {
      side = search rules;
      symbol = search rules;
      type = search rules;
      life_time = search rules;
      instruction = search rules;
      capacity = search rules;
    } in
    by_price m c.in_ok-shares.shares passes (search rules) (search rules)
    ∙ price-taken m.price c.in_ok-price.price (search rules)

pub returns-clause-asks : goal.returns-clause-asks
returns-clause-asks c =
    AsksAs-fields _ c.args.terms.now.capacity c.args.order.now (search rules) (record {
      side = search rules;
      shares = search rules;
      stock = search rules;
      price = price-limit c.args.order.now.price c.in_ok-price.price (search rules);
      life_time = search rules;
      display = search rules;
      capacity = search rules;
      minimum = search rules;
    })
