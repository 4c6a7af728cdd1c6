use Rattle.std.proofs.Common.{rules, ◌∙◌}
use Rattle.to_market.proofs.Rows.{price-limit}
use Rattle.to_market.proofs.RequestVerdict.{AsksToReplace-fields, PassesFields, PassesKind, by_changes, by_instruction}
use Rattle.to_market.proofs.RequestVerdict.{by_life_time, by_limit, by_minimum, by_none, by_quantity, by_token}
use Rattle.to_market.proofs.RequestVerdict.{by_total, by_type, other_terms, price_refused}
use Rattle.to_market.proofs.requests.change_of.Goals as goal

pub returns-in_err-refuse_if-clause-verdict : goal.returns-in_err-refuse_if-clause-verdict
returns-in_err-refuse_if-clause-verdict c =
    let m = c.args.request.now in
    let o = c.args.order.now in
    let refused = other_terms o c.args.given m (search rules) in
    λ used n port reaches read. let verdict = by_changes used n o port c.args.given m reaches read ∙ refused in
    search (rules, verdict)

pub returns-in_err-shares-clause-verdict : goal.returns-in_err-shares-clause-verdict
returns-in_err-shares-clause-verdict c =
    let m = c.args.request.now in
    let o = c.args.order.now in
    let passes : PassesKind o m = record {
      terms = search rules;
      type = search rules;
      life_time = search rules;
      instruction = search rules;
    } in
    let refused = by_quantity o c.args.given m passes (search rules) in
    λ used n port reaches read. let verdict = by_changes used n o port c.args.given m reaches read ∙ refused in
    search (rules, verdict)

pub returns-in_err-price-clause-verdict : goal.returns-in_err-price-clause-verdict
returns-in_err-price-clause-verdict c =
    let m = c.args.request.now in
    let o = c.args.order.now in
    let passes : PassesKind o m = record {
      terms = search rules;
      type = search rules;
      life_time = search rules;
      instruction = search rules;
    } in
    let refused = price_refused o c.args.given m c.in_ok-shares.shares c.in_err-price.field-0.0 passes (search rules)
    (search rules) (search rules) in
    λ used n port reaches read. let verdict = by_changes used n o port c.args.given m reaches read ∙ refused in
    search (rules, verdict)

pub returns-clause-asks : goal.returns-clause-asks
returns-clause-asks c =
    AsksToReplace-fields _ c.args.request.now (record {
      shares = search rules;
      price = price-limit c.args.request.now.price c.in_ok-price.price (search rules);
      life_time = search rules;
      is_life = search rules;
      display = search rules;
      minimum = search rules;
    })

pub returns-in_err-refuse_if-2-clause-verdict : goal.returns-in_err-refuse_if-2-clause-verdict
returns-in_err-refuse_if-2-clause-verdict c =
    let m = c.args.request.now in
    let o = c.args.order.now in
    let refused = by_type o c.args.given m (search rules) (search rules) in
    λ used n port reaches read. let verdict = by_changes used n o port c.args.given m reaches read ∙ refused in
    search (rules, verdict)

pub returns-in_err-time_in_force-clause-verdict : goal.returns-in_err-time_in_force-clause-verdict
returns-in_err-time_in_force-clause-verdict c =
    let m = c.args.request.now in
    let o = c.args.order.now in
    let refused = by_life_time o c.args.given m (search rules) (search rules) (search rules) in
    λ used n port reaches read. let verdict = by_changes used n o port c.args.given m reaches read ∙ refused in
    search (rules, verdict)

pub returns-in_err-display-clause-verdict : goal.returns-in_err-display-clause-verdict
returns-in_err-display-clause-verdict c =
    let m = c.args.request.now in
    let o = c.args.order.now in
    let refused = by_instruction o c.args.given m (search rules) (search rules) (search rules) (search rules) in
    λ used n port reaches read. let verdict = by_changes used n o port c.args.given m reaches read ∙ refused in
    search (rules, verdict)

pub returns-in_err-minimum_quantity-clause-verdict : goal.returns-in_err-minimum_quantity-clause-verdict
returns-in_err-minimum_quantity-clause-verdict c =
    let m = c.args.request.now in
    let o = c.args.order.now in
    let passes : PassesKind o m = record {
      terms = search rules;
      type = search rules;
      life_time = search rules;
      instruction = search rules;
    } in
    let refused = by_minimum o c.args.given m c.in_ok-shares.shares passes (search rules) (search rules) in
    λ used n port reaches read. let verdict = by_changes used n o port c.args.given m reaches read ∙ refused in
    search (rules, verdict)

pub returns-in_err-refuse_if-3-clause-verdict : goal.returns-in_err-refuse_if-3-clause-verdict
returns-in_err-refuse_if-3-clause-verdict c =
    let m = c.args.request.now in
    let o = c.args.order.now in
    let passes : PassesFields o m c.in_ok-shares.shares c.in_ok-price.price = record {
      kind = record { terms = search rules; type = search rules; life_time = search rules; instruction = search rules };
      said = search rules;
      good = search rules;
      read = search rules;
    } in
    let refused = by_total o c.args.given m c.in_ok-shares.shares c.in_ok-price.price passes (search rules) in
    λ used n port reaches read. let verdict = by_changes used n o port c.args.given m reaches read ∙ refused in
    search (rules, verdict)

pub returns-in_err-refuse_if-4-clause-verdict : goal.returns-in_err-refuse_if-4-clause-verdict
returns-in_err-refuse_if-4-clause-verdict c =
    let m = c.args.request.now in
    let o = c.args.order.now in
    let passes : PassesFields o m c.in_ok-shares.shares c.in_ok-price.price = record {
      kind = record { terms = search rules; type = search rules; life_time = search rules; instruction = search rules };
      said = search rules;
      good = search rules;
      read = search rules;
    } in
    let refused = by_limit o c.args.given m c.in_ok-shares.shares c.in_ok-price.price passes (search rules)
    (search rules) in
    λ used n port reaches read. let verdict = by_changes used n o port c.args.given m reaches read ∙ refused in
    search (rules, verdict)

pub returns-in_err-token-clause-verdict : goal.returns-in_err-token-clause-verdict
returns-in_err-token-clause-verdict c =
    let m = c.args.request.now in
    let o = c.args.order.now in
    let passes : PassesFields o m c.in_ok-shares.shares c.in_ok-price.price = record {
      kind = record { terms = search rules; type = search rules; life_time = search rules; instruction = search rules };
      said = search rules;
      good = search rules;
      read = search rules;
    } in
    let refused = by_token o c.args.given m c.in_ok-shares.shares c.in_ok-price.price passes (search rules)
    (search rules) (search rules) in
    λ used n port reaches read. let verdict = by_changes used n o port c.args.given m reaches read ∙ refused in
    search (rules, verdict)

pub returns-clause-verdict : goal.returns-clause-verdict
returns-clause-verdict c =
    let m = c.args.request.now in
    let o = c.args.order.now in
    let passes : PassesFields o m c.in_ok-shares.shares c.in_ok-price.price = record {
      kind = record { terms = search rules; type = search rules; life_time = search rules; instruction = search rules };
      said = search rules;
      good = search rules;
      read = search rules;
    } in
    let taken = by_none o c.args.given m c.in_ok-shares.shares c.in_ok-price.price passes (search rules) (search rules)
    (search rules) in
    λ used n port reaches read. by_changes used n o port c.args.given m reaches read ∙ taken
