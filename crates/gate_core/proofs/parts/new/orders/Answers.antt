use Rattle.std.proofs.Common.{rules, ◌≡◌, ap, length, sym, ◌∙◌}
use Rattle.std.proofs.lemmas.List.{length-map}
use Rattle.std.proofs.lemmas.Result.{IfOk-weaker}
use Rattle.gate_core.proofs.parts.new.orders.Goals as goal

pub returns-clause-clients : goal.returns-clause-clients
returns-clause-clients c =
    let lent : c.deref.result.now ≡ c.in_ok-terms.terms.items = search rules in
    let same : length c.in_ok-terms.terms.items ≡ length c.args.settings.now.clients =
    sym (length-map c.in_ok-terms.terms.items _) ∙ ap length c.in_ok-terms.ensures
    ∙ length-map c.args.settings.now.clients _ in
    IfOk-weaker c.new.result _ _ (λ core e. e ∙ ap length lent ∙ same) c.new.ensures.clients
