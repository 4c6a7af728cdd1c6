use Rattle.std.proofs.Common.{◌∙◌, ◌<◌, ◌++◌, ◌∷◌, [], ℕ, List, ap, length, sym, subst}
use Rattle.std.specs.Prelude.{◌==◌}
use Rattle.std.proofs.lemmas.Result.{on_ok_weaker}
use Rattle.order_accounts.specs.Shelved.{AreShelved, leads_to, message_at}
use Rattle.order_accounts.proofs.Shelving.{more, passed}
use Rattle.order_accounts.proofs.messages.shelve.Goals as goal

pub returns-in-Some-clause-put : goal.returns-in-Some-clause-put
returns-in-Some-clause-put c =
    let leads : List ℕ = c.args.chains.now in
    let m = c.args.message.now in
    let shelves : List (List ℕ) = c.args.shelves.now in
    let inside : c.lead.result < length shelves =
    subst (λ (n : ℕ). c.lead.result < n) (sym c.requires) c.lead.ensures.within in
    on_ok_weaker c.put.result
    (λ put heard many all. subst (AreShelved (message_at leads) (heard ++ m ∷ [])) (sym put)
    (more (message_at leads) heard m shelves c.lead.result c.args.place many inside
    (λ i. ap (leads_to leads i) c.in-Some.ensures ∙ ap (λ (k : ℕ). k == i) (sym c.lead.ensures.place)) all))
    c.put.ensures.put

pub returns-in-None-clause-put : goal.returns-in-None-clause-put
returns-in-None-clause-put c = λ heard many all.
    passed (message_at c.args.chains.now) heard c.args.message.now c.args.shelves.now
    (λ i. ap (leads_to c.args.chains.now i) c.in-None.ensures) all
