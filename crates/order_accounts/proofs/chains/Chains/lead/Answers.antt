use Rattle.std.proofs.Common.{◌≡◌, ◌%◌, ◌∙◌, ◌<◌, ℕ, List, ap, get_or, length, rules, subst}
use Rattle.std.proofs.lemmas.List.{get_or_default}
use Rattle.order_accounts.specs.Places.{digits_of, lead, place}
use Rattle.order_accounts.proofs.chains.Chains.lead.Goals as goal

pub returns-clause-place : goal.returns-clause-place
unfolding lead
returns-clause-place c =
    let leads : List ℕ = c.args.self.now in
    let n : c.len-count.result ≡ length leads = search (rules, c.self.view_is) in
    let at : c.place_of.result ≡ place (length leads) (digits_of c.args.token.now) = c.place_of.ensures.place
    ∙ ap (λ (k : ℕ). place k (digits_of c.args.token.now)) n in
    let inside : c.place_of.result < length leads = subst (λ (k : ℕ). c.place_of.result < k) n c.place_of.ensures.within
    in
    let found : c.index.result.now ≡ get_or leads (place (length leads) (digits_of c.args.token.now)) 0 =
    c.index.ensures ∙ (ap (λ (xs : List ℕ). get_or xs c.place_of.result c.index.result.now) c.self.view_is
    ∙ (get_or_default leads c.place_of.result c.index.result.now 0 inside ∙ ap (λ (k : ℕ). get_or leads k 0) at)) in
    ap (λ (k : ℕ). k % c.len-count.result) found
    ∙ ap (λ (k : ℕ). get_or leads (place (length leads) (digits_of c.args.token.now)) 0 % k) n
