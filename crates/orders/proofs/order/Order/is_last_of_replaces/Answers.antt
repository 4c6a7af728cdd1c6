use Rattle.std.proofs.Common.{ℕ, Bool, List, map, sym, ap, ◌∙◌, Option}
use Rattle.std.specs.Prelude.{Some, bytes_eq, option_map}
use Rattle.std.specs.List.{list_all, list_any}
use Rattle.order_machine.specs.OrderRecord.{OrderRecord, last_after, replacements}
use Rattle.orders.specs.declared.requests.Cancelling.{Cancelling}
use Rattle.orders.specs.declared.requests.Replacing.{Replacing}
use Rattle.orders.specs.Seen.{cancel_seen, has_token, replace_seen}
use Rattle.orders.proofs.Answered.{all-answered}
use Rattle.orders.proofs.Replacements.{has-tokens}
use Rattle.orders.proofs.order.Order.is_last_of_replaces.Goals as goal

pub returns-in-Some : goal.returns-in-Some
returns-in-Some c =
    let o = c.self.inside in
    let tokens = c.get.result.now.tokens.items in
    let seen = cancel_seen o.client o.order_id in
    let test = λ (token : List ℕ). list_any (bytes_eq token)
    (replacements (map (replace_seen o.client o.order_id) o.replaces)) in
    c.is_of_replaces.ensures
    ∙ ap (λ (rs : List Replacing). list_all (has_token rs) tokens) c.as_slice.ensures
    ∙ ap (λ (t : List ℕ → Bool). list_all t tokens) (has-tokens o.client o.order_id o.replaces)
    ∙ all-answered test tokens
    ∙ ap (λ (x : Cancelling). last_after test (Some (seen x))) c.get.ensures
    ∙ ap (λ (x : Option Cancelling). last_after test (option_map seen x)) (sym c.in-Some.is)
    ∙ ap (λ (r : OrderRecord). last_after (λ token. list_any (bytes_eq token) (replacements r.replaces)) r.cancel)
    c.self.view_is
