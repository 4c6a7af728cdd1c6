use Rattle.std.proofs.Common.{◌≡◌, ℕ, Bool, List, [], map, ap, ◌∙◌, Option}
use Rattle.std.specs.Prelude.{bytes_eq, option_map}
use Rattle.std.specs.List.{list_any}
use Rattle.order_machine.specs.OrderRecord.{OrderRecord, at, replacements, still_after}
use Rattle.orders.specs.contracts.order.Order.{the_view}
use Rattle.orders.specs.declared.requests.Cancelling.{Cancelling}
use Rattle.orders.specs.declared.requests.Replacing.{Replacing}
use Rattle.orders.specs.Seen.{cancel_seen, has_token, replace_seen}
use Rattle.orders.proofs.Replacements.{has-tokens}
use Rattle.orders.proofs.order.Order.end_replaces.Goals as goal

pub returns : goal.returns
returns c =
    let o = c.self.inside in
    let seen = cancel_seen o.client o.order_id in
    let test = λ (token : List ℕ). list_any (bytes_eq token)
    (replacements (map (replace_seen o.client o.order_id) o.replaces)) in
    let left : option_map seen c.without_replaces.result ≡ still_after test (option_map seen o.cancel) =
    c.without_replaces.ensures o.client o.order_id
    ∙ ap (λ (x : Option Cancelling). still_after (has_token c.as_slice.result.now) (option_map seen x))
    c.take.ensures.value
    ∙ ap (λ (rs : List Replacing). still_after (has_token rs) (option_map seen o.cancel)) c.as_slice.ensures
    ∙ ap (λ (t : List ℕ → Bool). still_after t (option_map seen o.cancel)) (has-tokens o.client o.order_id o.replaces)
    in
    (λ j. record (the_view o) {
      replaces = map (replace_seen o.client o.order_id) (c.clear.ensures j);
      cancel =
          left j;
    })
    ∙ ap (λ (r : OrderRecord). at r [] (still_after
    (λ token. list_any (bytes_eq token) (replacements r.replaces)) r.cancel)) c.self.view_is
