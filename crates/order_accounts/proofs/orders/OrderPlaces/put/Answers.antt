use Rattle.std.proofs.Common.{◌≡◌, ◌∙◌, ◌<◌, ◌++◌, ◌∷◌, ℕ, List, [], ap, get_or, length, set, subst, subst₂, sym}
use Rattle.std.proofs.lemmas.Result.{on_ok_weaker}
use Rattle.order_accounts.specs.Places.{place}
use Rattle.order_accounts.specs.Shelved.{HasOrders}
use Rattle.order_accounts.proofs.Ordering.{order-more}
use Rattle.order_accounts.proofs.orders.OrderPlaces.put.Goals as goal

pub returns : goal.returns
returns c =
    let shelves : List (List ℕ) = c.args.self.now in
    let order = c.args.order.now in
    let k = c.args.place in
    let count : c.count.result ≡ length shelves = c.count.ensures ∙ ap length c.self.view_is in
    let at : c.place_of-shelf.result ≡ place (length shelves) order = c.place_of-shelf.ensures.place
    ∙ ap (λ (n : ℕ). place n order) count in
    let inside : place (length shelves) order < length shelves =
    subst₂ (λ (i n : ℕ). i < n) at count c.place_of-shelf.ensures.within in
    on_ok_weaker c.put.result
    (λ put orders has many.
    let new : c.put.new.self ≡ set shelves (place (length shelves) order)
    (get_or shelves (place (length shelves) order) [] ++ k ∷ []) =
    put ∙ (ap (λ (s : List (List ℕ)). set s c.place_of-shelf.result (get_or s c.place_of-shelf.result [] ++ k ∷ []))
    c.self.view_is
    ∙ ap (λ (i : ℕ). set shelves i (get_or shelves i [] ++ k ∷ [])) at) in
    subst (HasOrders (orders ++ order ∷ [])) (sym new) (order-more orders order shelves k many inside has))
    c.put.ensures.put
