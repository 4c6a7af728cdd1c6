use Rattle.std.proofs.Common.{◌≡◌, ℕ, List, [], ◌∷◌, ◌++◌, map, ap, ◌∙◌, subst, sym}
use Rattle.order_machine.specs.OrderRecord.{OrderRecord, live_token, replacements}
use Rattle.order_law.specs.ouch_codec.declared.inbound.Inbound.{Inbound}
use Rattle.order_law.specs.ouch_codec.declared.inbound.Inbound.TheVariants as inbound
use Rattle.orders.specs.declared.requests.Replacing.{Replacing}
use Rattle.orders.specs.Seen.{replacing_token}
use Rattle.to_market.specs.Asked.{SayCancels, SaysTheCancel}
use Rattle.to_market.proofs.Sending.{cancels-said, tokens-seen}
use Rattle.to_market.proofs.cancels.cancels_of.Goals as goal

pub returns-clause-says : goal.returns-clause-says
returns-clause-says c = λ m standing order_of kind finds.
    let o = c.args.order.now in
    let live = c.order.inside.token in
    let x : Inbound = inbound.Cancel c.say_cancel.result in
    let one : c.push.new.self.items ≡ x ∷ [] = c.in_ok-push.ensures.items
    ∙ ap (λ (xs : List Inbound). xs ++ x ∷ []) c.in_ok-asks.ensures.items in
    let says : SaysTheCancel live x = λ m kind order standing order_of leads. c.say_cancel.ensures.says m kind order
    standing order_of leads in
    let first : SayCancels (live ∷ []) c.push.new.self.items =
    subst (λ (xs : List Inbound). SayCancels (live ∷ []) xs) (sym one) (says, tt) in
    let tokens : live ∷ map replacing_token c.as_slice.result.now ≡ live_token o ∷ replacements o.replaces =
    ap (λ (rs : List Replacing). live ∷ map replacing_token rs) c.as_slice.ensures
    ∙ ap (λ (ts : List (List ℕ)). live ∷ ts) (tokens-seen c.order.inside.client c.order.inside.order_id
    c.order.inside.replaces)
    ∙ ap (λ (r : OrderRecord). live_token r ∷ replacements r.replaces) c.order.view_is in
    cancels-said o (live ∷ map replacing_token c.as_slice.result.now) c.push_cancels.new.asks.items m standing order_of
    tokens
    (c.in_ok-push_cancels.ensures.says (live ∷ []) first) kind finds
