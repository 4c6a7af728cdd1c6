use Rattle.std.proofs.Common.{◌∙◌, List, ap, get_or, length, arith}
use Rattle.ouch_codec.specs.declared.outbound.Outbound.{Outbound}
use Rattle.order_accounts.proofs.Shelving.{below-at, picked-more}
use Rattle.order_accounts.proofs.messages.MessageShelves.those_at.Goals as goal

pub index-requires : goal.index-requires
index-requires c =
    let below = below-at (length c.args.self.now) c.args.places.now c.loop-place.place-index 0 c.requires
    c.loop-place-test.true in
    omega (arith, below, ap (λ (ms : List Outbound). length ms) c.self.view_is)

pub loop-place-preserved : goal.loop-place-preserved
loop-place-preserved c =
    let below = below-at (length c.args.self.now) c.args.places.now c.loop-place.place-index 0 c.requires
    c.loop-place-test.true in
    c.in_ok-push.ensures.items
    ∙ picked-more c.args.self.now c.args.places.now c.loop-place.place-index 0 c.index.result.now
    c.loop-place.messages.items c.loop-place-test.true below
    (c.index.ensures ∙ ap (λ (ms : List Outbound). get_or ms
    (get_or c.args.places.now c.loop-place.place-index 0) c.index.result.now) c.self.view_is)
    c.loop-place.invariant
