use Rattle.std.proofs.Common.{[], ◌∷◌}
use Rattle.std.specs.Prelude.{codes}
use Rattle.gateway_serve.specs.Lines.{shown_open_order, shown_shares, shown_whose}
use Rattle.gateway_serve.proofs.Joined.{joined4}
use Rattle.gateway_serve.proofs.open_orders.push_open.Goals as goal

pub returns : goal.returns
unfolding shown_open_order
returns c =
    rw (c.in_ok-extend_from_slice.ensures.items, c.in_ok-push_shares.ensures, c.in_ok-push_whose.ensures)
    (joined4 c.args.text.now.items (shown_whose c.args.settings.now c.args.pair.now) (shown_shares c.args.pair.now) (codes " open at the market") (10 ∷ []))
