use Rattle.std.proofs.Common.{map}
use Rattle.to_market.specs.TermsSeen.{terms_seen}
use Rattle.outstanding.proofs.InTurns.{nothing-is_kept}
use Rattle.order_core.proofs.Turns.{empty-after, seen_by}
use Rattle.order_core.proofs.order_core.OrderCore.new.Goals as goal

pub returns-clause-after : goal.returns-clause-after
returns-clause-after c =
    empty-after (map terms_seen c.args.terms.now) (seen_by c.in_ok-new.field-0 c.new-2.result)
    c.in_ok-new.ensures.now c.new-2.ensures.messages nothing-is_kept
