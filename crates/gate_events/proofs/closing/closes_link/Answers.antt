use Rattle.std.proofs.Common.{sym, ◌∙◌}
use Rattle.gate_law.specs.After.{is_close}
use Rattle.gate_events.specs.Seen.{link_out_seen}
use Rattle.gate_events.proofs.AnyOf.{any-at}
use Rattle.gate_events.proofs.closing.closes_link.Goals as goal

pub returns-then-is_close_of : goal.returns-then-is_close_of
returns-then-is_close_of c =
    sym (any-at link_out_seen (is_close c.args.link) c.args.outs.now c.loop-out.out-index c.out-item.result
    c.loop-out-test.true c.out-item.is
    (sym c.is_close_of.ensures ∙ c.if-is_close_of.true))
