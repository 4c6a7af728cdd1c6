use Rattle.closed_world.specs.Lines.{way_seen}
use Rattle.closed_world.proofs.Links.{written-more}
use Rattle.closed_world.proofs.connection.Connection.write_all.Goals as goal

pub loop-out-preserved : goal.loop-out-preserved
loop-out-preserved c =
    written-more c.args.outs.now c.loop-out.out-index c.out-item.result (way_seen c.args.self.now)
    (way_seen c.loop-out.self) _ c.loop-out-test.true c.out-item.is
    c.loop-out.invariant c.in_ok-write.ensures.link c.in_ok-write.ensures.core c.in_ok-write.ensures.market
