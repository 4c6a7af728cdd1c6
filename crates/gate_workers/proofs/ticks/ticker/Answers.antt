use Rattle.std.proofs.Common.{◌∙◌, refl}
use Rattle.gate_workers.proofs.Ticking.{ticks_more, ticks_none}
use Rattle.gate_workers.proofs.ticks.ticker.Goals as goal

pub loop-init : goal.loop-init
loop-init g c = record {
  can_next = tt;
  is_finite = tt;
  puts = ticks_none g.G.Gate.gave_back c.args.clients c.args.ports (g.C.Clock.reported c.args.clock.now)
      (g.G.Gate.was_put c.args.gate.now);
  none_taken = refl;
}

pub loop-preserved : goal.loop-preserved
loop-preserved g c = record {
  can_next = tt;
  is_finite = tt;
  puts = ticks_more g.G.Gate.gave_back c.args.clients c.args.ports c.now_ms-at.result _ _ _ _ _ _ _ _
      c.loop.invariant.puts c.now_ms-at.ensures.tells c.tick_clients.ensures.ticks c.tick_ports.ensures.ticks
      c.pause.ensures.silent;
  none_taken = c.tick_ports.ensures.none_taken ∙ (c.tick_clients.ensures.none_taken ∙ c.loop.invariant.none_taken);
}
