use Rattle.std.proofs.Common.{◌∙◌, ◌+◌, refl}
use Rattle.gate_workers.proofs.Ticking.{client_more, clients_none}
use Rattle.gate_workers.proofs.ticks.tick_clients.Goals as goal

pub loop-i-init : goal.loop-i-init
loop-i-init g c = record {
  puts = clients_none g.G.Gate.gave_back c.args.at (g.G.Gate.was_put c.args.gate.now);
  none_taken = refl;
}

pub loop-i-preserved : goal.loop-i-preserved
loop-i-preserved g c = record {
  puts = client_more g.G.Gate.gave_back c.args.at c.loop-i.i (c.loop-i.i + 1) c.new-client.result _ _ _
      refl c.new-client.ensures c.loop-i.invariant.puts c.tick.ensures.put;
  none_taken = c.tick.ensures.none_taken ∙ c.loop-i.invariant.none_taken;
}
