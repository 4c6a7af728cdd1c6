use Rattle.std.proofs.Common.{length, refl, ap, ◌∙◌}
use Rattle.gate_journal.specs.Kept.{turns}
use Rattle.world_law.specs.World.{opening_world}
use Rattle.closed_world.proofs.world.ClosedWorld.new.Goals as goal

pub returns : goal.returns
returns c = record {
  x = opening_world;
  leads = refl;
  same = record {
    core = c.in_ok-core.ensures.after;
    history = ap turns c.new-2.ensures;
    moment = refl;
    count = c.in_ok-ports.ensures.count ∙ ap length c.ports.ensures.ports;
    lines = c.in_ok-ports.ensures.lines;
  };
}
