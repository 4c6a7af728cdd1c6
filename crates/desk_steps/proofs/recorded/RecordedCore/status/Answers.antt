use Rattle.gate_journal.specs.Kept.{turns}
use Rattle.desk_steps.proofs.Recording.{holds-after}
use Rattle.desk_steps.proofs.recorded.RecordedCore.status.Goals as goal

pub new-requires : goal.new-requires
new-requires g c = record {
  day = record {
    settings = c.self.inside.settings;
    day = turns c.self.inside.history;
    holds = holds-after c.self.inside.settings (turns c.self.inside.history) c.self.inside.core c.self.invariant;
    rows = c.in_ok-board.ensures c.self.inside.settings (turns c.self.inside.history) c.self.invariant;
  };
}

pub returns : goal.returns
returns g c =
    rw (c.new.ensures, ← c.self.view_is)
    (c.in_ok-board.ensures c.self.inside.settings (turns c.self.inside.history) c.self.invariant)
