use Rattle.std.proofs.Common.{rules}
use Rattle.gate_events.proofs.OneItem.{set-one}
use Rattle.gate_events.proofs.short_list.ShortList.set.Goals as goal
use Rattle.gate_events.proofs.short_list.ShortList.set.Goals.{in-None, in-One, in-Many}

pub returns : goal.returns
returns g c =
    elim c.match-self.branch [
      | in-None w ↦ (search rules)
      | in-One w ↦ (search (set-one, rules))
      | in-Many w ↦ (search rules)
    ]
