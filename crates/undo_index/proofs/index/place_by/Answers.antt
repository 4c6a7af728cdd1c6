use Rattle.std.proofs.Common.{subst}
use Rattle.std.specs.Prelude.{Option}
use Rattle.undo_index.specs.declared.hint.Hint.{Hint}
use Rattle.undo_index.specs.Hints.{LeadsTo, LedBy}
use Rattle.undo_index.proofs.Newest.{led-nowhere}
use Rattle.undo_index.proofs.index.place_by.Goals as goal

pub only-requires : goal.only-requires
only-requires g c = λ i a at h. subst (λ (s : Option Hint). LeadsTo s i) c.in-Some.is
    (c.requires i a at h) c.if-hint.true

pub returns-in-None : goal.returns-in-None
returns-in-None g c = led-nowhere (g.Q.Sought.sought c.args.query.now) c.args.items.now
    (subst (λ (s : Option Hint). LedBy s (g.Q.Sought.sought c.args.query.now) c.args.items.now) c.in-None.is c.requires)
