use Rattle.std.proofs.Common.{ℕ, Option, sym, subst, arith}
use Rattle.gate_law.specs.After.{lists}
use Rattle.gate_law.specs.Promises.{IsAmong}
use Rattle.order_core.specs.order_machine.Runs.{NumbersLeft}
use Rattle.gate_core.proofs.Fields.{fields-of}
use Rattle.gate_events.specs.Seen.{event_seen}
use Rattle.gate_core.proofs.Naming.{names-targets, parts-of, turns-few}
use Rattle.gate_law.proofs.Counted.{turns-few as no-more-turns}
use Rattle.gate_core.proofs.whole.Core.targets.Goals as goal

pub returns-clause-client : goal.returns-clause-client
returns-clause-client g c s before is =
    let few : NumbersLeft (lists s before).turns = omega (arith, turns-few no-more-turns s before) in
    c.targets.ensures.client s (lists s before)
    (parts-of s before _ (fields-of s before (record { parts = c.self.inside.parts; events = c.self.inside.events })
    _ c.args.self.now c.self.view_is is)) few

pub returns-clause-port : goal.returns-clause-port
returns-clause-port g c s before is = c.targets.ensures.port s (lists s before)
    (parts-of s before _ (fields-of s before (record { parts = c.self.inside.parts; events = c.self.inside.events }) _
    c.args.self.now c.self.view_is is))

pub returns-clause-named : goal.returns-clause-named
returns-clause-named g c s before batch is holds =
    let few : NumbersLeft (lists s before).turns = omega (arith, turns-few no-more-turns s before) in
    let parts = parts-of s before _ (fields-of s before
    (record { parts = c.self.inside.parts; events = c.self.inside.events }) _ c.args.self.now c.self.view_is is) in
    let named = names-targets s before (event_seen c.args.event.now) batch holds in (
      subst (λ (x : Option ℕ). IsAmong batch.client x)
          (sym (c.targets.ensures.client s (lists s before) parts few)) named.0,
      subst (λ (x : Option ℕ). IsAmong batch.port x) (sym (c.targets.ensures.port s (lists s before) parts)) named.1,
    )
