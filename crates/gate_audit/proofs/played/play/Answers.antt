use Rattle.std.proofs.Common.{◌≡◌, ◌∙◌, ap, sym, subst, map, reverse}
use Rattle.gate_law.specs.Events.{History}
use Rattle.gate_law.specs.Holds.{Holds}
use Rattle.gate_journal.specs.Kept.{turns}
use Rattle.closed_world.specs.Steps.{step_seen}
use Rattle.closed_world.specs.Worlds.{IsWorld}
use Rattle.closed_world.proofs.Standing.{core-holds, table-run}
use Rattle.gate_audit.specs.Pairs.{accepted_pairs, pairs}
use Rattle.gate_audit.specs.Played.{KeepsPromises, books}
use Rattle.gate_audit.proofs.Resting.{rows-agree}
use Rattle.gate_audit.proofs.played.play.Goals as goal

pub returns : goal.returns
returns c =
    let s = c.args.settings.now in
    let steps = reverse (map step_seen c.args.steps.now) in
    let is : IsWorld s steps c.in_ok-world.world = c.in_ok-world.ensures in
    let holds : Holds s is.x.history = core-holds s is.x.history c.in_ok-world.world.core is.same.core in
    let history : turns c.into_history-history.result ≡ is.x.history = c.into_history-history.ensures s is.x is.same in
    let rows : c.in_ok-books.books.items ≡ books s is.x = c.in_ok-books.ensures is.x is.same in
    let keeps : KeepsPromises s is.x = c.promises.ensures steps is.x is.leads holds
    (table-run s is.x.history c.in_ok-world.world.core is.same.core) in
    let accepted : c.in_ok-pairs.pairs.items ≡ accepted_pairs s is.x.history =
    c.in_ok-pairs.ensures.run (subst (λ (h : History). Holds s h) (sym history) holds) ∙ ap (accepted_pairs s) history
    in
    record {
      w = is.x;
      leads = is.leads;
      holds = holds;
      history = history;
      books = rows;
      pairs = c.in_ok-pairs.ensures.read ∙ ap (pairs s) history;
      agree = rows-agree s is.x c.in_ok-pairs.pairs.items c.in_ok-books.books.items holds accepted rows keeps.alike;
      keeps = keeps;
    }
