use Rattle.std.proofs.Common.{◌≡◌, ◌≤◌, ◌*◌, take, length, map}
use Rattle.outstanding.specs.order_law.Headline.{EachWith}
use Rattle.order_core.specs.Runs.{IsFor, run_history}
use Rattle.to_market.specs.TermsSeen.{terms_seen}
use Rattle.order_core.specs.State.{IsAfterTurns, core_clients, core_numbers}
use Rattle.order_core.proofs.runs.run.Given as goal

abbrev pub invariant-loop-event : goal.invariant-loop-event
invariant-loop-event l = record {
  after : IsAfterTurns (map terms_seen l.terms) (run_history (take l.event-index l.events) l.outcomes.items) l.core;
  whom : EachWith IsFor (take l.event-index l.events) l.outcomes.items;
  same : length l.outcomes.items ≡ l.event-index;
  clients : core_clients l.core ≡ length l.terms;
  issued : core_numbers l.core ≤ 3 * l.event-index;
}
