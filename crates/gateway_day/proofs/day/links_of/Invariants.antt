-- The open links behind the events so far lead to those behind all.
use Rattle.std.proofs.Common.{◌≡◌, length}
use Rattle.gate_journal.specs.Left.{events_left}
use Rattle.gate_journal.specs.Links.{open_behind, open_in}
use Rattle.gateway_day.proofs.day.links_of.Given as goal

abbrev pub invariant-loop-links : goal.invariant-loop-links
invariant-loop-links l = open_behind l.links.items (events_left l.left) ≡ open_in l.history.events

abbrev pub decreases-loop-links : goal.decreases-loop-links
decreases-loop-links l = length (events_left l.left)
