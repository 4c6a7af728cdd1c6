use Rattle.std.proofs.Common.{◌≡◌, ◌+◌, ℕ, List, Option, length, map, take}
use Rattle.fix_types.specs.Application.{body_fields}
use Rattle.gate_law.specs.session_law.Runs.{Timed}
use Rattle.gate_law.specs.session_law.Frames.{told_of_out}
use Rattle.gate_law.specs.Settings.{Settings, client_name}
use Rattle.gate_law.specs.Sessions.{client_outs, client_reports, issues}
use Rattle.gate_sessions.specs.Lines.{ClientStands, ClientsSettledAs, ClientsLeave, ClientLinks, called_all}
use Rattle.gate_events.specs.Seen.{link_out_seen}
use Rattle.gate_sessions.specs.Links.{outs_told_on}
use Rattle.gate_sessions.proofs.issuing.client_issue_all.Given as goal

-- the clauses, of the bodies so far
abbrev pub invariant-loop-body : goal.invariant-loop-body
invariant-loop-body l = record {
  leave : (s : Settings) (calls : ℕ → List Timed) → ClientsLeave s calls l.fn.clients.lines.items
      → ClientsLeave s (called_all (l.place + 1) (issues l.at (map body_fields (take l.body-index l.bodies))) calls)
      l.clients.lines.items;
  outs : (s : Settings) (calls : ℕ → List Timed) → ClientsLeave s calls l.fn.clients.lines.items
      → map link_out_seen l.all.outs.items ≡ outs_told_on l.link
      (map (told_of_out s.comp (client_name s (l.place + 1)))
      (client_outs s (l.place + 1) (calls (l.place + 1))
      (issues l.at (map body_fields (take l.body-index l.bodies)))));
  reports : (s : Settings) (calls : ℕ → List Timed) → ClientsLeave s calls l.fn.clients.lines.items
      → l.all.reports.items ≡ client_reports s (l.place + 1) (calls (l.place + 1))
      (issues l.at (map body_fields (take l.body-index l.bodies)));
  links : (links : ℕ → Option ℕ) → ClientLinks links l.fn.clients.lines.items → ClientLinks links l.clients.lines.items;
  settled : (was : ℕ → ClientStands) → ClientsSettledAs was l.fn.clients.lines.items
      → ClientsSettledAs was l.clients.lines.items;
  length : length l.clients.lines.items ≡ length l.fn.clients.lines.items;
}
