use Rattle.std.proofs.Common.{◌+◌, List, map, subst}
use Rattle.gate_sessions.specs.Lines.{ClientLinks}
use Rattle.gate_events.specs.declared.batch.LinkOut.{LinkOut}
use Rattle.gate_events.specs.Seen.{link_out_seen}
use Rattle.gate_sessions.specs.Links.{unlinked}
use Rattle.gate_sessions.proofs.links.told_both.Goals as goal

pub returns-clause-links : goal.returns-clause-links
returns-clause-links c links are =
    subst (λ (outs : List LinkOut). ClientLinks
    (unlinked (c.args.place + 1) (map link_out_seen outs) links) c.close_client.new.clients.lines.items)
    c.deref.ensures.value (c.close_client.ensures.links links are)
