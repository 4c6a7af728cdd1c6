use Rattle.std.proofs.Common.{◌+◌, map, refl}
use Rattle.fix_types.specs.Application.{body_fields}
use Rattle.gate_law.specs.Sessions.{issues}
use Rattle.gate_core.proofs.Parted.{clients-parts}
use Rattle.gate_core.proofs.parts.Parts.issue.Goals as goal

pub returns-clause-issued : goal.returns-clause-issued
returns-clause-issued g c s v parts =
    let bodies = map body_fields c.args.bodies.now in
    record {
      parts = clients-parts s (c.args.place + 1) (issues c.args.at bodies) v c.args.self.now _ parts
          (c.in_ok-issues.ensures.leave s v.client_calls parts.clients)
          (c.client_issue_all.ensures.links v.client_link parts.client_links)
          c.client_issue_all.ensures.length refl refl refl;
      outs = c.in_ok-issues.ensures.outs s v.client_calls v.client_link parts.clients parts.client_links;
      reports = c.in_ok-issues.ensures.reports s v.client_calls parts.clients;
      bodies_are = c.in_ok-issues.ensures.bodies s v.client_calls parts.clients;
    }
