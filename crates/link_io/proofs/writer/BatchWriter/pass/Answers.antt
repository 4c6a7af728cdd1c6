use Rattle.std.proofs.Common.{List, ap, ◌∙◌}
use Rattle.std.specs.Prelude.{drop}
use Rattle.gate_law.specs.Events.{LinkOut}
use Rattle.gate_events.specs.Seen.{link_out_seen}
use Rattle.link_io.specs.Writing.{WriterState}
use Rattle.link_io.proofs.Piecing.{behind_next}
use Rattle.link_io.proofs.writer.BatchWriter.pass.Goals as goal

pub returns-then-self-count-clause-next : goal.returns-then-self-count-clause-next
returns-then-self-count-clause-next c =
    let it = c.self.inside in
    ap (λ (h : List LinkOut). record {
      number = it.number;
      link = it.link;
      bytes = it.pending.items;
      held = h;
      is_taken = it.is_taken;
      is_closing = it.is_closing;
      limit = it.limit;
    }) (behind_next link_out_seen it.joined it.held.items)
    ∙ ap (λ (w : WriterState). record w { held = drop 1 w.held }) c.self.view_is
