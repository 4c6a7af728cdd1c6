use Rattle.std.proofs.Common.{List, length, subst, sym, ap, ◌∙◌}
use Rattle.std.proofs.lemmas.List.{length-map}
use Rattle.std.specs.Prelude.{◌==◌, ◌&&◌, not, map}
use Rattle.std.specs.Option.{is_some}
use Rattle.journal_pages.specs.fix_fields.Field.{Message}
use Rattle.gate_events.specs.declared.batch.Batch.{Batch}
use Rattle.gate_events.specs.declared.batch.LinkOut.{LinkOut}
use Rattle.gate_events.specs.Seen.{link_out_seen}
use Rattle.journal_records.specs.Whole.{Each, IsShortOut, IsShortReport}
use Rattle.journal_records.proofs.Fits.{reports-whole}
use Rattle.journal_records.proofs.fitting.batch_fits.Goals as goal

pub returns-then-to_client-clause-fits : goal.returns-then-to_client-clause-fits
returns-then-to_client-clause-fits c = λ e.
    let b : Batch = c.args.batch.now in
    let reports : Each IsShortReport b.reports.items =
    subst (λ (rs : List Message). Each IsShortReport rs) c.as_slice.ensures.value c.reports_fit.ensures in
    record {
      whole = record {
        reports = reports-whole b.reports.items reports;
        client = b.for_client ∙ ap (λ n. not ((length b.reports.items == 0) && (n == 0)))
            (sym (length-map b.client_out.items link_out_seen));
        client_number = c.client_fits.ensures.from_one;
        port = b.for_port ∙ ap (λ n. not ((n == 0) && not (is_some b.fault)))
            (sym (length-map b.port_out.items link_out_seen));
        port_number = c.port_fits.ensures.from_one;
      };
      reports = reports;
      client_out = subst (λ (os : List LinkOut). Each IsShortOut (map link_out_seen os)) c.as_slice-2.ensures.value
          (c.outs_fit-to_client.ensures.fits c.if-to_client.true);
      port_out = subst (λ (os : List LinkOut). Each IsShortOut (map link_out_seen os)) c.as_slice-3.ensures.value
          (c.outs_fit-to_port.ensures.fits e);
      client = c.client_fits.ensures.room;
      port = c.port_fits.ensures.room;
    }

pub returns-then-to_client-clause-only : goal.returns-then-to_client-clause-only
returns-then-to_client-clause-only c = λ fit.
    c.outs_fit-to_port.ensures.only (subst (λ (os : List LinkOut). Each IsShortOut (map link_out_seen os))
    (sym c.as_slice-3.ensures.value) fit.port_out)
