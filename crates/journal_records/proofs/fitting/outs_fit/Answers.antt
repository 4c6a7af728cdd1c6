use Rattle.std.proofs.Common.{sym, ◌∙◌}
use Rattle.gate_events.specs.declared.batch.LinkOut.{LinkOut}
use Rattle.gate_events.specs.Seen.{link_out_seen}
use Rattle.journal_records.specs.Whole.{IsShortOut}
use Rattle.journal_records.proofs.Fits.{each-all, each-at, each-map, each-more, each-unmap}
use Rattle.journal_records.proofs.fitting.outs_fit.Goals as goal

pub loop-told-preserved : goal.loop-told-preserved
loop-told-preserved c =
    each-more (λ (o : LinkOut). IsShortOut (link_out_seen o)) c.args.outs.now c.loop-told.told-index c.told-item.result
    c.loop-told-test.true c.told-item.is c.loop-told.invariant
    (c.out_fits.ensures.fits c.if-not-out_fits.false)

pub returns-clause-fits : goal.returns-clause-fits
returns-clause-fits c = λ e. each-map IsShortOut link_out_seen c.args.outs.now
    (each-all (λ (o : LinkOut). IsShortOut (link_out_seen o)) c.args.outs.now c.loop-told.told-index
    c.loop-told-test.false c.loop-told.invariant)

pub returns-then-not-out_fits-clause-only : goal.returns-then-not-out_fits-clause-only
returns-then-not-out_fits-clause-only c = λ all.
    let short = each-at (λ (o : LinkOut). IsShortOut (link_out_seen o)) c.args.outs.now c.loop-told.told-index
    c.told-item.result c.loop-told-test.true c.told-item.is
    (each-unmap IsShortOut link_out_seen c.args.outs.now all) in
    sym c.if-not-out_fits.true ∙ c.out_fits.ensures.only short
