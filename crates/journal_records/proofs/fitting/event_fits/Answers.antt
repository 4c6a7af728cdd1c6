use Rattle.std.proofs.Common.{◌≤◌, ◌<◌, ◌^◌, sym, subst}
use Rattle.gate_events.specs.declared.event.Event.{Event}
use Rattle.journal_pages.specs.Ordered.{IsWritable}
use Rattle.journal_records.specs.Events.{event_record}
use Rattle.journal_records.proofs.Fits.{frame-fits}
use Rattle.journal_records.proofs.fitting.event_fits.Goals as goal

pub returns-in-ClientMessage-clause-writable : goal.returns-in-ClientMessage-clause-writable
returns-in-ClientMessage-clause-writable c =
    let number = c.number-in-ClientMessage.ensures in
    let fits = c.numbers_fit-in-ClientMessage.ensures in
    subst (λ (e : Event). IsWritable (event_record e)) (sym c.in-ClientMessage.is)
    (frame-fits c.in-ClientMessage.client c.in-ClientMessage.link c.in-ClientMessage.at
    (subst (λ n. 1 ≤ n) number.value number.from_one)
    (subst (λ n. n < 2 ^ 16) number.value fits.source) fits.link fits.at c.in-ClientMessage.frame
    c.frame_fits.ensures)
