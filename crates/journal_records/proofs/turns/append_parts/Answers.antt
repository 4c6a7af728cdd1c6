use Rattle.std.proofs.Common.{List, ℕ, ◌∷◌, [], ap, ◌∙◌}
use Rattle.gate_law.specs.Events.{Batch}
use Rattle.gate_events.specs.Seen.{batch_seen}
use Rattle.journal_pages.specs.Record.{Record}
use Rattle.journal_days.specs.Cut.{with_records}
use Rattle.journal_records.specs.Events.{event_record}
use Rattle.journal_records.specs.Parts.{batch_records}
use Rattle.journal_records.proofs.More.{both-parts, more-both, more-by, more-same}
use Rattle.journal_records.proofs.turns.append_parts.Goals as goal

pub returns-in_err-append_event-clause-kept : goal.returns-in_err-append_event-clause-kept
returns-in_err-append_event-clause-kept c =
    more-same c.args.out.now c.append_event.new.out c.in_err-append_event.ensures.err

pub returns-in_err-append_batch-clause-kept : goal.returns-in_err-append_batch-clause-kept
returns-in_err-append_batch-clause-kept c =
    more-both c.args.out.now c.append_event.new.out c.append_batch.new.out
    (more-by c.args.out.now c.append_event.new.out (event_record c.args.event.now ∷ []) c.in_ok-append_event.ensures.ok)
    c.in_err-append_batch.ensures.kept

pub returns-clause-kept : goal.returns-clause-kept
returns-clause-kept c =
    more-both c.args.out.now c.append_event.new.out c.append_batch.new.out
    (more-by c.args.out.now c.append_event.new.out (event_record c.args.event.now ∷ []) c.in_ok-append_event.ensures.ok)
    c.in_ok-append_batch.ensures.kept

pub returns-clause-ok : goal.returns-clause-ok
returns-clause-ok c =
    let out : List (List ℕ) = c.args.out.now in
    let b : Batch = batch_seen c.args.batch.now in
    let one : Record = event_record c.args.event.now in
    both-parts out c.append_event.new.out c.append_batch.new.out (one ∷ [])
    (batch_records c.moment_of-at.result b) c.in_ok-append_event.ensures.ok c.in_ok-append_batch.ensures.ok
    ∙ ap (λ at. with_records out (one ∷ batch_records at b)) c.moment_of-at.ensures
