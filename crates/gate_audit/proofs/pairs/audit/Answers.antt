use Rattle.std.proofs.Common.{rules, ◌≡◌, ◌∷◌, arith}
use Rattle.std.specs.Prelude.{IsErrOf, Err}
use Rattle.order_accounts.specs.declared.reading_fault.ReadingFault.{ReadingFault}
use Rattle.order_accounts.specs.declared.reading_fault.ReadingFault.TheVariants.{TooLarge}
use Rattle.gate_events.specs.Seen.{batch_seen}
use Rattle.gate_journal.specs.Kept.{turns}
use Rattle.gate_journal.specs.Left.{batches_left, events_left}
use Rattle.gate_audit.specs.Pairs.{HasTokenNumbers}
use Rattle.gate_audit.proofs.Counting.{has-behind}
use Rattle.gate_audit.proofs.Passing.{up-to-next}
use Rattle.gate_audit.proofs.Whole.{same-tokens}
use Rattle.gate_audit.proofs.pairs.audit.Goals as goal

pub returns-in_err-take-clause-large : goal.returns-in_err-take-clause-large
returns-in_err-take-clause-large c err held has =
    let so_far = c.loop-audit.invariant in
    let next : (events_left c.loop-audit.ahead ≡ c.in-Some.event ∷ events_left c.in-Some.behind)
    × (batches_left c.loop-audit.ahead ≡ batch_seen c.in-Some.batch ∷ batches_left c.in-Some.behind) =
    search (rules, c.in_ok-event.ensures, c.in-Some.is) in
    let own_error : IsErrOf {E = ReadingFault} (Err c.in_err-take.field-0.0) TooLarge =
    search (rules, c.from_residual-in_err-take.ensures, err) in
    c.in_err-take.ensures.large own_error c.args.settings.now so_far.seen so_far.is
    (up-to-next HasTokenNumbers has-behind
    (events_left c.loop-audit.ahead) (events_left c.in-Some.behind)
    (batches_left c.loop-audit.ahead) (batches_left c.in-Some.behind)
    c.in-Some.event (batch_seen c.in-Some.batch) so_far.seen (turns c.args.history.now) next.0 next.1
    so_far.left (omega (arith, has, same-tokens (turns c.args.history.now))))
