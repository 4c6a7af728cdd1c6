use Rattle.std.proofs.Common.{rules, ◌≡◌, ◌∙◌, [], ap, sym, arith, length, reverse}
use Rattle.gate_core.proofs.soup_session.Closes.{ends_by_close}
use Rattle.gate_law.specs.Events.{History}
use Rattle.gate_law.specs.Settings.{port_terms}
use Rattle.gate_journal.specs.Kept.{turns}
use Rattle.gate_journal.specs.Left.{batches_left, events_left}
use Rattle.gate_audit.specs.Called.{IsHandled}
use Rattle.gate_audit.proofs.Calling.{has-of}
use Rattle.gate_audit.proofs.Following.{handled-again}
use Rattle.gate_audit.proofs.Passing.{in-the-end}
use Rattle.gate_audit.proofs.messages.handled_messages.Goals as goal

pub returns-clause-run : goal.returns-clause-run
returns-clause-run c holds =
    let s = c.args.settings.now in
    let p = c.args.port in
    let h : History = turns c.args.history.now in
    let none : (events_left c.loop-so_far.ahead ≡ []) × (batches_left c.loop-so_far.ahead ≡ []) =
    search (rules, c.in_ok-event.ensures, c.in_default.is) in
    (in-the-end (events_left c.loop-so_far.ahead) (batches_left c.loop-so_far.ahead) c.args.history.now
    (λ seen. IsHandled (port_terms s p) p seen c.loop-so_far.so_far) none.0 c.loop-so_far.invariant).again.handled
    ∙ ap reverse (sym (handled-again ends_by_close s p
    (has-of p (length s.ports) (omega (arith, c.number.ensures.value, c.number.ensures.from_one)) c.requires.known)
    h holds.run))
