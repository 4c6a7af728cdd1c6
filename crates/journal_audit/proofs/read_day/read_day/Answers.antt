use Rattle.std.proofs.Common.{subst}
use Rattle.journal_file.specs.declared.reader.NextTurns.{NextTurns}
use Rattle.journal_file.specs.Reader.{IsGiven}
use Rattle.journal_audit.proofs.Reading.{ended, gone-on, unread}
use Rattle.journal_audit.proofs.read_day.read_day.Goals as goal

pub returns-in-Ok-End : goal.returns-in-Ok-End
returns-in-Ok-End g c =
    ended _ _ _ _ _ _ _ _ _ c.in-Ok-End.ending c.loop.invariant c.next.ensures.read
    (subst (λ (n : NextTurns). IsGiven (g.R.Read.remaining c.next.new.input) c.loop.reader.yielded c.next.new.self n)
    c.in-Ok-End.field-0-is c.in-Ok-End.ensures.given)

pub returns-in-Err : goal.returns-in-Err
returns-in-Err g c = unread _ _ _ _ _ _ _ _ _ c.loop.invariant c.next.ensures.read c.in-Err.ensures.refused.1

pub loop-preserved : goal.loop-preserved
loop-preserved g c =
    let goes = subst (λ (n : NextTurns). IsGiven (g.R.Read.remaining c.next.new.input) c.loop.reader.yielded
    c.next.new.self n) c.in-Ok-Turns.field-0-is c.in-Ok-Turns.ensures.given in
    gone-on _ _ _ _ _ _ _ _ _ _ c.in-Ok-Turns.part.events c.in-Ok-Turns.part.batches c.loop.invariant
    c.next.ensures.read goes.onto c.in_default-take_turns.ensures
