use Rattle.std.proofs.Common.{subst}
use Rattle.journal_file.specs.declared.reader.NextTurns.{NextTurns}
use Rattle.journal_file.specs.Reader.{IsGiven}
use Rattle.day_export.proofs.Turns.{ended, gone-on, unread}
use Rattle.day_export.proofs.day.write_rows.Goals as goal

pub returns-in-Ok-End : goal.returns-in-Ok-End
returns-in-Ok-End g c =
    ended _ _ _ _ _ _ _ _ _ _ c.in-Ok-End.ending c.loop.invariant c.next.ensures.read
    (subst (λ (n : NextTurns). IsGiven (g.R.Read.remaining c.next.new.input) c.loop.reader.yielded c.next.new.self n)
    c.in-Ok-End.field-0-is c.in-Ok-End.ensures.given)

pub returns-in-Err : goal.returns-in-Err
returns-in-Err g c = unread _ _ _ _ _ _ _ _ _ _ c.loop.invariant c.next.ensures.read c.in-Err.ensures.refused.1

pub loop-preserved : goal.loop-preserved
loop-preserved g c =
    let goes = subst (λ (n : NextTurns). IsGiven (g.R.Read.remaining c.next.new.input) c.loop.reader.yielded
    c.next.new.self n) c.in-Ok-Turns.field-0-is c.in-Ok-Turns.ensures.given in
    gone-on _ _ _ _ _ _ _ _ _ _ _ c.in-Ok-Turns.part c.loop.invariant c.next.ensures.read goes
    c.in_default.ensures
