use Rattle.std.proofs.Common.{arith}
use Rattle.gate_sessions.specs.Lines.{client_now, client_settled}
use Rattle.gate_sessions.proofs.Settling.{one-more}
use Rattle.gate_sessions.proofs.client_lines.Clients.undo.Goals as goal

pub loop-line-preserved : goal.loop-line-preserved
loop-line-preserved c =
    one-more client_now client_settled c.loop-line.line-items _ c.loop-line.line-index c.undo.new.self
    c.line-item.result (omega (arith, c.loop-line-test.true)) c.undo.ensures.settled c.undo.ensures.now
    c.loop-line.invariant
