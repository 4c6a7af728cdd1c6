use Rattle.std.proofs.Common.{refl, arith}
use Rattle.gate_sessions.specs.Lines.{client_now, client_settled}
use Rattle.gate_sessions.proofs.Settling.{one-more}
use Rattle.gate_sessions.proofs.client_lines.Clients.settle.Goals as goal

pub loop-line-preserved : goal.loop-line-preserved
loop-line-preserved c =
    one-more client_settled client_now c.loop-line.line-items _ c.loop-line.line-index _ c.line-item.result
    (omega (arith, c.loop-line-test.true)) refl refl c.loop-line.invariant
