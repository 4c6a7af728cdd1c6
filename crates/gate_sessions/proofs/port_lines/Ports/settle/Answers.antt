use Rattle.std.proofs.Common.{ap, arith, get_or}
use Rattle.gate_law.specs.soup_session.Calls.{PortHeld}
use Rattle.gate_sessions.specs.Lines.{port_now, port_settled}
use Rattle.gate_sessions.proofs.PortCalls.{stood}
use Rattle.gate_sessions.proofs.Settling.{one-more}
use Rattle.gate_sessions.proofs.port_lines.Ports.settle.Goals as goal

pub loop-line-preserved : goal.loop-line-preserved
loop-line-preserved c =
    let was = get_or c.loop-line.line-items c.loop-line.line-index c.line-item.result in
    one-more port_settled port_now c.loop-line.line-items _ c.loop-line.line-index _ c.line-item.result
    (omega (arith, c.loop-line-test.true)) (ap (λ (h : PortHeld). stood was.link h.port) c.settle.ensures)
    (ap (λ (h : PortHeld). stood was.link h.settled) c.settle.ensures) c.loop-line.invariant
