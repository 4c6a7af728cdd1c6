use Rattle.std.proofs.Common.{arith}
use Rattle.gate_core.proofs.Growing.{grows-most}
use Rattle.gate_core.proofs.parts.Parts.event.Goals as goal

pub returns-in-ClientUp-clause-grows : goal.returns-in-ClientUp-clause-grows
returns-in-ClientUp-clause-grows g c = grows-most 0 0 _ _ (omega arith) (omega arith) c.client_up.ensures.grows

pub returns-in-ClientMessage-clause-grows : goal.returns-in-ClientMessage-clause-grows
returns-in-ClientMessage-clause-grows g c =
    grows-most 3 0 _ _ (omega arith) (omega arith) c.client_message.ensures.grows

pub returns-in-ClientGone-clause-grows : goal.returns-in-ClientGone-clause-grows
returns-in-ClientGone-clause-grows g c = grows-most 0 0 _ _ (omega arith) (omega arith) c.client_went.ensures.grows

pub returns-in-ClientTick-clause-grows : goal.returns-in-ClientTick-clause-grows
returns-in-ClientTick-clause-grows g c = grows-most 0 0 _ _ (omega arith) (omega arith) c.client_tick.ensures.grows

pub returns-in-PortUp-clause-grows : goal.returns-in-PortUp-clause-grows
returns-in-PortUp-clause-grows g c = grows-most 0 0 _ _ (omega arith) (omega arith) c.port_up.ensures.grows

pub returns-in-PortGone-clause-grows : goal.returns-in-PortGone-clause-grows
returns-in-PortGone-clause-grows g c = grows-most 0 0 _ _ (omega arith) (omega arith) c.port_went.ensures.grows

pub returns-in-PortTick-clause-grows : goal.returns-in-PortTick-clause-grows
returns-in-PortTick-clause-grows g c = grows-most 0 0 _ _ (omega arith) (omega arith) c.port_tick.ensures.grows
