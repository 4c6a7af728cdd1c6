use Rattle.std.proofs.Common.{refl, arith, None}
use Rattle.gate_law.specs.soup_session.Table.{OnGone}
use Rattle.gate_law.specs.soup_session.Calls.{next_of}
use Rattle.gate_sessions.specs.declared.port_line.PortLine.{PortLine}
use Rattle.gate_sessions.specs.Lines.{port_settled}
use Rattle.gate_sessions.proofs.Places.{kept-set, linked-set, within-set}
use Rattle.gate_sessions.proofs.PortCalls.{port-settled-stays, ports-called}
use Rattle.gate_sessions.proofs.port_lines.Ports.gone.Goals as goal

pub returns-clause-leave : goal.returns-clause-leave
returns-clause-leave c = λ s calls. ports-called s calls c.args.self.now.lines.items c.args.place
    c.index_mut-line.result.now _ OnGone c.index_mut-line.ensures.value c.requires.place c.on_gone.ensures.leaves

pub returns-clause-links : goal.returns-clause-links
returns-clause-links c = λ links. linked-set
    (λ (x : PortLine). x.link) None links c.args.self.now.lines.items c.args.place _ c.index_mut-line.result.now
    c.requires.place refl

pub returns-clause-next : goal.returns-clause-next
returns-clause-next c = λ n. within-set (λ (x : PortLine). next_of x.session.port) n n c.args.self.now.lines.items
    c.args.place _ c.index_mut-line.result.now c.index_mut-line.ensures.value c.requires.place (omega arith)
    (λ few. omega (arith, few, c.on_gone.ensures.next))

pub returns-clause-settled : goal.returns-clause-settled
returns-clause-settled c = λ was. kept-set port_settled was c.args.self.now.lines.items c.args.place _
    c.index_mut-line.result.now c.index_mut-line.ensures.value c.requires.place
    (port-settled-stays c.index_mut-line.result.now.settled_link c.index_mut-line.result.now.session.settled _
    c.on_gone.ensures.settled)
