use Rattle.std.proofs.Common.{◌+◌, refl, arith}
use Rattle.gate_law.specs.soup_session.Table.{Fail}
use Rattle.gate_law.specs.soup_session.Calls.{next_of}
use Rattle.gate_sessions.specs.declared.port_line.PortLine.{PortLine}
use Rattle.gate_sessions.specs.Lines.{port_settled}
use Rattle.gate_sessions.proofs.Places.{kept-set, within-set}
use Rattle.gate_sessions.proofs.PortCalls.{port-answers, port-settled-stays, port-there, ports-called}
use Rattle.gate_sessions.proofs.port_lines.Ports.fail.Goals as goal

pub returns-clause-leave : goal.returns-clause-leave
returns-clause-leave c = λ s calls. ports-called s calls c.args.self.now.lines.items c.args.place c.index_mut.result.now
    _ (Fail c.args.fault) c.index_mut.ensures.value c.requires.place c.fail.ensures.leaves

pub returns-clause-answers : goal.returns-clause-answers
returns-clause-answers c = λ s calls all. port-answers s (c.args.place + 1)
    (calls (c.args.place + 1)) c.index_mut.result.now.session.port
    (Fail c.args.fault) c.fail.result c.fail.ensures.answers
    (port-there s calls c.args.self.now.lines.items c.args.place c.index_mut.result.now c.index_mut.ensures.value
    c.requires.place all)

pub returns-clause-links : goal.returns-clause-links
returns-clause-links c = λ links. kept-set
    (λ (x : PortLine). x.link) links c.args.self.now.lines.items c.args.place _ c.index_mut.result.now
    c.index_mut.ensures.value c.requires.place refl

pub returns-clause-next : goal.returns-clause-next
returns-clause-next c = λ n. within-set (λ (x : PortLine). next_of x.session.port) n n c.args.self.now.lines.items
    c.args.place _ c.index_mut.result.now c.index_mut.ensures.value c.requires.place (omega arith)
    (λ few. omega (arith, few, c.fail.ensures.next))

pub returns-clause-settled : goal.returns-clause-settled
returns-clause-settled c = λ was. kept-set port_settled was c.args.self.now.lines.items c.args.place _
    c.index_mut.result.now c.index_mut.ensures.value c.requires.place
    (port-settled-stays c.index_mut.result.now.settled_link c.index_mut.result.now.session.settled _
    c.fail.ensures.settled)
