use Rattle.std.proofs.Common.{refl, ◌∙◌, false, None}
use Rattle.gate_law.specs.session_law.Runs.{OnLink}
use Rattle.gate_sessions.specs.declared.client_line.ClientLine.{ClientLine}
use Rattle.gate_sessions.specs.Lines.{client_settled}
use Rattle.gate_sessions.proofs.ClientCalls.{clients-called, settled-stays}
use Rattle.gate_sessions.proofs.Places.{kept-set, linked-set}
use Rattle.gate_sessions.proofs.client_lines.Clients.gone.Goals as goal

pub returns-clause-leave : goal.returns-clause-leave
returns-clause-leave c = λ s calls. clients-called s calls c.args.self.now.lines.items c.args.place
    c.index_mut-line.result.now _ c.args.at (OnLink false) c.index_mut-line.ensures.value c.requires.place
    (rw c.touch.ensures.session at c.on_link-turn.ensures.leaves)

pub returns-clause-links : goal.returns-clause-links
returns-clause-links c = λ links. linked-set
    (λ (x : ClientLine). x.link) None links c.args.self.now.lines.items c.args.place _ c.index_mut-line.result.now
    c.requires.place refl

pub returns-clause-settled : goal.returns-clause-settled
returns-clause-settled c = λ was. kept-set client_settled was c.args.self.now.lines.items c.args.place _
    c.index_mut-line.result.now c.index_mut-line.ensures.value c.requires.place
    (settled-stays c.touch.new.self _ c.touch.ensures.touched c.touch.ensures.touched refl
    c.on_link-turn.ensures.settled ∙ c.touch.ensures.settled)
