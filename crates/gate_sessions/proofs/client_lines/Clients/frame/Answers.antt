use Rattle.std.proofs.Common.{◌+◌, Some, refl, ap, ◌∙◌}
use Rattle.std.proofs.lemmas.Result.{IfOk-weaker, on_err_weaker}
use Rattle.gate_law.specs.session_law.Formats.{application_of}
use Rattle.gate_law.specs.session_law.Runs.{OnMessage}
use Rattle.fix_session.specs.Held.{SessionHeld}
use Rattle.gate_sessions.specs.declared.client_line.ClientLine.{ClientLine}
use Rattle.gate_sessions.specs.Lines.{client_settled}
use Rattle.gate_sessions.proofs.ClientCalls.{client-answers, client-delivered, client-there, clients-called}
use Rattle.gate_sessions.proofs.ClientCalls.{clients-stand, settled-stays}
use Rattle.gate_sessions.proofs.Places.{kept-set}
use Rattle.gate_sessions.proofs.client_lines.Clients.frame.Goals as goal

pub returns-clause-leave : goal.returns-clause-leave
returns-clause-leave c = IfOk-weaker c.on_message.result _ _
    (λ turn l s calls. clients-called s calls c.args.self.now.lines.items c.args.place c.index_mut-line.result.now _
    c.args.at (OnMessage c.args.frame.now) c.index_mut-line.ensures.value c.requires.place l)
    (rw c.touch.ensures.session at c.on_message.ensures.leaves)

pub returns-clause-answers : goal.returns-clause-answers
returns-clause-answers c = IfOk-weaker c.on_message.result _ _
    (λ turn t s calls all. client-answers s (c.args.place + 1)
    (calls (c.args.place + 1)) c.index_mut-line.result.now.session.session c.args.at (OnMessage c.args.frame.now) turn t
    (client-there s calls c.args.self.now.lines.items c.args.place c.index_mut-line.result.now
    c.index_mut-line.ensures.value c.requires.place all)) (rw c.touch.ensures.session at c.on_message.ensures.turn)

pub returns-clause-delivered : goal.returns-clause-delivered
returns-clause-delivered c = IfOk-weaker c.on_message.result _ _
    (λ turn app s calls all is. client-delivered s (c.args.place + 1)
    (calls (c.args.place + 1)) c.index_mut-line.result.now.session.session c.args.at (OnMessage c.args.frame.now)
    (Some (application_of c.args.frame.now)) (app is)
    (client-there s calls c.args.self.now.lines.items c.args.place c.index_mut-line.result.now
    c.index_mut-line.ensures.value c.requires.place all)) (rw c.touch.ensures.session at c.on_message.ensures.delivered)

pub returns-clause-links : goal.returns-clause-links
returns-clause-links c = λ links. kept-set
    (λ (x : ClientLine). x.link) links c.args.self.now.lines.items c.args.place _ c.index_mut-line.result.now
    c.index_mut-line.ensures.value c.requires.place c.touch.ensures.link

pub returns-clause-settled : goal.returns-clause-settled
returns-clause-settled c = λ was. kept-set client_settled was c.args.self.now.lines.items c.args.place _
    c.index_mut-line.result.now c.index_mut-line.ensures.value c.requires.place
    (settled-stays c.touch.new.self _ c.touch.ensures.touched c.touch.ensures.touched refl c.on_message.ensures.settled
    ∙ c.touch.ensures.settled)

pub returns-clause-err : goal.returns-clause-err
returns-clause-err c = on_err_weaker c.on_message.result
    (λ same. clients-stand c.args.self.now.lines.items c.args.place c.index_mut-line.result.now _
    c.index_mut-line.ensures.value c.touch.ensures.link
    (ap (λ (held : SessionHeld). held.session) same ∙ c.touch.ensures.session)) c.on_message.ensures.err
