use Rattle.std.proofs.Common.{◌+◌, refl, ap, ◌∙◌}
use Rattle.std.proofs.lemmas.Result.{IfOk-weaker, on_err_weaker}
use Rattle.fix_session.specs.session_writing.Written.{told_frame}
use Rattle.fix_session.specs.session_writing.Issued.{issued_body}
use Rattle.fix_session.specs.Issues.{call_of_body, issued_kind}
use Rattle.fix_session.specs.Held.{SessionHeld}
use Rattle.gate_sessions.specs.declared.client_line.ClientLine.{ClientLine}
use Rattle.gate_sessions.specs.Leaving.{issue_call}
use Rattle.gate_sessions.specs.Lines.{client_settled}
use Rattle.gate_sessions.proofs.ClientCalls.{client-frame, client-reports, client-there, clients-called, clients-stand}
use Rattle.gate_sessions.proofs.ClientCalls.{settled-stays}
use Rattle.gate_sessions.proofs.Places.{kept-set}
use Rattle.gate_sessions.proofs.client_lines.Clients.issue.Goals as goal

pub returns-clause-leave : goal.returns-clause-leave
unfolding issue_call
returns-clause-leave c = IfOk-weaker c.issue.result _ _
    (λ turn l s calls. clients-called s calls c.args.self.now.lines.items c.args.place c.index_mut-line.result.now _
    c.args.at (call_of_body c.args.body.now) c.index_mut-line.ensures.value c.requires.place l)
    (rw c.touch.ensures.session at c.issue.ensures.leaves)

pub returns-clause-answers : goal.returns-clause-answers
unfolding issue_call
returns-clause-answers c = IfOk-weaker c.issue.result _ _
    (λ issued t s calls all. client-frame s (c.args.place + 1)
    (calls (c.args.place + 1)) c.index_mut-line.result.now.session.session c.args.at (call_of_body c.args.body.now)
    (told_frame issued.frame) t (client-there s calls c.args.self.now.lines.items c.args.place
    c.index_mut-line.result.now c.index_mut-line.ensures.value c.requires.place all))
    (rw c.touch.ensures.session at c.issue.ensures.frame)

pub returns-clause-report : goal.returns-clause-report
unfolding issue_call
returns-clause-report c = IfOk-weaker c.issue.result _ _
    (λ issued e s calls all. client-reports s (c.args.place + 1)
    (calls (c.args.place + 1)) c.index_mut-line.result.now.session.session c.args.at (issued_kind c.args.body.now)
    (issued_body c.args.body.now) issued.report e
    (client-there s calls c.args.self.now.lines.items c.args.place c.index_mut-line.result.now
    c.index_mut-line.ensures.value c.requires.place all)) (rw c.touch.ensures.session at c.issue.ensures.report)

pub returns-clause-links : goal.returns-clause-links
returns-clause-links c = λ links. kept-set
    (λ (x : ClientLine). x.link) links c.args.self.now.lines.items c.args.place _ c.index_mut-line.result.now
    c.index_mut-line.ensures.value c.requires.place c.touch.ensures.link

pub returns-clause-settled : goal.returns-clause-settled
returns-clause-settled c = λ was. kept-set client_settled was c.args.self.now.lines.items c.args.place _
    c.index_mut-line.result.now c.index_mut-line.ensures.value c.requires.place
    (settled-stays c.touch.new.self _ c.touch.ensures.touched c.touch.ensures.touched refl c.issue.ensures.settled
    ∙ c.touch.ensures.settled)

pub returns-clause-err : goal.returns-clause-err
returns-clause-err c = on_err_weaker c.issue.result
    (λ same. clients-stand c.args.self.now.lines.items c.args.place c.index_mut-line.result.now _
    c.index_mut-line.ensures.value c.touch.ensures.link
    (ap (λ (held : SessionHeld). held.session) same ∙ c.touch.ensures.session)) c.issue.ensures.err
