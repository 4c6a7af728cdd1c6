use Rattle.std.proofs.Common.{◌≡◌, ◌+◌, ◌++◌, ◌∷◌, [], ℕ, List, Option, ap, ◌∙◌, map, refl, subst, sym, take}
use Rattle.std.proofs.lemmas.List.{take_all}
use Rattle.std.proofs.lemmas.Option.{slice_get_read}
use Rattle.fix_types.specs.Application.{body_fields}
use Rattle.gate_law.specs.session_law.Frames.{told_of_out}
use Rattle.gate_law.specs.session_law.Runs.{Timed}
use Rattle.gate_law.specs.order_law.Messages.{body_of}
use Rattle.gate_law.specs.Settings.{client_name}
use Rattle.gate_law.specs.Sessions.{client_outs, client_reports, issues}
use Rattle.gate_sessions.specs.Leaving.{issue_call}
use Rattle.gate_sessions.specs.Lines.{ClientsLeave, called_all}
use Rattle.gate_sessions.proofs.Several.{bodies-reported, called-all-more, issues-more, reported-more}
use Rattle.gate_events.specs.Seen.{link_out_seen}
use Rattle.gate_sessions.specs.Links.{outs_told_on}
use Rattle.gate_sessions.proofs.OnLinks.{told-more-on}
use Rattle.gate_sessions.proofs.issuing.client_issue_all.Goals as goal

pub loop-body-preserved : goal.loop-body-preserved
loop-body-preserved c =
    let n = c.args.place + 1 in
    let at = c.args.at in
    let bodies = c.args.bodies.now in
    let i = c.loop-body.body-index in
    let before = issues at (map body_fields (take i bodies)) in
    let call = issue_call at c.body-item.result in
    let more : issues at (map body_fields (take (i + 1) bodies)) ≡ before ++ call ∷ [] =
    issues-more at bodies i c.body-item.result c.loop-body-test.true c.body-item.is in
    let so_far = c.loop-body.invariant in
    let this = c.in_ok-issue_one.ensures in
    record {
      leave = λ s calls k. subst (λ (made : ℕ → List Timed). ClientsLeave s made c.issue_one.new.clients.lines.items)
          (sym (ap (λ (cs : List Timed). called_all n cs calls) more ∙ called-all-more n before call calls))
          (this.leave s (called_all n before calls) (so_far.leave s calls k));
      outs = λ s calls k. told-more-on s n c.index.result.now.link calls before call
          (map link_out_seen c.loop-body.all.outs.items) (map link_out_seen c.issue_one.new.all.outs.items)
          (so_far.outs s calls k) (this.outs s (called_all n before calls) (so_far.leave s calls k))
          ∙ ap (λ (cs : List Timed). outs_told_on c.index.result.now.link
          (map (told_of_out s.comp (client_name s n)) (client_outs s n (calls n) cs))) (sym more);
      reports = λ s calls k. reported-more s n calls before call c.loop-body.all.reports.items
          c.issue_one.new.all.reports.items (so_far.reports s calls k)
          (this.reports s (called_all n before calls) (so_far.leave s calls k))
          ∙ ap (λ (cs : List Timed). client_reports s n (calls n) cs) (sym more);
      links = λ links k. c.issue_one.ensures.links links (so_far.links links k);
      settled = λ was k. c.issue_one.ensures.settled was (so_far.settled was k);
      length = c.issue_one.ensures.length ∙ so_far.length;
    }

pub returns-in_err-issue_one-clause-links : goal.returns-in_err-issue_one-clause-links
returns-in_err-issue_one-clause-links c =
    λ links k. c.issue_one.ensures.links links (c.loop-body.invariant.links links k)

pub returns-in_err-issue_one-clause-settled : goal.returns-in_err-issue_one-clause-settled
returns-in_err-issue_one-clause-settled c =
    λ was k. c.issue_one.ensures.settled was (c.loop-body.invariant.settled was k)

pub returns-clause-outs : goal.returns-clause-outs
returns-clause-outs c =
    let n = c.args.place + 1 in
    let bodies = c.args.bodies.now in
    let i = c.loop-body.body-index in
    λ s calls links k are. c.loop-body.invariant.outs s calls k
    ∙ ap (λ (bs : List _). outs_told_on c.index.result.now.link
    (map (told_of_out s.comp (client_name s n))
    (client_outs s n (calls n) (issues c.args.at (map body_fields bs))))) (take_all i bodies c.loop-body-test.false)
    ∙ ap (λ (link : Option ℕ). outs_told_on link
    (map (told_of_out s.comp (client_name s n))
    (client_outs s n (calls n) (issues c.args.at (map body_fields bodies)))))
    (are c.args.place c.index.result.now (slice_get_read c.args.clients.now.lines.items _ c.args.place
    c.index.result.now refl c.requires.place c.index.ensures))

pub returns-clause-bodies : goal.returns-clause-bodies
returns-clause-bodies c =
    let n = c.args.place + 1 in
    let bodies = c.args.bodies.now in
    let i = c.loop-body.body-index in
    λ s calls k. ap (map body_of) (c.loop-body.invariant.reports s calls k)
    ∙ bodies-reported s n (calls n) c.args.at (take i bodies)
    ∙ ap (map body_fields) (take_all i bodies c.loop-body-test.false)
