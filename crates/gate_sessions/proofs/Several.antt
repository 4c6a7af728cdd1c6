-- One more call after several, on the client's line of one number.
use Rattle.std.proofs.Common.{◌≡◌, ℕ, ◌<◌, ◌+◌, Bool, cond, List, [], ◌∷◌, ◌++◌, length, take, get_or, map, refl, sym}
use Rattle.std.proofs.Common.{ap, ◌∙◌, append-nil, append_assoc, eq-eqb}
use Rattle.std.proofs.lemmas.List.{map-append, take_more}
use Rattle.fix_types.specs.declared.application.AppBody.{AppBody}
use Rattle.fix_types.specs.Application.{body_fields}
use Rattle.gate_law.specs.session_law.declared.frame.Out.{Out}
use Rattle.gate_law.specs.session_law.Runs.{Timed}
use Rattle.gate_law.specs.session_law.Frames.{ToldLink, told_of_out}
use Rattle.gate_law.specs.fix_fields.Field.{Message}
use Rattle.gate_law.specs.order_law.Messages.{body_of}
use Rattle.gate_law.specs.Settings.{Settings, client_name}
use Rattle.gate_law.specs.Sessions.{client_answer, client_outs, client_reports, issue, issues, report_issued}
use Rattle.gate_sessions.specs.Leaving.{issue_call}
use Rattle.gate_sessions.specs.Lines.{called, called_all}
use Rattle.gate_sessions.proofs.Bodies.{issue-is, report-is}

pub called-all-more : {X : Type 0} (n : ℕ) (calls : List X) (call : X) (before : ℕ → List X)
    → called_all n (calls ++ call ∷ []) before ≡ called n call (called_all n calls before)
called-all-more n [] call before = refl
called-all-more n (c ∷ calls) call before = called-all-more n calls call (called n c before)

-- calls, the newest first, with others on them
abbrev pub onto : {X : Type 0} → List X → List X → List X
onto [] before = before
onto (call ∷ calls) before = onto calls (call ∷ before)

called-here : {X : Type 0} (n : ℕ) (call : X) (before : ℕ → List X) → called n call before n ≡ call ∷ before n
called-here n call before = ap (λ (is_here : Bool). cond is_here (call ∷ before n) (before n)) (eq-eqb n n refl)

-- of that number itself
pub called-all-here : {X : Type 0} (n : ℕ) (calls : List X) (before : ℕ → List X)
    → called_all n calls before n ≡ onto calls (before n)
called-all-here n [] before = refl
called-all-here n (call ∷ calls) before = called-all-here n calls (called n call before)
    ∙ ap (onto calls) (called-here n call before)

client-outs-more : (s : Settings) (n : ℕ) (before calls : List Timed) (call : Timed)
    → client_outs s n before (calls ++ call ∷ [])
    ≡ client_outs s n before calls ++ (client_answer s n (onto calls before) call).outs
client-outs-more s n before [] call = append-nil (client_answer s n before call).outs
client-outs-more s n before (c ∷ calls) call =
    ap (λ (outs : List Out). (client_answer s n before c).outs ++ outs) (client-outs-more s n (c ∷ before) calls call)
    ∙ sym (append_assoc (client_answer s n before c).outs (client_outs s n (c ∷ before) calls)
    (client_answer s n (onto calls (c ∷ before)) call).outs)

client-reports-more : (s : Settings) (n : ℕ) (before calls : List Timed) (call : Timed)
    → client_reports s n before (calls ++ call ∷ [])
    ≡ client_reports s n before calls ++ report_issued s n (onto calls before) call
client-reports-more s n before [] call = append-nil (report_issued s n before call)
client-reports-more s n before (c ∷ calls) call =
    ap (λ (reports : List Message). report_issued s n before c ++ reports)
    (client-reports-more s n (c ∷ before) calls call)
    ∙ sym (append_assoc (report_issued s n before c) (client_reports s n (c ∷ before) calls)
    (report_issued s n (onto calls (c ∷ before)) call))

-- what the link is told, with one call more
pub told-more : (s : Settings) (n : ℕ) (before : ℕ → List Timed) (calls : List Timed) (call : Timed)
    (old new : List ToldLink)
    → old ≡ map (told_of_out s.comp (client_name s n)) (client_outs s n (before n) calls)
    → new ≡ old ++ map (told_of_out s.comp (client_name s n))
    (client_answer s n (called_all n calls before n) call).outs
    → new ≡ map (told_of_out s.comp (client_name s n)) (client_outs s n (before n) (calls ++ call ∷ []))
told-more s n before calls call old new old_is new_is =
    let told = told_of_out s.comp (client_name s n) in
    new_is
    ∙ ap (λ (is : List ToldLink). is ++ map told (client_answer s n (called_all n calls before n) call).outs) old_is
    ∙ ap (λ (so_far : List Timed). map told (client_outs s n (before n) calls)
    ++ map told (client_answer s n so_far call).outs) (called-all-here n calls before)
    ∙ sym (map-append told (client_outs s n (before n) calls) (client_answer s n (onto calls (before n)) call).outs)
    ∙ ap (map told) (sym (client-outs-more s n (before n) calls call))

-- and what is reported
pub reported-more : (s : Settings) (n : ℕ) (before : ℕ → List Timed) (calls : List Timed) (call : Timed)
    (old new : List Message)
    → old ≡ client_reports s n (before n) calls
    → new ≡ old ++ report_issued s n (called_all n calls before n) call
    → new ≡ client_reports s n (before n) (calls ++ call ∷ [])
reported-more s n before calls call old new old_is new_is =
    new_is
    ∙ ap (λ (is : List Message). is ++ report_issued s n (called_all n calls before n) call) old_is
    ∙ ap (λ (so_far : List Timed). client_reports s n (before n) calls ++ report_issued s n so_far call)
    (called-all-here n calls before)
    ∙ sym (client-reports-more s n (before n) calls call)

-- the calls that issue bodies, up to one more
pub issues-more : (at : ℕ) (bodies : List AppBody) (i : ℕ) (body : AppBody) → i < length bodies
    → body ≡ get_or bodies i body
    → issues at (map body_fields (take (i + 1) bodies))
    ≡ issues at (map body_fields (take i bodies)) ++ issue_call at body ∷ []
issues-more at bodies i body lt is =
    let before = take i bodies in
    ap (λ (bs : List AppBody). issues at (map body_fields bs)) (take_more bodies i body lt)
    ∙ ap (λ (b : AppBody). issues at (map body_fields (before ++ b ∷ []))) (sym is)
    ∙ ap (issues at) (map-append body_fields before (body ∷ []))
    ∙ map-append (issue at) (map body_fields before) (body_fields body ∷ [])
    ∙ ap (λ (call : Timed). issues at (map body_fields before) ++ call ∷ []) (issue-is at body)

-- the reports of bodies that are issued have just these bodies
pub bodies-reported : (s : Settings) (n : ℕ) (before : List Timed) (at : ℕ) (bodies : List AppBody)
    → map body_of (client_reports s n before (issues at (map body_fields bodies))) ≡ map body_fields bodies
bodies-reported s n before at [] = refl
bodies-reported s n before at (body ∷ bodies) =
    let call = issue at (body_fields body) in
    let rest = client_reports s n (call ∷ before) (issues at (map body_fields bodies)) in
    map-append body_of (report_issued s n before call) rest
    ∙ ap (λ (c : Timed). map body_of (report_issued s n before c) ++ map body_of rest) (issue-is at body)
    ∙ ap (λ (first : List Message). first ++ map body_of rest) (report-is s n before at body)
    ∙ ap (λ (more : List Message). body_fields body ∷ more) (bodies-reported s n (call ∷ before) at bodies)
