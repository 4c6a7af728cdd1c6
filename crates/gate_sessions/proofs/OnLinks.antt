-- One more call after several, on the client's line of one number, as its link is told it.
use Rattle.std.proofs.Common.{◌≡◌, ℕ, List, [], ◌∷◌, ◌++◌, map, Option, Some, None, refl, sym, ap, ◌∙◌}
use Rattle.std.proofs.lemmas.List.{map-append}
use Rattle.gate_law.specs.Events.{LinkOut}
use Rattle.gate_law.specs.session_law.Frames.{ToldLink, told_of_out}
use Rattle.gate_law.specs.session_law.Runs.{Timed}
use Rattle.gate_law.specs.Settings.{Settings, client_name}
use Rattle.gate_law.specs.Sessions.{client_answer, client_outs, to_link}
use Rattle.gate_sessions.specs.Lines.{called_all}
use Rattle.gate_sessions.proofs.Several.{told-more}
use Rattle.gate_sessions.specs.Links.{outs_told_on}

pub on-append : (link : Option ℕ) (xs ys : List ToldLink)
    → outs_told_on link (xs ++ ys) ≡ outs_told_on link xs ++ outs_told_on link ys
on-append None xs ys = refl
on-append (Some link) xs ys = map-append (to_link link) xs ys

pub on-nothing : (link : Option ℕ) → outs_told_on link [] ≡ []
on-nothing None = refl
on-nothing (Some link) = refl

pub told-more-on : (s : Settings) (n : ℕ) (link : Option ℕ) (before : ℕ → List Timed) (calls : List Timed)
    (call : Timed) (old new : List LinkOut)
    → old ≡ outs_told_on link (map (told_of_out s.comp (client_name s n)) (client_outs s n (before n) calls))
    → new ≡ old ++ outs_told_on link (map (told_of_out s.comp (client_name s n))
    (client_answer s n (called_all n calls before n) call).outs)
    → new ≡ outs_told_on link (map (told_of_out s.comp (client_name s n))
    (client_outs s n (before n) (calls ++ call ∷ [])))
told-more-on s n link before calls call old new old_is new_is =
    let told = told_of_out s.comp (client_name s n) in
    let first = map told (client_outs s n (before n) calls) in
    let more = map told (client_answer s n (called_all n calls before n) call).outs in
    new_is
    ∙ ap (λ (is : List LinkOut). is ++ outs_told_on link more) old_is
    ∙ sym (on-append link first more)
    ∙ ap (outs_told_on link) (told-more s n before calls call first (first ++ more) refl refl)
