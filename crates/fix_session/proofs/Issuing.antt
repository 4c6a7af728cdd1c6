-- A body that takes a number, is kept, and is written where the client is logged on, is what the table gives.
use Rattle.std.proofs.Common.{◌≡◌, ℕ, List, [], ◌∷◌, ◌++◌, map, max, Option, Some, Vec, Global, if◌then◌else◌, sym, ap}
use Rattle.std.proofs.Common.{◌∙◌, subst}
use Rattle.fix_fields.specs.Field.{Message}
use Rattle.session_law.specs.declared.kind.Kind.{Kind}
use Rattle.session_law.specs.declared.phase.Phase.{Phase}
use Rattle.session_law.specs.declared.frame.Out.TheVariants.{Write}
use Rattle.session_law.specs.Frames.{told_of_out}
use Rattle.session_law.specs.Session.{State, Slot, fresh, next_out, on_written}
use Rattle.session_law.specs.Table.{is_logged_on}
use Rattle.session_law.specs.Runs.{Issue, step}
use Rattle.session_writing.specs.Written.{told_frame}
use Rattle.fix_session.specs.Meets.{IsIssuedSo}

pub issued : (s old : State) (at : ℕ) (kind : Kind) (body : Message) (frame : Option (Vec ℕ Global)) (latest : ℕ)
    (phase : Phase) (given : List Slot)
    → s ≡ old
    → latest ≡ max s.latest at
    → phase ≡ (if is_logged_on s.phase then on_written latest s.phase else s.phase)
    → given ≡ s.given ++ Some (record { kind = kind; body = body; at = latest }) ∷ []
    → told_frame frame ≡ map (told_of_out old.gate old.client)
    (if is_logged_on s.phase then Write (fresh (next_out old) kind body latest) ∷ [] else [])
    → IsIssuedSo old (step old at (Issue kind body)) frame (record s { phase = phase; given = given; latest = latest })
issued s old at kind body frame latest phase given same last stands keeps outs =
    let with : ℕ → Phase → List Slot → State = λ l p g. record s { phase = p; given = g; latest = l } in
    let now : phase ≡ (if is_logged_on s.phase then on_written (max s.latest at) s.phase else s.phase) =
    stands ∙ ap (λ (l : ℕ). if is_logged_on s.phase then on_written l s.phase else s.phase) last in
    let keep = keeps ∙ ap (λ (l : ℕ). s.given ++ Some (record { kind = kind; body = body; at = l }) ∷ []) last in
    let told = subst (λ (o : State). told_frame frame
    ≡ map (told_of_out o.gate o.client) (if is_logged_on s.phase then Write
    (fresh (next_out o) kind body latest) ∷ [] else [])) (sym same) outs
    ∙ ap (λ (l : ℕ). map (told_of_out s.gate s.client)
    (if is_logged_on s.phase then Write (fresh (next_out s) kind body l) ∷ [] else [])) last in
    subst (λ (o : State). IsIssuedSo o (step o at (Issue kind body)) frame
    (record s { phase = phase; given = given; latest = latest })) same (record {
      told = told;
      state = ap (λ (l : ℕ). with l phase given) last
          ∙ ap (λ (p : Phase). with (max s.latest at) p given) now
          ∙ ap (λ (g : List Slot). with (max s.latest at)
          (if is_logged_on s.phase then on_written (max s.latest at) s.phase else s.phase) g) keep;
    })
