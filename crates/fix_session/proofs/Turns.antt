-- A call that meets the table is a turn more, and has the headline.
use Rattle.std.proofs.Common.{◌≡◌, ℕ, List, ◌∷◌, map, Option, Vec, Global, sym, subst}
use Rattle.session_law.specs.Session.{State}
use Rattle.session_reading.specs.fix_types.declared.application.AppMsg.{AppMsg}
use Rattle.session_law.specs.Frames.{told_of_out}
use Rattle.session_writing.specs.Written.{told_frame}
use Rattle.session_law.specs.Runs.{Call, SessionHistory, Leaves, call_turn, turn_after, step}
use Rattle.session_law.specs.Numbers.{SessionHeadline}
use Rattle.session_law.specs.Bounds.{MovesLittle, most_taken}
use Rattle.session_law.proofs.Bounds.{step-little}
use Rattle.session_law.proofs.Runs.{Leaves-more, Leaves-headline}
use Rattle.fix_session.specs.declared.session.SessionTurn.{SessionTurn}
use Rattle.fix_session.specs.Meets.{IsIssuedSo, Meets, Tells}

pub tells : (old : State) (at : ℕ) (call : Call) (turn : SessionTurn) (new : State)
    → Meets old (step old at call) turn new → Tells old.gate old.client turn (turn_after old at call)
unfolding turn_after
tells old at call turn new m = record { outs = m.outs; app = m.app }

pub delivers : (old : State) (at : ℕ) (call : Call) (app : Option AppMsg) → (step old at call).app ≡ app
    → (turn_after old at call).app ≡ app
unfolding turn_after
delivers old at call app is = is

pub tells-frame : (old : State) (at : ℕ) (call : Call) (frame : Option (Vec ℕ Global)) (new : State)
    → IsIssuedSo old (step old at call) frame new
    → told_frame frame ≡ map (told_of_out old.gate old.client) (turn_after old at call).outs
unfolding turn_after
tells-frame old at call frame new m = m.told

-- and so is one that leaves the table's state
pub leaves-more : (gate client : List ℕ) (h : SessionHistory) (old : State) (at : ℕ) (call : Call) (new : State)
    → new ≡ (step old at call).state → Leaves gate client h old → Leaves gate client (turn_after old at call ∷ h) new
unfolding turn_after
leaves-more gate client h old at call new is l =
    subst (λ (s : State). Leaves gate client (call_turn at call (step old at call) ∷ h) s) (sym is)
    (Leaves-more gate client h old at call l)

pub headline-more : (gate client : List ℕ) (h : SessionHistory) (old : State) (at : ℕ) (call : Call) (new : State)
    → new ≡ (step old at call).state → Leaves gate client h old → SessionHeadline gate client (turn_after old at call ∷ h)
headline-more gate client h old at call new is l =
    Leaves-headline gate client (turn_after old at call ∷ h) new (leaves-more gate client h old at call new is l)

pub one-more : (gate client : List ℕ) (h : SessionHistory) (old : State) (at : ℕ) (call : Call) (turn : SessionTurn)
    (new : State)
    → Meets old (step old at call) turn new → Leaves gate client h old
    → Leaves gate client (turn_after old at call ∷ h) new
one-more gate client h old at call turn new m l = leaves-more gate client h old at call new m.state l

pub one-more-headline : (gate client : List ℕ) (h : SessionHistory) (old : State) (at : ℕ) (call : Call)
    (turn : SessionTurn) (new : State)
    → Meets old (step old at call) turn new → Leaves gate client h old → SessionHeadline gate client (turn_after old at call ∷ h)
one-more-headline gate client h old at call turn new m l = headline-more gate client h old at call new m.state l

-- a call that meets the table moves the numbers no further than the law says
pub little : (old : State) (at : ℕ) (call : Call) (turn : SessionTurn) (new : State)
    → Meets old (step old at call) turn new → MovesLittle (most_taken call) old new
little old at call turn new m = subst (λ (s : State). MovesLittle (most_taken call) old s) (sym m.state)
    (step-little old at call)
