-- A call on a client's session, in the words of the core: the calls with it leave the session, and it gives what the
-- table has.
use Rattle.std.proofs.Common.{◌≡◌, ℕ, ◌+◌, ◌<◌, Bool, true, cond, List, [], ◌∷◌, length, get_or, slice_set, refl, sym}
use Rattle.std.proofs.Common.{ap, ◌∙◌, subst, map, Option}
use Rattle.gate_law.specs.fix_fields.Field.{Field}
use Rattle.gate_law.specs.fix_stamp.Stamp.{stamp_text}
use Rattle.gate_law.specs.session_law.declared.kind.Kind.{Kind}
use Rattle.gate_law.specs.session_law.Session.{State}
use Rattle.gate_law.specs.session_law.Runs.{Call, Issue, SessionHistory, Leaves, Timed, call_turn, turn_after}
use Rattle.gate_law.specs.session_law.Runs.{turns_after}
use Rattle.gate_law.specs.session_law.Runs.{state_after, calls_seen, issued_frame, step}
use Rattle.gate_law.specs.session_law.Frames.{ToldLink, frame_fields, told_of_out}
use Rattle.gate_law.proofs.session_law.Runs.{after-Leaves, Leaves-after}
use Rattle.gate_law.proofs.session_law.Expects.{Leaves-named}
use Rattle.fix_session.specs.declared.session.SessionTurn.{SessionTurn}
use Rattle.fix_types.specs.declared.application.AppMsg.{AppMsg}
use Rattle.fix_session.specs.Meets.{Tells}
use Rattle.gate_law.specs.Settings.{Settings, client_name}
use Rattle.gate_law.specs.Sessions.{client_answer, report_issued}
use Rattle.gate_sessions.specs.declared.client_line.ClientLine.{ClientLine}
use Rattle.gate_sessions.specs.Leaving.{ClientLeaves, IsClientAnswer}
use Rattle.gate_sessions.specs.Lines.{ClientsLeave, ClientStands, called, client_now, client_settled}
use Rattle.gate_sessions.proofs.Places.{at-place, called-set}
use Rattle.gate_sessions.proofs.Settling.{kept-of}

seen-turns : (gate client : List ℕ) (calls : List Timed) → calls_seen (turns_after gate client calls) ≡ calls
seen-turns gate client [] = refl
seen-turns gate client (c ∷ before) = ap (λ (seen : List Timed). c ∷ seen) (seen-turns gate client before)

-- any state that the turns of these calls leave is the one that is computed
only-state : (gate client : List ℕ) (calls : List Timed) (s : State)
    → Leaves gate client (turns_after gate client calls) s → s ≡ state_after gate client calls
only-state gate client calls s l =
    (Leaves-after gate client (turns_after gate client calls) s l).1
    ∙ ap (λ (seen : List Timed). state_after gate client seen) (seen-turns gate client calls)

pub client-first : (s : Settings) (c : ℕ) (gate client : List ℕ) (session : State) → Leaves gate client [] session
    → s.comp ≡ gate → client_name s c ≡ client → ClientLeaves s c [] session
unfolding ClientLeaves Leaves
client-first s c gate client session l is_gate is_client = rw (is_gate, is_client) l

pub client-more : (s : Settings) (c : ℕ) (calls : List Timed) (old : State) (at : ℕ) (call : Call) (new : State)
    → ((gate client : List ℕ) (h : SessionHistory) → Leaves gate client h old
    → Leaves gate client (turn_after old at call ∷ h) new)
    → ClientLeaves s c calls old → ClientLeaves s c ((at, call) ∷ calls) new
unfolding ClientLeaves turn_after Leaves
client-more s c calls old at call new leaves is =
    let gate = s.comp in
    let client = client_name s c in
    let turns = turns_after gate client calls in
    let before : Leaves gate client turns old =
    subst (Leaves gate client turns) (sym is) (after-Leaves gate client calls) in
    let more = leaves gate client turns before in
    more.3 ∙ ap (λ (x : State). (step x at call).state) (only-state gate client calls more.0 more.1)

pub client-answers : (s : Settings) (c : ℕ) (calls : List Timed) (old : State) (at : ℕ) (call : Call)
    (turn : SessionTurn)
    → Tells old.gate old.client turn (turn_after old at call) → ClientLeaves s c calls old
    → IsClientAnswer s c (client_answer s c calls (at, call)) turn
unfolding ClientLeaves client_answer turn_after
client-answers s c calls old at call turn tells is =
    let gate = s.comp in
    let client = client_name s c in
    let now = state_after gate client calls in
    let named = Leaves-named gate client (turns_after gate client calls) now (after-Leaves gate client calls) in
    let told = subst (λ (x : State). Tells x.gate x.client turn (call_turn at call (step x at call))) is tells in
    record {
      outs = told.outs
          ∙ ap (λ (g : List ℕ). map (told_of_out g now.client) (step now at call).outs) named.0
          ∙ ap (λ (n : List ℕ). map (told_of_out gate n) (step now at call).outs) named.1;
      app = told.app;
    }

-- and so is what it delivers
pub client-delivered : (s : Settings) (c : ℕ) (calls : List Timed) (old : State) (at : ℕ) (call : Call)
    (app : Option AppMsg)
    → (turn_after old at call).app ≡ app → ClientLeaves s c calls old → (client_answer s c calls (at, call)).app ≡ app
unfolding ClientLeaves client_answer turn_after
client-delivered s c calls old at call app delivered is = subst (λ (x : State). (step x at call).app ≡ app) is delivered

-- and of a body that is issued
pub client-frame : (s : Settings) (c : ℕ) (calls : List Timed) (old : State) (at : ℕ) (call : Call)
    (told : List ToldLink)
    → told ≡ map (told_of_out old.gate old.client) (turn_after old at call).outs → ClientLeaves s c calls old
    → told ≡ map (told_of_out s.comp (client_name s c)) (client_answer s c calls (at, call)).outs
unfolding ClientLeaves client_answer turn_after
client-frame s c calls old at call told tells is =
    let gate = s.comp in
    let client = client_name s c in
    let now = state_after gate client calls in
    let named = Leaves-named gate client (turns_after gate client calls) now (after-Leaves gate client calls) in
    let now_told : told ≡ map (told_of_out now.gate now.client) (step now at call).outs =
    subst (λ (x : State). told ≡ map (told_of_out x.gate x.client) (step x at call).outs) is tells in
    now_told
    ∙ ap (λ (g : List ℕ). map (told_of_out g now.client) (step now at call).outs) named.0
    ∙ ap (λ (n : List ℕ). map (told_of_out gate n) (step now at call).outs) named.1

pub client-reports : (s : Settings) (c : ℕ) (calls : List Timed) (old : State) (at : ℕ) (kind : Kind)
    (body fields : List Field)
    → fields ≡ frame_fields stamp_text old.gate old.client (issued_frame old at kind body)
    → ClientLeaves s c calls old → report_issued s c calls (at, Issue kind body) ≡ fields ∷ []
unfolding ClientLeaves report_issued
client-reports s c calls old at kind body fields are is =
    let gate = s.comp in
    let client = client_name s c in
    let now = state_after gate client calls in
    let named = Leaves-named gate client (turns_after gate client calls) now (after-Leaves gate client calls) in
    let told : fields ≡ frame_fields stamp_text now.gate now.client (issued_frame now at kind body) =
    subst (λ (x : State). fields ≡ frame_fields stamp_text x.gate x.client (issued_frame x at kind body)) is are in
    ap (λ (fs : List Field). fs ∷ []) (sym (told
    ∙ ap (λ (g : List ℕ). frame_fields stamp_text g now.client (issued_frame now at kind body)) named.0
    ∙ ap (λ (n : List ℕ). frame_fields stamp_text gate n (issued_frame now at kind body)) named.1))

-- ---- of all lines

-- what the calls left of the session at a place
pub client-there : (s : Settings) (calls : ℕ → List Timed) (lines : List ClientLine) (place : ℕ) (old : ClientLine)
    → old ≡ get_or lines place old → place < length lines → ClientsLeave s calls lines
    → ClientLeaves s (place + 1) (calls (place + 1)) old.session.session
client-there s calls lines place old is inside all =
    at-place (λ i (x : ClientLine). ClientLeaves s (i + 1) (calls (i + 1)) x.session.session) lines place old is inside
    all

-- one call more on the session at a place
pub clients-called : (s : Settings) (calls : ℕ → List Timed) (lines : List ClientLine) (place : ℕ)
    (old line : ClientLine) (at : ℕ) (call : Call)
    → old ≡ get_or lines place old → place < length lines
    → ((gate client : List ℕ) (h : SessionHistory) → Leaves gate client h old.session.session
    → Leaves gate client (turn_after old.session.session at call ∷ h) line.session.session)
    → ClientsLeave s calls lines → ClientsLeave s (called (place + 1) (at, call) calls) (slice_set lines place line)
clients-called s calls lines place old line at call is inside leaves =
    called-set (λ n k (x : ClientLine). ClientLeaves s n k x.session.session) calls
    (at, call) lines place line old is inside
    (client-more s (place + 1) (calls (place + 1)) old.session.session at call line.session.session leaves)

abbrev stood_settled : ClientLine → ClientStands
stood_settled line = record { link = line.settled_link; session = line.session.settled }

settled-touched : (line : ClientLine) → line.is_touched ≡ true → client_settled line ≡ stood_settled line
settled-touched line touched = ap (λ (is : Bool). cond is (stood_settled line) (client_now line)) touched

-- how a line was settled stays, whatever comes of its session
pub settled-stays : (old line : ClientLine) → old.is_touched ≡ true → line.is_touched ≡ true
    → line.settled_link ≡ old.settled_link → line.session.settled ≡ old.session.settled
    → client_settled line ≡ client_settled old
settled-stays old line old_touched touched same_link same_session =
    let same : stood_settled line ≡ stood_settled old = (λ j. record { link = same_link j; session = same_session j })
    in
    settled-touched line touched ∙ same ∙ sym (settled-touched old old_touched)

-- where the line at a place stands as it stood, all do
pub clients-stand : (lines : List ClientLine) (place : ℕ) (old line : ClientLine) → old ≡ get_or lines place old
    → line.link ≡ old.link → line.session.session ≡ old.session.session
    → map client_now (slice_set lines place line) ≡ map client_now lines
clients-stand lines place old line is same_link same_session =
    let same : client_now line ≡ client_now old = (λ j. record { link = same_link j; session = same_session j }) in
    kept-of client_now lines place line old (same ∙ ap client_now is)
