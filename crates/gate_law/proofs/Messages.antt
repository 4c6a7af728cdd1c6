-- What is read off the packets that a port's session writes: the messages that it was sent, and nothing of its own.
use Rattle.std.proofs.Common.{◌≡◌, ◌-◌, ◌==◌, ℕ, Bool, true, false, not, List, [], ◌∷◌, ◌++◌, Option, Some, None, refl}
use Rattle.std.proofs.Common.{ap, ◌∙◌, nat_lt}
use Rattle.std.specs.Prelude.{if◌then◌else◌, ◌&&◌}
use Rattle.std.specs.List.{flat_map}
use Rattle.soup_session.specs.declared.port_turn.PortOut.{PortOut}
use Rattle.soup_session.specs.declared.said.Said.{Said}
use Rattle.soup_session.specs.declared.said.Said.TheVariants.{Accepted, Rejected, Sequenced, Nothing, End, Strange}
use Rattle.soup_session.specs.States.{is_down, is_logging_in, is_up, is_open}
use Rattle.soup_session.specs.Reading.{said_of}
use Rattle.soup_session.specs.Table as table
use Rattle.soup_session.specs.Table.{LoginTerms, PortCall, OnUp, OnPacket, OnGone, OnTick, Send, Fail, PortStanding}
use Rattle.soup_session.specs.Table.{PortAnswer, wanted, standing}
use Rattle.gate_law.specs.Settings.{Settings, port_terms}
use Rattle.gate_law.specs.Sessions.{port_answer, port_outs, to_port, sends, is_no_send}
use Rattle.gate_law.specs.Outcome.{message_in}

-- the messages in what is written on a link
abbrev read_in : ℕ → List PortOut → List (List ℕ)
read_in link outs = flat_map message_in (to_port (Some link) outs)

-- ---- messages that are sent

pub reads-sends : (s : Settings) (p link at : ℕ) (before : List PortCall) (ms : List (List ℕ))
    → read_in link (port_outs s p before (sends at ms)) ≡ ms
unfolding port_answer
reads-sends s p link at before [] = refl
reads-sends s p link at before (m ∷ ms) =
    ap (λ (rest : List (List ℕ)). m ∷ rest) (reads-sends s p link at (Send m at ∷ before) ms)

-- ---- any other call

-- nothing of what an answer writes is a message
abbrev IsQuiet : ℕ → PortAnswer → Type 0
IsQuiet link a = (outs : List PortOut) → read_in link (a.outs ++ outs) ≡ read_in link outs

quiet-if : (link : ℕ) (b : Bool) (x y : PortAnswer) → IsQuiet link x → IsQuiet link y
    → IsQuiet link (if b then x else y)
quiet-if link true x y p q = p
quiet-if link false x y p q = q

quiet-logs_in : (link : ℕ) (s : PortStanding) (session : List ℕ) (number : Option ℕ)
    → IsQuiet link (table.logs_in s session number)
quiet-logs_in link s session None = λ outs. refl
quiet-logs_in link s session (Some k) =
    quiet-if link (k == 0) _ _ (λ outs. refl)
    (quiet-if link (table.is_other session s.session) _ _ (λ outs. refl)
    (quiet-if link (nat_lt (wanted s) k) _ _ (λ outs. refl) (λ outs. refl)))

quiet-said : (link : ℕ) (s : PortStanding) (payload : List ℕ) (said : Said)
    → IsQuiet link (table.on_said s payload said)
quiet-said link s payload (Accepted session number) =
    quiet-if link (is_logging_in s.state) _ _ (quiet-logs_in link s session number) (λ outs. refl)
quiet-said link s payload Rejected = quiet-if link (is_logging_in s.state) _ _ (λ outs. refl) (λ outs. refl)
quiet-said link s payload Sequenced = quiet-if link (is_up s.state) _ _ (λ outs. refl) (λ outs. refl)
quiet-said link s payload Nothing = λ outs. refl
quiet-said link s payload End = λ outs. refl
quiet-said link s payload Strange = λ outs. refl

quiet-ticks : (link : ℕ) (s : PortStanding) → IsQuiet link (table.on_tick s)
quiet-ticks link s =
    quiet-if link (not (is_open s.state)) _ _ (λ outs. refl) (
    quiet-if link (nat_lt 15_000 (s.now - s.heard)) _ _ (λ outs. refl) (
    quiet-if link (is_up s.state && nat_lt 1_000 (s.now - s.sent)) _ _ (λ outs. refl) (λ outs. refl)))

quiet-call : (link : ℕ) (terms : LoginTerms) (s : PortStanding) (c : PortCall) → is_no_send c ≡ true
    → IsQuiet link (table.answer_in terms s c)
quiet-call link terms s (OnUp at) none = quiet-if link (is_down (table.passed at s).state) _ _ (λ outs. refl)
    (λ outs. refl)
quiet-call link terms s (OnPacket packet at) none =
    quiet-if link (is_open s.state) _ _ (quiet-said link (table.heard_now (table.passed at s)) packet.payload
    (said_of packet)) (λ outs. refl)
quiet-call link terms s OnGone none = λ outs. refl
quiet-call link terms s (OnTick at) none = quiet-ticks link (table.passed at s)
quiet-call link terms s (Send m at) none = absurd (cc)
quiet-call link terms s (Fail n) none = λ outs. refl

pub reads-after : (s : Settings) (p link at : ℕ) (before : List PortCall) (c : PortCall) (ms : List (List ℕ))
    → is_no_send c ≡ true
    → read_in link (port_outs s p before (c ∷ sends at ms)) ≡ ms
unfolding port_answer
reads-after s p link at before c ms none =
    quiet-call link (port_terms s p) (standing (port_terms s p) before) c none
    (port_outs s p (c ∷ before) (sends at ms)) ∙ reads-sends s p link at (c ∷ before) ms
