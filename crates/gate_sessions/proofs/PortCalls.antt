-- A call on a port's session, in the words of the core: the calls with it leave the session, and it gives what the
-- table has.
use Rattle.std.proofs.Common.{◌≡◌, ℕ, ◌+◌, ◌<◌, List, [], ◌∷◌, length, get_or, slice_set, Option, sym, ap, subst}
use Rattle.gate_law.specs.soup_session.declared.machine.Port.{Port}
use Rattle.gate_law.specs.soup_session.declared.port_state.PortState.{PortState}
use Rattle.gate_law.specs.soup_session.declared.port_turn.PortTurn.{PortTurn}
use Rattle.gate_law.specs.soup_session.Table.{LoginTerms, PortCall, answer, standing}
use Rattle.gate_law.specs.soup_session.Calls.{CallsLeave, IsAnswer}
use Rattle.gate_law.specs.Settings.{Settings, port_terms}
use Rattle.gate_law.specs.Sessions.{port_answer, port_state}
use Rattle.gate_sessions.specs.declared.port_line.PortLine.{PortLine}
use Rattle.gate_sessions.specs.Leaving.{PortLeaves}
use Rattle.gate_sessions.specs.Lines.{PortsLeave, PortStands, called}
use Rattle.gate_sessions.proofs.Places.{at-place, called-set}

pub port-first : (s : Settings) (p : ℕ) (terms : LoginTerms) (session : Port) → CallsLeave terms [] session
    → port_terms s p ≡ terms → PortLeaves s p [] session
unfolding PortLeaves
port-first s p terms session l is = subst (λ (t : LoginTerms). CallsLeave t [] session) (sym is) l

pub port-more : (s : Settings) (p : ℕ) (calls : List PortCall) (old : Port) (call : PortCall) (new : Port)
    → ((terms : LoginTerms) (before : List PortCall) → CallsLeave terms before old
    → CallsLeave terms (call ∷ before) new)
    → PortLeaves s p calls old → PortLeaves s p (call ∷ calls) new
unfolding PortLeaves
port-more s p calls old call new leaves l = leaves (port_terms s p) calls l

pub port-answers : (s : Settings) (p : ℕ) (calls : List PortCall) (old : Port) (call : PortCall) (turn : PortTurn)
    → ((terms : LoginTerms) (before : List PortCall) → CallsLeave terms before old
    → IsAnswer (answer terms before call) turn)
    → PortLeaves s p calls old → IsAnswer (port_answer s p calls call) turn
unfolding PortLeaves port_answer
port-answers s p calls old call turn answers l = answers (port_terms s p) calls l

pub port-stands : (s : Settings) (p : ℕ) (calls : List PortCall) (now : Port) (state : PortState)
    → ((terms : LoginTerms) (before : List PortCall) → CallsLeave terms before now
    → state ≡ (standing terms before).state)
    → PortLeaves s p calls now → state ≡ port_state s p calls
unfolding PortLeaves port_state
port-stands s p calls now state is l = is (port_terms s p) calls l

-- ---- of all lines

-- what the calls left of the session at a place
pub port-there : (s : Settings) (calls : ℕ → List PortCall) (lines : List PortLine) (place : ℕ) (old : PortLine)
    → old ≡ get_or lines place old → place < length lines → PortsLeave s calls lines
    → PortLeaves s (place + 1) (calls (place + 1)) old.session.port
port-there s calls lines place old is inside all =
    at-place (λ i (x : PortLine). PortLeaves s (i + 1) (calls (i + 1)) x.session.port) lines place old is inside all

-- one call more on the session at a place
pub ports-called : (s : Settings) (calls : ℕ → List PortCall) (lines : List PortLine) (place : ℕ) (old line : PortLine)
    (call : PortCall)
    → old ≡ get_or lines place old → place < length lines
    → ((terms : LoginTerms) (before : List PortCall) → CallsLeave terms before old.session.port
    → CallsLeave terms (call ∷ before) line.session.port)
    → PortsLeave s calls lines → PortsLeave s (called (place + 1) call calls) (slice_set lines place line)
ports-called s calls lines place old line call is inside leaves =
    called-set (λ n k (x : PortLine). PortLeaves s n k x.session.port) calls call lines place line old is inside
    (port-more s (place + 1) (calls (place + 1)) old.session.port call line.session.port leaves)

-- how a line stands, by its link and its session
abbrev pub stood : Option ℕ → Port → PortStands
stood link port = record { link = link; port = port }

-- how a line was settled stays, whatever comes of its session
pub port-settled-stays : (link : Option ℕ) (old new : Port) → new ≡ old → stood link new ≡ stood link old
port-settled-stays link old new same = ap (stood link) same
