-- Links of ports: one is current just where the port's session is open.
use Rattle.std.proofs.Common.{◌≡◌, ◌==◌, ℕ, Bool, true, false, not, List, [], ◌∷◌, ◌++◌, Option, Some, None, refl, ap}
use Rattle.std.proofs.Common.{sym, subst, ◌∙◌, is_some, map, eq-eqb, inl, inr, length}
use Rattle.std.proofs.Math.Dec.{eqb-suc-zero}
use Rattle.std.proofs.lemmas.Bool.{eqb-true, eqb-false, ne_eqb, cases_Bool, cond-true, cond-false}
use Rattle.std.proofs.lemmas.List.Folds.{list_any-append}
use Rattle.std.specs.Prelude.{if◌then◌else◌, ◌&&◌, ◌||◌, ◌⊎◌}
use Rattle.std.specs.List.{list_any}
use Rattle.session_law.specs.fix_types.declared.application.AppMsg.{AppMsg}
use Rattle.soup_session.specs.declared.port_fault.PortFault.{PortFault}
use Rattle.session_law.specs.Runs.{Timed, OnMessage}
use Rattle.fix_fields.specs.Field.{Message}
use Rattle.order_law.specs.History as orders
use Rattle.order_law.specs.Headline.{Each}
use Rattle.soup_packets.specs.declared.packet.Packet.{Packet}
use Rattle.soup_session.specs.declared.port_state.PortState.TheVariants.{Down}
use Rattle.soup_session.specs.declared.port_turn.PortOut.{PortOut}
use Rattle.soup_session.specs.declared.port_turn.PortOut.TheVariants as packets
use Rattle.soup_session.specs.States.{is_down, is_open}
use Rattle.soup_session.specs.Table.{LoginTerms, PortCall, OnUp, OnPacket, OnGone, OnTick, Send, Fail, PortStanding}
use Rattle.soup_session.specs.Table.{PortAnswer, standing, answer}
use Rattle.soup_session.specs.Calls as calls
use Rattle.soup_session.specs.Calls.{EndsByClose, closes_link, is_on_link}
use Rattle.gate_law.specs.Settings.{Settings, port_terms, port_of}
use Rattle.gate_law.specs.Events.{Event, ClientUp, ClientMessage, ClientGone, ClientTick, PortUp, PortPacket, PortGone}
use Rattle.gate_law.specs.Events.{PortTick, LinkOut, Close, Batch, History, is_the_number}
use Rattle.gate_law.specs.Lists.{Lists, nothing_yet, port_called_all}
use Rattle.gate_law.specs.Sessions.{client_answer, port_answer, port_state, port_outs, port_line, to_port, sends}
use Rattle.gate_law.specs.Outcome.{LinkMove, Stays, Comes, Refused, Outcome, nothing, of_client, of_port, client_up}
use Rattle.gate_law.specs.Outcome.{port_up, by_app, by_fault, by_payload, by_event, outcome, is_stepped, messages}
use Rattle.gate_law.specs.Outcome.{Goes as gone}
use Rattle.gate_law.specs.After.{is_close, unless_closed, port_moved, links_closed, with_outcome, lists_after, lists}
use Rattle.gate_law.specs.After.{is_within_day}
use Rattle.gate_law.specs.Due.{Gives, to_port_of, port_named, due_port}
use Rattle.gate_law.specs.Holds.{IsRun, OfTurn}
use Rattle.gate_law.proofs.Other.{no-port-lines}
use Rattle.gate_law.proofs.Parts.{called, calls-own, own-calls, other-calls, link-after, moved-other}

-- ---- messages that are sent

pub state-sent : (s : Settings) (p at : ℕ) (ms : List (List ℕ)) (before : List PortCall)
    → port_state s p (called (sends at ms) before) ≡ port_state s p before
unfolding port_state
state-sent s p at [] before = refl
state-sent s p at (m ∷ ms) before = state-sent s p at ms (Send m at ∷ before)

pub sends-leave : (s : Settings) (p at : ℕ) (ms : List (List ℕ)) (v : Lists)
    → port_state s p ((port_called_all p (sends at ms) v).port_calls p) ≡ port_state s p (v.port_calls p)
sends-leave s p at ms v = ap (port_state s p) (calls-own p p (sends at ms) v (eq-eqb p p refl))
    ∙ state-sent s p at ms (v.port_calls p)

-- ---- calls on a link, by the session's table

abbrev AreOnLink : List PortCall → Type 0
AreOnLink cs = Each (λ (c : PortCall). is_on_link c ≡ true) cs

sends-on-link : (at : ℕ) (ms : List (List ℕ)) → AreOnLink (sends at ms)
sends-on-link at [] = tt
sends-on-link at (m ∷ ms) = (refl, sends-on-link at ms)

-- where there is no link a call on one brings none
shut-if : (b w : Bool) (x y : PortAnswer) → b ≡ w → is_open (if w then x else y).after.state ≡ false
    → is_open (if b then x else y).after.state ≡ false
shut-if b w x y e is = ap (λ (d : Bool). is_open (if d then x else y).after.state) e ∙ is

stays-shut : (terms : LoginTerms) (before : List PortCall) (c : PortCall) → is_on_link c ≡ true
    → is_open (standing terms before).state ≡ false → is_open (answer terms before c).after.state ≡ false
stays-shut terms before (OnUp at) on shut = absurd (cc)
stays-shut terms before (OnPacket packet at) on shut =
    shut-if (is_open (standing terms before).state) false _ _ shut shut
stays-shut terms before OnGone on shut = absurd (cc)
stays-shut terms before (OnTick at) on shut =
    shut-if (not (is_open (standing terms before).state)) true _ _ (ap not shut) shut
stays-shut terms before (Send m at) on shut = shut
stays-shut terms before (Fail n) on shut = refl

all-stay-shut : (terms : LoginTerms) (before : List PortCall) (cs : List PortCall) → AreOnLink cs
    → is_open (standing terms before).state ≡ false → is_open (standing terms (called cs before)).state ≡ false
all-stay-shut terms before [] on shut = shut
all-stay-shut terms before (c ∷ cs) on shut =
    all-stay-shut terms (c ∷ before) cs on.1 (stays-shut terms before c on.0 shut)

abbrev pub EndsAll : Type 0
EndsAll = (terms : LoginTerms) (before : List PortCall) (c : PortCall) → EndsByClose terms before c

closes-append : (xs ys : List PortOut) → closes_link (xs ++ ys) ≡ (closes_link xs || closes_link ys)
closes-append xs ys = list_any-append calls.is_port_close xs ys

-- one call, and those behind it
one-closes : (terms : LoginTerms) (before : List PortCall) (c : PortCall) (cs : List PortCall) (outs : List PortOut)
    → AreOnLink cs
    → closes_link (answer terms before c).outs ≡ not (is_open (answer terms before c).after.state)
    → (is_open (answer terms before c).after.state ≡ true
    → is_open (standing terms (called cs (c ∷ before))).state ≡ not (closes_link outs))
    → is_open (standing terms (called cs (c ∷ before))).state ≡ not (closes_link ((answer terms before c).outs ++ outs))
one-closes terms before c cs outs on closes rest =
    by_state (is_open (answer terms before c).after.state) refl
    ∙ ap not (sym (closes-append (answer terms before c).outs outs))
  where
    by_state : (w : Bool) → is_open (answer terms before c).after.state ≡ w
        → is_open (standing terms (called cs (c ∷ before))).state
        ≡ not (closes_link (answer terms before c).outs || closes_link outs)
    by_state true e = rest e ∙ ap (λ (b : Bool). not (b || closes_link outs)) (sym (closes ∙ ap not e))
    by_state false e = all-stay-shut terms (c ∷ before) cs on e
        ∙ ap (λ (b : Bool). not (b || closes_link outs)) (sym (closes ∙ ap not e))

-- calls on a link close it just where the session isn't open after them
calls-close : EndsAll → (s : Settings) (p : ℕ) (before : List PortCall) (cs : List PortCall) → AreOnLink cs
    → is_open (port_state s p before) ≡ true
    → is_open (port_state s p (called cs before)) ≡ not (closes_link (port_outs s p before cs))
unfolding port_state port_answer
calls-close ends s p before [] on is = is
calls-close ends s p before (c ∷ cs) on is =
    one-closes (port_terms s p) before c cs (port_outs s p (c ∷ before) cs) on.1
    (ends (port_terms s p) before c is on.0) (λ still. calls-close ends s p (c ∷ before) cs on.1 still)

-- ---- the link

-- what a session says to its link closes it just where it says so
lines-close : (link : ℕ) (outs : List PortOut)
    → list_any (is_close (Some link)) (map (port_line link) outs) ≡ closes_link outs
lines-close link [] = refl
lines-close link (packets.Packet packet ∷ outs) = lines-close link outs
lines-close link (packets.Close ∷ outs) =
    ap (λ (b : Bool). b || list_any (is_close (Some link)) (map (port_line link) outs)) (eq-eqb link link refl)

current-left : (link : ℕ) (outs : List PortOut)
    → is_some (unless_closed (to_port (Some link) outs) (Some link)) ≡ not (closes_link outs)
current-left link outs = ap (λ (b : Bool). is_some (if b then None else Some link)) (lines-close link outs)
    ∙ by_close (closes_link outs)
  where
    by_close : (b : Bool) → is_some (if b then None else Some link) ≡ not b
    by_close true = refl
    by_close false = refl

-- a link that stays
stays-linked : EndsAll → (s : Settings) (p : ℕ) (before : List PortCall) (cs : List PortCall) (link : Option ℕ)
    → AreOnLink cs → is_open (port_state s p before) ≡ is_some link
    → is_open (port_state s p (called cs before))
    ≡ is_some (unless_closed (to_port link (port_outs s p before cs)) link)
unfolding port_state
stays-linked ends s p before cs None on is = all-stay-shut (port_terms s p) before cs on is
stays-linked ends s p before cs (Some link) on is = calls-close ends s p before cs on is
    ∙ sym (current-left link (port_outs s p before cs))

-- one that comes where none is: the session logs in, or closes it
abbrev OpensOrCloses : PortAnswer → Type 0
OpensOrCloses a = is_open a.after.state ≡ not (closes_link (a.outs ++ []))

opens-if : (b : Bool) (x y : PortAnswer) → OpensOrCloses x → OpensOrCloses y → OpensOrCloses (if b then x else y)
opens-if true x y p q = p
opens-if false x y p q = q

comes-linked : (s : Settings) (p link at : ℕ) (before : List PortCall) → is_open (port_state s p before) ≡ false
    → is_open (port_state s p (OnUp at ∷ before))
    ≡ is_some (unless_closed (to_port (Some link) (port_outs s p before (OnUp at ∷ []))) (Some link))
unfolding port_state port_answer
comes-linked s p link at before shut =
    opens-if (is_down (standing (port_terms s p) before).state) _ _ refl shut
    ∙ sym (current-left link (port_outs s p before (OnUp at ∷ [])))

-- one that is gone
gone-shut : (s : Settings) (p : ℕ) (before : List PortCall) → is_open (port_state s p (OnGone ∷ before)) ≡ false
unfolding port_state
gone-shut s p before = by_open (standing (port_terms s p) before)
    (is_open (standing (port_terms s p) before).state) refl
  where
    by_open : (x : PortStanding) (w : Bool) → is_open x.state ≡ w
        → is_open (if w then record x { state = Down } else x).state ≡ false
    by_open x true e = refl
    by_open x false e = e

-- ---- an outcome

abbrev pub IsLinked : Settings → Lists → ℕ → Type 0
IsLinked s v p = is_open (port_state s p (v.port_calls p)) ≡ is_some (v.port_link p)

-- an outcome keeps the link of its port
abbrev pub Own : Settings → Lists → Outcome → Type 0
Own s v o = IsLinked s v o.port
    → is_open (port_state s o.port (called o.port_calls (v.port_calls o.port)))
    ≡ is_some (unless_closed (to_port_of s o v) ((port_moved o.port o.port_link v).port_link o.port))

-- or it has nothing for a port
pub record Quiet (s : Settings) (v : Lists) (o : Outcome) : Type 0 where
  pub lines : to_port_of s o v ≡ []
  pub links : (q : ℕ) → (port_moved o.port o.port_link v).port_link q ≡ v.port_link q
  pub calls : o.port_calls ≡ []

abbrev pub Keeps : Settings → Lists → ℕ → Outcome → Type 0
Keeps s v n o = ((o.port ≡ n) × Own s v o) ⊎ Quiet s v o

keeps-nothing : (s : Settings) (v : Lists) (n : ℕ) → Keeps s v n nothing
keeps-nothing s v n = inr (record { lines = no-port-lines (v.port_link 0); links = λ q. refl; calls = refl })

keeps-client : (s : Settings) (v : Lists) (n client : ℕ) (move : LinkMove) (made : List Timed)
    → Keeps s v n (of_client client move made)
keeps-client s v n client move made = inr
    (record { lines = no-port-lines (v.port_link 0); links = λ q. refl; calls = refl })

keeps-if : (s : Settings) (v : Lists) (n : ℕ) (c : Bool) (x y : Outcome) → Keeps s v n x → Keeps s v n y
    → Keeps s v n (if c then x else y)
keeps-if s v n true x y p q = p
keeps-if s v n false x y p q = q

refused-left : (link current : ℕ) (now : Option ℕ) → now ≡ Some current → (current == link) ≡ false
    → is_some (unless_closed (Close link ∷ to_port now []) now) ≡ is_some now
refused-left link current now e other =
    ap (λ (l : Option ℕ). is_some (unless_closed (Close link ∷ to_port l []) l)) e
    ∙ ap (λ (w : Bool). is_some (if w || false then None else Some current)) other
    ∙ sym (ap is_some e)

module _ (ends : EndsAll) (s : Settings) where
  keeps-up : (p link at : ℕ) (v : Lists) (current : Option ℕ) → v.port_link p ≡ current
      → Keeps s v p (port_up p link at current)
  keeps-up p link at v None none = inl (
    refl,
    λ is.
        subst (λ (now : Option ℕ). is_open (port_state s p (OnUp at ∷ v.port_calls p))
        ≡ is_some (unless_closed (to_port now (port_outs s p (v.port_calls p) (OnUp at ∷ []))) now))
        (sym (cond-true (p == p) _ _ (eq-eqb p p refl)))
        (comes-linked s p link at (v.port_calls p) (is ∙ ap is_some none)),
  )
  keeps-up p link at v (Some current) e = by_number (current == link) refl
    where
      by_number : (w : Bool) → (current == link) ≡ w → Keeps s v p (if w then nothing else of_port p (Refused link) [])
      by_number true same = keeps-nothing s v p
      by_number false other = inl (refl, λ is. is ∙ sym (refused-left link current (v.port_link p) e other))

  keeps-app : (client at : ℕ) (frame : Message) (b : Batch) (v : Lists) (app : Option AppMsg)
      → Keeps s v (port_of s client) (by_app s client at frame b v app)
  keeps-app client at frame b v None = keeps-client s v (port_of s client) client Stays _
  keeps-app client at frame b v (Some app) = inl (
    refl,
    λ is.
        stays-linked ends s (port_of s client) (v.port_calls (port_of s client)) (sends at (messages b))
        (v.port_link (port_of s client)) (sends-on-link at (messages b)) is,
  )

  keeps-told : (p at : ℕ) (packet : Packet) (b : Batch) (v : Lists) (fault : Option PortFault)
      (turn : Option orders.OrderTurn) → Keeps s v p (record (by_fault p at packet b fault) { turn = turn })
  keeps-told p at packet b v None turn = inl
      (refl, λ is. stays-linked ends s p (v.port_calls p) (OnPacket packet at ∷ []) (v.port_link p) (refl, tt) is)
  keeps-told p at packet b v (Some n) turn =
      inl (
        refl,
        λ is. stays-linked ends s p (v.port_calls p) (OnPacket packet at ∷ Fail n ∷ []) (v.port_link p)
            (refl, (refl, tt)) is,
      )

  keeps-payload : (p at : ℕ) (packet : Packet) (b : Batch) (v : Lists) (a : PortAnswer) (payload : Option (List ℕ))
      → Keeps s v p (by_payload p at packet b a payload)
  keeps-payload p at packet b v a None = inl (
    refl,
    λ is.
        stays-linked ends s p (v.port_calls p) (OnPacket packet at ∷ sends at (messages b)) (v.port_link p)
        (refl, sends-on-link at (messages b)) is,
  )
  keeps-payload p at packet b v a (Some payload) = keeps-told p at packet b v b.fault _

  keeps-gone : (p : ℕ) (v : Lists) → Keeps s v p (of_port p gone (OnGone ∷ []))
  keeps-gone p v = inl (
    refl,
    λ is.
        subst (λ (now : Option ℕ). is_open (port_state s p (OnGone ∷ v.port_calls p))
        ≡ is_some (unless_closed (to_port now (port_outs s p (v.port_calls p) (OnGone ∷ []))) now))
        (sym (cond-true (p == p) _ _ (eq-eqb p p refl)))
        (gone-shut s p (v.port_calls p)),
  )

  keeps-tick : (p at : ℕ) (v : Lists) → Keeps s v p (of_port p Stays (OnTick at ∷ []))
  keeps-tick p at v = inl (
    refl,
    λ is. stays-linked ends s p (v.port_calls p) (OnTick at ∷ []) (v.port_link p)
        (refl, tt) is,
  )

  event-keeps : (e : Event) (b : Batch) (v : Lists) → Keeps s v (port_named s e) (by_event s e b v)
  event-keeps (ClientUp client link at) b v = keeps-client-up (v.client_link client)
    where
      keeps-client-up : (current : Option ℕ) → Keeps s v (port_of s client) (client_up client link at current)
      keeps-client-up None = keeps-client s v (port_of s client) client (Comes link) _
      keeps-client-up (Some n) = keeps-if s v (port_of s client) (n == link) _ _ (keeps-nothing s v (port_of s client))
          (keeps-client s v (port_of s client) client (Refused link) [])
  event-keeps (ClientMessage client link at frame) b v =
      keeps-app client at frame b v (client_answer s client (v.client_calls client) (at, OnMessage frame)).app
  event-keeps (ClientGone client link at) b v = keeps-client s v (port_of s client) client gone _
  event-keeps (ClientTick client at) b v = keeps-client s v (port_of s client) client Stays _
  event-keeps (PortUp p link at) b v = keeps-up p link at v (v.port_link p) refl
  event-keeps (PortPacket p link at packet) b v =
      keeps-payload p at packet b v (port_answer s p (v.port_calls p) (OnPacket packet at))
      (port_answer s p (v.port_calls p) (OnPacket packet at)).payload
  event-keeps (PortGone p link at) b v = keeps-gone p v
  event-keeps (PortTick p at) b v = keeps-tick p at v

  pub outcome-keeps : (e : Event) (b : Batch) (v : Lists) → Keeps s v (port_named s e) (outcome s e b v)
  outcome-keeps e b v = keeps-if s v (port_named s e) (is_stepped s e v) _ _ (event-keeps e b v)
      (keeps-nothing s v (port_named s e))

-- ---- an event

pub same-if : (c : Bool) (x : Option ℕ) → (if c then x else x) ≡ x
same-if true x = refl
same-if false x = refl

-- what a batch closes is a link of the port that its event names
closes-named : (outs : List LinkOut) (w : Bool) (n q : ℕ) (named link : Option ℕ)
    → named ≡ (if not ((length outs == 0) && w) then Some n else None)
    → (if is_the_number q named then unless_closed outs link else link)
    ≡ (if n == q then unless_closed outs link else link)
closes-named [] w n q named link is = same-if (is_the_number q named) link ∙ sym (same-if (n == q) link)
closes-named (x ∷ outs) w n q named link is =
    ap (λ (c : Option ℕ). if is_the_number q c then unless_closed (x ∷ outs) link else link)
    (is ∙ ap (λ (c : Bool). if not (c && w) then Some n else None) (eqb-suc-zero (length outs)))

pub link-due : (s : Settings) (e : Event) (b : Batch) (v : Lists) (o : Outcome) (q : ℕ) → b.port ≡ due_port s e b
    → (links_closed b (with_outcome o v)).port_link q
    ≡ (if port_named s e == q then unless_closed b.port_out ((port_moved o.port o.port_link v).port_link q) else
    (port_moved o.port o.port_link v).port_link q)
link-due s e b v o q named = link-after o b v q
    ∙ closes-named b.port_out (not (is_some b.fault)) (port_named s e) q b.port
    ((port_moved o.port o.port_link v).port_link q) named

module _ (s : Settings) (e : Event) (b : Batch) (v : Lists) (o : Outcome) (outs : b.port_out ≡ to_port_of s o v) (named : b.port ≡ due_port s e b) (before : (q : ℕ) → IsLinked s v q) where
  own-linked : o.port ≡ port_named s e → Own s v o → IsLinked s (links_closed b (with_outcome o v)) o.port
  own-linked is own =
      ap (λ (calls : List PortCall). is_open (port_state s o.port calls))
      (own-calls o b v o.port (eq-eqb o.port o.port refl))
      ∙ own (before o.port)
      ∙ ap (λ (lines : List LinkOut). is_some (unless_closed lines
      ((port_moved o.port o.port_link v).port_link o.port))) (sym outs)
      ∙ ap is_some (sym (link-due s e b v o o.port named
      ∙ cond-true (port_named s e == o.port) _ _ (eq-eqb (port_named s e) o.port (sym is))))

  other-linked : (q : ℕ) → (q == o.port) ≡ false → o.port ≡ port_named s e
      → IsLinked s (links_closed b (with_outcome o v)) q
  other-linked q other is =
      ap (λ (calls : List PortCall). is_open (port_state s q calls)) (other-calls o b v q other)
      ∙ before q
      ∙ ap is_some (sym (link-due s e b v o q named ∙ cond-false (port_named s e == q) _ _ apart
      ∙ moved-other o.port q o.port_link v other))
    where
      apart : (port_named s e == q) ≡ false
      apart = ne_eqb (port_named s e) q (λ same. eqb-false q o.port other (sym (is ∙ same)))

  quiet-linked : (q : ℕ) → Quiet s v o → IsLinked s (links_closed b (with_outcome o v)) q
  quiet-linked q quiet =
      ap (λ (calls : List PortCall). is_open (port_state s q calls)) (calls-same (cases_Bool (q == o.port)))
      ∙ before q
      ∙ ap is_some (sym (link-after o b v q ∙ ap
      (λ (lines : List LinkOut). if is_the_number q b.port then unless_closed lines moved else moved)
      (outs ∙ quiet.lines) ∙ same-if (is_the_number q b.port) moved ∙ quiet.links q))
    where
      moved : Option ℕ
      moved = (port_moved o.port o.port_link v).port_link q

      calls-same : ((q == o.port) ≡ true) ⊎ ((q == o.port) ≡ false)
          → (links_closed b (with_outcome o v)).port_calls q ≡ v.port_calls q
      calls-same (inl same) = own-calls o b v q same
          ∙ ap (λ (cs : List PortCall). called cs (v.port_calls q)) quiet.calls
      calls-same (inr other) = other-calls o b v q other

  pub event-linked : (q : ℕ) → Keeps s v (port_named s e) o → IsLinked s (links_closed b (with_outcome o v)) q
  event-linked q (inl own) = by_port (cases_Bool (q == o.port))
    where
      by_port : ((q == o.port) ≡ true) ⊎ ((q == o.port) ≡ false) → IsLinked s (links_closed b (with_outcome o v)) q
      by_port (inl same) = subst (IsLinked s (links_closed b (with_outcome o v))) (sym (eqb-true q o.port same))
          (own-linked own.0 own.1)
      by_port (inr other) = other-linked q other own.0
  event-linked q (inr quiet) = quiet-linked q quiet

-- ---- a history

linked-at-first : (s : Settings) (p : ℕ) → IsLinked s nothing_yet p
unfolding port_state
linked-at-first s p = refl

pub links-current : EndsAll → (s : Settings) (h : History) → IsRun s h → (p : ℕ) → IsLinked s (lists s h) p
links-current ends s [] run p = linked-at-first s p
links-current ends s (t ∷ before) run p = by_limit (is_within_day before) run.0 (links-current ends s before run.1)
  where
    by_limit : (w : Bool) → OfTurn w (Gives s t.event t.batch (lists s before)) t.batch
        → ((q : ℕ) → IsLinked s (lists s before) q)
        → IsLinked s (if w then lists_after s t.event t.batch (lists s before) else lists s before) p
    by_limit true g linked =
        event-linked s t.event t.batch (lists s before)
        (outcome s t.event t.batch (lists s before)) g.port_out g.port linked p
        (outcome-keeps ends s t.event t.batch (lists s before))
    by_limit false none linked = linked p
