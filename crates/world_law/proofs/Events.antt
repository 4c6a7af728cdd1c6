-- What each event of the gateway makes of what is handled on a port, and of the two ends of the port's connection.
use Rattle.std.proofs.Common.{◌≡◌, ◌<◌, ◌+◌, ◌^◌, ◌==◌, ℕ, suc, Bool, true, false, not, List, [], ◌∷◌, ◌++◌, length}
use Rattle.std.proofs.Common.{reverse, refl, sym, ap, ◌∙◌, subst, arith, Option, Some, None, eq-eqb, is_some}
use Rattle.std.proofs.Common.{append_assoc}
use Rattle.std.proofs.lemmas.Bool.{cond-true, cond-false, eqb-true, eqb-false, ne_eqb}
use Rattle.std.proofs.lemmas.List.{reverse-append, reverse-reverse}
use Rattle.std.specs.Prelude.{◌&&◌, if◌then◌else◌, Ok, Err, Result, option_map}
use Rattle.session_law.specs.fix_types.declared.application.AppMsg.{AppMsg}
use Rattle.session_law.specs.Runs.{OnMessage, Timed}
use Rattle.fix_fields.specs.Field.{Message}
use Rattle.order_law.specs.ouch_codec.declared.outbound.Outbound.{Outbound}
use Rattle.order_law.specs.ouch_codec.declared.refusal.DecodeRefusal.{DecodeRefusal}
use Rattle.order_law.specs.ouch_codec.Values.{decoded}
use Rattle.order_law.specs.Lawful.{judgement}
use Rattle.order_law.specs.History.{Asked, Heard, OrderHistory, OrderTurn, handled}
use Rattle.order_law.specs.Headline.{Headline}
use Rattle.soup_packets.specs.declared.packet.Packet.{Packet}
use Rattle.soup_session.specs.declared.port_fault.PortFault.{PortFault}
use Rattle.soup_session.specs.Faults.{fault_number}
use Rattle.soup_session.specs.States.{is_up}
use Rattle.soup_session.specs.Table.{OnUp, OnGone, OnTick, PortStanding, arrives, heard_now, passed, quiet_answer}
use Rattle.market_sim.specs.declared.link.SimLink.{SimLink}
use Rattle.market_sim.specs.declared.link.SimLink.TheVariants.{NoLink, Connected}
use Rattle.market_sim.specs.Outbound.{outbound_bytes}
use Rattle.gate_law.specs.Settings.{Settings, has_port, port_of, terms}
use Rattle.gate_law.specs.Events.{Event, ClientUp, ClientMessage, ClientGone, ClientTick, PortUp, PortPacket, PortGone}
use Rattle.gate_law.specs.Events.{PortTick, Batch}
use Rattle.gate_law.specs.Lists.{Lists, turned}
use Rattle.gate_law.specs.Sessions.{client_answer, fault_in}
use Rattle.gate_law.specs.Outcome.{LinkMove, Stays, Comes, Goes as Leaves, Refused, Outcome, addressee, asked, bodies}
use Rattle.gate_law.specs.Outcome.{by_app, by_event, by_fault, by_payload, client_up, is_stepped, nothing, of_client}
use Rattle.gate_law.specs.Outcome.{of_port, outcome, port_up, told_outcome}
use Rattle.gate_law.specs.After.{lists_after}
use Rattle.gate_law.specs.Due.{Gives, port_named}
use Rattle.world_law.specs.World.{Connection, is_clients}
use Rattle.world_law.proofs.Stands.{arrives-next}
use Rattle.world_law.proofs.InStep.{told, told_link}
use Rattle.world_law.proofs.Core.{StepIn, PacketCase, Quiet, Next, came-step, delivered, fault-is, gone-event}
use Rattle.world_law.proofs.Core.{handled-one, none-is, outcome-is, packet-case, stands_at, stepped, undelivered}
use Rattle.world_law.proofs.Core.{other-step, quiet-other, quiet-own, tick-event, turns-are, up-event}

-- What is left unhandled after an event, of what the market said; and the two ends are in step, where the event leaves
-- the market's link and the
-- connection so.
pub record Goes (s : Settings) (e : Event) (b : Batch) (v : Lists) (q : ℕ) (newer : List Outbound) (market : SimLink) (connection : Option Connection) : Type 0 where
  pub left : List Outbound
  pub split : newer ++ handled q v.turns ≡ left ++ handled q (lists_after s e b v).turns
  pub step : StepIn s (lists_after s e b v) q (length (handled q (lists_after s e b v).turns)) left market connection

-- nothing more is handled
goes-same : (s : Settings) (e : Event) (b : Batch) (v : Lists) (q : ℕ) (newer : List Outbound) (market : SimLink)
    (connection : Option Connection) → handled q (lists_after s e b v).turns ≡ handled q v.turns
    → StepIn s (lists_after s e b v) q (length (handled q v.turns)) newer market connection
    → Goes s e b v q newer market connection
goes-same s e b v q newer market connection same k = record {
  left = newer;
  split = ap (λ (hs : List Outbound). newer ++ hs) (sym same);
  step = subst (λ (hs : List Outbound). StepIn s (lists_after s e b v) q (length hs) newer market connection)
      (sym same) k;
}

-- ---- events that have nothing for a port

pub record IsQuiet (o : Outcome) : Type 0 where
  pub calls : o.port_calls ≡ []
  pub link : o.port_link ≡ Stays
  pub turn : o.turn ≡ None
  pub fault : o.fault ≡ None

quiet-nothing : IsQuiet nothing
quiet-nothing = record { calls = refl; link = refl; turn = refl; fault = refl }

quiet-client : (client : ℕ) (move : LinkMove) (calls : List Timed) → IsQuiet (of_client client move calls)
quiet-client client move calls = record { calls = refl; link = refl; turn = refl; fault = refl }

quiet-if : (c : Bool) (x y : Outcome) → IsQuiet x → IsQuiet y → IsQuiet (if c then x else y)
quiet-if true x y p q = p
quiet-if false x y p q = q

-- what is told, of the port that an event names, and what is not, of another
pub record EventGoes (s : Settings) (e : Event) (b : Batch) (v : Lists) (q : ℕ) (newer : List Outbound) (market : SimLink) (connection : Option Connection) : Type 0 where
  pub named : (asks : List Asked) → (q == port_named s e) ≡ true
      → Goes s e b v q newer (told_link b.port_out connection market) (told b.port_out asks connection)
  pub unnamed : (q == port_named s e) ≡ false → Goes s e b v q newer market connection
  pub fault : b.fault ≡ None

module _ (s : Settings) (e : Event) (b : Batch) (v : Lists) (g : Gives s e b v) (q : ℕ) (newer : List Outbound)
    (market : SimLink) (connection : Option Connection)
    (k : StepIn s v q (length (handled q v.turns)) newer market connection) where
  pub quiet-goes : (o : Outcome) → outcome s e b v ≡ o → IsQuiet o → EventGoes s e b v q newer market connection
  quiet-goes o is quiet = record {
    named = λ asks same. goes-same s e b v q newer _ _ turns
        (quiet-own s e b v g o is (length (handled q v.turns)) newer market connection q asks quiet.calls quiet.link k);
    unnamed = λ other. goes-same s e b v q newer market connection turns
        (quiet-other s e b v g o is (length (handled q v.turns)) newer market connection q quiet.calls quiet.link k);
    fault = fault-is s e b v g o is ∙ quiet.fault;
  }
    where
      turns : handled q (lists_after s e b v).turns ≡ handled q v.turns
      turns = ap (handled q) (turns-are s e b v g o is ∙ ap (λ t. (turned t v).turns) quiet.turn)

  -- an event of one port, which handles nothing: of any other port
  pub apart-goes : (o : Outcome) → outcome s e b v ≡ o → port_named s e ≡ o.port
      → handled q (turned o.turn v).turns ≡ handled q v.turns → (q == port_named s e) ≡ false
      → Goes s e b v q newer market connection
  apart-goes o is named same other =
      goes-same s e b v q newer market connection (ap (handled q) (turns-are s e b v g o is) ∙ same)
      (other-step s e b v g o is (length (handled q v.turns)) newer market connection q named
      (ap (λ (p : ℕ). q == p) (sym named) ∙ other) k)

-- ---- a client's event, or a tick

module _ (s : Settings) (b : Batch) (v : Lists) (q : ℕ) (newer : List Outbound) (market : SimLink)
    (connection : Option Connection)
    (k : StepIn s v q (length (handled q v.turns)) newer market connection) where
  -- what of this event holds of the port that it names holds of this one, if it is the same
  on-named : (e : Event) (p : ℕ) → port_named s e ≡ p
      → (StepIn s v p (length (handled p v.turns)) newer market connection → (asks : List Asked)
      → Goes s e b v p newer (told_link b.port_out connection market) (told b.port_out asks connection))
      → (asks : List Asked) → (q == port_named s e) ≡ true
      → Goes s e b v q newer (told_link b.port_out connection market) (told b.port_out asks connection)
  on-named e p named does asks same =
      let is : q ≡ p = eqb-true q (port_named s e) same ∙ named in
      subst (λ (r : ℕ). Goes s e b v r newer (told_link b.port_out connection market) (told b.port_out asks connection))
      (sym is)
      (does (subst (λ (r : ℕ). StepIn s v r (length (handled r v.turns)) newer market connection) is k) asks)

  by-message : (client link at : ℕ) (frame : Message) → Gives s (ClientMessage client link at frame) b v
      → Headline (terms s) (turned (outcome s (ClientMessage client link at frame) b v).turn v).turns
      → EventGoes s (ClientMessage client link at frame) b v q newer market connection
  by-message client link at frame g headline =
      by_step (is_stepped s e v) refl (client_answer s client (v.client_calls client) (at, OnMessage frame)).app refl
    where
      e : Event
      e = ClientMessage client link at frame

      by_step : (c : Bool) → is_stepped s e v ≡ c → (app : Option AppMsg)
          → (client_answer s client (v.client_calls client) (at, OnMessage frame)).app ≡ app
          → EventGoes s e b v q newer market connection
      by_step false off app is = quiet-goes s e b v g q newer market connection k nothing
          (cond-false (is_stepped s e v) _ _ off) quiet-nothing
      by_step true on None is =
          quiet-goes s e b v g q newer market connection k (of_client client Stays ((at, OnMessage frame) ∷ []))
          (cond-true (is_stepped s e v) _ _ on ∙ ap (by_app s client at frame b v) is) (quiet-client client Stays _)
      by_step true on (Some app) is = record {
        named = on-named e (port_of s client) refl (λ own asks.
            goes-same s e b v (port_of s client) newer _ _
            (ap (handled (port_of s client)) (turns-are s e b v g o outcome_is))
            (came-step s b v client link at frame app g outcome_is
            (subst (λ (r : Outcome). Headline (terms s) (turned r.turn v).turns) outcome_is headline)
            (length (handled (port_of s client) v.turns)) newer market connection asks own));
        unnamed = λ other. apart-goes s e b v g q newer market connection k o outcome_is refl refl other;
        fault = fault-is s e b v g o outcome_is;
      }
        where
          o : Outcome
          o = asked s client at frame b v app

          outcome_is : outcome s e b v ≡ asked s client at frame b v app
          outcome_is = cond-true (is_stepped s e v) _ _ on ∙ ap (by_app s client at frame b v) is

  by-tick : (p at : ℕ) → Gives s (PortTick p at) b v → EventGoes s (PortTick p at) b v q newer market connection
  by-tick p at g = by_step (is_stepped s (PortTick p at) v) refl
    where
      by_step : (c : Bool) → is_stepped s (PortTick p at) v ≡ c
          → EventGoes s (PortTick p at) b v q newer market connection
      by_step false off = quiet-goes s (PortTick p at) b v g q newer market connection k nothing
          (cond-false (is_stepped s (PortTick p at) v) _ _ off) quiet-nothing
      by_step true on = record {
        named = on-named (PortTick p at) p refl (λ own asks.
            goes-same s (PortTick p at) b v p newer _ _
            (ap (handled p) (turns-are s (PortTick p at) b v g o outcome_is))
            (tick-event s b v p (length (handled p v.turns)) newer market at connection asks g outcome_is own));
        unnamed = λ other. apart-goes s (PortTick p at) b v g q newer market connection k o outcome_is refl refl other;
        fault = fault-is s (PortTick p at) b v g o outcome_is;
      }
        where
          o : Outcome
          o = of_port p Stays (OnTick at ∷ [])

          outcome_is : outcome s (PortTick p at) b v ≡ of_port p Stays (OnTick at ∷ [])
          outcome_is = cond-true (is_stepped s (PortTick p at) v) _ _ on

  -- an event of a client that brings no message
  by-client : (e : Event) → IsQuiet (by_event s e b v) → Gives s e b v → EventGoes s e b v q newer market connection
  by-client e quiet g = quiet-goes s e b v g q newer market connection k (outcome s e b v) refl
      (quiet-if (is_stepped s e v) (by_event s e b v) nothing quiet quiet-nothing)

  quiet-up : (client link at : ℕ) (current : Option ℕ) → IsQuiet (client_up client link at current)
  quiet-up client link at None = quiet-client client (Comes link) _
  quiet-up client link at (Some n) = quiet-if (n == link) nothing (of_client client (Refused link) []) quiet-nothing
      (quiet-client client (Refused link) [])

  pub client-goes : (e : Event) → is_clients e ≡ true → Gives s e b v
      → Headline (terms s) (turned (outcome s e b v).turn v).turns → EventGoes s e b v q newer market connection
  client-goes (ClientUp client link at) is g headline =
      by-client (ClientUp client link at) (quiet-up client link at (v.client_link client)) g
  client-goes (ClientMessage client link at frame) is g headline = by-message client link at frame g headline
  client-goes (ClientGone client link at) is g headline =
      by-client (ClientGone client link at) (quiet-client client Leaves _) g
  client-goes (ClientTick client at) is g headline = by-client (ClientTick client at) (quiet-client client Stays _) g
  client-goes (PortUp p link at) is g headline = absurd (cc)
  client-goes (PortPacket p link at packet) is g headline = absurd (cc)
  client-goes (PortGone p link at) is g headline = absurd (cc)
  client-goes (PortTick p at) is g headline = by-tick p at g

-- ---- an event of a port's link

-- a link comes up, and the market's end with it, on a new connection
pub up-goes : (s : Settings) (b : Batch) (v : Lists) (p link at : ℕ) (newer : List Outbound) (market : SimLink)
    (c : Connection) (asks : List Asked) → Gives s (PortUp p link at) b v → has_port s p ≡ true
    → c.link ≡ link → c.to_market ≡ [] → c.to_core ≡ [] → StepIn s v p (length (handled p v.turns)) newer market None
    → Goes s (PortUp p link at) b v p newer (told_link b.port_out (Some c) Connected) (told b.port_out asks (Some c))
up-goes s b v p link at newer market c asks g has same empty none k =
    goes-same s (PortUp p link at) b v p newer _ _
    (ap (handled p) (turns-are s (PortUp p link at) b v g (of_port p (Comes link) (OnUp at ∷ [])) is))
    (up-event s b v p (length (handled p v.turns)) newer market link at c asks g is same empty none k)
  where
    is : outcome s (PortUp p link at) b v ≡ of_port p (Comes link) (OnUp at ∷ [])
    is = let on : is_stepped s (PortUp p link at) v ≡ true = rw has refl in
        cond-true (is_stepped s (PortUp p link at) v) _ _ on ∙ ap (port_up p link at) k.1.core_link

pub up-apart : (s : Settings) (b : Batch) (v : Lists) (p link at q : ℕ) (newer : List Outbound) (market : SimLink)
    (connection : Option Connection) → Gives s (PortUp p link at) b v → has_port s p ≡ true → v.port_link p ≡ None
    → StepIn s v q (length (handled q v.turns)) newer market connection → (q == p) ≡ false
    → Goes s (PortUp p link at) b v q newer market connection
up-apart s b v p link at q newer market connection g has off k other =
    apart-goes s (PortUp p link at) b v g q newer market connection k
    (of_port p (Comes link) (OnUp at ∷ [])) is refl refl other
  where
    is : outcome s (PortUp p link at) b v ≡ of_port p (Comes link) (OnUp at ∷ [])
    is = let on : is_stepped s (PortUp p link at) v ≡ true = rw has refl in
        cond-true (is_stepped s (PortUp p link at) v) _ _ on ∙ ap (port_up p link at) off

pub up-fault : (s : Settings) (b : Batch) (v : Lists) (p link at : ℕ) → Gives s (PortUp p link at) b v
    → has_port s p ≡ true → v.port_link p ≡ None → b.fault ≡ None
up-fault s b v p link at g has off = fault-is s (PortUp p link at) b v g (of_port p (Comes link) (OnUp at ∷ [])) is
  where
    is : outcome s (PortUp p link at) b v ≡ of_port p (Comes link) (OnUp at ∷ [])
    is = let on : is_stepped s (PortUp p link at) v ≡ true = rw has refl in
        cond-true (is_stepped s (PortUp p link at) v) _ _ on ∙ ap (port_up p link at) off

-- it is gone, and the connection with it
module _ (s : Settings) (b : Batch) (v : Lists) (p link at : ℕ) (g : Gives s (PortGone p link at) b v) (has : has_port s p ≡ true) (current : v.port_link p ≡ Some link) where
  gone-is : outcome s (PortGone p link at) b v ≡ of_port p Leaves (OnGone ∷ [])
  gone-is = let on : is_stepped s (PortGone p link at) v ≡ true = rw (has, current) (eq-eqb link link refl) in
      cond-true (is_stepped s (PortGone p link at) v) _ _ on

  pub gone-goes : (newer : List Outbound) (market : SimLink) (c : Connection) (asks : List Asked)
      → StepIn s v p (length (handled p v.turns)) newer market (Some c)
      → Goes s (PortGone p link at) b v p newer NoLink None
  gone-goes newer market c asks k =
      goes-same s (PortGone p link at) b v p newer _ _
      (ap (handled p) (turns-are s (PortGone p link at) b v g (of_port p Leaves (OnGone ∷ [])) gone-is))
      (gone-event s b v p (length (handled p v.turns)) newer market link at c asks g gone-is k)

  pub gone-apart : (q : ℕ) (newer : List Outbound) (market : SimLink) (connection : Option Connection)
      → StepIn s v q (length (handled q v.turns)) newer market connection → (q == p) ≡ false
      → Goes s (PortGone p link at) b v q newer market connection
  gone-apart q newer market connection k other =
      apart-goes s (PortGone p link at) b v g q newer market connection k
      (of_port p Leaves (OnGone ∷ [])) gone-is refl refl other

  pub gone-fault : b.fault ≡ None
  gone-fault = fault-is s (PortGone p link at) b v g (of_port p Leaves (OnGone ∷ [])) gone-is

-- ---- a packet from the market

-- a message that another port handles
handled-other : (q p : ℕ) (t : OrderTurn) (heard : Result Outbound DecodeRefusal) (before : OrderHistory)
    → t.event ≡ Heard p heard → (q == p) ≡ false → handled q (t ∷ before) ≡ handled q before
handled-other q p t (Ok m) before is other =
    rw is (by_port (p == q) (ne_eqb p q (λ same. eqb-false q p other (sym same))))
  where
    by_port : (c : Bool) → c ≡ false → (if c && not (is_some t.fault) then m ∷ handled q before else handled q before)
        ≡ handled q before
    by_port true e = absurd (cc)
    by_port false e = refl
handled-other q p t (Err refusal) before is other = rw is refl

-- what it comes to on its own port and on others; it is no fault
pub record PacketGoes (s : Settings) (b : Batch) (v : Lists) (p at : ℕ) (packet : Packet) (newer : List Outbound) (market : SimLink) (c : Connection) (rest : List Packet) : Type 0 where
  pub own : (asks : List Asked) → Goes s (PortPacket p c.link at packet) b v p newer
      (told_link b.port_out (Some (record c { to_core = rest })) market)
      (told b.port_out asks (Some (record c { to_core = rest })))
  pub apart : (q : ℕ) (later : List Outbound) (link : SimLink) (connection : Option Connection)
      → StepIn s v q (length (handled q v.turns)) later link connection → (q == p) ≡ false
      → Goes s (PortPacket p c.link at packet) b v q later link connection
  pub fault : b.fault ≡ None

-- What is asked of it: it is the oldest that is on its way on the current link, and where it brings the next message,
-- that is no fault.
module _ (s : Settings) (b : Batch) (v : Lists) (p at : ℕ) (packet : Packet) (newer : List Outbound) (market : SimLink)
    (c : Connection) (rest : List Packet) (g : Gives s (PortPacket p c.link at packet) b v)
    (has : has_port s p ≡ true) (way : c.to_core ≡ packet ∷ rest) (few : length (handled p v.turns) + 1 < 2 ^ 63)
    (k : StepIn s v p (length (handled p v.turns)) newer market (Some c))
    (headline : Headline (terms s) (turned (outcome s (PortPacket p c.link at packet) b v).turn v).turns)
    (lawful : (m : Outbound) (later : List Outbound) → reverse newer ≡ m ∷ later → (judgement (terms s) p (Ok m) v.turns ≡ None) × (decoded (outbound_bytes m) ≡ Ok m)) where
  abbrev e : Event
  e = PortPacket p c.link at packet

  on : is_stepped s e v ≡ true
  on = stepped s b v p (length (handled p v.turns)) newer market c.link at packet g c rest [] has k.1

  pub packet-goes : PacketGoes s b v p at packet newer market c rest
  packet-goes = by_case (packet-case s b v p
      (length (handled p v.turns)) newer market c.link at packet g c rest [] way few k)
    where
      by_case : PacketCase s b v p (length (handled p v.turns)) newer market c.link at packet g c rest []
          → PacketGoes s b v p at packet newer market c rest
      by_case (Quiet y answered up step) = record {
        own = λ asks. goes-same s e b v p newer _ _ (ap (handled p) (turns-are s e b v g o is))
            (undelivered s b v p (length (handled p v.turns)) newer market c.link at packet g c rest asks y is answered
            (ap is_up up) step);
        apart = λ q later link connection own other. apart-goes s e b v g q later link connection own o is refl refl
            other;
        fault = fault-is s e b v g o is ∙ ap fault_in up;
      }
        where
          o : Outcome
          o = by_payload p at packet b (quiet_answer y) None

          is : outcome s e b v ≡ by_payload p at packet b (quiet_answer y) None
          is = outcome-is s b v p (length (handled p v.turns)) newer market c.link at packet g c rest [] on
              (quiet_answer y) answered
      by_case (Next m later oldest answered number step) = record {
        own = λ asks. record {
          left = reverse later;
          split =
              ap (λ (xs : List Outbound). xs ++ handled p v.turns)
              (sym (reverse-reverse newer) ∙ ap reverse oldest ∙ reverse-append (m ∷ []) later)
              ∙ append_assoc (reverse later) (m ∷ []) (handled p v.turns)
              ∙ ap (λ (hs : List Outbound). reverse later ++ hs) (sym more);
          step =
              let n : length (handled p v.turns) + 1 ≡ length (handled p (lists_after s e b v).turns) =
              (let more_length : length (handled p (lists_after s e b v).turns) ≡ suc (length (handled p v.turns)) =
              ap length more in omega (arith, more_length)) in
              subst (λ (n : ℕ). StepIn s (lists_after s e b v) p n (reverse later)
              (told_link b.port_out (Some (record c { to_core = rest })) market)
              (told b.port_out asks (Some (record c { to_core = rest })))) n
              (delivered s b v p (length (handled p v.turns)) newer market c.link at packet g c rest asks y payload
              (reverse later) is no_fault answered step);
        };
        apart = λ q later link connection own other. apart-goes s e b v g q later link connection own
            (told_outcome p at packet b payload) is (named_same b.fault)
            (handled-other q p the_turn (decoded payload) v.turns refl other) other;
        fault = no_fault;
      }
        where
          payload : List ℕ
          payload = outbound_bytes m

          y : PortStanding
          y = heard_now (passed at (stands_at s v p))

          the_turn : OrderTurn
          the_turn = record {
            event = Heard p (decoded payload);
            client = addressee b;
            bodies = bodies b;
            sends =
                [];
            fault = option_map fault_number b.fault;
          }

          named_same : (f : Option PortFault) → p ≡ (record (by_fault p at packet b f) { turn = Some the_turn }).port
          named_same None = refl
          named_same (Some fault) = refl

          is : outcome s e b v ≡ told_outcome p at packet b payload
          is =
              outcome-is s b v p (length (handled p v.turns)) newer market c.link at packet g c rest [] on
              (arrives y payload) answered
              ∙ ap (by_payload p at packet b (arrives y payload)) (arrives-next y payload number)

          turn_is : (lists_after s e b v).turns ≡ the_turn ∷ v.turns
          turn_is = turns-are s e b v g (told_outcome p at packet b payload) is

          kept : Headline (terms s) (the_turn ∷ v.turns)
          kept = subst (λ (r : Outcome). Headline (terms s) (turned r.turn v).turns) is headline

          no_fault : b.fault ≡ None
          no_fault = none-is s b v p (length (handled p v.turns)) newer market c.link at packet g c rest [] b.fault
              (kept.0.answers.fault ∙ ap (λ heard. judgement (terms s) p heard v.turns) (lawful m later oldest).1
              ∙ (lawful m later oldest).0)

          more : handled p (lists_after s e b v).turns ≡ m ∷ handled p v.turns
          more =
              ap (handled p) turn_is
              ∙ handled-one s b v p (length (handled p v.turns)) newer market c.link at packet g c rest [] the_turn m
              (ap (Heard p) (lawful m later oldest).1) (ap (option_map fault_number) no_fault)
