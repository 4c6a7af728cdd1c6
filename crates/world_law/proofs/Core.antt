-- What an event of the gateway makes of a port's link and of its session's calls, and how it keeps the port in step
-- with its market.
use Rattle.std.proofs.Common.{◌≡◌, ◌<◌, ◌+◌, ◌^◌, ◌==◌, ℕ, Bool, true, false, List, [], ◌∷◌, ◌++◌, reverse, refl, sym}
use Rattle.std.proofs.Common.{ap, ◌∙◌, subst, arith, Option, Some, None, inl, inr, eq-eqb}
use Rattle.std.proofs.lemmas.Bool.{cond-true, cond-false, eqb-false, ne_eqb}
use Rattle.std.proofs.lemmas.List.{append-nil}
use Rattle.std.specs.Prelude.{◌&&◌, if◌then◌else◌, Ok, option_map}
use Rattle.session_law.specs.fix_types.declared.application.AppMsg.{AppMsg}
use Rattle.fix_fields.specs.Field.{Message}
use Rattle.order_law.specs.ouch_codec.declared.outbound.Outbound.{Outbound}
use Rattle.order_law.specs.ouch_codec.Values.{decoded}
use Rattle.order_law.specs.History.{Asked, Heard, OrderTurn, handled}
use Rattle.order_law.specs.Headline.{Headline, Sends}
use Rattle.soup_packets.specs.declared.packet.Packet.{Packet}
use Rattle.soup_session.specs.declared.port_fault.PortFault.{PortFault}
use Rattle.soup_session.specs.declared.port_state.PortState.{PortState}
use Rattle.soup_session.specs.declared.port_state.PortState.TheVariants.{Down, LoggingIn, Up, Ended, Faulted}
use Rattle.soup_session.specs.Faults.{fault_number}
use Rattle.soup_session.specs.States.{is_open, is_up}
use Rattle.soup_session.specs.Table.{PortCall, OnUp, OnPacket, OnGone, OnTick, PortAnswer, PortStanding, answer_in}
use Rattle.soup_session.specs.Table.{arrives, heard_now, passed, quiet_answer, standing, wanted}
use Rattle.market_sim.specs.declared.link.SimLink.{SimLink}
use Rattle.market_sim.specs.declared.link.SimLink.TheVariants.{NoLink, Connected}
use Rattle.market_sim.specs.Outbound.{outbound_bytes}
use Rattle.market_sim.specs.Sim.{accepts_login, market_session}
use Rattle.gate_law.specs.Settings.{Settings, has_port, port_of, port_terms, terms}
use Rattle.gate_law.specs.Events.{Event, ClientMessage, PortUp, PortPacket, PortGone, PortTick, LinkOut, Batch}
use Rattle.gate_law.specs.Lists.{Lists, turned}
use Rattle.gate_law.specs.Sessions.{port_answer, port_outs, port_state, sends, stands_of, to_port}
use Rattle.gate_law.specs.Outcome.{LinkMove, Stays, Comes, Goes, Outcome, addressee, asked, bodies, by_fault}
use Rattle.gate_law.specs.Outcome.{by_payload, is_stepped, messages, of_port, outcome, told_outcome}
use Rattle.gate_law.specs.After.{lists_after, links_closed, port_moved, unless_closed, with_outcome}
use Rattle.gate_law.specs.Due.{Gives, port_named, to_port_of}
use Rattle.gate_law.proofs.Parts.{called, moved-other, other-calls, own-calls}
use Rattle.gate_law.proofs.Links.{link-due, same-if}
use Rattle.gate_law.proofs.Telling.{turns-after}
use Rattle.world_law.specs.World.{Connection}
use Rattle.world_law.proofs.Stands.{Alike, accepted-answer, beat-answer, gone-answer, idle-answer, sends-alike}
use Rattle.world_law.proofs.Stands.{sends-outs, sequenced-answer, tick-answer, up-answer}
use Rattle.world_law.proofs.Behind.{AreBehind, FirstBehind, Beats, Says, first-behind}
use Rattle.world_law.proofs.InStep.{InStep, IsServing, OnConnection, Told, accepted-step, beaten-step, gone-step}
use Rattle.world_law.proofs.InStep.{quiet-step, sends-step, sequenced-step, step-open, tick-step, told, told_link}
use Rattle.world_law.proofs.InStep.{unsaid-step, up-step}

-- ---- the lists after an event whose outcome this is

module _ (s : Settings) (e : Event) (b : Batch) (v : Lists) (g : Gives s e b v) (o : Outcome) (is : outcome s e b v ≡ o) where
  after-is : lists_after s e b v ≡ links_closed b (with_outcome o v)
  after-is = ap (λ (r : Outcome). links_closed b (with_outcome r v)) is

  outs-are : b.port_out ≡ to_port_of s o v
  outs-are = g.port_out ∙ ap (λ (r : Outcome). to_port_of s r v) is

  pub fault-is : b.fault ≡ o.fault
  fault-is = g.fault ∙ ap (λ (r : Outcome). r.fault) is

  pub turns-are : (lists_after s e b v).turns ≡ (turned o.turn v).turns
  turns-are = ap (λ (x : Lists). x.turns) after-is ∙ turns-after o b v

  -- of its own port
  pub own-after : (P : Option ℕ → List PortCall → List LinkOut → Type 0) → port_named s e ≡ o.port
      → P (unless_closed (to_port_of s o v) ((port_moved o.port o.port_link v).port_link o.port))
      (called o.port_calls (v.port_calls o.port)) (to_port_of s o v)
      → P ((lists_after s e b v).port_link o.port) ((lists_after s e b v).port_calls o.port) b.port_out
  own-after P named k =
      let link : (lists_after s e b v).port_link o.port
      ≡ unless_closed b.port_out ((port_moved o.port o.port_link v).port_link o.port) =
      ap (λ (x : Lists). x.port_link o.port) after-is ∙ link-due s e b v o o.port g.port
      ∙ cond-true (port_named s e == o.port) _ _ (eq-eqb (port_named s e) o.port named) in
      let calls : (lists_after s e b v).port_calls o.port ≡ called o.port_calls (v.port_calls o.port) =
      ap (λ (x : Lists). x.port_calls o.port) after-is ∙ own-calls o b v o.port (eq-eqb o.port o.port refl) in
      subst (λ l. P l ((lists_after s e b v).port_calls o.port) b.port_out) (sym link)
      (subst (λ cs. P (unless_closed b.port_out ((port_moved o.port o.port_link v).port_link o.port)) cs b.port_out)
      (sym calls)
      (subst (λ outs. P (unless_closed outs ((port_moved o.port o.port_link v).port_link o.port))
      (called o.port_calls (v.port_calls o.port)) outs) (sym outs-are) k))

  -- of another one
  pub other-after : (P : Option ℕ → List PortCall → Type 0) (q : ℕ) → port_named s e ≡ o.port → (q == o.port) ≡ false
      → P (v.port_link q) (v.port_calls q)
      → P ((lists_after s e b v).port_link q) ((lists_after s e b v).port_calls q)
  other-after P q named other k =
      let apart : (port_named s e == q) ≡ false =
      ne_eqb (port_named s e) q (λ same. eqb-false q o.port other (sym same ∙ named)) in
      let link : (lists_after s e b v).port_link q ≡ v.port_link q =
      ap (λ (x : Lists). x.port_link q) after-is ∙ link-due s e b v o q g.port
      ∙ cond-false (port_named s e == q) _ _ apart ∙ moved-other o.port q o.port_link v other in
      let calls : (lists_after s e b v).port_calls q ≡ v.port_calls q = ap (λ (x : Lists). x.port_calls q) after-is
      ∙ other-calls o b v q other in
      subst (λ l. P l ((lists_after s e b v).port_calls q)) (sym link) (subst (P (v.port_link q)) (sym calls) k)

  -- the outcome has nothing for a port
  pub quiet-after : (P : Option ℕ → List PortCall → List LinkOut → Type 0) (q : ℕ) → o.port_calls ≡ []
      → o.port_link ≡ Stays → P (v.port_link q) (v.port_calls q) []
      → P ((lists_after s e b v).port_link q) ((lists_after s e b v).port_calls q) b.port_out
  quiet-after P q none stays k =
      subst (λ l. P l ((lists_after s e b v).port_calls q) b.port_out) (sym link)
      (subst (λ cs. P (v.port_link q) cs b.port_out) (sym calls)
      (subst (P (v.port_link q) (v.port_calls q)) (sym outs) k))
    where
      nobody : (l : Option ℕ) → to_port l [] ≡ []
      nobody None = refl
      nobody (Some n) = refl

      outs : b.port_out ≡ []
      outs =
          outs-are
          ∙ ap (λ (move : LinkMove). to_port_of s (record o { port_link = move }) v) stays
          ∙ ap (λ (cs : List PortCall). to_port_of s (record o { port_link = Stays; port_calls = cs }) v) none
          ∙ nobody (v.port_link o.port)

      moved : (port_moved o.port o.port_link v).port_link q ≡ v.port_link q
      moved = ap (λ move. (port_moved o.port move v).port_link q) stays

      link : (lists_after s e b v).port_link q ≡ v.port_link q
      link =
          ap (λ (x : Lists). x.port_link q) after-is
          ∙ link-due s e b v o q g.port
          ∙ ap (λ lines. if port_named s e == q then unless_closed lines
          ((port_moved o.port o.port_link v).port_link q) else (port_moved o.port o.port_link v).port_link q) outs
          ∙ same-if (port_named s e == q) ((port_moved o.port o.port_link v).port_link q)
          ∙ moved

      by_port : (c : Bool) → (q == o.port) ≡ c → (links_closed b (with_outcome o v)).port_calls q ≡ v.port_calls q
      by_port true same = own-calls o b v q same ∙ ap (λ cs. called cs (v.port_calls q)) none
      by_port false other = other-calls o b v q other

      calls : (lists_after s e b v).port_calls q ≡ v.port_calls q
      calls = ap (λ (x : Lists). x.port_calls q) after-is ∙ by_port (q == o.port) refl

-- ---- a port in step

abbrev pub stands_at : Settings → Lists → ℕ → PortStanding
stands_at s v p = standing (port_terms s p) (v.port_calls p)

-- a port and its market are in step, where so many messages are handled, these aren't, and the connection is this one
abbrev pub StepIn : Settings → Lists → ℕ → ℕ → List Outbound → SimLink → Option Connection → Type 0
StepIn s v p count newer market connection =
    InStep (port_terms s p) (v.port_link p) (stands_at s v p) count newer market connection

-- and so they are after an event, where the event leaves the connection so
abbrev pub StepAfter : Settings → Event → Batch → Lists → ℕ → List Asked → ℕ → List Outbound → SimLink
    → Option Connection → Type 0
StepAfter s e b v p asks count newer market connection =
    StepIn s (lists_after s e b v) p count newer (told_link b.port_out connection market)
    (told b.port_out asks connection)

module _ (s : Settings) (e : Event) (b : Batch) (v : Lists) (g : Gives s e b v) (o : Outcome) (is : outcome s e b v ≡ o) (count : ℕ) (newer : List Outbound) (market : SimLink) (connection : Option Connection) where
  -- an event that is of another port
  pub other-step : (q : ℕ) → port_named s e ≡ o.port → (q == o.port) ≡ false
      → StepIn s v q count newer market connection → StepIn s (lists_after s e b v) q count newer market connection
  other-step q named other k = other-after s e b v g o is
      (λ l cs. InStep (port_terms s q) l (standing (port_terms s q) cs) count newer market connection) q named other k

  -- an event that has nothing for a port: of any port
  pub quiet-own : (q : ℕ) (asks : List Asked) → o.port_calls ≡ [] → o.port_link ≡ Stays
      → StepIn s v q count newer market connection → StepAfter s e b v q asks count newer market connection
  quiet-own q asks none stays k =
      quiet-after s e b v g o is (λ l cs outs. InStep (port_terms s q) l (standing (port_terms s q) cs) count newer
      (told_link outs connection market) (told outs asks connection)) q none stays
      (quiet-step (port_terms s q) (v.port_link q) (stands_at s v q)
      (stands_at s v q) count newer market connection asks
      (record { state = refl; session = refl; arrived = refl; number = refl }) k)

  pub quiet-other : (q : ℕ) → o.port_calls ≡ [] → o.port_link ≡ Stays → StepIn s v q count newer market connection
      → StepIn s (lists_after s e b v) q count newer market connection
  quiet-other q none stays k = quiet-after s e b v g o is
      (λ l cs outs. InStep (port_terms s q) l (standing (port_terms s q) cs) count newer market connection) q none stays
      k

-- ---- a client's message that is delivered

-- a port that isn't up is sent nothing
silent : (state : PortState) (P : Asked → List ℕ → Type 0) (asks : List Asked) (ms : List (List ℕ))
    → is_up state ≡ false → Sends (stands_of state) P asks ms → ms ≡ []
silent Down P asks ms down none = none
silent LoggingIn P asks ms down none = none
silent Up P asks ms down all = absurd (cc)
silent Ended P asks ms down none = none
silent (Faulted fault) P asks ms down none = none

module _ (s : Settings) (b : Batch) (v : Lists) (client link at : ℕ) (frame : Message) (app : AppMsg) where
  abbrev came : Event
  came = ClientMessage client link at frame

  abbrev its_port : ℕ
  its_port = port_of s client

  pub came-step : Gives s came b v → outcome s came b v ≡ asked s client at frame b v app
      → Headline (terms s) (turned (asked s client at frame b v app).turn v).turns
      → (count : ℕ) (newer : List Outbound) (market : SimLink) (connection : Option Connection) (asks : List Asked)
      → StepIn s v its_port count newer market connection
      → StepAfter s came b v its_port asks count newer market connection
  unfolding port_state
  came-step g is headline count newer market connection asks k =
      own-after s came b v g (asked s client at frame b v app) is
      (λ l cs outs. InStep (port_terms s its_port) l (standing (port_terms s its_port) cs) count newer
      (told_link outs connection market) (told outs asks connection)) refl
      (subst (λ outs. InStep (port_terms s its_port) (unless_closed outs (v.port_link its_port))
      (standing (port_terms s its_port) (called (sends at (messages b)) (v.port_calls its_port))) count newer
      (told_link outs connection market) (told outs asks connection))
      (sym (ap (to_port (v.port_link its_port)) (sends-outs s its_port at (v.port_calls its_port) (messages b))))
      (sends-step (port_terms s its_port) (v.port_link its_port)
      (stands_at s v its_port) _ count newer market connection (messages b) asks
      (sends-alike (port_terms s its_port) at (messages b) (v.port_calls its_port))
      (λ down. silent (stands_at s v its_port).state _ _ (messages b) down headline.0.answers.sends) k))

-- ---- a port's own events

module _ (s : Settings) (b : Batch) (v : Lists) (p : ℕ) (count : ℕ) (newer : List Outbound) (market : SimLink) where
  abbrev x : PortStanding
  x = stands_at s v p

  -- a link comes up, and the market's end with it
  pub up-event : (link at : ℕ) (c : Connection) (asks : List Asked) → Gives s (PortUp p link at) b v
      → outcome s (PortUp p link at) b v ≡ of_port p (Comes link) (OnUp at ∷ []) → c.link ≡ link → c.to_market ≡ []
      → c.to_core ≡ []
      → StepIn s v p count newer market None → StepAfter s (PortUp p link at) b v p asks count newer Connected (Some c)
  unfolding port_answer
  up-event link at c asks g is same empty none k =
      own-after s (PortUp p link at) b v g (of_port p (Comes link) (OnUp at ∷ [])) is
      (λ l cs outs. InStep (port_terms s p) l (standing (port_terms s p) cs) count newer
      (told_link outs (Some c) Connected) (told outs asks (Some c))) refl
      (subst (λ l. InStep (port_terms s p) (unless_closed (to_port l (port_outs s p (v.port_calls p) (OnUp at ∷ []))) l)
      (standing (port_terms s p) (OnUp at ∷ v.port_calls p)) count newer
      (told_link (to_port l (port_outs s p (v.port_calls p) (OnUp at ∷ []))) (Some c) Connected)
      (told (to_port l (port_outs s p (v.port_calls p) (OnUp at ∷ []))) asks (Some c)))
      (sym (cond-true (p == p) _ _ (eq-eqb p p refl) ∙ ap Some (sym same)))
      (subst (λ (a : PortAnswer). InStep (port_terms s p)
      (unless_closed (to_port (Some c.link) (a.outs ++ [])) (Some c.link)) a.after count newer
      (told_link (to_port (Some c.link) (a.outs ++ [])) (Some c) Connected)
      (told (to_port (Some c.link) (a.outs ++ [])) asks (Some c)))
      (sym (up-answer (port_terms s p) x at k.1.state))
      (up-step (port_terms s p) (v.port_link p) x count at newer market c asks empty none k)))

  -- it is gone, and the connection with it
  pub gone-event : (link at : ℕ) (c : Connection) (asks : List Asked) → Gives s (PortGone p link at) b v
      → outcome s (PortGone p link at) b v ≡ of_port p Goes (OnGone ∷ []) → StepIn s v p count newer market (Some c)
      → StepAfter s (PortGone p link at) b v p asks count newer NoLink None
  gone-event link at c asks g is k =
      own-after s (PortGone p link at) b v g (of_port p Goes (OnGone ∷ [])) is
      (λ l cs outs. InStep (port_terms s p) l (standing (port_terms s p) cs) count newer NoLink None) refl
      (subst (λ l. InStep (port_terms s p) (unless_closed (to_port l (port_outs s p (v.port_calls p) (OnGone ∷ []))) l)
      (standing (port_terms s p) (OnGone ∷ v.port_calls p)) count newer NoLink None)
      (sym (cond-true (p == p) _ _ (eq-eqb p p refl)))
      (subst (λ (a : PortAnswer). InStep (port_terms s p) None a.after count newer NoLink None)
      (sym (gone-answer (port_terms s p) x (step-open (port_terms s p) (v.port_link p) x count newer market c k)))
      (gone-step (port_terms s p) (v.port_link p) x (record x { state = Down }) count newer market c refl refl refl k)))

  -- time passes
  pub tick-event : (at : ℕ) (connection : Option Connection) (asks : List Asked) → Gives s (PortTick p at) b v
      → outcome s (PortTick p at) b v ≡ of_port p Stays (OnTick at ∷ []) → StepIn s v p count newer market connection
      → StepAfter s (PortTick p at) b v p asks count newer market connection
  unfolding port_answer
  tick-event at connection asks g is k =
      own-after s (PortTick p at) b v g (of_port p Stays (OnTick at ∷ [])) is
      (λ l cs outs. InStep (port_terms s p) l (standing (port_terms s p) cs) count newer
      (told_link outs connection market) (told outs asks connection)) refl
      (subst (λ outs. InStep (port_terms s p) (unless_closed (to_port (v.port_link p) outs) (v.port_link p))
      (answer_in (port_terms s p) x (OnTick at)).after count newer
      (told_link (to_port (v.port_link p) outs) connection market)
      (told (to_port (v.port_link p) outs) asks connection))
      (sym (append-nil (answer_in (port_terms s p) x (OnTick at)).outs)) (by_connection connection k))
    where
      by_connection : (connection : Option Connection) → StepIn s v p count newer market connection
          → InStep (port_terms s p) (unless_closed (to_port (v.port_link p)
          (answer_in (port_terms s p) x (OnTick at)).outs) (v.port_link p))
          (answer_in (port_terms s p) x (OnTick at)).after count newer
          (told_link (to_port (v.port_link p) (answer_in (port_terms s p) x (OnTick at)).outs) connection market)
          (told (to_port (v.port_link p) (answer_in (port_terms s p) x (OnTick at)).outs) asks connection)
      by_connection None k =
          subst (λ (a : PortAnswer). Told (port_terms s p) (v.port_link p) x count at newer market asks a
          (v.port_link p) None) (sym (idle-answer (port_terms s p) x at (ap is_open k.1.state)))
          (unsaid-step (port_terms s p) (v.port_link p) x count at newer market asks (passed at x) None
          (record { state = refl; session = refl; arrived = refl; number = refl }) k)
      by_connection (Some c) k =
          tick-step (port_terms s p) (v.port_link p) x count at newer market asks
          (answer_in (port_terms s p) x (OnTick at)) c
          (tick-answer (port_terms s p) x at (step-open (port_terms s p) (v.port_link p) x count newer market c k))
          k

  -- ---- a packet comes

  module _ (link at : ℕ) (packet : Packet) (g : Gives s (PortPacket p link at packet) b v) (c : Connection) (rest : List Packet) (asks : List Asked) where
    abbrev e : Event
    e = PortPacket p link at packet

    abbrev d : Connection
    d = record c { to_core = rest }

    -- one by which nothing is delivered: messages may be sent behind it
    pub undelivered : (y : PortStanding) → outcome s e b v ≡ by_payload p at packet b (quiet_answer y) None
        → answer_in (port_terms s p) x (OnPacket packet at) ≡ quiet_answer y → is_up y.state ≡ true
        → InStep (port_terms s p) (v.port_link p) y count newer market (Some d)
        → StepAfter s e b v p asks count newer market (Some d)
    unfolding port_answer
    undelivered y is answered up k =
        own-after s e b v g (by_payload p at packet b (quiet_answer y) None) is
        (λ l cs outs. InStep (port_terms s p) l (standing (port_terms s p) cs) count newer
        (told_link outs (Some d) market) (told outs asks (Some d))) refl
        (subst (λ outs. InStep (port_terms s p) (unless_closed (to_port (v.port_link p) outs) (v.port_link p))
        (standing (port_terms s p) (called (sends at (messages b)) (OnPacket packet at ∷ v.port_calls p))) count
        newer (told_link (to_port (v.port_link p) outs) (Some d) market)
        (told (to_port (v.port_link p) outs) asks (Some d)))
        (sym (ap (λ (a : PortAnswer). a.outs ++ port_outs s p (OnPacket packet at ∷ v.port_calls p)
        (sends at (messages b))) answered ∙ sends-outs s p at (OnPacket packet at ∷ v.port_calls p) (messages b)))
        (sends-step (port_terms s p) (v.port_link p) y _ count newer market (Some d) (messages b) asks
        (subst (λ (z : PortStanding). Alike z (standing (port_terms s p)
        (called (sends at (messages b)) (OnPacket packet at ∷ v.port_calls p))))
        (ap (λ (a : PortAnswer). a.after) answered)
        (sends-alike (port_terms s p) at (messages b) (OnPacket packet at ∷ v.port_calls p)))
        (λ down. absurd (let f : true ≡ false = sym up ∙ down in cc)) k))

    -- one that delivers its payload, which is no fault
    pub delivered : (y : PortStanding) (payload : List ℕ) (later : List Outbound)
        → outcome s e b v ≡ told_outcome p at packet b payload → b.fault ≡ None
        → answer_in (port_terms s p) x (OnPacket packet at) ≡ arrives y payload
        → InStep (port_terms s p) (v.port_link p) (arrives y payload).after (count + 1) later market (Some d)
        → StepAfter s e b v p asks (count + 1) later market (Some d)
    unfolding port_answer
    delivered y payload later is lawful answered k =
        own-after s e b v g o (is ∙ ap (λ (f : Option PortFault). record (by_fault p at packet b f) { turn = the_turn })
        lawful)
        (λ l cs outs. InStep (port_terms s p) l (standing (port_terms s p) cs) (count + 1) later
        (told_link outs (Some d) market) (told outs asks (Some d))) refl
        (subst (λ (a : PortAnswer). InStep (port_terms s p)
        (unless_closed (to_port (v.port_link p) (a.outs ++ [])) (v.port_link p)) a.after (count + 1) later
        (told_link (to_port (v.port_link p) (a.outs ++ [])) (Some d) market)
        (told (to_port (v.port_link p) (a.outs ++ [])) asks (Some d)))
        (sym answered)
        (unsaid-step (port_terms s p) (v.port_link p) (arrives y payload).after (count + 1) at later market asks
        (arrives y payload).after (Some d) (record { state = refl; session = refl; arrived = refl; number = refl })
        k))
      where
        the_turn : Option OrderTurn
        the_turn = Some (record {
          event = Heard p (decoded payload);
          client = addressee b;
          bodies = bodies b;
          sends =
              [];
          fault = option_map fault_number b.fault;
        })

        o : Outcome
        o = record (by_fault p at packet b None) { turn = the_turn }

    -- the packet is the market's Login Accepted, or a heartbeat: nothing is delivered; or the next sequenced packet
    pub data PacketCase : Type 0 where
      Quiet : (y : PortStanding) → answer_in (port_terms s p) x (OnPacket packet at) ≡ quiet_answer y → y.state ≡ Up
          → InStep (port_terms s p) (v.port_link p) y count newer market (Some d) → PacketCase
      Next : (m : Outbound) (later : List Outbound) → reverse newer ≡ m ∷ later
          → answer_in (port_terms s p) x (OnPacket packet at) ≡ arrives (heard_now (passed at x)) (outbound_bytes m)
          → x.number ≡ wanted x
          → InStep (port_terms s p) (v.port_link p) (arrives (heard_now (passed at x)) (outbound_bytes m)).after
          (count + 1) (reverse later) market (Some d) → PacketCase

    pub packet-case : c.to_core ≡ packet ∷ rest → count + 1 < 2 ^ 63 → StepIn s v p count newer market (Some c)
        → PacketCase
    packet-case way few k = by_state k.2
      where
        by_first : IsServing x newer market c → FirstBehind packet rest (reverse newer) → PacketCase
        by_first i (Beats is behind) = Quiet (heard_now (passed at x))
            (ap (λ (z : Packet). answer_in (port_terms s p) x (OnPacket z at)) is
            ∙ beat-answer (port_terms s p) x at (ap is_open i.state)) i.state
            (beaten-step (port_terms s p) (v.port_link p) x (heard_now (passed at x)) count newer market c rest
            (record { state = refl; session = refl; arrived = refl; number = refl }) i behind k)
        by_first i (Says m later newest is behind) = Next m later newest
            (ap (λ (z : Packet). answer_in (port_terms s p) x (OnPacket z at)) is
            ∙ sequenced-answer (port_terms s p) x at (outbound_bytes m) i.state) i.number
            (sequenced-step (port_terms s p) (v.port_link p) x count at newer later market c rest
            (outbound_bytes m) i behind k)

        by_state : OnConnection (port_terms s p) x count newer market c → PacketCase
        by_state (inl i) = absurd (let e : packet ∷ rest ≡ [] = sym way ∙ i.to_core in cc)
        by_state (inr (inl i)) =
            let lists : packet ∷ rest ≡ accepts_login (count + 1) ∷ i.rest = sym way ∙ i.to_core in
            let is : packet ≡ accepts_login (count + 1) = cc in
            let rest_is : rest ≡ i.rest = cc in
            Quiet (record (heard_now (passed at x)) { state = Up; session = market_session; number = count + 1 })
            (ap (λ (z : Packet). answer_in (port_terms s p) x (OnPacket z at)) is
            ∙ accepted-answer (port_terms s p) x at (count + 1) i.state k.0.session k.0.wants (omega arith) few)
            refl
            (accepted-step (port_terms s p) (v.port_link p) x
            (record (heard_now (passed at x)) { state = Up; session = market_session; number = count + 1 }) count
            newer market c rest refl refl refl refl
            (subst (λ (xs : List Packet). AreBehind xs (reverse newer)) (sym rest_is) i.behind) i.market_link k)
        by_state (inr (inr i)) = by_first i (first-behind packet rest (reverse newer)
            (subst (λ (xs : List Packet). AreBehind xs (reverse newer)) way i.behind))

    -- a packet on the current link is stepped
    pub stepped : has_port s p ≡ true → v.port_link p ≡ Some link → is_stepped s e v ≡ true
    stepped has on = rw (has, on) (eq-eqb link link refl)

    pub outcome-is : is_stepped s e v ≡ true → (a : PortAnswer) → answer_in (port_terms s p) x (OnPacket packet at) ≡ a
        → outcome s e b v ≡ by_payload p at packet b a a.payload
    unfolding port_answer
    outcome-is on a is = cond-true (is_stepped s e v) _ _ on
        ∙ ap (λ (r : PortAnswer). by_payload p at packet b r r.payload) is

    -- ---- what it comes to

    pub none-is : (f : Option PortFault) → option_map fault_number f ≡ None → f ≡ None
    none-is None is = refl
    none-is (Some fault) is = absurd (cc)

    pub handled-one : (t : OrderTurn) (m : Outbound) → t.event ≡ Heard p (Ok m) → t.fault ≡ None
        → handled p (t ∷ v.turns) ≡ m ∷ handled p v.turns
    handled-one t m heard lawful = rw (heard, lawful) (by_port (p == p) (eq-eqb p p refl))
      where
        by_port : (c : Bool) → c ≡ true → (if c && true then m ∷ handled p v.turns else handled p v.turns)
            ≡ m ∷ handled p v.turns
        by_port true is = refl
        by_port false is = absurd (cc)
