-- What becomes of a port at a packet that its market sends: a login that is accepted, a message, a heartbeat.
use Rattle.std.proofs.Common.{◌≡◌, ◌+◌, ◌==◌, ℕ, Bool, true, false, not, List, [], ◌∷◌, ◌++◌, length, Option, Some}
use Rattle.std.proofs.Common.{None, Result, Ok, refl, ap, sym, subst, ◌∙◌, eq-eqb, inl, inr, nat_lt, arith, bytes_eq}
use Rattle.std.proofs.Common.{option_map}
use Rattle.std.proofs.lemmas.Bool.{cond-true, cond-false}
use Rattle.std.proofs.lemmas.Bool.Decides.{nat_tests}
use Rattle.std.proofs.lemmas.Slice.Eq.{bytes_eq-Decides}
use Rattle.std.specs.Prelude.{◌&&◌, ◌⊎◌}
use Rattle.std.specs.List.{list_any}
use Rattle.soup_packets.specs.declared.packet.Packet.{Packet}
use Rattle.soup_packets.specs.Spelling.{packet_bytes}
use Rattle.soup_session.specs.declared.port_fault.PortFault.{PortFault}
use Rattle.soup_session.specs.declared.port_state.PortState.{PortState}
use Rattle.soup_session.specs.declared.port_state.PortState.TheVariants.{Down, LoggingIn, Up, Ended, Faulted}
use Rattle.soup_session.specs.declared.said.Said.{Said}
use Rattle.soup_session.specs.declared.said.Said.TheVariants.{Accepted, Sequenced, Nothing}
use Rattle.soup_session.specs.Faults.{fault_number}
use Rattle.soup_session.specs.States.{is_logging_in, is_up, is_open}
use Rattle.soup_session.specs.Reading.{said_of}
use Rattle.soup_session.specs.Writing.{message_packet}
use Rattle.soup_session.specs.Delivered.{delivered}
use Rattle.soup_session.specs.Table as table
use Rattle.soup_session.specs.Table.{LoginTerms, PortCall, OnPacket, Send, PortAnswer, PortStanding, blank, standing}
use Rattle.soup_session.specs.Table.{answer, wanted}
use Rattle.order_law.specs.ouch_codec.declared.outbound.Outbound.{Outbound}
use Rattle.order_law.specs.ouch_codec.declared.refusal.DecodeRefusal.{DecodeRefusal}
use Rattle.order_law.specs.ouch_codec.Values.{decoded}
use Rattle.order_law.specs.History.{Heard, OrderTurn, handled, outstanding}
use Rattle.order_law.specs.Lawful.{judgement}
use Rattle.order_law.specs.Headline.{EachWith, Headline, SaysIn}
use Rattle.gate_law.specs.Settings.{Settings, has_port, port_terms, terms}
use Rattle.gate_law.specs.Events.{Event, PortPacket, LinkOut, Write, Batch}
use Rattle.gate_law.specs.Lists.{Lists, turned}
use Rattle.gate_law.specs.Sessions.{port_answer, port_outs, port_state, sends, to_port, fault_in}
use Rattle.gate_law.specs.Outcome.{Outcome, by_fault, by_payload, told_outcome, outcome, is_stepped, messages, bodies}
use Rattle.gate_law.specs.Outcome.{addressee}
use Rattle.gate_law.specs.After.{is_close, unless_closed, lists_after}
use Rattle.gate_law.specs.Due.{Gives}
use Rattle.gate_law.specs.Promises.{Asks, AsksAgain, AsksOnlyThen, comes_up}
use Rattle.gate_law.proofs.Parts.{called}
use Rattle.gate_law.proofs.Telling.{turns-after}
use Rattle.world_law.proofs.Sent.{again-asked}
use Rattle.world_law.specs.Ports.{LogsIn, PortAfter, StandsAs, messages_on, port_standing, with_message}
use Rattle.world_law.proofs.Ports.{own-after, stands-same, stands-joined}

-- ---- messages that are sent

pub sends-stand : (terms : LoginTerms) (at : ℕ) (ms : List (List ℕ)) (before : List PortCall)
    → StandsAs (standing terms (called (sends at ms) before)) (standing terms before)
sends-stand terms at [] before = stands-same (standing terms before)
sends-stand terms at (m ∷ ms) before =
    stands-joined _ (standing terms (Send m at ∷ before)) _ (sends-stand terms at ms (Send m at ∷ before))
    (record { state = refl; session = refl; arrived = refl; number = refl })

pub sends-written : (s : Settings) (p link at : ℕ) (ms : List (List ℕ)) (before : List PortCall)
    → to_port (Some link) (port_outs s p before (sends at ms)) ≡ messages_on link ms
unfolding port_answer
sends-written s p link at [] before = refl
sends-written s p link at (m ∷ ms) before =
    ap (λ (rest : List LinkOut). Write link (packet_bytes (message_packet m)) ∷ rest)
    (sends-written s p link at ms (Send m at ∷ before))

pub written-leave : (link : ℕ) (ms : List (List ℕ)) (current : Option ℕ)
    → unless_closed (messages_on link ms) current ≡ current
written-leave link ms current = cond-false (list_any (is_close current) (messages_on link ms)) _ _ (none ms)
  where
    none : (xs : List (List ℕ)) → list_any (is_close current) (messages_on link xs) ≡ false
    none [] = refl
    none (x ∷ xs) = none xs

-- ---- an answer

module _ (s : Settings) (p link at : ℕ) (packet : Packet) (b : Batch) (v : Lists) (has : has_port s p ≡ true) (current : v.port_link p ≡ Some link) where
  abbrev pub this : Event
  this = PortPacket p link at packet

  abbrev pub st : PortStanding
  st = port_standing s v p

  -- as the session stands when it reads the packet
  abbrev pub reading : PortStanding
  reading = table.heard_now (table.passed at st)

  abbrev pub answered : PortAnswer
  answered = answer (port_terms s p) (v.port_calls p) (OnPacket packet at)

  stepped : is_stepped s this v ≡ true
  stepped = rw (has, current, eq-eqb link link refl) refl

  said-answer : (said : Said) → is_open st.state ≡ true → said_of packet ≡ said
      → answered ≡ table.on_said reading packet.payload said
  said-answer said opened is = cond-true (is_open st.state) _ _ opened ∙ ap (table.on_said reading packet.payload) is

  -- a packet that is answered quietly, by which messages may be sent
  quiet-is : (x : PortStanding) → answered ≡ table.quiet_answer x
      → outcome s this b v ≡ by_payload p at packet b (table.quiet_answer x) None
  unfolding port_answer
  quiet-is x is =
      cond-true (is_stepped s this v) _ _ stepped
      ∙ ap (λ (a : PortAnswer). by_payload p at packet b a a.payload) is

  pub quiet-after : (x : PortStanding) → answered ≡ table.quiet_answer x → Gives s this b v
      → PortAfter s this b v p (messages_on link (messages b)) (Some link) x (handled p v.turns)
  unfolding port_answer
  quiet-after x is g =
      own-after s this b v g (by_payload p at packet b (table.quiet_answer x) None) (quiet-is x is) refl
      (messages_on link (messages b)) (Some link) x (handled p v.turns)
      (ap (λ (l : Option ℕ). to_port l (port_outs s p (v.port_calls p) (OnPacket packet at ∷ sends at (messages b))))
      current
      ∙ ap (λ (a : PortAnswer). to_port (Some link)
      (a.outs ++ port_outs s p (OnPacket packet at ∷ v.port_calls p) (sends at (messages b)))) is
      ∙ sends-written s p link at (messages b) (OnPacket packet at ∷ v.port_calls p))
      (written-leave link (messages b) (v.port_link p) ∙ current)
      (stands-joined _ (standing (port_terms s p) (OnPacket packet at ∷ v.port_calls p)) x
      (sends-stand (port_terms s p) at (messages b) (OnPacket packet at ∷ v.port_calls p))
      (subst (λ (a : PortAnswer). StandsAs a.after x) (sym is) (stands-same x)))
      refl

  quiet-fault : (x : PortStanding) → answered ≡ table.quiet_answer x → fault_in x.state ≡ None → Gives s this b v
      → b.fault ≡ None
  quiet-fault x is none g = g.fault ∙ ap (λ (o : Outcome). o.fault) (quiet-is x is) ∙ none

  -- ---- a login that is accepted, with the number that is wanted

  not-other : (session : List ℕ) → (st.session ≡ blank) ⊎ (st.session ≡ session)
      → table.is_other session st.session ≡ false
  not-other session (inl is) = ap (λ (w : Bool). not w && not (bytes_eq session st.session))
      ((bytes_eq-Decides st.session blank).1 is)
  not-other session (inr is) = ap (λ (w : Bool). not (bytes_eq st.session blank) && not w)
      ((bytes_eq-Decides session st.session).1 (sym is)) ∙ never (not (bytes_eq st.session blank))
    where
      never : (w : Bool) → (w && false) ≡ false
      never true = refl
      never false = refl

  logs-in : (session : List ℕ) (k : ℕ) → st.state ≡ LoggingIn → said_of packet ≡ Accepted session (Some k)
      → k ≡ wanted st → (st.session ≡ blank) ⊎ (st.session ≡ session)
      → answered ≡ table.quiet_answer (record reading { state = Up; session = session; number = k })
  logs-in session k state said number known =
      said-answer (Accepted session (Some k)) (ap is_open state) said
      ∙ cond-true (is_logging_in st.state) _ _ (ap is_logging_in state)
      ∙ cond-false (k == 0) _ _ positive
      ∙ cond-false (table.is_other session st.session) _ _ (not-other session known)
      ∙ cond-false (nat_lt (wanted st) k) _ _ within
    where
      positive : (k == 0) ≡ false
      positive = grind (arith, nat_tests)

      within : nat_lt (wanted st) k ≡ false
      within = grind (arith, nat_tests)

  comes-up : (x : PortStanding) → is_up st.state ≡ false → answered ≡ table.quiet_answer x → is_up x.state ≡ true
      → comes_up s this v ≡ true
  unfolding port_state port_answer
  comes-up x was is now = rw (was, is, now) refl

  pub accepted-after : (session : List ℕ) (k : ℕ) → Gives s this b v → Asks s this b v → st.state ≡ LoggingIn
      → said_of packet ≡ Accepted session (Some k) → k ≡ wanted st
      → (st.session ≡ blank) ⊎ (st.session ≡ session) → LogsIn s this b v p link session k
  accepted-after session k g asks state said number known = record {
    after = again-like (quiet-after (record reading { state = Up; session = session; number = k }) is g);
    fault = quiet-fault (record reading { state = Up; session = session; number = k }) is refl g;
    again = again;
    asked = again-asked (terms s) p v.turns (messages b) again;
  }
    where
      is : answered ≡ table.quiet_answer (record reading { state = Up; session = session; number = k })
      is = logs-in session k state said number known

      up : (is_stepped s this v && comes_up s this v) ≡ true
      up = rw (
        stepped,
        comes-up (record reading { state = Up; session = session; number = k })
            (ap is_up state) is refl,
      ) refl

      again : EachWith (SaysIn (terms s) v.turns p) (outstanding (terms s) p v.turns) (messages b)
      again = subst (λ (w : Bool). AsksAgain w s p (is_stepped s this v && false) b v) up asks

      again-like : PortAfter s this b v p (messages_on link (messages b)) (Some link)
          (record reading { state = Up; session = session; number = k }) (handled p v.turns)
          → PortAfter s this b v p (messages_on link (messages b)) (Some link)
          (record st { state = Up; session = session; number = k }) (handled p v.turns)
      again-like a = record {
        told = a.told;
        link = a.link;
        stands =
            stands-joined _ _ _ a.stands (record { state = refl; session = refl; arrived = refl; number = refl });
        heard =
            a.heard;
      }

  -- ---- a heartbeat

  not-faulted : (state : PortState) → is_open state ≡ true → fault_in state ≡ None
  not-faulted Down opened = refl
  not-faulted LoggingIn opened = refl
  not-faulted Up opened = refl
  not-faulted Ended opened = refl
  not-faulted (Faulted fault) opened = absurd (cc)

  no-up : (x : PortStanding) → is_up x.state ≡ is_up st.state → answered ≡ table.quiet_answer x
      → comes_up s this v ≡ false
  unfolding port_state port_answer
  no-up x same is = ap (λ (a : PortAnswer). not (is_up st.state) && is_up a.after.state) is
      ∙ ap (λ (w : Bool). not (is_up st.state) && w) same ∙ never (is_up st.state)
    where
      never : (w : Bool) → (not w && w) ≡ false
      never true = refl
      never false = refl

  pub quiet-packet : Gives s this b v → Asks s this b v → is_open st.state ≡ true → said_of packet ≡ Nothing
      → PortAfter s this b v p [] (Some link) st (handled p v.turns) × (b.fault ≡ None)
  quiet-packet g asks opened said = (
    subst (λ (ms : List (List ℕ)). PortAfter s this b v p (messages_on link ms) (Some link) st (handled p v.turns)) none
        (like (quiet-after reading is g)),
    quiet-fault reading is (not-faulted st.state opened) g,
  )
    where
      is : answered ≡ table.quiet_answer reading
      is = said-answer Nothing opened said

      never : (w c : Bool) → c ≡ false → (w && c) ≡ false
      never true c e = e
      never false c e = refl

      none : messages b ≡ []
      none =
          subst (λ (w : Bool). AsksOnlyThen w b) (never (is_stepped s this v) false refl)
          (subst (λ (w : Bool). AsksAgain w s p (is_stepped s this v && false) b v)
          (never (is_stepped s this v) (comes_up s this v) (no-up reading refl is)) asks)

      like : PortAfter s this b v p (messages_on link (messages b)) (Some link) reading (handled p v.turns)
          → PortAfter s this b v p (messages_on link (messages b)) (Some link) st (handled p v.turns)
      like a = record {
        told = a.told;
        link = a.link;
        stands =
            stands-joined _ _ _ a.stands (record { state = refl; session = refl; arrived = refl; number = refl });
        heard =
            a.heard;
      }

  -- ---- a message with the number that is wanted

  arrives : (m : Outbound) → st.state ≡ Up → st.number ≡ wanted st → said_of packet ≡ Sequenced
      → answered ≡ record { after = with_message packet.payload reading; outs = []; payload = Some packet.payload }
  arrives m state number said =
      said-answer Sequenced (ap is_open state) said
      ∙ cond-true (is_up st.state) _ _ (ap is_up state)
      ∙ ap (λ (payload : Option (List ℕ)). record
      { after = with_message packet.payload reading; outs = []; payload = payload })
      (cond-true (st.number == wanted st) _ _ (eq-eqb st.number (wanted st) number))

  pub message-after : (m : Outbound) → Gives s this b v → Headline (terms s) (lists_after s this b v).turns
      → st.state ≡ Up → st.number ≡ wanted st → said_of packet ≡ Sequenced
      → decoded packet.payload ≡ Ok m → judgement (terms s) p (Ok m) v.turns ≡ None
      → PortAfter s this b v p [] (Some link) (with_message packet.payload st) (m ∷ handled p v.turns)
      × (b.fault ≡ None)
  unfolding port_answer
  message-after m g orders state number said reads judged = (after, no_fault)
    where
      a : PortAnswer
      a = record { after = with_message packet.payload reading; outs = []; payload = Some packet.payload }

      is : answered ≡ a
      is = arrives m state number said

      turn : Option PortFault → OrderTurn
      turn fault = record {
        event = Heard p (decoded packet.payload);
        client = addressee b;
        bodies = bodies b;
        sends =
            [];
        fault = option_map fault_number fault;
      }

      told : outcome s this b v ≡ told_outcome p at packet b packet.payload
      told = cond-true (is_stepped s this v) _ _ stepped
          ∙ ap (λ (y : PortAnswer). by_payload p at packet b y y.payload) is

      turns : (lists_after s this b v).turns ≡ (turned (outcome s this b v).turn v).turns
      turns = turns-after (outcome s this b v) b v

      held : Headline (terms s) (turn b.fault ∷ v.turns)
      held = subst (λ (o : Outcome). Headline (terms s) (turned o.turn v).turns) told
          (subst (Headline (terms s)) turns orders)

      unfaulted : (fault : Option PortFault) → option_map fault_number fault ≡ None → fault ≡ None
      unfaulted None e = refl
      unfaulted (Some fault) e = absurd (cc)

      no_fault : b.fault ≡ None
      no_fault = unfaulted b.fault (held.0.answers.fault
          ∙ ap (λ (heard : Result Outbound DecodeRefusal). judgement (terms s) p heard v.turns) reads ∙ judged)

      quietly : told_outcome p at packet b packet.payload
          ≡ record (by_fault p at packet b None) { turn = Some (turn None) }
      quietly = ap (λ (fault : Option PortFault). record (by_fault p at packet b fault) { turn = Some (turn fault) })
          no_fault

      after : PortAfter s this b v p [] (Some link) (with_message packet.payload st) (m ∷ handled p v.turns)
      after =
          own-after s this b v g (record (by_fault p at packet b None) { turn = Some (turn None) })
          (told ∙ quietly) refl [] (Some link) (with_message packet.payload st) (m ∷ handled p v.turns)
          (ap (λ (l : Option ℕ). to_port l (port_outs s p (v.port_calls p) (OnPacket packet at ∷ []))) current
          ∙ ap (λ (y : PortAnswer). to_port (Some link) (y.outs ++ [])) is)
          current
          (subst (λ (y : PortAnswer). StandsAs y.after (with_message packet.payload st)) (sym is)
          (record { state = refl; session = refl; arrived = refl; number = refl }))
          (rw (reads, eq-eqb p p refl) refl)

-- what is wanted behind a message that had the wanted number, and the number of the next one
pub message-wanted : (payload : List ℕ) (x : PortStanding) → x.number ≡ wanted x
    → wanted (with_message payload x) ≡ wanted x + 1
message-wanted payload x number = ap (λ (payloads : List (List ℕ)). length payloads + 1)
    (cond-true (x.number == length (delivered x.arrived) + 1) _ _ (eq-eqb x.number (wanted x) number)) ∙ more
  where
    more : length (payload ∷ delivered x.arrived) + 1 ≡ length (delivered x.arrived) + 1 + 1
    more = omega arith

pub message-number : (payload : List ℕ) (x : PortStanding) → x.number ≡ wanted x
    → (with_message payload x).number ≡ wanted (with_message payload x)
message-number payload x number = let next = message-wanted payload x number in omega (arith, next, number)
