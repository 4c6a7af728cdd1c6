-- A batch names nobody but whom its event may be for.
use Rattle.std.proofs.Common.{◌≡◌, ◌==◌, ℕ, ◌<◌, ◌≤◌, Bool, true, false, List, [], ◌∷◌, length, Option, Some, None}
use Rattle.std.proofs.Common.{refl, sym, ap, ◌∙◌, subst, arith}
use Rattle.std.specs.Prelude.{if◌then◌else◌}
use Rattle.std.proofs.lemmas.Bool.Decides.{nat_tests}
use Rattle.gate_law.specs.soup_packets.declared.packet.Packet.{Packet}
use Rattle.soup_session.specs.declared.port_fault.PortFault.TheVariants.{StrangePacket}
use Rattle.soup_session.specs.declared.said.Said.{Said}
use Rattle.soup_session.specs.declared.said.Said.TheVariants as said
use Rattle.soup_session.specs.Reading.{said_of}
use Rattle.soup_session.specs.States.{is_logging_in, is_open, is_up}
use Rattle.soup_session.specs.Table.{PortAnswer, PortCall, OnPacket, PortStanding, LoginTerms, answer_in, arrives}
use Rattle.soup_session.specs.Table.{faults, heard_now, on_said, passed, quiet_answer, standing, wanted}
use Rattle.gate_law.specs.Settings.{Settings, has_client, has_port, port_of, port_terms}
use Rattle.gate_law.specs.Events.{Batch, ClientGone, ClientMessage, ClientTick, ClientUp, Event, History, PortGone}
use Rattle.gate_law.specs.Events.{PortPacket, PortTick, PortUp, is_for_client, is_for_port}
use Rattle.gate_law.specs.Lists.{Lists}
use Rattle.gate_law.specs.Sessions.{port_answer}
use Rattle.gate_law.specs.Outcome.{Outcome, is_known, is_stepped, nothing, outcome}
use Rattle.gate_law.specs.After.{lists_after, is_within_day, lists, most_events, order_turns}
use Rattle.gate_law.specs.Due.{Gives, client_named, port_named, reports_of, to_client_of, to_port_of}
use Rattle.gate_law.specs.Promises.{IsAmong, Targets, by_token, client_target, port_target}
use Rattle.gate_law.specs.Holds.{Holds, OfTurn}
use Rattle.gate_core.proofs.Fields.{CoreFields, FieldsAfter}
use Rattle.gate_core.specs.State.{ArePartsOf}
use Rattle.gate_core.specs.Targets.{client_for, payloads_client, port_for}
use Rattle.gate_core.proofs.ClientEvents.{no-client-lines, no-port-lines, not-stepped-outcome}
use Rattle.gate_core.proofs.Delivered.{logs-none, none-if}
use Rattle.gate_core.proofs.Stepping.{AreFewTurns}

-- ---- a payload that is given is the packet's own

abbrev IsOwn : List ℕ → PortAnswer → Type 0
IsOwn p a = (m : List ℕ) → a.payload ≡ Some m → m ≡ p

none-own : (p : List ℕ) (a : PortAnswer) → a.payload ≡ None → IsOwn p a
none-own p a none m some = absurd (cc)

own-if : (p : List ℕ) (b : Bool) (x y : PortAnswer) → IsOwn p x → IsOwn p y → IsOwn p (if b then x else y)
own-if p true x y f g = f
own-if p false x y f g = g

arrives-own : (s : PortStanding) (p : List ℕ) → IsOwn p (arrives s p)
arrives-own s p m some = by_number (s.number == wanted s) some
  where
    by_number : (b : Bool) → (if b then Some p else None) ≡ Some m → m ≡ p
    by_number true e = cc
    by_number false e = absurd (cc)

hears-own : (s : PortStanding) (p : List ℕ) (x : Said) → IsOwn p (on_said s p x)
hears-own s p (said.Accepted session number) =
    none-own p (on_said s p (said.Accepted session number))
    (none-if (is_logging_in s.state) _ _ (logs-none s session number) refl)
hears-own s p said.Rejected = none-own p (on_said s p said.Rejected) (none-if (is_logging_in s.state) _ _ refl refl)
hears-own s p said.Sequenced = own-if p (is_up s.state) _ _ (arrives-own s p) (none-own p (faults StrangePacket s) refl)
hears-own s p said.Nothing = none-own p (on_said s p said.Nothing) refl
hears-own s p said.End = none-own p (on_said s p said.End) refl
hears-own s p said.Strange = none-own p (on_said s p said.Strange) refl

packet-own : (terms : LoginTerms) (s : PortStanding) (packet : Packet) (at : ℕ)
    → IsOwn packet.payload (answer_in terms s (OnPacket packet at))
packet-own terms s packet at =
    own-if packet.payload (is_open s.state) _ _ (hears-own (heard_now (passed at s)) packet.payload (said_of packet))
    (none-own packet.payload (quiet_answer (passed at s)) refl)

given-own : (s : Settings) (p : ℕ) (before : List PortCall) (packet : Packet) (at : ℕ)
    → IsOwn packet.payload (port_answer s p before (OnPacket packet at))
unfolding port_answer
given-own s p before packet at = packet-own (port_terms s p) (standing (port_terms s p) before) packet at

-- ---- an event that the settings don't know names nobody

-- a batch with these parts of nothing
none-named : (s : Settings) (e : Event) (b : Batch) (v : Lists) → is_known s e ≡ false → Gives s e b v
    → (b.client ≡ None) × (b.port ≡ None)
none-named s e b v unknown gives =
    let still : is_stepped s e v ≡ false = rw unknown refl in
    let is : outcome s e b v ≡ nothing = not-stepped-outcome s e b v still in
    let no_outs : b.client_out ≡ [] = gives.client_out ∙ ap (λ (o : Outcome). to_client_of s o v) is
    ∙ sym (no-client-lines s (v.client_link 0)) in
    let no_reports : b.reports ≡ [] = gives.reports ∙ ap (λ (o : Outcome). reports_of s o v) is in
    let no_port_outs : b.port_out ≡ [] = gives.port_out ∙ ap (λ (o : Outcome). to_port_of s o v) is
    ∙ sym (no-port-lines (v.port_link 0)) in
    let no_fault : b.fault ≡ None = gives.fault ∙ ap (λ (o : Outcome). o.fault) is in
    let for_nobody : is_for_client b ≡ false = rw (no_reports, no_outs) refl in
    let for_no_port : is_for_port b ≡ false = rw (no_port_outs, no_fault) refl in (
      gives.client ∙ ap (λ (w : Bool). if w then Some (client_named e b) else None) for_nobody,
      gives.port ∙ ap (λ (w : Bool). if w then Some (port_named s e) else None) for_no_port,
    )

-- whom it names is known, or it names nobody
among-known : (known : Bool) (n : Option ℕ) (target : ℕ) → (known ≡ false → n ≡ None) → IsAmong n (Some target)
    → IsAmong n (if known then Some target else None)
among-known true n target none is = is
among-known false n target none is = subst (λ (x : Option ℕ). IsAmong x None) (sym (none refl)) tt

-- ---- whom a packet's batch names

by-payload : (s : Settings) (p : ℕ) (packet : Packet) (v : Lists) (n x : Option ℕ) (m : Option (List ℕ))
    → ((k : List ℕ) → m ≡ Some k → k ≡ packet.payload)
    → by_token s p m v ≡ x → IsAmong n x → IsAmong n (payloads_client s p packet v)
by-payload s p packet v None x m own is among = tt
by-payload s p packet v (Some c) x None own is among = absurd (cc)
by-payload s p packet v (Some c) x (Some k) own is among =
    ap (λ (j : List ℕ). by_token s p (Some j) v) (sym (own k refl)) ∙ is ∙ among

-- ---- the batch of an event

client-among : (s : Settings) (e : Event) (b : Batch) (v : Lists) → Gives s e b v
    → IsAmong b.client (client_target s e v) → IsAmong b.client (client_for s e v)
client-among s (ClientUp client link at) b v gives is =
    among-known (has_client s client) b.client client (λ no. (none-named s (ClientUp client link at) b v no gives).0) is
client-among s (ClientMessage client link at frame) b v gives is =
    among-known (has_client s client) b.client client
    (λ no. (none-named s (ClientMessage client link at frame) b v no gives).0) is
client-among s (ClientGone client link at) b v gives is =
    among-known (has_client s client) b.client client
    (λ no. (none-named s (ClientGone client link at) b v no gives).0) is
client-among s (ClientTick client at) b v gives is =
    among-known (has_client s client) b.client client (λ no. (none-named s (ClientTick client at) b v no gives).0) is
client-among s (PortUp p link at) b v gives is = is
client-among s (PortPacket p link at packet) b v gives is =
    by-payload s p packet v b.client _ (port_answer s p (v.port_calls p) (OnPacket packet at)).payload
    (given-own s p (v.port_calls p) packet at) refl is
client-among s (PortGone p link at) b v gives is = is
client-among s (PortTick p at) b v gives is = is

port-among : (s : Settings) (e : Event) (b : Batch) (v : Lists) → Gives s e b v → IsAmong b.port (port_target s e)
    → IsAmong b.port (port_for s e)
port-among s (ClientUp client link at) b v gives is = is
port-among s (ClientMessage client link at frame) b v gives is =
    among-known (has_client s client) b.port (port_of s client)
    (λ no. (none-named s (ClientMessage client link at frame) b v no gives).1) is
port-among s (ClientGone client link at) b v gives is = is
port-among s (ClientTick client at) b v gives is = is
port-among s (PortUp p link at) b v gives is =
    among-known (has_port s p) b.port p (λ no. (none-named s (PortUp p link at) b v no gives).1) is
port-among s (PortPacket p link at packet) b v gives is =
    among-known (has_port s p) b.port p (λ no. (none-named s (PortPacket p link at packet) b v no gives).1) is
port-among s (PortGone p link at) b v gives is =
    among-known (has_port s p) b.port p (λ no. (none-named s (PortGone p link at) b v no gives).1) is
port-among s (PortTick p at) b v gives is =
    among-known (has_port s p) b.port p (λ no. (none-named s (PortTick p at) b v no gives).1) is

-- of every history that has its promises
pub names-targets : (s : Settings) (before : History) (e : Event) (b : Batch)
    → Holds s (record { event = e; batch = b } ∷ before)
    → IsAmong b.client (client_for s e (lists s before)) × IsAmong b.port (port_for s e)
names-targets s before e b holds = by_limit (is_within_day before) holds.run.0 holds.targets.0
  where
    v : Lists
    v = lists s before

    by_limit : (w : Bool) → OfTurn w (Gives s e b v) b → OfTurn w (Targets s e b v) b
        → IsAmong b.client (client_for s e v) × IsAmong b.port (port_for s e)
    by_limit true gives targets = (client-among s e b v gives targets.client, port-among s e b v gives targets.port)
    by_limit false none none' = subst (λ (x : Batch). IsAmong x.client (client_for s e v)
        × IsAmong x.port (port_for s e)) (sym none) (tt, tt)

-- ---- there are few turns, whatever the history is

pub turns-few : AreFewTurns → (s : Settings) (h : History) → length (order_turns s h) ≤ most_events
turns-few few s [] = omega (arith)
turns-few few s (t ∷ before) = by_limit (is_within_day before) refl (turns-few few s before)
  where
    by_limit : (w : Bool) → is_within_day before ≡ w → length (order_turns s before) ≤ most_events
        → length (order_turns s (t ∷ before)) ≤ most_events
    by_limit true e rest =
        let at_most : length (order_turns s (t ∷ before)) ≤ length (t ∷ before) = few s (t ∷ before) in
        let count : length before < most_events = grind (arith, nat_tests, e) in
        omega (arith, at_most, count)
    by_limit false e rest = subst (λ (w : Bool). length
        (if w then lists_after s t.event t.batch (lists s before) else lists s before).turns ≤ most_events) (sym e) rest

pub parts-of : {S H : Type 0} (s : Settings) (h : History) (c : CoreFields S H) → FieldsAfter s h c
    → ArePartsOf s (lists s h) c.parts
parts-of s h c is = is.parts
