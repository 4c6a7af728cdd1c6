-- A packet whose payload is delivered: the batch, and the parts after it.
use Rattle.std.proofs.Common.{◌≡◌, ◌==◌, ◌+◌, ℕ, Bool, true, false, not, List, [], ◌∷◌, ◌++◌, map, length, Option}
use Rattle.std.proofs.Common.{Some, None, refl, sym, ap, ◌∙◌, subst, append-nil, eqb-true, eq-eqb}
use Rattle.std.proofs.lemmas.List.{append_assoc}
use Rattle.std.specs.Prelude.{◌&&◌, if◌then◌else◌, unwrap_or}
use Rattle.std.specs.List.{flat_map}
use Rattle.std.proofs.Math.Dec.{eqb-suc-zero}
use Rattle.gate_law.specs.soup_packets.declared.packet.Packet.{Packet}
use Rattle.soup_session.specs.declared.port_fault.PortFault.{PortFault}
use Rattle.soup_session.specs.Faults.{fault_number}
use Rattle.soup_session.specs.declared.port_turn.PortOut.{PortOut}
use Rattle.soup_session.specs.States.{is_up}
use Rattle.soup_session.specs.Table as table
use Rattle.gate_events.specs.Seen.{link_out_seen}
use Rattle.gate_sessions.specs.order_law.Headline.{Headline}
use Rattle.fix_fields.specs.Field.{Message}
use Rattle.gate_sessions.specs.order_law.Messages.{body_of}
use Rattle.gate_law.specs.Settings.{Settings, has_port, terms}
use Rattle.gate_law.specs.Events.{Batch, LinkOut, PortPacket, is_for_client, is_the_number}
use Rattle.gate_law.specs.Lists.{Lists, client_called_all, port_called, turned}
use Rattle.gate_law.specs.Sessions.{client_outs, is_no_send, issues, port_answer, port_outs, port_state, sends}
use Rattle.gate_law.specs.Sessions.{to_port}
use Rattle.gate_law.specs.Outcome.{Outcome, addressee, bodies, is_stepped, message_in, messages, of_port, Stays}
use Rattle.gate_law.specs.Outcome.{outcome}
use Rattle.gate_law.specs.After.{lists_after, links_closed, with_outcome}
use Rattle.gate_law.specs.Due.{to_client_of, to_port_of, reports_of}
use Rattle.gate_law.specs.Promises.{Asks, AsksAgain, comes_up}
use Rattle.gate_sessions.specs.declared.issuing.Issues.{Issues}
use Rattle.gate_sessions.specs.Lines.{ClientsLeave, ClientLinks, PortsLeave, PortLinks}
use Rattle.gate_core.specs.declared.parts.Parts.{Parts}
use Rattle.gate_sessions.specs.Links.{outs_told_on, unlinked}
use Rattle.gate_core.specs.State.{ArePartsOf}
use Rattle.gate_core.specs.Steps.{AfterPacket, IsIssued, PayloadIsTold, Stepped, heard_turn}
use Rattle.gate_events.specs.Batches.{batch_of}
use Rattle.gate_core.proofs.ClientEvents.{client-called-is, no-client-lines}
use Rattle.gate_core.proofs.ClientLinks.{untold}
use Rattle.gate_core.proofs.Closed.{closed-parts}
use Rattle.gate_core.proofs.Delivered.{delivered-while-up}
use Rattle.gate_core.proofs.Told.{client-told, port-told, to-port-append}

-- the law that packets have no message but those that are sent, as it is cited
abbrev pub HaveNoOther : Type 0
HaveNoOther = (s : Settings) (p link at : ℕ) (before : List table.PortCall) (c : table.PortCall) (ms : List (List ℕ))
    → is_no_send c ≡ true
    → flat_map message_in (to_port (Some link) (port_outs s p before (c ∷ sends at ms))) ≡ ms

-- a number that is the one
number-is : (n : ℕ) (link : Option ℕ) → is_the_number n link ≡ true → link ≡ Some n
number-is n None is = absurd (cc)
number-is n (Some m) is = ap Some (eqb-true m n is)

both : (a b : Bool) → (a && b) ≡ true → b ≡ true
both true b e = e
both false b e = absurd (cc)

flat-append : (xs ys : List LinkOut) → flat_map message_in (xs ++ ys) ≡ flat_map message_in xs ++ flat_map message_in ys
flat-append [] ys = refl
flat-append (x ∷ xs) ys = ap (λ (zs : List (List ℕ)). message_in x ++ zs) (flat-append xs ys)
    ∙ sym (append_assoc (message_in x) (flat_map message_in xs) (flat_map message_in ys))

-- the one call says no message
one-call : HaveNoOther → (s : Settings) (p link : ℕ) (before : List table.PortCall) (c : table.PortCall)
    → is_no_send c ≡ true → flat_map message_in (to_port (Some link) (port_answer s p before c).outs) ≡ []
one-call have s p link before c is =
    ap (λ (xs : List PortOut). flat_map message_in (to_port (Some link) xs))
    (sym (append-nil (port_answer s p before c).outs)) ∙ have s p link 0 before c [] is

-- a port's call is its newest
own-port-call : (p : ℕ) (call : table.PortCall) (v : Lists)
    → (port_called p call v).port_calls p ≡ call ∷ v.port_calls p
own-port-call p call v = rw (eq-eqb p p refl) refl

-- whoever is told something is named
named-where-told : (n : ℕ) (reports bs : List Message) (w : Bool) → map body_of reports ≡ bs → (bs ≡ [] → ⊥)
    → (if not ((length reports == 0) && w) then Some n else None) ≡ Some n
named-where-told n [] bs w are some = absurd (some (sym are))
named-where-told n (r ∷ rs) bs w are some =
    ap (λ (x : Bool). if not (x && w) then Some n else None) (eqb-suc-zero (length rs))

-- ---- what no event of this kind asks

module _ {S H : Type 0} (s : Settings) (p link at : ℕ) (packet : Packet) (payload : List ℕ) (said : List PortOut) (v : Lists) (g : Parts S H) (given : AfterPacket s p link at packet (Some payload) said v g) where
  abbrev hears : table.PortCall
  hears = table.OnPacket packet at

  quiet : comes_up s (PortPacket p link at packet) v ≡ false
  quiet = ap (λ (up : Bool). not up && is_up (port_answer s p (v.port_calls p) hears).after.state)
      (delivered-while-up s p (v.port_calls p) packet at payload given.payload_is).0

  asks : (b : Batch) → messages b ≡ [] → Asks s (PortPacket p link at packet) b v
  asks b none = by_stepped (is_stepped s (PortPacket p link at packet) v)
      (comes_up s (PortPacket p link at packet) v) quiet
    where
      by_stepped : (w up : Bool) → up ≡ false → AsksAgain (w && up) s p (w && false) b v
      by_stepped true false down = none
      by_stepped true true down = absurd (cc)
      by_stepped false up down = none

  current : v.port_link p ≡ Some link
  current = number-is link (v.port_link p) (both (has_port s p) (is_the_number link (v.port_link p)) given.on)

  -- what the port's link is told for the packet alone
  packets-of : (outs : List LinkOut) → outs ≡ to_port (v.port_link p) said ++ to_port (v.port_link p) []
      → outs ≡ to_port (v.port_link p) ((port_answer s p (v.port_calls p) hears).outs ++ [])
  packets-of outs are = port-told (v.port_link p) outs said []
      (port_answer s p (v.port_calls p) hears).outs [] are given.said_is refl

  -- and no message is in it
  no-message : HaveNoOther → (outs : List LinkOut)
      → outs ≡ to_port (v.port_link p) ((port_answer s p (v.port_calls p) hears).outs ++ [])
      → flat_map message_in outs ≡ []
  no-message have outs are =
      ap (flat_map message_in) (are ∙ ap (λ (l : Option ℕ). to_port l
      ((port_answer s p (v.port_calls p) hears).outs ++ [])) current)
      ∙ have s p link at (v.port_calls p) hears [] refl

  -- the port is up once it gave the payload
  pub up-after : is_up (port_state s p ((port_called p hears v).port_calls p)) ≡ true
  up-after = ap (λ (calls : List table.PortCall). is_up (port_state s p calls)) (own-port-call p hears v)
      ∙ (delivered-while-up s p (v.port_calls p) packet at payload given.payload_is).1

  -- ---- it is told to nobody

  pub nobody-step : (mid new : Parts S H) (port_out : List LinkOut) → HaveNoOther
      → PayloadIsTold s p payload None [] (port_called p hears v) mid
      → port_out ≡ to_port (v.port_link p) said ++ to_port (v.port_link p) []
      → PortsLeave s (port_called p hears v).port_calls new.ports.lines.items
      → PortLinks (unlinked p port_out v.port_link) new.ports.lines.items
      → length new.ports.lines.items ≡ length mid.ports.lines.items
      → new.clients ≡ mid.clients → new.client_ports ≡ mid.client_ports → new.orders ≡ mid.orders
      → Stepped s (PortPacket p link at packet) (batch_of 0 [] [] p port_out None) v new
  nobody-step mid new port_out have is_told packets leave links count same_clients same_client_ports same_orders =
      let b : Batch = batch_of 0 [] [] p port_out None in
      let x : Lists = turned (Some (heard_turn p payload 0 [] None)) (port_called p hears v) in
      let o : Outcome = record (of_port p Stays (hears ∷ [])) { turn = Some (heard_turn p payload 0 [] None) } in
      let is : outcome s (PortPacket p link at packet) b v ≡ o = rw (given.on, given.payload_is) refl in
      let left : lists_after s (PortPacket p link at packet) b v ≡ links_closed b x =
      ap (λ (y : Outcome). links_closed b (with_outcome y v)) is in
      let lines = packets-of port_out packets in
      record {
        gives = record {
          client_out = no-client-lines s (v.client_link 0) ∙ ap (λ (y : Outcome). to_client_of s y v) (sym is);
          reports = ap (λ (y : Outcome). reports_of s y v) (sym is);
          port_out = lines ∙ ap (λ (y : Outcome). to_port_of s y v) (sym is);
          fault = ap (λ (y : Outcome). y.fault) (sym is);
          client = refl;
          port = refl;
        };
        asks = asks b (no-message have port_out lines);
        orders = λ holds. subst (λ (y : Lists). Headline (terms s) y.turns) (sym left) is_told.headline;
        parts = subst (λ (y : Lists). ArePartsOf s y new) (sym left)
            (closed-parts s 0 p [] [] port_out None x mid new is_told.parts (rw same_clients is_told.parts.clients)
            (rw same_clients (untold 0 v.client_link mid.clients.lines.items is_told.parts.client_links))
            (rw same_clients refl)
            leave links count same_client_ports same_orders);
      }

  -- ---- it is told to a client

  pub told-step : (q n : ℕ) (bs : List Message) (out : Issues) (first mid new : Parts S H)
      (client_out port_out : List LinkOut) → HaveNoOther → n ≡ q + 1
      → PayloadIsTold s p payload (Some q) bs (port_called p hears v) first
      → IsIssued s n at bs out (turned (Some (heard_turn p payload n bs None)) (port_called p hears v)) mid
      → (let x : Lists = client_called_all n (issues at bs)
      (turned (Some (heard_turn p payload n bs None)) (port_called p hears v)) in
      client_out ≡ outs_told_on (x.client_link n) [] ++ map link_out_seen out.outs.items
      → port_out ≡ to_port (x.port_link p) said ++ to_port (x.port_link p) []
      → ClientsLeave s x.client_calls new.clients.lines.items
      → ClientLinks (unlinked n client_out x.client_link) new.clients.lines.items
      → length new.clients.lines.items ≡ length mid.clients.lines.items
      → PortsLeave s x.port_calls new.ports.lines.items
      → PortLinks (unlinked p port_out x.port_link) new.ports.lines.items
      → length new.ports.lines.items ≡ length mid.ports.lines.items
      → new.client_ports ≡ mid.client_ports → new.orders ≡ mid.orders
      → Stepped s (PortPacket p link at packet) (batch_of n out.reports.items client_out p port_out None) v new)
  told-step q n bs out first mid new client_out port_out have is_number_of is_told issued lines packets clients
      client_links client_count ports port_links port_count same_client_ports same_orders =
      let t = heard_turn p payload n bs None in
      let reports = out.reports.items in
      let b : Batch = batch_of n reports client_out p port_out None in
      let y : Lists = turned (Some t) v in
      let x : Lists = client_called_all n (issues at bs) (turned (Some t) (port_called p hears v)) in
      let x_is = client-called-is n (issues at bs) (turned (Some t) (port_called p hears v)) in
      let to_them : addressee b ≡ n = ap (λ (c : Option ℕ). unwrap_or c 0)
      (named-where-told n reports bs (length client_out == 0) issued.bodies_are
      (λ none. (let wrong : Some q ≡ None = is_told.nothing none in cc))) in
      let told_with : ℕ → List Message → Outcome =
      λ k xs. record (of_port p Stays (hears ∷ []))
      { client = k; client_calls = issues at xs; turn = Some (heard_turn p payload k xs None) } in
      let is : outcome s (PortPacket p link at packet) b v ≡ told_with n bs =
      rw (given.on, given.payload_is) refl ∙ ap (λ (k : ℕ). told_with k (bodies b)) to_them
      ∙ ap (told_with n) issued.bodies_are in
      let left : lists_after s (PortPacket p link at packet) b v ≡ links_closed b x =
      ap (λ (o : Outcome). links_closed b (with_outcome o v)) is
      ∙ ap (links_closed b) (ap (port_called p hears) (client-called-is n (issues at bs) y) ∙ sym x_is) in
      let their_lines = lines
      ∙ ap (λ (w : Lists). outs_told_on (w.client_link n) [] ++ map link_out_seen out.outs.items) x_is
      ∙ client-told s n (v.client_link n) _ [] (map link_out_seen out.outs.items) []
      (client_outs s n (v.client_calls n) (issues at bs)) refl refl issued.outs in
      let its_packets = packets-of port_out (packets
      ∙ ap (λ (w : Lists). to_port (w.port_link p) said ++ to_port (w.port_link p) []) x_is) in
      record {
        gives = record {
          client_out = their_lines ∙ ap (λ (o : Outcome). to_client_of s o v) (sym is);
          reports = issued.reports ∙ ap (λ (o : Outcome). reports_of s o v) (sym is);
          port_out = its_packets ∙ ap (λ (o : Outcome). to_port_of s o v) (sym is);
          fault = ap (λ (o : Outcome). o.fault) (sym is);
          client = ap (λ (k : ℕ). if is_for_client b then Some k else None) (sym to_them);
          port = refl;
        };
        asks = asks b (no-message have port_out its_packets);
        orders = λ holds. subst (λ (w : Lists). Headline (terms s) w.turns) (sym left)
            (subst (λ (w : Lists). Headline (terms s) w.turns) (sym x_is)
            (subst (λ (k : ℕ). Headline (terms s) (heard_turn p payload k bs None ∷ v.turns))
            (sym is_number_of) is_told.headline));
        parts = subst (λ (w : Lists). ArePartsOf s w new) (sym left)
            (closed-parts s n p reports client_out port_out None x mid new issued.parts clients client_links
            client_count ports port_links port_count same_client_ports same_orders);
      }

  -- ---- it is at fault

  pub faulty-step : (k : PortFault) (fail_outs : List PortOut) (mid new : Parts S H) (port_out : List LinkOut)
      → HaveNoOther
      → Headline (terms s) (heard_turn p payload 0 [] (Some (fault_number k)) ∷ v.turns)
      → fail_outs ≡ (port_answer s p ((port_called p hears v).port_calls p) (table.Fail k)).outs
      → (let x : Lists = port_called p (table.Fail k)
      (turned (Some (heard_turn p payload 0 [] (Some (fault_number k)))) (port_called p hears v)) in
      ArePartsOf s x mid
      → port_out ≡ to_port (v.port_link p) said ++ to_port (v.port_link p) fail_outs
      → PortsLeave s x.port_calls new.ports.lines.items
      → PortLinks (unlinked p port_out v.port_link) new.ports.lines.items
      → length new.ports.lines.items ≡ length mid.ports.lines.items
      → new.clients ≡ mid.clients → new.client_ports ≡ mid.client_ports → new.orders ≡ mid.orders
      → Stepped s (PortPacket p link at packet) (batch_of 0 [] [] p port_out (Some k)) v new)
  faulty-step k fail_outs mid new port_out have headline failed parts packets ports port_links port_count same_clients
      same_client_ports same_orders =
      let b : Batch = batch_of 0 [] [] p port_out (Some k) in
      let t = heard_turn p payload 0 [] (Some (fault_number k)) in
      let x : Lists = port_called p (table.Fail k) (turned (Some t) (port_called p hears v)) in
      let o : Outcome = record (of_port p Stays (hears ∷ table.Fail k ∷ [])) { fault = Some k; turn = Some t } in
      let is : outcome s (PortPacket p link at packet) b v ≡ o = rw (given.on, given.payload_is) refl in
      let left : lists_after s (PortPacket p link at packet) b v ≡ links_closed b x =
      ap (λ (y : Outcome). links_closed b (with_outcome y v)) is in
      let first = (port_answer s p (v.port_calls p) hears).outs in
      let next = (port_answer s p (hears ∷ v.port_calls p) (table.Fail k)).outs in
      let fails = failed ∙ ap (λ (calls : List table.PortCall). (port_answer s p calls (table.Fail k)).outs)
      (own-port-call p hears v) in
      let lines : port_out ≡ to_port (v.port_link p) (first ++ (next ++ [])) =
      port-told (v.port_link p) port_out said fail_outs first next packets given.said_is fails
      ∙ ap (λ (zs : List PortOut). to_port (v.port_link p) (first ++ zs)) (sym (append-nil next)) in
      let none : flat_map message_in port_out ≡ [] =
      ap (flat_map message_in) (lines ∙ ap (λ (l : Option ℕ). to_port l (first ++ (next ++ []))) current
      ∙ to-port-append (Some link) first (next ++ []))
      ∙ flat-append (to_port (Some link) first) (to_port (Some link) (next ++ []))
      ∙ ap (λ (ms : List (List ℕ)). ms ++ flat_map message_in (to_port (Some link) (next ++ [])))
      (one-call have s p link (v.port_calls p) hears refl)
      ∙ have s p link at (hears ∷ v.port_calls p) (table.Fail k) [] refl in
      record {
        gives = record {
          client_out = no-client-lines s (v.client_link 0) ∙ ap (λ (y : Outcome). to_client_of s y v) (sym is);
          reports = ap (λ (y : Outcome). reports_of s y v) (sym is);
          port_out = lines ∙ ap (λ (y : Outcome). to_port_of s y v) (sym is);
          fault = ap (λ (y : Outcome). y.fault) (sym is);
          client = refl;
          port = refl;
        };
        asks = asks b none;
        orders = λ holds. subst (λ (y : Lists). Headline (terms s) y.turns) (sym left) headline;
        parts = subst (λ (y : Lists). ArePartsOf s y new) (sym left)
            (closed-parts s 0 p [] [] port_out (Some k) x mid new parts (rw same_clients parts.clients)
            (rw same_clients (untold 0 v.client_link mid.clients.lines.items parts.client_links))
            (rw same_clients refl)
            ports port_links port_count same_client_ports same_orders);
      }
