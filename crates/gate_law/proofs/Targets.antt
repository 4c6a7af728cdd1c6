-- A batch names nobody but those whom its event is for.
use Rattle.std.proofs.Common.{◌≡◌, ◌==◌, ℕ, Bool, true, false, List, [], ◌∷◌, Option, Some, None, Result, Ok, Err}
use Rattle.std.proofs.Common.{refl, ap, sym, subst, ◌∙◌, is_some, map, unwrap_or, option_map, inl, inr}
use Rattle.std.proofs.lemmas.Bool.{cases_Bool}
use Rattle.std.specs.Prelude.{if◌then◌else◌, ◌⊎◌}
use Rattle.order_law.specs.ouch_codec.declared.outbound.Outbound.{Outbound}
use Rattle.order_law.specs.ouch_codec.declared.refusal.DecodeRefusal.{DecodeRefusal}
use Rattle.order_law.specs.ouch_codec.Values.{decoded}
use Rattle.soup_packets.specs.declared.packet.Packet.{Packet}
use Rattle.soup_session.specs.declared.port_fault.PortFault.{PortFault}
use Rattle.soup_session.specs.Table.{OnPacket}
use Rattle.fix_fields.specs.Field.{Message}
use Rattle.order_law.specs.Messages.{body_of}
use Rattle.order_law.specs.History as orders
use Rattle.order_law.specs.History.{Terms, Entry}
use Rattle.order_law.specs.Lawful.{judgement, order_token, token_of_heard}
use Rattle.order_law.specs.Told as tale
use Rattle.order_law.specs.Told.{nobody, told_on, told_by_market, on_token}
use Rattle.order_law.specs.Headline.{Headline}
use Rattle.gate_law.specs.Settings.{Settings, terms}
use Rattle.gate_law.specs.Events.{Event, ClientUp, ClientMessage, ClientGone, ClientTick, PortUp, PortPacket, PortGone}
use Rattle.gate_law.specs.Events.{PortTick, Batch, is_for_client, is_for_port}
use Rattle.gate_law.specs.Lists.{Lists, turned}
use Rattle.gate_law.specs.Sessions.{port_answer, issues, client_outs, to_client}
use Rattle.gate_law.specs.Outcome.{Outcome, nothing, client_up, port_up, by_event, told_outcome, outcome, is_stepped}
use Rattle.gate_law.specs.Outcome.{bodies, addressee}
use Rattle.gate_law.specs.Due.{Gives, to_client_of, to_port_of, reports_of, client_named, port_named}
use Rattle.gate_law.specs.Promises.{Targets, IsAmong, by_token, client_target}
use Rattle.gate_law.proofs.Other.{no-client-lines, no-port-lines, no-outcome}
use Rattle.gate_law.proofs.Faults.{packet-outcome, told-outcome}

-- ---- whom a batch names, if anybody

among-if : (c : Bool) (n : ℕ) → IsAmong (if c then Some n else None) (Some n)
among-if true n = refl
among-if false n = tt

among-due : (c : Bool) (n : ℕ) (named : Option ℕ) → named ≡ (if c then Some n else None) → IsAmong named (Some n)
among-due c n named is = subst (λ (x : Option ℕ). IsAmong x (Some n)) (sym is) (among-if c n)

among-none : (named target : Option ℕ) → named ≡ None → IsAmong named target
among-none named target none = subst (λ (x : Option ℕ). IsAmong x target) (sym none) tt

among-target : (named target : Option ℕ) → target ≡ Some (unwrap_or named 0) → IsAmong named target
among-target None target is = tt
among-target (Some n) target is = is

no-client : (b : Batch) (n : ℕ) → b.client ≡ (if is_for_client b then Some n else None) → b.reports ≡ []
    → b.client_out ≡ [] → b.client ≡ None
no-client b n named reports lines = named ∙ rw (reports, lines) refl

no-port : (b : Batch) (n : ℕ) → b.port ≡ (if is_for_port b then Some n else None) → b.port_out ≡ [] → b.fault ≡ None
    → b.port ≡ None
no-port b n named lines fault = named ∙ rw (lines, fault) refl

-- ---- outcomes of one side

-- it says nothing to any client
pub record NoClient (s : Settings) (v : Lists) (o : Outcome) : Type 0 where
  pub reports : reports_of s o v ≡ []
  pub lines : to_client_of s o v ≡ []

-- or nothing to any port
pub record NoPort (s : Settings) (v : Lists) (o : Outcome) : Type 0 where
  pub lines : to_port_of s o v ≡ []
  pub fault : o.fault ≡ None

no-client-if : (s : Settings) (v : Lists) (c : Bool) (x y : Outcome) → NoClient s v x → NoClient s v y
    → NoClient s v (if c then x else y)
no-client-if s v true x y p q = p
no-client-if s v false x y p q = q

no-port-if : (s : Settings) (v : Lists) (c : Bool) (x y : Outcome) → NoPort s v x → NoPort s v y
    → NoPort s v (if c then x else y)
no-port-if s v true x y p q = p
no-port-if s v false x y p q = q

-- ---- whom a payload is for

-- what is told of a payload is told to the client whose order its token leads to
token-tells : (ts : List Terms) (p : ℕ) (m : Result Outbound DecodeRefusal) (before : orders.OrderHistory) (client : ℕ)
    (said : List Message)
    → told_by_market ts p m before ≡ record { client = client; bodies = said }
    → (said ≡ []) ⊎ (option_map (λ (new : Entry). new.client) (on_token ts p before (token_of_heard m)) ≡ Some client)
token-tells ts p (Err refusal) before client said is = inl (sym (ap (λ (t : tale.Told). t.bodies) is))
token-tells ts p (Ok m) before client said is =
    by_row (is_some (judgement ts p (Ok m) before)) (on_token ts p before (order_token m)) is
  where
    by_bodies : (new : Entry) (bs : List Message)
        → tale.told_of_entry new bs ≡ record { client = client; bodies = said }
        → (said ≡ []) ⊎ (Some new.client ≡ Some client)
    by_bodies new [] is = inl (sym (ap (λ (t : tale.Told). t.bodies) is))
    by_bodies new (r ∷ rs) is = inr (ap (λ (t : tale.Told). Some t.client) is)

    by_order : (found : Option Entry) → told_on ts p m before found ≡ record { client = client; bodies = said }
        → (said ≡ []) ⊎ (option_map (λ (new : Entry). new.client) found ≡ Some client)
    by_order None is = inl (sym (ap (λ (t : tale.Told). t.bodies) is))
    by_order (Some new) is = by_bodies new _ is

    by_row : (w : Bool) (found : Option Entry)
        → (if w then nobody else told_on ts p m before found) ≡ record { client = client; bodies = said }
        → (said ≡ []) ⊎ (option_map (λ (new : Entry). new.client) found ≡ Some client)
    by_row true found is = inl (sym (ap (λ (t : tale.Told). t.bodies) is))
    by_row false found is = by_order found is

no-bodies : (reports : List Message) → map body_of reports ≡ [] → reports ≡ []
no-bodies [] e = refl
no-bodies (r ∷ rs) e = absurd (cc)

module _ (s : Settings) (p link at : ℕ) (packet : Packet) (b : Batch) (v : Lists)
    (g : Gives s (PortPacket p link at packet) b v)
    (turns : Headline (terms s) (turned (outcome s (PortPacket p link at packet) b v).turn v).turns) where
  nobody-named : (o : Outcome) → outcome s (PortPacket p link at packet) b v ≡ o → NoClient s v o → b.client ≡ None
  nobody-named o is none =
      no-client b (addressee b) g.client
      (g.reports ∙ ap (λ (x : Outcome). reports_of s x v) is ∙ none.reports)
      (g.client_out ∙ ap (λ (x : Outcome). to_client_of s x v) is ∙ none.lines)

  -- the payload is at fault, or it is told
  payload-target : (payload : List ℕ) (fault : Option PortFault) → b.fault ≡ fault
      → outcome s (PortPacket p link at packet) b v ≡ told_outcome p at packet b payload
      → IsAmong b.client (by_token s p (Some payload) v)
  payload-target payload (Some n) at_fault is =
      among-none b.client _ (nobody-named _ (is ∙ told-outcome p at packet b payload (Some n) at_fault)
      (record { reports = refl; lines = no-client-lines s 0 (v.client_link 0) }))
  payload-target payload None lawful is =
      let kept = subst (λ (o : Outcome). Headline (terms s) (turned o.turn v).turns) is turns in
      by_said (token-tells (terms s) p (decoded payload) v.turns (addressee b) (bodies b) kept.0.tells)
    where
      c : ℕ
      c = addressee b

      quiet : bodies b ≡ [] → b.client ≡ None
      quiet none = no-client b (addressee b) g.client (no-bodies b.reports none)
          (g.client_out ∙ ap (λ (x : Outcome). to_client_of s x v) (is ∙ told-outcome p at packet b payload None lawful)
          ∙ ap (λ (said : List Message). to_client s c (v.client_link c)
          (client_outs s c (v.client_calls c) (issues at said))) none
          ∙ no-client-lines s c (v.client_link c))

      by_said : (bodies b ≡ []) ⊎ (by_token s p (Some payload) v ≡ Some (addressee b))
          → IsAmong b.client (by_token s p (Some payload) v)
      by_said (inl none) = among-none b.client _ (quiet none)
      by_said (inr is_for) = among-target b.client _ is_for

  packet-target : IsAmong b.client (client_target s (PortPacket p link at packet) v)
  packet-target = by_step (cases_Bool (is_stepped s (PortPacket p link at packet) v))
    where
      by_answer : is_stepped s (PortPacket p link at packet) v ≡ true → (payload : Option (List ℕ))
          → (port_answer s p (v.port_calls p) (OnPacket packet at)).payload ≡ payload
          → IsAmong b.client (by_token s p payload v)
      by_answer is None has = among-none b.client None
          (nobody-named _ (packet-outcome s p link at packet b v None is has)
          (record { reports = refl; lines = no-client-lines s 0 (v.client_link 0) }))
      by_answer is (Some payload) has = payload-target payload b.fault refl
          (packet-outcome s p link at packet b v (Some payload) is has)

      by_step : (is_stepped s (PortPacket p link at packet) v ≡ true) ⊎
          (is_stepped s (PortPacket p link at packet) v ≡ false)
          → IsAmong b.client (client_target s (PortPacket p link at packet) v)
      by_step (inl is) = by_answer is (port_answer s p (v.port_calls p) (OnPacket packet at)).payload refl
      by_step (inr none) = among-none b.client _
          (nobody-named nothing (no-outcome s (PortPacket p link at packet) b v none)
          (record { reports = refl; lines = no-client-lines s 0 (v.client_link 0) }))

-- ---- by event

module _ (s : Settings) (b : Batch) (v : Lists) where
  -- an event of a port but a packet says nothing to clients
  of-port : (e : Event) → Gives s e b v → client_named e b ≡ addressee b → NoClient s v (by_event s e b v)
      → b.client ≡ None
  of-port e g named none =
      let all = no-client-if s v (is_stepped s e v) _ nothing none
      (record { reports = refl; lines = no-client-lines s 0 (v.client_link 0) }) in
      no-client b (client_named e b) g.client (g.reports ∙ all.reports) (g.client_out ∙ all.lines)

  -- one of a client but a frame nothing to ports
  of-client : (e : Event) → Gives s e b v → NoPort s v (by_event s e b v) → b.port ≡ None
  of-client e g none =
      let all = no-port-if s v (is_stepped s e v) _ nothing none
      (record { lines = no-port-lines (v.port_link 0); fault = refl }) in
      no-port b (port_named s e) g.port (g.port_out ∙ all.lines) (g.fault ∙ all.fault)

  client-up-alone : (client link at : ℕ) (current : Option ℕ) → NoPort s v (client_up client link at current)
  client-up-alone client link at None = record { lines = no-port-lines (v.port_link 0); fault = refl }
  client-up-alone client link at (Some n) =
      no-port-if s v (n == link) _ _ (record { lines = no-port-lines (v.port_link 0); fault = refl })
      (record { lines = no-port-lines (v.port_link 0); fault = refl })

  port-up-alone : (p link at : ℕ) (current : Option ℕ) → NoClient s v (port_up p link at current)
  port-up-alone p link at None = record { reports = refl; lines = no-client-lines s 0 (v.client_link 0) }
  port-up-alone p link at (Some n) =
      no-client-if s v (n == link) _ _ (record { reports = refl; lines = no-client-lines s 0 (v.client_link 0) })
      (record { reports = refl; lines = no-client-lines s 0 (v.client_link 0) })

  pub targets-kept : (e : Event) → Gives s e b v → Headline (terms s) (turned (outcome s e b v).turn v).turns
      → Targets s e b v
  targets-kept (ClientUp client link at) g turns = record {
    client = among-due (is_for_client b) client b.client g.client;
    port = among-none b.port None (of-client (ClientUp client link at) g
        (client-up-alone client link at (v.client_link client)));
  }
  targets-kept (ClientMessage client link at frame) g turns = record {
    client = among-due (is_for_client b) client b.client g.client;
    port = among-due (is_for_port b) _ b.port g.port;
  }
  targets-kept (ClientGone client link at) g turns = record {
    client = among-due (is_for_client b) client b.client g.client;
    port = among-none b.port None (of-client (ClientGone client link at) g
        (record { lines = no-port-lines (v.port_link 0); fault = refl }));
  }
  targets-kept (ClientTick client at) g turns = record {
    client = among-due (is_for_client b) client b.client g.client;
    port = among-none b.port None (of-client (ClientTick client at) g
        (record { lines = no-port-lines (v.port_link 0); fault = refl }));
  }
  targets-kept (PortUp p link at) g turns = record {
    client = among-none b.client None (of-port (PortUp p link at) g refl (port-up-alone p link at (v.port_link p)));
    port = among-due (is_for_port b) p b.port g.port;
  }
  targets-kept (PortPacket p link at packet) g turns = record {
    client = packet-target s p link at packet b v g turns;
    port = among-due (is_for_port b) p b.port g.port;
  }
  targets-kept (PortGone p link at) g turns = record {
    client = among-none b.client None (of-port (PortGone p link at) g refl
        (record { reports = refl; lines = no-client-lines s 0 (v.client_link 0) }));
    port = among-due (is_for_port b) p b.port g.port;
  }
  targets-kept (PortTick p at) g turns = record {
    client = among-none b.client None (of-port (PortTick p at) g refl
        (record { reports = refl; lines = no-client-lines s 0 (v.client_link 0) }));
    port = among-due (is_for_port b) p b.port g.port;
  }
