-- A message that a client's session delivered: the turn, the issues and the sends, one after another.
use Rattle.std.proofs.Common.{◌≡◌, ◌+◌, ℕ, List, map, Option, Some, sym, ap, ◌∙◌, subst}
use Rattle.fix_types.specs.declared.application.AppBody.{AppBody}
use Rattle.fix_types.specs.declared.application.AppMsg.{AppMsg}
use Rattle.fix_types.specs.Application.{body_fields}
use Rattle.ouch_codec.specs.declared.inbound.Inbound.{Inbound}
use Rattle.ouch_codec.specs.Inbound.{inbound_bytes}
use Rattle.session_law.specs.Frames.{told_of_out}
use Rattle.gate_sessions.specs.Links.{outs_told_on}
use Rattle.gate_events.specs.Seen.{link_out_seen}
use Rattle.soup_session.specs.States.{is_up}
use Rattle.soup_session.specs.Table as table
use Rattle.fix_fields.specs.Field.{Message}
use Rattle.order_core.specs.declared.outcome.CoreOut.{CoreOut}
use Rattle.gate_law.specs.Settings.{Settings, port_of, client_name}
use Rattle.gate_law.specs.Lists.{Lists, turned, client_called_all, port_called_all}
use Rattle.gate_law.specs.Sessions.{issues, sends, port_state, port_outs, to_port, client_outs, client_reports}
use Rattle.gate_core.specs.declared.parts.Parts.{Parts}
use Rattle.gate_core.specs.declared.parts.client_messages.Asked.{Asked}
use Rattle.gate_core.specs.State.{ArePartsOf}
use Rattle.gate_core.specs.Steps.{IsAsked, IsIssued, IsSent, IsTurn, OnlyWhileUp, orders_turn_of}
use Rattle.gate_core.proofs.ClientEvents.{client-called-is}

-- issues leave the calls and the link of every port
ports-as-they-were : (c : ℕ) (at : ℕ) (bodies : List Message) (v : Lists)
    → (client_called_all c (issues at bodies) v).port_calls ≡ v.port_calls
ports-as-they-were c at bodies v = ap (λ (w : Lists). w.port_calls) (client-called-is c (issues at bodies) v)

links-as-they-were : (c : ℕ) (at : ℕ) (bodies : List Message) (v : Lists)
    → (client_called_all c (issues at bodies) v).port_link ≡ v.port_link
links-as-they-were c at bodies v = ap (λ (w : Lists). w.port_link) (client-called-is c (issues at bodies) v)

pub is-asked : {S H : Type 0} (s : Settings) (n at port : ℕ) (message : AppMsg) (core : CoreOut) (bodies : List AppBody)
    (messages : List Inbound) (out : Asked) (v : Lists) (first second new : Parts S H)
    → port + 1 ≡ port_of s n → bodies ≡ core.bodies.items → messages ≡ core.sends.items
    → IsTurn s n message core v first
    → IsIssued s n at (map body_fields bodies) out.issues (turned (Some (orders_turn_of s n message core v)) v) second
    → (let w : Lists = client_called_all n (issues at (map body_fields bodies))
    (turned (Some (orders_turn_of s n message core v)) v) in
    OnlyWhileUp s (port + 1) w (map inbound_bytes messages)
    → IsSent s (port + 1) at (map inbound_bytes messages) (map link_out_seen out.port_outs.items) w new)
    → IsAsked s n at message out v new
is-asked s n at port message core bodies messages out v first second new is same_bodies same_messages turn issued sent =
    let t = orders_turn_of s n message core v in
    let w : Lists = client_called_all n (issues at (map body_fields bodies)) (turned (Some t) v) in
    let calls : w.port_calls ≡ v.port_calls = ports-as-they-were n at (map body_fields bodies) (turned (Some t) v) in
    let links : w.port_link ≡ v.port_link = links-as-they-were n at (map body_fields bodies) (turned (Some t) v) in
    let only : OnlyWhileUp s (port + 1) w (map inbound_bytes messages) =
    subst (λ (p : ℕ). OnlyWhileUp s p w (map inbound_bytes messages)) (sym is)
    (λ down. ap (map inbound_bytes) same_messages
    ∙ turn.sends (ap (λ (f : ℕ → List table.PortCall). is_up (port_state s (port_of s n) (f (port_of s n)))) (sym calls)
    ∙ down)) in
    let all = sent only in
    let bodies_are : map body_fields bodies ≡ t.bodies = ap (map body_fields) same_bodies in
    let sends_are : map inbound_bytes messages ≡ t.sends = ap (map inbound_bytes) same_messages in
    record {
      core = core;
      headline = turn.headline;
      only = turn.sends;
      outs = subst (λ (bs : List Message). map link_out_seen out.issues.outs.items
          ≡ outs_told_on (v.client_link n) (map (told_of_out s.comp (client_name s n))
          (client_outs s n (v.client_calls n) (issues at bs)))) bodies_are issued.outs;
      reports = subst (λ (bs : List Message). out.issues.reports.items
          ≡ client_reports s n (v.client_calls n) (issues at bs)) bodies_are issued.reports;
      bodies_are = issued.bodies_are ∙ bodies_are;
      port_outs_are = all.outs_are
          ∙ ap (λ (l : ℕ → Option ℕ). to_port (l (port + 1))
          (port_outs s (port + 1) (w.port_calls (port + 1)) (sends at (map inbound_bytes messages)))) links
          ∙ ap (λ (f : ℕ → List table.PortCall). to_port (v.port_link (port + 1))
          (port_outs s (port + 1) (f (port + 1)) (sends at (map inbound_bytes messages)))) calls
          ∙ ap (λ (p : ℕ). to_port (v.port_link p) (port_outs s p (v.port_calls p)
          (sends at (map inbound_bytes messages)))) is
          ∙ ap (λ (ms : List (List ℕ)). to_port (v.port_link (port_of s n))
          (port_outs s (port_of s n) (v.port_calls (port_of s n)) (sends at ms))) sends_are;
      parts = subst (λ (bs : List Message). ArePartsOf s
          (port_called_all (port_of s n) (sends at t.sends) (client_called_all n (issues at bs) (turned (Some t) v)))
          new) bodies_are
          (subst (λ (ms : List (List ℕ)). ArePartsOf s (port_called_all (port_of s n) (sends at ms) w) new) sends_are
          (subst (λ (p : ℕ). ArePartsOf s (port_called_all p (sends at (map inbound_bytes messages)) w) new) is
          all.parts));
    }
