use Rattle.std.proofs.Common.{◌≡◌, ◌+◌, ℕ, [], ◌∷◌, map, true, Some, None, refl, sym, ◌∙◌, subst}
use Rattle.std.proofs.lemmas.Result.{IfOk-weaker}
use Rattle.soup_session.specs.Table.{OnUp}
use Rattle.gate_law.specs.Settings.{has_port}
use Rattle.gate_law.specs.Sessions.{port_answer}
use Rattle.gate_law.specs.Events.{PortUp, Batch, Close, empty}
use Rattle.gate_sessions.specs.Lines.{called, link_set}
use Rattle.gate_core.specs.declared.parts.Parts.{Parts}
use Rattle.gate_events.specs.Seen.{link_out_seen}
use Rattle.gate_core.specs.Steps.{Stepped}
use Rattle.gate_events.specs.Batches.{batch_of}
use Rattle.std.specs.Prelude.{option_to_list}
use Rattle.gate_core.proofs.Told.{port-told, port-told-alone}
use Rattle.gate_core.proofs.Growing.{ports-grow}
use Rattle.gate_core.proofs.PortLinks.{port-comes, port-again, port-refused}
use Rattle.gate_law.proofs.Messages.{reads-after}
use Rattle.gate_core.proofs.parts.Parts.port_up.Goals as goal

pub returns-in_ok-outs-in-None-clause-step : goal.returns-in_ok-outs-in-None-clause-step
returns-in_ok-outs-in-None-clause-step g c s v ready =
    let place = c.in-Some.place in
    let n = place + 1 in
    let new : Parts _ _ = record {
      clients = c.args.self.now.clients;
      ports = c.told_port.new.ports;
      client_ports =
          c.args.self.now.client_ports;
      orders = c.args.self.now.orders;
    } in
    let is = c.in-Some.ensures.place.0 in
    let outs = map link_out_seen c.in_ok-outs-in-None.outs.items in
    let after = link_set n (Some c.args.link) v.port_link in
    let links = c.in_ok-turn-in-None.ensures.links v.port_link ready.parts.port_links in
    let answer = c.in_ok-turn-in-None.ensures.answers s v.port_calls ready.parts.ports in
    let said = port-told-alone (after n) outs (option_to_list c.in_ok-turn-in-None.turn.out) _
    (c.in_ok-outs-in-None.ensures.outs after links) c.new.ensures.items in
    subst (λ (b : Batch). Stepped s (PortUp c.args.port c.args.link c.args.at) b v new) (sym c.for_port.ensures)
    (subst (λ (m : ℕ). Stepped s (PortUp m c.args.link c.args.at) (batch_of 0 [] [] m outs None) v new) (sym is)
    (port-comes s v c.args.self.now new n c.args.link c.args.at outs
    (subst (λ (m : ℕ). has_port s m ≡ true) is (sym (c.in-Some.ensures.known s v ready.parts)))
    (sym (c.port_link.ensures.link s v ready.parts) ∙ c.in-None.is)
    ready reads-after
    (port-told (after n) outs (option_to_list c.in_ok-turn-in-None.turn.out) []
    (port_answer s n (v.port_calls n) (OnUp c.args.at)).outs [] said answer.outs refl)
    (c.told_port.ensures.leave s (called n (OnUp c.args.at) v.port_calls)
    (c.in_ok-turn-in-None.ensures.leave s v.port_calls ready.parts.ports))
    (c.in_ok-outs-in-None.ensures.links after links)
    (c.told_port.ensures.length ∙ c.up.ensures.length) refl refl refl))

pub returns-in-Some-port_link-clause-step : goal.returns-in-Some-port_link-clause-step
returns-in-Some-port_link-clause-step g c s v ready =
    let place = c.in-Some.place in
    let is = c.in-Some.ensures.place.0 in
    subst (λ (b : Batch). Stepped s (PortUp c.args.port c.args.link c.args.at) b v c.args.self.now)
    (sym c.empty-in-Some-port_link.ensures)
    (subst (λ (n : ℕ). Stepped s (PortUp n c.args.link c.args.at) empty v c.args.self.now) (sym is)
    (port-again s v c.args.self.now (place + 1) c.args.link c.args.at c.in-Some-port_link.current
    (subst (λ (n : ℕ). has_port s n ≡ true) is (sym (c.in-Some.ensures.known s v ready.parts)))
    (sym (c.port_link.ensures.link s v ready.parts) ∙ c.in-Some-port_link.is) c.if-current-link.true ready))

pub returns-in-Some-2-clause-step : goal.returns-in-Some-2-clause-step
returns-in-Some-2-clause-step g c =
    let place = c.in-Some.place in
    let is = c.in-Some.ensures.place.0 in
    IfOk-weaker c.refused_port.result _ _
    (λ b batch s v ready.
    subst (λ (x : Batch). Stepped s (PortUp c.args.port c.args.link c.args.at) x v c.args.self.now) (sym batch)
    (subst (λ (n : ℕ). Stepped s (PortUp n c.args.link c.args.at)
    (batch_of 0 [] [] n (Close c.args.link ∷ []) None) v c.args.self.now) (sym is)
    (port-refused s v c.args.self.now (place + 1) c.args.link c.args.at c.in-Some-port_link.current
    (subst (λ (n : ℕ). has_port s n ≡ true) is (sym (c.in-Some.ensures.known s v ready.parts)))
    (sym (c.port_link.ensures.link s v ready.parts) ∙ c.in-Some-port_link.is) c.if-current-link.false ready)))
    c.refused_port.ensures

pub returns-in_err-turn-in-None-clause-grows : goal.returns-in_err-turn-in-None-clause-grows
returns-in_err-turn-in-None-clause-grows g c =
    let new : Parts _ _ = record {
      clients = c.args.self.now.clients;
      ports = c.up.new.self;
      client_ports =
          c.args.self.now.client_ports;
      orders = c.args.self.now.orders;
    } in
    ports-grow c.args.self.now new c.up.ensures.length c.up.ensures.next c.up.ensures.settled refl refl refl

pub returns-in_err-outs-in-None-clause-grows : goal.returns-in_err-outs-in-None-clause-grows
returns-in_err-outs-in-None-clause-grows g c =
    let new : Parts _ _ = record {
      clients = c.args.self.now.clients;
      ports = c.told_port.new.ports;
      client_ports =
          c.args.self.now.client_ports;
      orders = c.args.self.now.orders;
    } in
    ports-grow c.args.self.now new (c.told_port.ensures.length ∙ c.up.ensures.length)
    (λ n within. c.told_port.ensures.next n (c.up.ensures.next n within))
    (λ was kept. c.told_port.ensures.settled was (c.up.ensures.settled was kept)) refl refl refl

pub returns-in_ok-outs-in-None-clause-grows : goal.returns-in_ok-outs-in-None-clause-grows
returns-in_ok-outs-in-None-clause-grows g c =
    let new : Parts _ _ = record {
      clients = c.args.self.now.clients;
      ports = c.told_port.new.ports;
      client_ports =
          c.args.self.now.client_ports;
      orders = c.args.self.now.orders;
    } in
    ports-grow c.args.self.now new (c.told_port.ensures.length ∙ c.up.ensures.length)
    (λ n within. c.told_port.ensures.next n (c.up.ensures.next n within))
    (λ was kept. c.told_port.ensures.settled was (c.up.ensures.settled was kept)) refl refl refl
