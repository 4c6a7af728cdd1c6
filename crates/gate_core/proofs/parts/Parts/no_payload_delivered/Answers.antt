use Rattle.std.proofs.Common.{◌+◌, ℕ, [], List, ◌∷◌, ◌++◌, map, refl, sym, ap, ◌∙◌, subst}
use Rattle.std.specs.Prelude.{option_to_list}
use Rattle.soup_session.specs.Table.{PortCall, OnPacket}
use Rattle.gate_law.specs.Events.{PortPacket, Batch}
use Rattle.gate_law.specs.Lists.{port_called}
use Rattle.gate_law.specs.Sessions.{fault_in, sends, to_port}
use Rattle.gate_sessions.specs.Lines.{called_all}
use Rattle.gate_core.specs.declared.parts.Parts.{Parts}
use Rattle.gate_events.specs.Seen.{link_out_seen}
use Rattle.gate_core.specs.Steps.{Stepped}
use Rattle.gate_core.proofs.Growing.{ports-grow, grows-then}
use Rattle.gate_core.proofs.PortEvents.{with-calls}
use Rattle.gate_events.specs.Batches.{batch_of}
use Rattle.gate_core.proofs.PortPackets.{port-heard}
use Rattle.gate_law.proofs.Messages.{reads-after}
use Rattle.gate_core.proofs.parts.Parts.no_payload_delivered.Goals as goal

pub returns-clause-step : goal.returns-clause-step
returns-clause-step g c s v link packet given before =
    let p = c.args.place + 1 in
    let call : PortCall = OnPacket packet c.args.at in
    let between = c.send_again.new.self in
    let new : Parts _ _ = record {
      clients = between.clients;
      ports = c.told_port.new.ports;
      client_ports =
          between.client_ports;
      orders = between.orders;
    } in
    let outs = map link_out_seen c.in_ok-outs.outs.items in
    let again = c.in_ok-sent.ensures.sent s (port_called p call v) given.parts given.few in
    let calls = call ∷ sends c.args.at again.messages in
    let state_is = c.port_state.ensures.state s (port_called p call v) given.parts in
    let fault = c.fault_of-fault.result in
    let parts = with-calls s p calls v between again.sent.parts in
    subst (λ (b : Batch). Stepped s (PortPacket p link c.args.at packet) b v new)
    (sym (c.for_port.ensures ∙ ap (λ (n : ℕ). batch_of 0 [] [] n outs fault) c.at_place.ensures))
    (port-heard reads-after s v p link c.args.at packet c.args.stood (option_to_list c.args.said)
    (map link_out_seen c.in_ok-sent.sent.items) fault outs c.args.self.now between new
    given before again
    (c.fault_of-fault.ensures ∙ ap fault_in state_is)
    (c.in_ok-outs.ensures.outs v.port_link parts.port_links)
    (c.told_port.ensures.leave s (called_all p calls v.port_calls) parts.ports)
    (c.in_ok-outs.ensures.links v.port_link parts.port_links)
    c.told_port.ensures.length refl refl refl)

pub returns-in_err-outs-clause-grows : goal.returns-in_err-outs-clause-grows
returns-in_err-outs-clause-grows g c =
    let between = c.send_again.new.self in
    let new : Parts _ _ = record {
      clients = between.clients;
      ports = c.told_port.new.ports;
      client_ports =
          between.client_ports;
      orders = between.orders;
    } in
    grows-then 0 0 0 0 c.args.self.now between new c.send_again.ensures.grows
    (ports-grow between new c.told_port.ensures.length c.told_port.ensures.next c.told_port.ensures.settled refl
    refl refl)

pub returns-clause-grows : goal.returns-clause-grows
returns-clause-grows g c =
    let between = c.send_again.new.self in
    let new : Parts _ _ = record {
      clients = between.clients;
      ports = c.told_port.new.ports;
      client_ports =
          between.client_ports;
      orders = between.orders;
    } in
    grows-then 0 0 0 0 c.args.self.now between new c.send_again.ensures.grows
    (ports-grow between new c.told_port.ensures.length c.told_port.ensures.next c.told_port.ensures.settled refl
    refl refl)
