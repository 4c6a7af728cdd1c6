use Rattle.std.proofs.Common.{◌≡◌, ◌+◌, ℕ, [], map, true, None, refl, sym, ◌∙◌, subst}
use Rattle.soup_session.specs.Table.{OnTick}
use Rattle.gate_law.specs.Settings.{has_port}
use Rattle.gate_law.specs.Sessions.{port_answer}
use Rattle.gate_law.specs.Events.{PortTick, Batch}
use Rattle.gate_sessions.specs.Lines.{called}
use Rattle.gate_core.specs.declared.parts.Parts.{Parts}
use Rattle.gate_events.specs.Seen.{link_out_seen}
use Rattle.gate_core.specs.Steps.{Stepped}
use Rattle.gate_events.specs.Batches.{batch_of}
use Rattle.std.specs.Prelude.{option_to_list}
use Rattle.gate_core.proofs.Told.{port-told, port-told-alone}
use Rattle.gate_core.proofs.Growing.{ports-grow}
use Rattle.gate_core.proofs.PortLinks.{port-tick}
use Rattle.gate_law.proofs.Messages.{reads-after}
use Rattle.gate_core.proofs.parts.Parts.port_tick.Goals as goal

pub returns-clause-step : goal.returns-clause-step
returns-clause-step g c s v ready =
    let place = c.in-Some.place in
    let n = place + 1 in
    let new : Parts _ _ = record {
      clients = c.args.self.now.clients;
      ports = c.told_port.new.ports;
      client_ports =
          c.args.self.now.client_ports;
      orders = c.args.self.now.orders;
    } in
    let is = c.in-Some.ensures.place.0 in
    let outs = map link_out_seen c.in_ok-outs.outs.items in
    let links = c.tick-turn.ensures.links v.port_link ready.parts.port_links in
    let answer = c.tick-turn.ensures.answers s v.port_calls ready.parts.ports in
    let said = port-told-alone (v.port_link n) outs (option_to_list c.tick-turn.result.out) _
    (c.in_ok-outs.ensures.outs v.port_link links) c.new.ensures.items in
    subst (λ (b : Batch). Stepped s (PortTick c.args.port c.args.at) b v new) (sym c.for_port.ensures)
    (subst (λ (m : ℕ). Stepped s (PortTick m c.args.at) (batch_of 0 [] [] m outs None) v new) (sym is)
    (port-tick s v c.args.self.now new n c.args.at outs
    (subst (λ (m : ℕ). has_port s m ≡ true) is (sym (c.in-Some.ensures.known s v ready.parts)))
    ready reads-after
    (port-told (v.port_link n) outs (option_to_list c.tick-turn.result.out) []
    (port_answer s n (v.port_calls n) (OnTick c.args.at)).outs [] said answer.outs refl)
    (c.told_port.ensures.leave s (called n (OnTick c.args.at) v.port_calls)
    (c.tick-turn.ensures.leave s v.port_calls ready.parts.ports))
    (c.in_ok-outs.ensures.links v.port_link links)
    (c.told_port.ensures.length ∙ c.tick-turn.ensures.length) refl refl refl))

pub returns-in_err-outs-clause-grows : goal.returns-in_err-outs-clause-grows
returns-in_err-outs-clause-grows g c =
    let new : Parts _ _ = record {
      clients = c.args.self.now.clients;
      ports = c.told_port.new.ports;
      client_ports =
          c.args.self.now.client_ports;
      orders = c.args.self.now.orders;
    } in
    ports-grow c.args.self.now new (c.told_port.ensures.length ∙ c.tick-turn.ensures.length)
    (λ n within. c.told_port.ensures.next n (c.tick-turn.ensures.next n within))
    (λ was kept. c.told_port.ensures.settled was (c.tick-turn.ensures.settled was kept)) refl refl refl

pub returns-clause-grows : goal.returns-clause-grows
returns-clause-grows g c =
    let new : Parts _ _ = record {
      clients = c.args.self.now.clients;
      ports = c.told_port.new.ports;
      client_ports =
          c.args.self.now.client_ports;
      orders = c.args.self.now.orders;
    } in
    ports-grow c.args.self.now new (c.told_port.ensures.length ∙ c.tick-turn.ensures.length)
    (λ n within. c.told_port.ensures.next n (c.tick-turn.ensures.next n within))
    (λ was kept. c.told_port.ensures.settled was (c.tick-turn.ensures.settled was kept)) refl refl refl
