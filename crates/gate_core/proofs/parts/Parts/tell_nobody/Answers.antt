use Rattle.std.proofs.Common.{◌+◌, ◌∙◌, ℕ, [], None, ap, map, refl, sym, subst}
use Rattle.gate_law.specs.Events.{Batch, PortPacket}
use Rattle.gate_law.specs.Lists.{port_called}
use Rattle.soup_session.specs.Table.{OnPacket}
use Rattle.gate_core.specs.declared.parts.Parts.{Parts}
use Rattle.gate_events.specs.Seen.{link_out_seen}
use Rattle.gate_events.specs.Batches.{batch_of}
use Rattle.gate_core.specs.Steps.{Stepped}
use Rattle.gate_core.proofs.Growing.{ports-grow}
use Rattle.std.specs.Prelude.{option_to_list}
use Rattle.gate_core.proofs.Told.{port-told-alone}
use Rattle.gate_core.proofs.Payloads.{nobody-step}
use Rattle.gate_law.proofs.Messages.{reads-after}
use Rattle.gate_core.proofs.parts.Parts.tell_nobody.Goals as goal

pub returns-in_err-port_out-clause-grows : goal.returns-in_err-port_out-clause-grows
returns-in_err-port_out-clause-grows g c =
    ports-grow c.args.self.now _ c.told_port.ensures.length c.told_port.ensures.next c.told_port.ensures.settled refl
    refl refl

pub returns-clause-grows : goal.returns-clause-grows
returns-clause-grows g c = ports-grow c.args.self.now _ c.told_port.ensures.length c.told_port.ensures.next
    c.told_port.ensures.settled refl refl refl

pub returns-clause-step : goal.returns-clause-step
returns-clause-step it c s v link at packet payload g given told =
    let p = c.args.place + 1 in
    let new : Parts _ _ = record {
      clients = c.args.self.now.clients;
      ports = c.told_port.new.ports;
      client_ports =
          c.args.self.now.client_ports;
      orders = c.args.self.now.orders;
    } in
    subst (λ (b : Batch). Stepped s (PortPacket p link at packet) b v new)
    (sym (c.for_port.ensures ∙ ap (λ (n : ℕ). batch_of 0 [] [] n
    (map link_out_seen c.in_ok-port_out.port_out.items) None) c.at_place.ensures))
    (nobody-step s p link at packet payload (option_to_list c.args.said) v g given c.args.self.now new
    (map link_out_seen c.in_ok-port_out.port_out.items)
    reads-after told (port-told-alone (v.port_link p) _ (option_to_list c.args.said) _
    (c.in_ok-port_out.ensures.outs v.port_link told.parts.port_links) c.new.ensures.items)
    (c.told_port.ensures.leave s (port_called p (OnPacket packet at) v).port_calls told.parts.ports)
    (c.in_ok-port_out.ensures.links v.port_link told.parts.port_links) c.told_port.ensures.length refl refl refl)
