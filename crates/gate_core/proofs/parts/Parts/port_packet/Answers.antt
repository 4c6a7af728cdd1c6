use Rattle.std.proofs.Common.{◌≡◌, ◌+◌, ℕ, Bool, List, Option, Some, None, true, refl, sym, ap, ◌∙◌, subst, arith}
use Rattle.std.specs.Prelude.{◌&&◌, if◌then◌else◌, option_to_list}
use Rattle.std.proofs.lemmas.Result.{IfOk-weaker}
use Rattle.gate_law.specs.Settings.{has_port}
use Rattle.gate_law.specs.Events.{PortPacket, is_the_number}
use Rattle.gate_core.specs.declared.parts.Parts.{Parts}
use Rattle.gate_events.specs.Seen.{batch_seen}
use Rattle.gate_core.specs.Steps.{AfterPacket, Stepped}
use Rattle.gate_core.proofs.Growing.{grows-then, grows-within}
use Rattle.gate_core.proofs.PortEvents.{packets-grow}
use Rattle.gate_core.proofs.PortPackets.{after-packet}
use Rattle.gate_core.proofs.parts.Parts.port_packet.Goals as goal

pub returns-then-is_delivered-clause-step : goal.returns-then-is_delivered-clause-step
returns-then-is_delivered-clause-step g c =
    IfOk-weaker c.payload_delivered.result _ _
    (λ b step s v ready.
    let p = c.in-Some.place + 1 in
    let is = c.in-Some.ensures.place.0 in
    let mid : Parts _ _ = record {
      clients = c.args.self.now.clients;
      ports = c.packet-out.new.self;
      client_ports =
          c.args.self.now.client_ports;
      orders = c.args.self.now.orders;
    } in
    let on = subst (λ (k : ℕ). (has_port s k && is_the_number c.args.link (v.port_link k)) ≡ true) is
    (sym (c.in-Some.ensures.on s v ready.parts)) in
    let given = after-packet s v p c.args.link c.args.at c.args.packet.now c.packet-out.result c.args.self.now mid on
    (c.packet-out.ensures.answers s v.port_calls ready.parts.ports) ready
    (c.packet-out.ensures.leave s v.port_calls ready.parts.ports)
    (c.packet-out.ensures.links v.port_link ready.parts.port_links) c.packet-out.ensures.length refl refl refl in
    let of_payload = subst (λ (q : Option (List ℕ)). AfterPacket s p c.args.link c.args.at c.args.packet.now q
    (option_to_list c.packet-out.result.out) v mid)
    (ap (λ (is_delivered : Bool). if is_delivered then Some c.args.packet.now.payload else None) c.if-is_delivered.true
    ∙ ap Some (sym c.as_slice.ensures.bytes)) given in
    subst (λ (k : ℕ). Stepped s (PortPacket k c.args.link c.args.at c.args.packet.now)
    (batch_seen b) v c.payload_delivered.new.self) (sym is)
    (step s v c.args.link c.args.packet.now
    of_payload))
    c.payload_delivered.ensures.step

pub returns-then-is_delivered-clause-grows : goal.returns-then-is_delivered-clause-grows
returns-then-is_delivered-clause-grows g c =
    grows-then 0 1 3 0 _ _ _ (packets-grow 1 c.args.self.now _ c.packet-out.ensures.length c.packet-out.ensures.next
    c.packet-out.ensures.settled refl refl refl) c.payload_delivered.ensures.grows

pub returns-else-is_delivered-clause-step : goal.returns-else-is_delivered-clause-step
returns-else-is_delivered-clause-step g c =
    IfOk-weaker c.no_payload_delivered.result _ _
    (λ b step s v ready.
    let p = c.in-Some.place + 1 in
    let is = c.in-Some.ensures.place.0 in
    let mid : Parts _ _ = record {
      clients = c.args.self.now.clients;
      ports = c.packet-out.new.self;
      client_ports =
          c.args.self.now.client_ports;
      orders = c.args.self.now.orders;
    } in
    let on = subst (λ (k : ℕ). (has_port s k && is_the_number c.args.link (v.port_link k)) ≡ true) is
    (sym (c.in-Some.ensures.on s v ready.parts)) in
    let given = after-packet s v p c.args.link c.args.at c.args.packet.now c.packet-out.result c.args.self.now mid on
    (c.packet-out.ensures.answers s v.port_calls ready.parts.ports) ready
    (c.packet-out.ensures.leave s v.port_calls ready.parts.ports)
    (c.packet-out.ensures.links v.port_link ready.parts.port_links) c.packet-out.ensures.length refl refl refl in
    subst (λ (k : ℕ). Stepped s (PortPacket k c.args.link c.args.at c.args.packet.now)
    (batch_seen b) v c.no_payload_delivered.new.self) (sym is)
    (step s v c.args.link c.args.packet.now
    (subst (λ (q : Option (List ℕ)). AfterPacket s p c.args.link c.args.at c.args.packet.now q
    (option_to_list c.packet-out.result.out) v mid)
    (ap (λ (is_delivered : Bool). if is_delivered then Some c.args.packet.now.payload else None)
    c.if-is_delivered.false) given)
    (c.port_state-stood.ensures.state s v ready.parts)))
    c.no_payload_delivered.ensures.step

pub returns-else-is_delivered-clause-grows : goal.returns-else-is_delivered-clause-grows
returns-else-is_delivered-clause-grows g c =
    grows-within 0 3 1 _ _ (omega arith)
    (grows-then 0 1 0 0 _ _ _ (packets-grow 1 c.args.self.now _ c.packet-out.ensures.length c.packet-out.ensures.next
    c.packet-out.ensures.settled refl refl refl) c.no_payload_delivered.ensures.grows)
