use Rattle.std.proofs.Common.{◌≡◌, ◌+◌, ℕ, true, refl, sym, subst}
use Rattle.std.specs.Prelude.{◌&&◌}
use Rattle.gate_law.specs.Settings.{has_port}
use Rattle.gate_law.specs.Events.{PortGone, Batch, empty, is_the_number}
use Rattle.gate_core.specs.declared.parts.Parts.{Parts}
use Rattle.gate_core.specs.Steps.{Stepped}
use Rattle.gate_core.proofs.Growing.{ports-grow}
use Rattle.gate_core.proofs.PortLinks.{port-gone}
use Rattle.gate_core.proofs.parts.Parts.port_gone.Goals as goal

pub returns-clause-step : goal.returns-clause-step
returns-clause-step g c s v ready =
    let place = c.in-Some.place in
    let new : Parts _ _ = record {
      clients = c.args.self.now.clients;
      ports = c.gone.new.self;
      client_ports =
          c.args.self.now.client_ports;
      orders = c.args.self.now.orders;
    } in
    let is = c.in-Some.ensures.place.0 in
    subst (λ (b : Batch). Stepped s (PortGone c.args.port c.args.link c.args.at) b v new) (sym c.empty-2.ensures)
    (subst (λ (n : ℕ). Stepped s (PortGone n c.args.link c.args.at) empty v new) (sym is)
    (port-gone s v c.args.self.now new (place + 1) c.args.link c.args.at
    (subst (λ (n : ℕ). (has_port s n && is_the_number c.args.link (v.port_link n)) ≡ true) is
    (sym (c.in-Some.ensures.on s v ready.parts)))
    ready (c.gone.ensures.leave s v.port_calls ready.parts.ports)
    (c.gone.ensures.links v.port_link ready.parts.port_links)
    c.gone.ensures.length refl refl refl))

pub returns-clause-grows : goal.returns-clause-grows
returns-clause-grows g c =
    let new : Parts _ _ = record {
      clients = c.args.self.now.clients;
      ports = c.gone.new.self;
      client_ports =
          c.args.self.now.client_ports;
      orders = c.args.self.now.orders;
    } in
    ports-grow c.args.self.now new c.gone.ensures.length c.gone.ensures.next c.gone.ensures.settled refl refl refl
