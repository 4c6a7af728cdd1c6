use Rattle.std.proofs.Common.{◌≡◌, ◌+◌, ℕ, true, refl, sym, subst}
use Rattle.std.specs.Prelude.{◌&&◌}
use Rattle.gate_law.specs.Settings.{has_client}
use Rattle.gate_law.specs.Events.{ClientGone, Batch, empty, is_the_number}
use Rattle.gate_core.specs.declared.parts.Parts.{Parts}
use Rattle.gate_core.specs.Steps.{Stepped}
use Rattle.gate_core.proofs.ClientLinks.{client-gone}
use Rattle.gate_core.proofs.parts.Parts.client_gone.Goals as goal

pub returns-clause-step : goal.returns-clause-step
returns-clause-step g c s v ready =
    let place = c.in-Some.place in
    let new : Parts _ _ = record {
      clients = c.gone.new.self;
      ports = c.args.self.now.ports;
      client_ports =
          c.args.self.now.client_ports;
      orders = c.args.self.now.orders;
    } in
    let is = c.in-Some.ensures.place.0 in
    subst (λ (b : Batch). Stepped s (ClientGone c.args.client c.args.link c.args.at) b v new) (sym c.empty-2.ensures)
    (subst (λ (n : ℕ). Stepped s (ClientGone n c.args.link c.args.at) empty v new) (sym is)
    (client-gone s v c.args.self.now new (place + 1) c.args.link c.args.at
    (subst (λ (n : ℕ). (has_client s n && is_the_number c.args.link (v.client_link n)) ≡ true) is
    (sym (c.in-Some.ensures.on s v ready.parts)))
    ready (c.gone.ensures.leave s v.client_calls ready.parts.clients)
    (c.gone.ensures.links v.client_link ready.parts.client_links)
    c.gone.ensures.length refl refl refl))
