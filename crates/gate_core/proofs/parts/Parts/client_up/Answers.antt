use Rattle.std.proofs.Common.{◌≡◌, ◌+◌, ℕ, true, None, [], ◌∷◌, refl, sym, ◌∙◌, subst}
use Rattle.std.proofs.lemmas.Result.{IfOk-weaker}
use Rattle.gate_law.specs.Settings.{has_client}
use Rattle.gate_law.specs.Events.{ClientUp, Batch, Close, empty}
use Rattle.gate_core.specs.declared.parts.Parts.{Parts}
use Rattle.gate_core.specs.Steps.{Stepped}
use Rattle.gate_events.specs.Batches.{batch_of}
use Rattle.gate_core.proofs.ClientLinks.{client-comes, client-again, client-refused}
use Rattle.gate_core.proofs.parts.Parts.client_up.Goals as goal

pub returns-in-None-clause-step : goal.returns-in-None-clause-step
returns-in-None-clause-step g c s v ready =
    let place = c.in-Some.place in
    let new : Parts _ _ = record {
      clients = c.up.new.self;
      ports = c.args.self.now.ports;
      client_ports =
          c.args.self.now.client_ports;
      orders = c.args.self.now.orders;
    } in
    let is = c.in-Some.ensures.place.0 in
    subst (λ (b : Batch). Stepped s (ClientUp c.args.client c.args.link c.args.at) b v new)
    (sym c.empty-in-None.ensures)
    (subst (λ (n : ℕ). Stepped s (ClientUp n c.args.link c.args.at) empty v new) (sym is)
    (client-comes s v c.args.self.now new (place + 1) c.args.link c.args.at
    (subst (λ (n : ℕ). has_client s n ≡ true) is (sym (c.in-Some.ensures.known s v ready.parts)))
    (sym (c.client_link.ensures.link s v ready.parts) ∙ c.in-None.is)
    ready (c.up.ensures.leave s v.client_calls ready.parts.clients)
    (c.up.ensures.links v.client_link ready.parts.client_links)
    c.up.ensures.length refl refl refl))

pub returns-in-Some-client_link-clause-step : goal.returns-in-Some-client_link-clause-step
returns-in-Some-client_link-clause-step g c s v ready =
    let place = c.in-Some.place in
    let is = c.in-Some.ensures.place.0 in
    subst (λ (b : Batch). Stepped s (ClientUp c.args.client c.args.link c.args.at) b v c.args.self.now)
    (sym c.empty-in-Some-client_link.ensures)
    (subst (λ (n : ℕ). Stepped s (ClientUp n c.args.link c.args.at) empty v c.args.self.now) (sym is)
    (client-again s v c.args.self.now (place + 1) c.args.link c.args.at c.in-Some-client_link.current
    (subst (λ (n : ℕ). has_client s n ≡ true) is (sym (c.in-Some.ensures.known s v ready.parts)))
    (sym (c.client_link.ensures.link s v ready.parts) ∙ c.in-Some-client_link.is) c.if-current-link.true ready))

pub returns-in-Some-2-clause-step : goal.returns-in-Some-2-clause-step
returns-in-Some-2-clause-step g c =
    let place = c.in-Some.place in
    let is = c.in-Some.ensures.place.0 in
    IfOk-weaker c.refused_client.result _ _
    (λ b batch s v ready.
    subst (λ (x : Batch). Stepped s (ClientUp c.args.client c.args.link c.args.at) x v c.args.self.now) (sym batch)
    (subst (λ (n : ℕ). Stepped s (ClientUp n c.args.link c.args.at)
    (batch_of n [] (Close c.args.link ∷ []) 0 [] None) v c.args.self.now) (sym is)
    (client-refused s v c.args.self.now (place + 1) c.args.link c.args.at c.in-Some-client_link.current
    (subst (λ (n : ℕ). has_client s n ≡ true) is (sym (c.in-Some.ensures.known s v ready.parts)))
    (sym (c.client_link.ensures.link s v ready.parts) ∙ c.in-Some-client_link.is) c.if-current-link.false ready)))
    c.refused_client.ensures
