use Rattle.std.proofs.Common.{◌≡◌, ◌∙◌, ◌<◌, ◌+◌, ◌-◌, ◌++◌, ℕ, List, ap, get_or, length, map, reverse, subst, sym, arith}
use Rattle.std.specs.List.{All}
use Rattle.gate_core.specs.gate_settings.Kept.{IsOnPort}
use Rattle.std.proofs.lemmas.List.{length-map, reverse-reverse}
use Rattle.gate_law.specs.Settings.{ClientSettings, Settings, port_of, port_terms}
use Rattle.order_accounts.specs.ouch_codec.declared.outbound.Outbound.{Outbound}
use Rattle.order_law.specs.History.{Terms}
use Rattle.gate_audit.specs.Pairs.{OpenedOrder, handled_for, orders_of}
use Rattle.gate_audit.specs.Passes.{said_of}
use Rattle.gate_audit.specs.Again.{called_again}
use Rattle.gate_audit.specs.Called.{heard_on}
use Rattle.gate_audit.proofs.Clients.{said-more}
use Rattle.gate_audit.proofs.Ports.{heard-at}
use Rattle.gate_audit.proofs.Pairing.{on-port, terms-at}
use Rattle.gate_audit.proofs.lives.lives_of.Goals as goal

pub index-requires : goal.index-requires
index-requires c =
    let s : Settings = c.args.settings.now in
    let n = c.loop-place.place in
    let inside : n < length s.clients = omega
    (arith, c.loop-place-test.true, c.loop-place.auto.place-end, ap length c.clients-place-end.ensures.clients) in
    let port : c.own.inside.terms.port ≡ port_of s (n + 1) =
    ap (λ (x : ClientSettings). x.terms.port) c.own.view_is
    ∙ ap (λ (x : ClientSettings). x.terms.port) c.index-clients-place.is
    ∙ ap (λ (xs : List ClientSettings). (get_or xs n c.index-clients-place.result).terms.port) c.clients.ensures.clients
    ∙ sym (ap (λ (t : Terms). t.port) (terms-at s.clients n c.index-clients-place.result inside)) in
    let ports : All (IsOnPort (length s.ports)) s.clients =
    subst (λ (cs : List ClientSettings). All (IsOnPort (length s.ports)) cs) c.clients-place-end.ensures.clients
    c.clients-place-end.ensures.ports in
    let on = on-port s ports (n + 1) (omega arith) (omega (arith, inside)) in
    let many : length c.in_ok-handled.handled.items ≡ length s.ports =
    ap (λ (xs : List (List Outbound)). length xs) c.in_ok-handled.ensures
    ∙ (length-map c.args.ports.items heard_on ∙ c.requires) in
    omega (arith, c.from-port.ensures, port, on.0, on.1, many)

pub loop-place-preserved : goal.loop-place-preserved
loop-place-preserved c =
    let s : Settings = c.args.settings.now in
    let n = c.loop-place.place in
    let os : List OpenedOrder = c.args.openings.now.orders.items in
    let inside : n < length s.clients = omega
    (arith, c.loop-place-test.true, c.loop-place.auto.place-end, ap length c.clients-place-end.ensures.clients) in
    let port : c.own.inside.terms.port ≡ port_of s (n + 1) =
    ap (λ (x : ClientSettings). x.terms.port) c.own.view_is
    ∙ ap (λ (x : ClientSettings). x.terms.port) c.index-clients-place.is
    ∙ ap (λ (xs : List ClientSettings). (get_or xs n c.index-clients-place.result).terms.port) c.clients.ensures.clients
    ∙ sym (ap (λ (t : Terms). t.port) (terms-at s.clients n c.index-clients-place.result inside)) in
    let ports : All (IsOnPort (length s.ports)) s.clients =
    subst (λ (cs : List ClientSettings). All (IsOnPort (length s.ports)) cs) c.clients-place-end.ensures.clients
    c.clients-place-end.ensures.ports in
    let on = on-port s ports (n + 1) (omega arith) (omega (arith, inside)) in
    let at : ℕ = c.from-port.result - 1 in
    let ms : List Outbound = reverse c.index.result.now in
    let within : at < length c.args.ports.items =
    omega (arith, c.from-port.ensures, port, on.0, on.1, c.requires) in
    λ h handled.
    let own : ms ≡ handled_for s h (n + 1) =
    ap (λ (xs : List Outbound). reverse xs) (c.index.ensures
    ∙ (ap (λ (xs : List (List Outbound)). get_or xs at c.index.result.now) c.in_ok-handled.ensures
    ∙ heard-at s h 0 c.args.ports.items at c.index.result.now (port_of s (n + 1))
    (omega (arith, c.from-port.ensures, port, on.0)) within handled))
    ∙ reverse-reverse (called_again (port_terms s (port_of s (n + 1))) (port_of s (n + 1)) h).handled in
    said-more s h n os c.loop-place.said.items c.say_all.new.said.items ms own (c.loop-place.invariant h handled)
    (c.in_ok-say_all.ensures ∙ ap (λ (xs : List OpenedOrder). c.loop-place.said.items
    ++ map (said_of ms) (orders_of (n + 1) xs)) c.deref.ensures.value)
