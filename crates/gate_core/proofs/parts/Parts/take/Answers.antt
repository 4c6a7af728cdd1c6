use Rattle.std.proofs.Common.{◌≡◌, ◌+◌, ◌<◌, ℕ, length, refl, ap, ◌∙◌, subst}
use Rattle.std.proofs.lemmas.Option.{slice_get_read}
use Rattle.gate_law.specs.Settings.{port_of, terms}
use Rattle.gate_law.specs.Sessions.{port_state, stands_of}
use Rattle.gate_core.proofs.Taking.{has-place, taken}
use Rattle.gate_core.proofs.parts.Parts.take.Goals as goal

pub returns-clause-turn : goal.returns-clause-turn
returns-clause-turn g c s v ready =
    let n = c.args.place + 1 in
    let port = c.port_at-port.result in
    let parts = ready.parts in
    let is : port + 1 ≡ port_of s n = c.port_at-port.ensures.port s v parts in
    let leaves = parts.ports port c.index.result.now
    (slice_get_read c.args.self.now.ports.lines.items _ port c.index.result.now refl c.port_at-port.ensures.inside
    c.index.ensures) in
    let stands = c.stands-state.ensures ∙ ap stands_of
    (c.state.ensures.state s (port + 1) (v.port_calls (port + 1)) leaves)
    ∙ ap (λ (p : ℕ). stands_of (port_state s p (v.port_calls p))) is in
    taken s n c.args.message.now c.in_ok-out.out c.stands-state.result v c.args.self.now _ stands
    (has-place c.args.place (length s.clients)
    (subst (λ (k : ℕ). c.args.place < k) parts.client_count c.requires.place))
    parts (c.in_ok-out.ensures.after (terms s) v.turns ready.few parts.orders)
    (c.in_ok-out.ensures.headline (terms s) v.turns ready.few parts.orders) refl refl refl
