use Rattle.std.proofs.Common.{◌≡◌, ◌<◌, ◌∙◌, length, map, refl, arith}
use Rattle.std.proofs.lemmas.Result.{IfOk-weaker}
use Rattle.gate_events.specs.Seen.{link_out_seen}
use Rattle.closed_world.proofs.Going.{nobody-told, port-told}
use Rattle.closed_world.proofs.world.ClosedWorld.tell_port.Goals as goal

pub returns-in-Some : goal.returns-in-Some
returns-in-Some c =
    let counted : c.len.result ≡ length c.args.self.now.ports.items = c.len.ensures ∙ c.args.self.now.ports.ok.0 in
    let inside : c.in-Some.place < length c.args.self.now.ports.items =
    omega (arith, c.in-Some.ensures.place.1, counted) in
    IfOk-weaker c.hear.result _ _
    (λ u heard s x asks packets same.
    port-told s x c.args.port (map link_out_seen c.args.outs.now) asks c.args.self.now _ c.in-Some.place c.hear.new.self
    c.index_mut.result.now
    c.in-Some.ensures.place.0 inside c.index_mut.ensures.value (heard packets) refl refl refl refl same)
    c.hear.ensures

pub returns-in-None : goal.returns-in-None
returns-in-None c = λ s x asks packets same.
    nobody-told s x c.args.port c.len.result (map link_out_seen c.args.outs.now) asks c.args.self.now
    (c.len.ensures ∙ c.args.self.now.ports.ok.0) c.in-None.ensures.known same
