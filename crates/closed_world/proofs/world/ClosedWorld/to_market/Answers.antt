use Rattle.std.proofs.Common.{◌≡◌, ◌+◌, ◌<◌, ◌∙◌, length, refl, subst, arith}
use Rattle.std.proofs.lemmas.Result.{IfOk-weaker}
use Rattle.closed_world.specs.Lines.{Delivers, Line, line_seen}
use Rattle.closed_world.specs.Worlds.{line_at}
use Rattle.closed_world.proofs.Going.{Delivered, delivered, is-port, line-there, market-goes, port-changed}
use Rattle.closed_world.proofs.world.ClosedWorld.to_market.Goals as goal

pub returns-in-Some : goal.returns-in-Some
returns-in-Some c =
    let counted : c.len.result ≡ length c.args.self.now.ports.items = c.len.ensures ∙ c.args.self.now.ports.ok.0 in
    let inside : c.in-Some.place < length c.args.self.now.ports.items =
    omega (arith, c.in-Some.ensures.place.1, counted) in
    let number : c.args.port ≡ c.in-Some.place + 1 = c.in-Some.ensures.place.0 in
    IfOk-weaker c.deliver.result _ _
    (λ u made s x same.
    let there : line_seen c.index_mut.result.now ≡ line_at x c.args.port =
    line-there s x c.args.port c.args.self.now c.in-Some.place c.index_mut.result.now number inside
    c.index_mut.ensures.value same in
    let d : Delivered x c.args.port c.args.choice (x.connections c.args.port) (line_seen c.deliver.new.self) =
    delivered x c.args.port c.args.choice (line_seen c.deliver.new.self)
    (subst (λ (l : Line). Delivers c.args.choice l.connection l (line_seen c.deliver.new.self)) there made) in
    market-goes s x c.args.port c.args.choice _ (line_seen c.deliver.new.self) d
    (is-port s c.args.port c.len.result (counted ∙ same.count) c.in-Some.ensures.known)
    (port-changed s x d.after c.args.port (line_seen c.deliver.new.self) c.args.self.now _ c.in-Some.place
    c.deliver.new.self c.index_mut.result.now
    d.changes d.history d.moment number inside c.index_mut.ensures.value (λ was. refl) refl refl refl refl same))
    c.deliver.ensures
