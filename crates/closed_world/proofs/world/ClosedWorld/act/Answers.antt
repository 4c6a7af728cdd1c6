use Rattle.std.proofs.Common.{◌≡◌, ◌+◌, ◌<◌, ◌∙◌, length, refl, ap, arith, None}
use Rattle.std.proofs.lemmas.Result.{IfOk-weaker}
use Rattle.market_sim.specs.Sim.{sim_step}
use Rattle.market_sim.specs.declared.event.SimEvent.TheVariants as sims
use Rattle.world_law.specs.World.{market_steps}
use Rattle.closed_world.specs.Lines.{Line, market_line}
use Rattle.closed_world.specs.Worlds.{line_at}
use Rattle.closed_world.proofs.Changes.{market-changes}
use Rattle.closed_world.proofs.Going.{act-on, is-port, port-changed}
use Rattle.closed_world.proofs.world.ClosedWorld.act.Goals as goal

pub returns-in-Some : goal.returns-in-Some
returns-in-Some c =
    let counted : c.len.result ≡ length c.args.self.now.ports.items = c.len.ensures ∙ c.args.self.now.ports.ok.0 in
    let inside : c.in-Some.place < length c.args.self.now.ports.items =
    omega (arith, c.in-Some.ensures.place.1, counted) in
    let number : c.args.port ≡ c.in-Some.place + 1 = c.in-Some.ensures.place.0 in
    IfOk-weaker c.act.result _ _
    (λ u made s x same.
    act-on s x c.args.port c.args.choice _ (is-port s c.args.port c.len.result
    (counted ∙ same.count) c.in-Some.ensures.known)
    (port-changed s x (market_steps c.args.port (sims.Act c.args.choice) None None x) c.args.port
    (market_line (sim_step (x.markets c.args.port) (sims.Act c.args.choice) None) (line_at x c.args.port))
    c.args.self.now _ c.in-Some.place c.act.new.self c.index_mut.result.now
    (market-changes c.args.port (sims.Act c.args.choice) None None x) refl refl number inside c.index_mut.ensures.value
    (λ was. made ∙ ap (λ (l : Line). market_line (sim_step l.market (sims.Act c.args.choice) None) l) was) refl refl
    refl refl same))
    c.act.ensures
