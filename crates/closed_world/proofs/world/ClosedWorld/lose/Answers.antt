use Rattle.std.proofs.Common.{◌≡◌, ℕ, ◌+◌, ◌<◌, ◌∙◌, length, refl, sym, ap, subst, arith, Option, Some}
use Rattle.std.proofs.lemmas.Result.{IfOk-weaker}
use Rattle.gate_law.specs.Events.{PortGone}
use Rattle.world_law.specs.World.{ended}
use Rattle.closed_world.specs.Lines.{Line, LosesTo, ended_line, line_seen}
use Rattle.closed_world.specs.Worlds.{line_at}
use Rattle.closed_world.proofs.Changes.{ended-changes}
use Rattle.closed_world.proofs.Going.{gets-same, is-port, line-there, lose-some, port-changed}
use Rattle.closed_world.proofs.world.ClosedWorld.lose.Goals as goal

pub returns : goal.returns
returns c =
    let counted : c.len.result ≡ length c.args.self.now.ports.items = c.len.ensures ∙ c.args.self.now.ports.ok.0 in
    let inside : c.in-Some.place < length c.args.self.now.ports.items =
    omega (arith, c.in-Some.ensures.place.1, counted) in
    let number : c.args.port ≡ c.in-Some.place + 1 = c.in-Some.ensures.place.0 in
    let lost : LosesTo (line_seen c.index_mut.result.now) (line_seen c.lose.new.self) (Some c.in-Some-lost.link) =
    subst (λ (l : Option ℕ). LosesTo (line_seen c.index_mut.result.now) (line_seen c.lose.new.self) l) c.in-Some-lost.is
    c.in_ok-lost.ensures in
    IfOk-weaker c.core_gets.result _ _
    (λ u got s x same.
    lose-some s x c.args.port c.in-Some-lost.link _ lost.0
    (is-port s c.args.port c.len.result (counted ∙ same.count) c.in-Some.ensures.known)
    (sym (ap (λ (l : Line). l.connection) (line-there s x c.args.port c.args.self.now c.in-Some.place
    c.index_mut.result.now number inside c.index_mut.ensures.value same)) ∙ lost.1) lost.2
    (gets-same s (ended c.args.port x) _ PortGone c.at_place.result c.args.port c.in-Some-lost.link c.in-Some-lost.link
    c.args.self.now.moment x.now
    (c.at_place.ensures ∙ sym number) refl same.moment
    (got s (ended c.args.port x)
    (port-changed s x (ended c.args.port x) c.args.port
    (ended_line (line_at x c.args.port)) c.args.self.now _ c.in-Some.place c.lose.new.self c.index_mut.result.now
    (ended-changes c.args.port x) refl refl number inside c.index_mut.ensures.value
    (λ was. lost.3 ∙ ap ended_line was) refl refl refl refl same))))
    c.core_gets.ensures
