use Rattle.std.proofs.Common.{◌≡◌, ℕ, ◌+◌, ◌<◌, ◌∙◌, length, refl, sym, ap, subst, arith, Option, Some}
use Rattle.std.proofs.lemmas.Result.{IfOk-weaker}
use Rattle.gate_law.specs.Events.{PortUp}
use Rattle.world_law.specs.World.{connected}
use Rattle.closed_world.specs.Lines.{Line, OpensTo, line_seen, opened_line}
use Rattle.closed_world.specs.Worlds.{line_at}
use Rattle.closed_world.proofs.Changes.{connected-changes}
use Rattle.closed_world.proofs.Going.{connect-opens, gets-same, is-port, line-there, port-changed}
use Rattle.closed_world.proofs.world.ClosedWorld.connect.Goals as goal

pub returns : goal.returns
returns c =
    let counted : c.len.result ≡ length c.args.self.now.ports.items = c.len.ensures ∙ c.args.self.now.ports.ok.0 in
    let inside : c.in-Some.place < length c.args.self.now.ports.items =
    omega (arith, c.in-Some.ensures.place.1, counted) in
    let number : c.args.port ≡ c.in-Some.place + 1 = c.in-Some.ensures.place.0 in
    let opened : OpensTo (line_seen c.index_mut.result.now) (line_seen c.open.new.self) (Some c.in-Some-opened.link) =
    subst (λ (l : Option ℕ). OpensTo (line_seen c.index_mut.result.now) (line_seen c.open.new.self) l)
    c.in-Some-opened.is c.in_ok-opened.ensures in
    IfOk-weaker c.core_gets.result _ _
    (λ u got s x same.
    let there : line_seen c.index_mut.result.now ≡ line_at x c.args.port =
    line-there s x c.args.port c.args.self.now c.in-Some.place c.index_mut.result.now number inside
    c.index_mut.ensures.value same in
    connect-opens s x c.args.port _ (is-port s c.args.port c.len.result (counted ∙ same.count) c.in-Some.ensures.known)
    (sym (ap (λ (l : Line). l.connection) there) ∙ opened.0)
    (gets-same s (connected c.args.port x) _ PortUp c.at_place.result c.args.port c.in-Some-opened.link
    (x.links c.args.port + 1) c.args.self.now.moment x.now
    (c.at_place.ensures ∙ sym number) (opened.1 ∙ ap (λ (l : Line). l.links + 1) there) same.moment
    (got s (connected c.args.port x)
    (port-changed s x (connected c.args.port x) c.args.port
    (opened_line (line_at x c.args.port)) c.args.self.now _ c.in-Some.place c.open.new.self c.index_mut.result.now
    (connected-changes c.args.port x) refl refl number inside c.index_mut.ensures.value
    (λ was. opened.2 ∙ ap opened_line was) refl refl refl refl same))))
    c.core_gets.ensures
