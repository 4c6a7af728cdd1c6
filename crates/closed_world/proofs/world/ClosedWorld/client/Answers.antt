use Rattle.std.proofs.Common.{rules, ◌≡◌, ◌∙◌, true, refl, sym, ap}
use Rattle.std.proofs.lemmas.Result.{IfOk-weaker}
use Rattle.gate_law.specs.soup_session.Table.{later}
use Rattle.gate_events.specs.Seen.{event_seen}
use Rattle.closed_world.proofs.Going.{client-gets, later-same, later_world}
use Rattle.closed_world.proofs.world.ClosedWorld.client.Goals as goal

pub returns : goal.returns
returns c =
    let from_without : c.is_from_without.result ≡ true = search (rules, c.if-not-is_from_without.false) in
    IfOk-weaker c.core_gets.result _ _
    (λ u got s x same. client-gets s x (event_seen c.args.event.now) _ (sym c.is_from_without.ensures ∙ from_without)
    (got s (later_world x (event_seen c.args.event.now))
    (later-same s x (event_seen c.args.event.now) c.args.self.now _ refl refl refl
    (c.later-self.ensures ∙ ap (later c.args.self.now.moment) c.moment_of.ensures) same)))
    c.core_gets.ensures
