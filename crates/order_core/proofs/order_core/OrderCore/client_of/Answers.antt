use Rattle.std.proofs.Common.{ℕ, List, Option, Some, ap, sym, subst, ◌∙◌}
use Rattle.std.specs.Prelude.{option_and_then, option_map}
use Rattle.outstanding.specs.order_law.History.{Entry, accepted}
use Rattle.outstanding.specs.order_law.Lawful.{order_of_token, token_of_heard}
use Rattle.order_machine.proofs.Leading.{token-of}
use Rattle.order_core.specs.State.{IsAfterTurns}
use Rattle.order_core.proofs.Addressed.{client-by-heard}
use Rattle.order_core.proofs.order_core.OrderCore.client_of.Goals as goal

pub returns-in-Some : goal.returns-in-Some
returns-in-Some g c terms before short is =
    c.client_of_token.ensures
    ∙ client-by-heard token-of terms before _ c.args.port (Some c.in-Some.token.now) short
    (subst (IsAfterTurns terms before) (sym c.self.view_is) is)
    ∙ ap (λ (x : Option (List ℕ)). option_map (λ (new : Entry). new.client)
    (option_and_then (order_of_token terms c.args.port (accepted terms before)) x))
    (sym (ap token_of_heard (sym c.decode-heard.ensures) ∙ c.in-Some.ensures))

pub returns-in-None : goal.returns-in-None
returns-in-None g c terms before short is =
    ap (λ (x : Option (List ℕ)). option_map (λ (new : Entry). new.client)
    (option_and_then (order_of_token terms c.args.port (accepted terms before)) x))
    (sym (ap token_of_heard (sym c.decode-heard.ensures) ∙ c.in-None.ensures))
