use Rattle.std.proofs.Common.{◌≡◌, ℕ, List, subst, sym, ap, ◌∙◌}
use Rattle.std.proofs.lemmas.Result.{IfOk-weaker}
use Rattle.outstanding.specs.order_law.Headline.{EachWith, SaysIn}
use Rattle.outstanding.specs.order_law.History.{outstanding}
use Rattle.outstanding.specs.Kept.{bytes_on}
use Rattle.outstanding.proofs.InTurns.{outstanding-is_kept}
use Rattle.order_core.specs.State.{OrderCoreState}
use Rattle.order_core.proofs.Turns.{parts-of}
use Rattle.order_core.proofs.order_core.OrderCore.outstanding.Goals as goal

pub returns : goal.returns
returns g c =
    IfOk-weaker c.on_port.result _ _
    (λ messages are terms before short after.
    let parts = parts-of terms before c.args.self.now after in
    let same : bytes_on c.args.port c.self.inside.asked.messages ≡ bytes_on c.args.port c.args.self.now.kept =
    ap (λ (s : OrderCoreState). bytes_on c.args.port s.kept) c.self.view_is in
    subst (λ (bytes : List (List ℕ)). EachWith (SaysIn terms before c.args.port)
    (outstanding terms c.args.port before) bytes) (sym (are ∙ same))
    (outstanding-is_kept terms before c.args.self.now.table short parts.0 c.args.self.now.kept parts.1 c.args.port))
    c.on_port.ensures
