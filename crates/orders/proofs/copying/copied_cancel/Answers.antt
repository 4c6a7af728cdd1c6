use Rattle.std.proofs.Common.{sym, ap, ◌∙◌}
use Rattle.std.specs.Prelude.{Some, option_map}
use Rattle.order_machine.specs.OrderRecord as record_of
use Rattle.orders.specs.declared.requests.Cancelling.{Cancelling}
use Rattle.orders.specs.Seen.{cancel_seen}
use Rattle.orders.proofs.copying.copied_cancel.Goals as goal

pub returns-in_ok-new-in-Some : goal.returns-in_ok-new-in-Some
returns-in_ok-new-in-Some c = λ client order_id.
    ap (λ (x : Cancelling). Some (cancel_seen client order_id x)) c.in_ok-new-in-Some.ensures
    ∙ ap (λ (x : record_of.Cancelling). Some x) (c.in_ok-copy-in-Some.ensures client order_id)
    ∙ ap (λ (x : Cancelling). Some (cancel_seen client order_id x)) c.get.ensures
    ∙ ap (option_map (cancel_seen client order_id)) (sym c.in-Some.is)
