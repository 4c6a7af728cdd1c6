use Rattle.std.proofs.Common.{ℕ, List, refl, sym, ap, ◌∙◌, length, None}
use Rattle.fix_types.specs.ReplaceRequest.{replace_request_fields}
use Rattle.order_table.specs.Held.{found_by_id}
use Rattle.to_market.specs.PortsSeen.{port_seen}
use Rattle.to_market.proofs.Standing.{named-in}
use Rattle.to_market.proofs.Steps.{refused-in, verdict-is}
use Rattle.to_market.proofs.replaces.on_replace.Goals as goal

pub returns-in_ok-body-in-None : goal.returns-in_ok-body-in-None
returns-in_ok-body-in-None g c = λ s stands.
    let r = c.args.request.now in
    let sender = c.args.sender.now in
    let held = c.args.table.now in
    let none = named-in s c.args.issued sender held r.cl_ord_id c.args.is_used r.orig_cl_ord_id None stands
    (ap (λ (k : List ℕ). found_by_id held sender.client k) (sym c.as_slice.ensures.bytes) ∙ c.in-None.ensures) in
    refused-in s sender (replace_request_fields r) None c.unknown_row.result c.in_ok-body-in-None.body refl none
    (verdict-is s sender.client (replace_request_fields r)
    (port_seen sender.port) c.args.is_used None refl stands.used none
    ∙ c.unknown_row.ensures (port_seen sender.port) (length s.tokens) (replace_request_fields r))
    (c.in_ok-body-in-None.ensures (replace_request_fields r) None c.of_replace-asked.ensures tt)
