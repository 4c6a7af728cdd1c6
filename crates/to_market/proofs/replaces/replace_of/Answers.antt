use Rattle.std.proofs.Common.{◌≡◌, ◌<◌, ℕ, refl, sym, ap, ◌∙◌, subst, decimal, Some}
use Rattle.std.proofs.lemmas.Result.{IfOk-weaker}
use Rattle.fix_types.specs.ReplaceRequest.{replace_request_fields}
use Rattle.order_machine.specs.OrderRecord.{OrderRecord, shown_as}
use Rattle.order_machine.specs.Table.{named_as}
use Rattle.order_law.specs.Verdicts.{first_row, rows_of_request}
use Rattle.to_market.specs.PortsSeen.{port_seen}
use Rattle.to_market.proofs.Standing.{given-in, named-in, read-in}
use Rattle.to_market.proofs.Steps.{refused-in, verdict-is}
use Rattle.to_market.proofs.replaces.replace_of.Goals as goal

pub returns-in_ok-body-in-Err : goal.returns-in_ok-body-in-Err
returns-in_ok-body-in-Err g c = λ s stands.
    let r = c.args.request.now in
    let o = c.args.order.now in
    let sender = c.args.sender.now in
    let held = c.args.table.now in
    let of_order : o.new.order ≡ decimal c.order.inside.order_id =
    ap (λ (x : OrderRecord). x.new.order) (sym c.order.view_is) in
    let named = named-in s c.args.issued sender held r.cl_ord_id c.args.is_used r.orig_cl_ord_id
    (Some o) stands c.requires.named in
    let reads = read-in s c.args.issued sender held r.cl_ord_id c.args.is_used r.orig_cl_ord_id o
    c.order.inside.order_id c.replace_count-replaces.result c.named_of.result stands named of_order
    c.replace_count-replaces.ensures c.named_of.ensures.reads in
    let given = given-in s c.args.issued sender held r.cl_ord_id c.args.is_used c.token_count-given.result stands
    c.token_count-given.ensures in
    refused-in s sender (replace_request_fields r) (Some o) c.in-Err.refusal c.in_ok-body-in-Err.body refl named
    (verdict-is s sender.client (replace_request_fields r) (port_seen sender.port) c.args.is_used
    (Some o) refl stands.used named
    ∙ ap (λ (n : ℕ). first_row (rows_of_request c.args.is_used (Some (named_as s o)) (port_seen sender.port) n
    (replace_request_fields r))) given
    ∙ c.in-Err.ensures.verdict (Some (named_as s o)) reads)
    (c.in_ok-body-in-Err.ensures (replace_request_fields r)
    (Some (shown_as o)) c.of_replace-asked.ensures c.shown_now.ensures)

pub returns-in-Ok : goal.returns-in-Ok
returns-in-Ok g c =
    IfOk-weaker c.accept_replace.result _ _
    (λ turn accepts s stands.
    let r = c.args.request.now in
    let o = c.args.order.now in
    let sender = c.args.sender.now in
    let held = c.args.table.now in
    let of_order : o.new.order ≡ decimal c.order.inside.order_id =
    ap (λ (x : OrderRecord). x.new.order) (sym c.order.view_is) in
    let named = named-in s c.args.issued sender held r.cl_ord_id c.args.is_used r.orig_cl_ord_id
    (Some o) stands c.requires.named in
    let reads = read-in s c.args.issued sender held r.cl_ord_id c.args.is_used r.orig_cl_ord_id o
    c.order.inside.order_id c.replace_count-replaces.result c.named_of.result stands named of_order
    c.replace_count-replaces.ensures c.named_of.ensures.reads in
    let given = given-in s c.args.issued sender held r.cl_ord_id c.args.is_used c.token_count-given.result stands
    c.token_count-given.ensures in
    accepts s (record {
      reports = stands.reports;
      named = named;
      verdict = verdict-is s sender.client (replace_request_fields r) (port_seen sender.port) c.args.is_used
          (Some o) refl stands.used named
          ∙ ap (λ (n : ℕ). first_row (rows_of_request c.args.is_used (Some (named_as s o)) (port_seen sender.port) n
          (replace_request_fields r))) given
          ∙ c.in-Ok.ensures.verdict (Some (named_as s o)) reads;
    }) (record {
      tokens = given;
      terms = stands.terms;
      room = subst (λ (n : ℕ). n < 65_535) (sym reads.replaces) (c.in-Ok.ensures.room c.named_of.result refl);
      few = subst (λ (n : ℕ). n < 4) c.named_of.ensures.pending (c.in-Ok.ensures.few c.named_of.result refl);
    }))
    c.accept_replace.ensures
