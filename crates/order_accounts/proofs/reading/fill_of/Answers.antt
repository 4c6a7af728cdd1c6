use Rattle.std.proofs.Common.{◌≡◌, ℕ, List, bytes_eq, Some, sym, ap, ◌∙◌, arith}
use Rattle.order_law.specs.Reading.{Fill}
use Rattle.order_accounts.proofs.Lists.{found_here, none_more}
use Rattle.order_accounts.proofs.reading.fill_of.Goals as goal

pub returns-then-eq : goal.returns-then-eq
returns-then-eq c =
    let fills = c.args.fills.now in
    let fill = c.fill-item.result in
    let i = c.loop-fill.fill-index in
    let same : c.as_slice.result.now ≡ fill.exec_id = c.as_slice.ensures.value
    ∙ ap (λ (f : Fill). f.exec_id) c.fill.view_is in
    let named = λ (f : Fill). bytes_eq f.exec_id c.args.exec_id.now in
    let here = ap (λ (t : List ℕ). bytes_eq t c.args.exec_id.now) (sym same) ∙ sym c.if-eq.ensures in
    ap Some c.fill-item.is ∙ sym (found_here named fills i fill (omega arith) c.loop-fill.invariant
    (ap named (sym c.fill-item.is) ∙ here))

pub loop-fill-preserved : goal.loop-fill-preserved
loop-fill-preserved c =
    let fills = c.args.fills.now in
    let fill = c.fill-item.result in
    let i = c.loop-fill.fill-index in
    let same : c.as_slice.result.now ≡ fill.exec_id = c.as_slice.ensures.value
    ∙ ap (λ (f : Fill). f.exec_id) c.fill.view_is in
    let named = λ (f : Fill). bytes_eq f.exec_id c.args.exec_id.now in
    let here = ap (λ (t : List ℕ). bytes_eq t c.args.exec_id.now) (sym same) ∙ sym c.if-eq.ensures in
    none_more named fills i fill (omega arith) c.loop-fill.invariant (ap named (sym c.fill-item.is) ∙ here)
