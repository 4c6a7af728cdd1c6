-- The report that refuses a new order, by its fields.
use Rattle.std.specs.Prelude.{ℕ, List, Some, None, decimal}
use Rattle.orders.specs.fix_types.declared.new_order.NewOrder.{NewOrder}
use Rattle.orders.specs.fix_types.declared.report.Report.{Report}
use Rattle.fix_values.specs.declared.exec_type.ExecType.TheVariants as kinds
use Rattle.fix_values.specs.declared.ord_status.OrdStatus.TheVariants as statuses

abbrev pub refusal_of : ℕ → ℕ → ℕ → List ℕ → NewOrder → Report
refusal_of order_id exec_id code why d = record {
  order_id = order_id;
  cl_ord_id = d.cl_ord_id;
  orig_cl_ord_id = None;
  exec_id = exec_id;
  exec_ref_id = None;
  exec_type = kinds.Rejected;
  ord_status = statuses.Rejected;
  ord_rej_reason = Some code;
  exec_restatement_reason = None;
  symbol = d.symbol;
  side = d.side;
  order_qty = d.order_qty;
  price = d.price;
  last_qty = None;
  last_px = None;
  leaves_qty = 0;
  cum_qty = 0;
  avg_px = decimal 0;
  text = Some why;
}
