-- The numbers of the reasons for which an order, a cancel or a replace is rejected.
use Rattle.std.specs.Prelude.{ℕ}
use Rattle.fix_values.specs.declared.cxl_rej_reason.CxlRejReason.{CxlRejReason}
use Rattle.fix_values.specs.declared.cxl_rej_reason.CxlRejReason.TheVariants as cancel
use Rattle.fix_values.specs.declared.ord_rej_reason.OrdRejReason.{OrdRejReason}
use Rattle.fix_values.specs.declared.ord_rej_reason.OrdRejReason.TheVariants as order

-- FIX 4.4 Volume 6, OrdRejReason (103).
abbrev pub ord_rej_number : OrdRejReason → ℕ
ord_rej_number order.UnknownSymbol = 1
ord_rej_number order.ExchangeClosed = 2
ord_rej_number order.OrderExceedsLimit = 3
ord_rej_number order.DuplicateOrder = 6
ord_rej_number order.UnsupportedOrderCharacteristic = 11
ord_rej_number order.IncorrectQuantity = 13
ord_rej_number order.Other = 99

-- FIX 4.4 Volume 6, CxlRejReason (102).
abbrev pub cxl_rej_number : CxlRejReason → ℕ
cxl_rej_number cancel.TooLateToCancel = 0
cxl_rej_number cancel.UnknownOrder = 1
cxl_rej_number cancel.BrokerOption = 2
cxl_rej_number cancel.AlreadyPending = 3
cxl_rej_number cancel.DuplicateClOrdId = 6
cxl_rej_number cancel.Other = 99
