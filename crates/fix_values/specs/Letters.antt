-- The letters of the codes that reports carry.
use Rattle.std.specs.Prelude.{ℕ, ◌==◌, if◌then◌else◌}
use Rattle.fix_values.specs.declared.cxl_rej_response_to.CxlRejResponseTo.{CxlRejResponseTo}
use Rattle.fix_values.specs.declared.cxl_rej_response_to.CxlRejResponseTo.TheVariants as responses
use Rattle.fix_values.specs.declared.exec_type.ExecType.{ExecType}
use Rattle.fix_values.specs.declared.exec_type.ExecType.TheVariants as kinds
use Rattle.fix_values.specs.declared.ord_status.OrdStatus.{OrdStatus}
use Rattle.fix_values.specs.declared.ord_status.OrdStatus.TheVariants as statuses

-- FIX 4.4 Volume 6, ExecType (150).
abbrev pub exec_letter : ExecType → ℕ
exec_letter kinds.PendingNew = 65
exec_letter kinds.New = 48
exec_letter kinds.Rejected = 56
exec_letter kinds.Canceled = 52
exec_letter kinds.Restated = 68
exec_letter kinds.Trade = 70
exec_letter kinds.TradeCancel = 72
exec_letter kinds.PendingCancel = 54
exec_letter kinds.PendingReplace = 69
exec_letter kinds.Replaced = 53

-- FIX 4.4 Volume 6, OrdStatus (39).
abbrev pub status_letter : OrdStatus → ℕ
status_letter statuses.PendingNew = 65
status_letter statuses.New = 48
status_letter statuses.PartiallyFilled = 49
status_letter statuses.Filled = 50
status_letter statuses.Canceled = 52
status_letter statuses.PendingCancel = 54
status_letter statuses.Rejected = 56
status_letter statuses.PendingReplace = 69

-- FIX 4.4 Volume 6, CxlRejResponseTo (434).
abbrev pub response_letter : CxlRejResponseTo → ℕ
response_letter responses.Cancel = 49
response_letter responses.Replace = 50

-- what a letter says
abbrev pub exec_type_of : ℕ → ExecType
exec_type_of letter =
    if letter == 65 then kinds.PendingNew
    else if letter == 48 then kinds.New
    else if letter == 56 then kinds.Rejected
    else if letter == 52 then kinds.Canceled
    else if letter == 68 then kinds.Restated
    else if letter == 70 then kinds.Trade
    else if letter == 72 then kinds.TradeCancel
    else if letter == 54 then kinds.PendingCancel
    else if letter == 69 then kinds.PendingReplace
    else kinds.Replaced

abbrev pub ord_status_of : ℕ → OrdStatus
ord_status_of letter =
    if letter == 65 then statuses.PendingNew
    else if letter == 48 then statuses.New
    else if letter == 49 then statuses.PartiallyFilled
    else if letter == 50 then statuses.Filled
    else if letter == 52 then statuses.Canceled
    else if letter == 54 then statuses.PendingCancel
    else if letter == 56 then statuses.Rejected
    else statuses.PendingReplace

abbrev pub response_of : ℕ → CxlRejResponseTo
response_of letter = if letter == 49 then responses.Cancel else responses.Replace
