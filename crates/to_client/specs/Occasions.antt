-- What an occasion says in a report, as the law has it and as the report's fields.
use Rattle.std.specs.Prelude.{ℕ, ◌==◌, List, [], ◌∷◌, Some, None, decimal, if◌then◌else◌, codes}
use Rattle.fix_values.specs.declared.exec_type.ExecType.{ExecType}
use Rattle.fix_values.specs.declared.exec_type.ExecType.TheVariants as kinds
use Rattle.fix_values.specs.declared.ord_status.OrdStatus.{OrdStatus}
use Rattle.fix_values.specs.declared.ord_status.OrdStatus.TheVariants as statuses
use Rattle.fixed_point.specs.Price.{price_text}
use Rattle.order_law.specs.declared.stage.Stage.{Stage}
use Rattle.order_law.specs.declared.stage.Stage.TheVariants.{Waiting, Working, Closed}
use Rattle.order_law.specs.Reading.{average_of}
use Rattle.order_law.specs.Told as law
use Rattle.orders.specs.declared.progress.Progress.{Progress}
use Rattle.to_client.specs.declared.occasion.Details.{Details}
use Rattle.to_client.specs.declared.occasion.Occasion.{Occasion}
use Rattle.to_client.specs.declared.occasion.Occasion.TheVariants as occasions

-- a letter as a text
abbrev letter : ℕ → List ℕ
letter byte = byte ∷ []

-- as the law says it
abbrev pub occasion_seen : Occasion → law.Occasion
occasion_seen occasions.PendingNew = law.plain (codes "A")
occasion_seen occasions.New = law.plain (codes "0")
occasion_seen (occasions.Trade shares price) = record (law.plain (codes "F")) { shares = Some shares; at = Some price }
occasion_seen (occasions.Restated reason) = record
    (law.plain (codes "D")) { restated = Some (codes "5"); why = Some (letter reason) }
occasion_seen (occasions.Canceled None) = record (law.plain (codes "4")) { request = None; why = None }
occasion_seen (occasions.Canceled (Some reason)) = record
    (law.plain (codes "4")) { request = None; why = Some (letter reason) }
occasion_seen (occasions.TradeCancel exec_id reason) = record
    (law.plain (codes "H")) { broken = Some (decimal exec_id); why = Some (letter reason) }
occasion_seen (occasions.Rejected reason) = record
    (law.plain (codes "8")) { code = Some (codes "99"); why = Some (letter reason) }

abbrev pub plain_details : ExecType → Details
plain_details exec_type = record {
  exec_type = exec_type;
  exec_ref_id = None;
  ord_rej_reason = None;
  exec_restatement_reason = None;
  last_qty = None;
  last_px = None;
  reason = None;
}

-- as fields
abbrev pub details_of : Occasion → Details
details_of occasions.PendingNew = plain_details kinds.PendingNew
details_of occasions.New = plain_details kinds.New
details_of (occasions.Trade shares price) = record
    (plain_details kinds.Trade) { last_qty = Some shares; last_px = Some price }
details_of (occasions.Restated reason) = record (plain_details kinds.Restated) {
  exec_restatement_reason = Some 5;
  reason = Some reason;
}
details_of (occasions.Canceled reason) = record (plain_details kinds.Canceled) { reason = reason }
details_of (occasions.TradeCancel exec_id reason) = record
    (plain_details kinds.TradeCancel) { exec_ref_id = Some exec_id; reason = Some reason }
details_of (occasions.Rejected reason) = record (plain_details kinds.Rejected) {
  ord_rej_reason = Some 99;
  reason = Some reason;
}

-- OrdStatus (39) of an order without requests
abbrev pub status_at : Stage → Progress → OrdStatus
status_at Closed p = if p.executed == p.total then statuses.Filled else statuses.Canceled
status_at Waiting p = statuses.PendingNew
status_at Working p = if p.executed == 0 then statuses.New else statuses.PartiallyFilled

abbrev pub status_as : Progress → OrdStatus
status_as p = if p.is_refused then statuses.Rejected else status_at p.stage p

-- LeavesQty (151)
abbrev pub leaves_in : Progress → ℕ
leaves_in p = law.leaves_at p.stage p.total p.unfilled

-- AvgPx (6)
abbrev pub average_of_text : Progress → List ℕ
average_of_text p = price_text (average_of p.value p.executed)
