-- A payload of the market leads to two reports at most.
use Rattle.std.proofs.Common.{ℕ, ◌≤◌, arith, Option, Some, None}
use Rattle.std.specs.Prelude.{Result, Ok, Err, map}
use Rattle.std.specs.List.{count_by}
use Rattle.order_law.specs.ouch_codec.declared.outbound.Outbound.{Outbound}
use Rattle.order_law.specs.ouch_codec.declared.refusal.DecodeRefusal.{DecodeRefusal}
use Rattle.order_law.specs.Reading.{is_report}
use Rattle.order_machine.specs.OrderRecord.{OrderRecord, fill_of, last_of, record_life, replacements, shown_as}
use Rattle.order_machine.specs.Table.{TableState}
use Rattle.order_machine.specs.Machine.{given_by_fault, heard_on, market_step, order_in, payload_fault}
use Rattle.order_machine.proofs.Ids.{told-few}

few-on : (s : TableState) (m : Outbound) (x : Option OrderRecord) → count_by is_report (heard_on s m x).bodies ≤ 2
few-on s m None = omega arith
few-on s m (Some o) = told-few s.exec_ids m (record_life o) (last_of m (replacements o.replaces) o.cancel)
    (map fill_of o.trades) (shown_as o)

few-given : (s : TableState) (port : ℕ) (heard : Result Outbound DecodeRefusal) (x : Option ℕ)
    → count_by is_report (given_by_fault s port heard x).bodies ≤ 2
few-given s port (Ok m) None = few-on s m (order_in s port m)
few-given s port (Ok m) (Some fault) = omega arith
few-given s port (Err refusal) None = omega arith
few-given s port (Err refusal) (Some fault) = omega arith

pub few-reports : (s : TableState) (port : ℕ) (heard : Result Outbound DecodeRefusal)
    → count_by is_report (market_step s port heard).bodies ≤ 2
few-reports s port heard = few-given s port heard (payload_fault s port heard)
