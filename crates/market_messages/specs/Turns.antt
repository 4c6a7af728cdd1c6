-- What a payload of the market makes of a table, as one answer. (OUCH 4.2, "Outbound Messages".)
use Rattle.std.specs.Prelude.{◌≡◌, ℕ, ◌+◌, List, [], map, Option, Some, None, Result, Ok, Err, decimal}
use Rattle.std.specs.List.{count_by}
use Rattle.orders.specs.fix_types.Application.{body_fields}
use Rattle.ouch_codec.specs.declared.refusal.DecodeRefusal.{DecodeRefusal}
use Rattle.ouch_codec.specs.declared.refusal.DecodeRefusal.TheVariants as refusals
use Rattle.ouch_codec.specs.declared.outbound.Outbound.{Outbound}
use Rattle.order_machine.specs.fix_fields.Field.{Message}
use Rattle.orders.specs.order_law.Lawful.{bytes_fault, row_fault, token_fault, type_fault}
use Rattle.orders.specs.order_law.Reading.{is_report}
use Rattle.orders.specs.order_law.Told.{told_of_entry}
use Rattle.order_machine.specs.Machine.{GivenByEvent, faulty, market_step, order_in, silent, tells}
use Rattle.order_machine.specs.OrderRecord.{OrderRecord, replacements}
use Rattle.order_machine.specs.Table.{TableState, by_number, put}
use Rattle.orders.specs.Changes.{Fits, changed_by}
use Rattle.order_table.specs.Held.{Held}
use Rattle.market_messages.specs.declared.heard.Heard.{Heard}
use Rattle.market_messages.specs.declared.judged.Judged.{Judged}
use Rattle.market_messages.specs.declared.judged.Judged.TheVariants.{Faulty, Silent, Told}
use Rattle.market_messages.specs.declared.market_fault.MarketFault.{MarketFault}
use Rattle.market_messages.specs.declared.market_fault.MarketFault.TheVariants.{NotLawful, OutsideProfile, Undecodable}
use Rattle.market_messages.specs.declared.market_fault.MarketFault.TheVariants.{UnknownToken}

-- the law's number of a fault
abbrev pub market_fault_number : MarketFault → ℕ
market_fault_number Undecodable = bytes_fault
market_fault_number UnknownToken = token_fault
market_fault_number NotLawful = row_fault
market_fault_number OutsideProfile = type_fault

-- the fault of bytes that are no message
abbrev pub fault_of_refusal : DecodeRefusal → MarketFault
fault_of_refusal refusals.Length = Undecodable
fault_of_refusal refusals.Field = Undecodable
fault_of_refusal refusals.Type = OutsideProfile

-- an order becomes another, and its client is told these bodies: nobody, where there are none
abbrev pub changes_to : TableState → OrderRecord → OrderRecord → List Message → GivenByEvent
changes_to s o now bodies =
    tells (record s { orders = put now s.orders; exec_ids = s.exec_ids + count_by is_report bodies })
    (told_of_entry o.new bodies).client bodies []

-- the order that it is on
abbrev pub order_heard : TableState → ℕ → Result Outbound DecodeRefusal → Option OrderRecord
order_heard s port (Ok m) = order_in s port m
order_heard s port (Err refusal) = None

-- the order with this OrderID is changed, which the change fits, and its client, of this number, is told
pub record OrderIsTold (s : TableState) (port : ℕ) (heard : Result Outbound DecodeRefusal) (order_id client : ℕ)
    (next : List (List ℕ)) (h : Heard) : Type 0 where
  pub order : OrderRecord
  pub found : by_number s (decimal order_id) ≡ Some order
  pub of_token : order_heard s port heard ≡ Some order
  pub of_client : order.new.client ≡ client
  pub of_replaces : next ≡ replacements order.replaces
  pub fits : Fits h.change order
  pub gives : market_step s port heard ≡ changes_to s order (changed_by h.change order) (map body_fields h.bodies.items)

-- an answer is what the table makes of a payload on a port
abbrev pub IsJudged : TableState → ℕ → Result Outbound DecodeRefusal → Judged → Type 0
IsJudged s port heard Silent = market_step s port heard ≡ silent s
IsJudged s port heard (Faulty fault) = market_step s port heard ≡ faulty s (market_fault_number fault)
IsJudged s port heard (Told order_id client next h) = OrderIsTold s port heard order_id client next h

-- of every state with this table, after so many reports
abbrev pub Steps : ℕ → ℕ → Result Outbound DecodeRefusal → Held → Judged → Type 0
Steps issued port heard held j =
    (s : TableState) → s.orders ≡ held.orders → s.tokens ≡ held.tokens → s.exec_ids ≡ issued
    → IsJudged s port heard j
