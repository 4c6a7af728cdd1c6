-- What a request comes to, by its verdict.
use Rattle.std.proofs.Common.{◌≡◌, ℕ, Bool, false, List, [], ◌∷◌, length, sym, ap, ◌∙◌, Some}
use Rattle.std.specs.Prelude.{Option, option_map}
use Rattle.fix_types.specs.declared.application.AppBody.{AppBody}
use Rattle.fix_types.specs.Application.{body_fields}
use Rattle.order_law.specs.History.{is_new_order}
use Rattle.order_machine.specs.fix_fields.Field.{Message, text}
use Rattle.order_law.specs.Told.{refused_request}
use Rattle.order_law.specs.Verdicts.{Accepted, Port, first_row, rows_of_request}
use Rattle.order_machine.specs.Machine.{accept_on, by_verdict, client_step, tells, verdict_in, with_used}
use Rattle.order_machine.specs.OrderRecord.{OrderRecord, shown_as}
use Rattle.order_machine.specs.Table.{TableState, record_by_id, has_used, named_as}
use Rattle.to_market.specs.declared.refusal.Refusal.{Refusal}
use Rattle.to_market.specs.PortsSeen.{port_seen}
use Rattle.to_market.specs.Refusals.{request_code_of, request_refused_by, refusal_text}
use Rattle.to_market.specs.declared.sender.Sender.{Sender}
use Rattle.to_market.specs.Turns.{IsRefused}

pub verdict-is : (s : TableState) (client : ℕ) (m : Message) (port : Port) (used : Bool) (found : Option OrderRecord)
    → is_new_order m ≡ false → has_used s.used client (text 11 m) ≡ used → record_by_id s client (text 41 m) ≡ found
    → verdict_in s client port m ≡ first_row (rows_of_request used (option_map (named_as s) found) port
    (length s.tokens) m)
verdict-is s client m port used found no_new is_used is_found =
    rw no_new (
    ap (λ (u : Bool). first_row (rows_of_request u (option_map (named_as s) (record_by_id s client (text 41 m))) port
    (length s.tokens) m)) is_used
    ∙ ap (λ (f : Option OrderRecord). first_row
    (rows_of_request used (option_map (named_as s) f) port (length s.tokens) m)) is_found)

-- a row refuses it
pub refused-in : (s : TableState) (sender : Sender) (m : Message) (found : Option OrderRecord) (refusal : Refusal)
    (body : AppBody)
    → is_new_order m ≡ false → record_by_id s sender.client (text 41 m) ≡ found
    → verdict_in s sender.client (port_seen sender.port) m ≡ request_refused_by refusal
    → body_fields body ∷ [] ≡ refused_request m (option_map shown_as found) (request_code_of refusal)
    (refusal_text refusal)
    → IsRefused s sender m body
refused-in s sender m found refusal body no_new is_found verdict is_body =
    ap (by_verdict s sender.client m) verdict
    ∙ rw no_new (
    ap (λ (f : Option OrderRecord). tells (with_used sender.client m s) sender.client
    (refused_request m (option_map shown_as f) (request_code_of refusal) (refusal_text refusal)) []) is_found
    ∙ ap (λ (bs : List Message). tells (with_used sender.client m s) sender.client bs []) (sym is_body))

-- it is accepted
pub accepted-on : (s : TableState) (client : ℕ) (m : Message) (port : Port) (o : OrderRecord)
    → is_new_order m ≡ false → record_by_id s client (text 41 m) ≡ Some o → verdict_in s client port m ≡ Accepted
    → client_step s client m port ≡ accept_on s client m (Some o)
accepted-on s client m port o no_new is_found verdict =
    ap (by_verdict s client m) verdict ∙ rw no_new (ap (accept_on s client m) is_found)
