-- What a new order makes of a table, as one answer. (FIX 4.4 Volume 4, "New Order - Single".)
use Rattle.std.specs.Prelude.{◌≡◌, ◌≤◌, ℕ, ◌+◌, Bool, List, [], ◌∷◌, ◌++◌, Some, decimal, length, map}
use Rattle.fix_types.specs.declared.application.AppBody.{AppBody}
use Rattle.fix_types.specs.declared.new_order.NewOrder.{NewOrder}
use Rattle.fix_types.specs.NewOrder.{new_order_fields}
use Rattle.fix_types.specs.Application.{body_fields}
use Rattle.order_law.specs.ouch_codec.declared.inbound.Inbound.{Inbound}
use Rattle.order_law.specs.History.{Asked, Entry}
use Rattle.order_machine.specs.fix_fields.Field.{Message, text}
use Rattle.order_law.specs.Verdicts.{Accepted}
use Rattle.order_machine.specs.Machine.{client_step, tells, with_used}
use Rattle.order_machine.specs.OrderRecord.{OrderRecord}
use Rattle.order_machine.specs.Table.{GivenToken, TableState, UsedId, used_by}
use Rattle.order_table.specs.Held.{Held}
use Rattle.to_market.specs.PortsSeen.{port_seen}
use Rattle.to_market.specs.Turns.{AreOf, SaysAll, Stands}
use Rattle.to_market.specs.declared.sender.Sender.{Sender}
use Rattle.to_market.specs.Refusals.{refused_by}
use Rattle.to_market.specs.declared.refusal.Refusal.{Refusal}
use Rattle.to_market.specs.declared.turn.AcceptedOrder.{AcceptedOrder}
use Rattle.to_market.specs.Verdict.{verdict_of}

-- as what it is accepted: under this OrderID and the next token
abbrev pub entry_after : ℕ → Sender → Held → NewOrder → Entry
entry_after order_id sender held d =
    record {
      client = sender.client;
      message = new_order_fields d;
      order = decimal order_id;
      token = Some (length held.tokens + 1);
    }

-- one OrderID and one report more were given
abbrev pub numbered_on : ℕ → Message → TableState → TableState
numbered_on client m s = record (with_used client m s) { order_ids = s.order_ids + 1; exec_ids = s.exec_ids + 1 }

-- and there is one order more, with its token
abbrev pub with_order : UsedId → OrderRecord → GivenToken → TableState → TableState
with_order id o given s = record s {
  orders = o ∷ s.orders;
  tokens = given ∷ s.tokens;
  used = s.used ++ id ∷ [];
  order_ids = s.order_ids + 1;
  exec_ids = s.exec_ids + 1;
}

-- it waits under this OrderID, which its client is told
pub record IsEntering (s : TableState) (sender : Sender) (m : Message) (order_id : ℕ) (o : OrderRecord)
    (given : GivenToken) (bodies : List AppBody) (asks : List Inbound) : Type 0 where
  pub asked : List Asked
  pub of_asked : AreOf order_id asked
  pub gives : client_step s sender.client m (port_seen sender.port)
      ≡ tells (with_order (used_by sender.client m) o given s) sender.client (map body_fields bodies) asked
  pub says : SaysAll s sender asked asks
  pub few : length asks ≤ 5
  pub one_token : length o.tokens ≤ 1
  pub none_pending : o.replaces ≡ []

-- a state with this table, after so many OrderIDs and reports
pub record StandsAfter (s : TableState) (order_ids exec_ids : ℕ) (sender : Sender) (held : Held) (id : List ℕ)
    (is_used : Bool) : Type 0 where
  pub numbered : s.order_ids ≡ order_ids
  pub stands : Stands s exec_ids sender held id is_used

-- of every state that stands so: refused by this row
abbrev pub StepsRefused : ℕ → ℕ → NewOrder → Refusal → AppBody → Type 0
StepsRefused order_ids exec_ids d row body =
    (s : TableState) (sender : Sender) (held : Held) (is_used : Bool) → StandsAfter s order_ids exec_ids sender held
    (text 11 (new_order_fields d)) is_used
    → verdict_of sender held is_used d ≡ refused_by row
    → client_step s sender.client (new_order_fields d) (port_seen sender.port)
    ≡ tells (numbered_on sender.client (new_order_fields d) s) sender.client (body_fields body ∷ []) []

-- and accepted
abbrev pub StepsAccepted : ℕ → ℕ → Sender → Held → NewOrder → AcceptedOrder → Type 0
StepsAccepted order_ids exec_ids sender held d accepted =
    (s : TableState) (is_used : Bool) → StandsAfter s order_ids exec_ids sender held
    (text 11 (new_order_fields d)) is_used
    → verdict_of sender held is_used d ≡ Accepted
    → IsEntering s sender (new_order_fields d) accepted.order_id accepted.order accepted.given accepted.bodies.items
    accepted.asks.items
