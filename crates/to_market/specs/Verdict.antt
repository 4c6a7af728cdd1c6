-- The verdict on a new order, by the table that it comes to.
use Rattle.std.specs.Prelude.{◌≡◌, ◌≤◌, ℕ, ◌+◌, Bool, List, Option, length}
use Rattle.tokens.specs.TokenText.{token_text}
use Rattle.fix_types.specs.declared.new_order.NewOrder.{NewOrder}
use Rattle.fix_types.specs.NewOrder.{new_order_fields}
use Rattle.order_law.specs.ouch_codec.declared.inbound.enter_order.EnterOrder.{EnterOrder}
use Rattle.order_law.specs.Asks.{limit_of, total_of}
use Rattle.order_law.specs.Headline.{Says}
use Rattle.order_law.specs.Verdicts.{Verdict, first_row, rows_of_new}
use Rattle.order_machine.specs.Table.{open_count}
use Rattle.order_table.specs.Held.{Held}
use Rattle.to_market.specs.NewAsks.{asked_with, enter_bytes, client_standing}
use Rattle.to_market.specs.PortsSeen.{port_seen}
use Rattle.to_market.specs.declared.sender.Sender.{Sender}

-- the first row of its table that holds, where its ClOrdID is used or isn't
abbrev pub verdict_of : Sender → Held → Bool → NewOrder → Verdict
verdict_of sender held is_used d =
    first_row (rows_of_new is_used (port_seen sender.port) (open_count held.orders sender.client) (length held.tokens)
    (new_order_fields d))

-- an Enter Order that says what the order asks under the next token, whatever its OrderID; its stock has 8 bytes
pub record AsksNext (sender : Sender) (held : Held) (d : NewOrder) (enter : EnterOrder) : Type 0 where
  pub token : enter.token ≡ token_text (length held.tokens + 1)
  pub shares : enter.shares ≡ total_of (new_order_fields d)
  pub price : enter.price ≡ limit_of (new_order_fields d)
  pub symbol : length d.symbol ≤ 8
  pub says : (order : List ℕ) (order_of : List ℕ → Option ℕ)
      → Says (client_standing sender.terms) order_of
      (asked_with order (token_text (length held.tokens + 1)) sender.terms.capacity (new_order_fields d))
      (enter_bytes enter)
