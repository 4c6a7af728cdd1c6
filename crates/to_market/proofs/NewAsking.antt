-- What a new order asks under the next token.
use Rattle.std.proofs.Common.{◌≡◌, ℕ, ◌+◌, ◌-◌, ◌≤◌, List, ◌++◌, length, subst, sym, ap, ◌∙◌, arith, length-append}
use Rattle.std.specs.Prelude.{Option, replicate}
use Rattle.tokens.specs.TokenText.{token_text}
use Rattle.fix_types.specs.declared.new_order.NewOrder.{NewOrder}
use Rattle.fix_types.specs.NewOrder.{new_order_fields}
use Rattle.order_law.specs.ouch_codec.declared.inbound.enter_order.EnterOrder.{EnterOrder}
use Rattle.order_law.specs.Headline.{Says}
use Rattle.order_table.specs.Held.{Held}
use Rattle.to_market.specs.declared.new_ask.NewAsk.{NewAsk}
use Rattle.to_market.specs.NewAsks.{AsksAs, asked_with, enter_bytes, client_standing}
use Rattle.to_market.specs.declared.sender.Sender.{Sender}
use Rattle.to_market.specs.Verdict.{AsksNext}

-- a text that is padded to eight bytes has no more
fits-in : (symbol stock : List ℕ) → stock ≡ symbol ++ replicate (8 - length symbol) 32 → length stock ≡ 8
    → length symbol ≤ 8
fits-in symbol stock padded eight =
    let whole : length symbol + length (replicate (8 - length symbol) 32) ≡ 8 =
    sym (length-append symbol (replicate (8 - length symbol) 32)) ∙ sym (ap length padded) ∙ eight in
    omega (arith, whole)

-- an Enter Order that is made of what an order asks is the next one of its client
pub asks_next : (sender : Sender) (held : Held) (d : NewOrder) (token : List ℕ) (ask : NewAsk) (enter : EnterOrder)
    → token ≡ token_text (length held.tokens + 1) → AsksAs ask sender.terms.capacity (new_order_fields d)
    → length ask.stock ≡ 8 → enter.token ≡ token → enter.shares ≡ ask.shares → enter.price ≡ ask.price
    → ((order : List ℕ) (order_of : List ℕ → Option ℕ)
    → Says (client_standing sender.terms) order_of (asked_with order token sender.terms.capacity (new_order_fields d))
    (enter_bytes enter))
    → AsksNext sender held d enter
asks_next sender held d token ask enter next asks stock enter_token enter_shares enter_price says = record {
  token = enter_token ∙ next;
  shares = enter_shares ∙ asks.shares;
  price = enter_price ∙ asks.price;
  symbol = fits-in d.symbol ask.stock asks.stock stock;
  says = λ order order_of. subst (λ (k : List ℕ). Says (client_standing sender.terms) order_of
      (asked_with order k sender.terms.capacity (new_order_fields d)) (enter_bytes enter)) next (says order order_of);
}
