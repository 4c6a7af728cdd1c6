-- How an order of the table is seen: as its record.
use Rattle.std.specs.Prelude.{ℕ, Bool, false, List, Option, Some, None, bytes_eq, decimal}
use Rattle.std.specs.List.{list_any}
use Rattle.fix_types.specs.CancelRequest.{cancel_request_fields}
use Rattle.fix_types.specs.ReplaceRequest.{replace_request_fields}
use Rattle.order_machine.specs.History.{Entry}
use Rattle.order_machine.specs.fix_fields.Field.{text}
use Rattle.orders.specs.declared.requests.Cancelling.{Cancelling}
use Rattle.orders.specs.declared.requests.Replacing.{Replacing}
use Rattle.order_trades.specs.declared.told_trade.ToldTrade.{ToldTrade}
use Rattle.orders.specs.declared.progress.Progress.{Progress}
use Rattle.order_machine.specs.OrderRecord.{OrderRecord, with_tokens}
use Rattle.order_machine.specs.OrderRecord as record_of

abbrev pub told_seen : ToldTrade → record_of.ToldTrade
told_seen t = record { trade = t.trade; number = t.number }

-- an order that has come so far
abbrev pub progressed : Progress → OrderRecord → OrderRecord
progressed p o = record o {
  stage = p.stage;
  is_refused = p.is_refused;
  total = p.total;
  price = p.price;
  unfilled = p.unfilled;
  executed = p.executed;
  cancelled = p.cancelled;
  value = p.value;
}

-- the pending requests of an order of a client, with its OrderID
abbrev pub replace_seen : ℕ → ℕ → Replacing → Entry
replace_seen client order_id r = record {
  client = client;
  message = replace_request_fields r.message;
  order = decimal order_id;
  token = Some r.token_number;
}

abbrev pub cancel_seen : ℕ → ℕ → Cancelling → record_of.Cancelling
cancel_seen client order_id c = record {
  request = record {
    client = client;
    message = cancel_request_fields c.message;
    order = decimal order_id;
    token = None;
  };
  tokens = c.tokens.items;
}

-- the same, of an order
abbrev pub replace_of : OrderRecord → Replacing → Entry
replace_of o r = record {
  client = o.new.client;
  message = replace_request_fields r.message;
  order = o.new.order;
  token = Some r.token_number;
}

abbrev pub cancel_of : OrderRecord → Cancelling → record_of.Cancelling
cancel_of o c = record {
  request = record {
    client = o.new.client;
    message = cancel_request_fields c.message;
    order = o.new.order;
    token = None;
  };
  tokens = c.tokens.items;
}

-- the token that a replace asks for
abbrev pub replacing_token : Replacing → List ℕ
replacing_token r = r.token

-- a token is one of those
abbrev pub has_token : List Replacing → List ℕ → Bool
has_token rs token = list_any (λ (r : Replacing). bytes_eq token r.token) rs

-- a cancel, where a Cancel Order of it is left
abbrev pub left_of : record_of.Cancelling → Option record_of.Cancelling
left_of c = with_tokens c.request c.tokens

-- a pending replace has this ClOrdID
abbrev pub has_id : List ℕ → List Entry → Bool
has_id id rs = list_any (λ (q : Entry). bytes_eq (text 11 q.message) id) rs

abbrev pub has_cancel_id : List ℕ → Option record_of.Cancelling → Bool
has_cancel_id id None = false
has_cancel_id id (Some c) = bytes_eq (text 11 c.request.message) id
