-- What each refusal says, and the verdict that it is: of a new order, and of a cancel or replace.
use Rattle.std.specs.Prelude.{◌≡◌, ℕ, List, ◌++◌, MatchResult, Result, codes, decimal}
use Rattle.to_market.specs.declared.refusal.Refusal.{Refusal}
use Rattle.to_market.specs.declared.refusal.Refusal.TheVariants.{DuplicateClOrdId, PortEnded, PortFaulted, Side, Symbol}
use Rattle.to_market.specs.declared.refusal.Refusal.TheVariants.{OrderType, TimeInForce, ExecutionInstruction, Capacity}
use Rattle.to_market.specs.declared.refusal.Refusal.TheVariants.{Quantity, MinimumQuantity, PriceMissing, PriceNotExact}
use Rattle.to_market.specs.declared.refusal.Refusal.TheVariants.{PriceOutOfRange, TooManyOpenOrders, NoTokenLeft}
use Rattle.to_market.specs.declared.refusal.Refusal.TheVariants.{UnknownOrder, TooLate, AlreadyPending, OtherTerms}
use Rattle.to_market.specs.declared.refusal.Refusal.TheVariants.{TotalNotAboveExecuted, ReplaceLimit}
use Rattle.order_law.specs.Verdicts.{Verdict, Accepted, Refused}

-- OrdRejReason (103); 99 of a row that only requests have
abbrev pub code_of : Refusal → ℕ
code_of DuplicateClOrdId = 6
code_of PortEnded = 2
code_of (PortFaulted n) = 2
code_of Side = 11
code_of Symbol = 1
code_of OrderType = 11
code_of TimeInForce = 11
code_of ExecutionInstruction = 11
code_of Capacity = 11
code_of Quantity = 13
code_of MinimumQuantity = 13
code_of PriceMissing = 99
code_of PriceNotExact = 99
code_of PriceOutOfRange = 99
code_of TooManyOpenOrders = 3
code_of NoTokenLeft = 99
code_of UnknownOrder = 99
code_of TooLate = 99
code_of AlreadyPending = 99
code_of OtherTerms = 99
code_of TotalNotAboveExecuted = 99
code_of ReplaceLimit = 99

-- CxlRejReason (102); 99 of a row that only new orders have
abbrev pub request_code_of : Refusal → ℕ
request_code_of DuplicateClOrdId = 6
request_code_of PortEnded = 2
request_code_of (PortFaulted n) = 2
request_code_of Side = 99
request_code_of Symbol = 99
request_code_of OrderType = 99
request_code_of TimeInForce = 99
request_code_of ExecutionInstruction = 99
request_code_of Capacity = 99
request_code_of Quantity = 99
request_code_of MinimumQuantity = 99
request_code_of PriceMissing = 99
request_code_of PriceNotExact = 99
request_code_of PriceOutOfRange = 99
request_code_of TooManyOpenOrders = 99
request_code_of NoTokenLeft = 2
request_code_of UnknownOrder = 1
request_code_of TooLate = 0
request_code_of AlreadyPending = 3
request_code_of OtherTerms = 99
request_code_of TotalNotAboveExecuted = 99
request_code_of ReplaceLimit = 2

-- Text (58), but for the number of a fault
abbrev pub fixed_words : Refusal → List ℕ
fixed_words DuplicateClOrdId = codes "duplicate ClOrdID"
fixed_words PortEnded = codes "market session ended"
fixed_words (PortFaulted n) = codes "port fault "
fixed_words Side = codes "side"
fixed_words Symbol = codes "symbol"
fixed_words OrderType = codes "order type"
fixed_words TimeInForce = codes "time in force"
fixed_words ExecutionInstruction = codes "execution instruction"
fixed_words Capacity = codes "capacity"
fixed_words Quantity = codes "quantity"
fixed_words MinimumQuantity = codes "minimum quantity"
fixed_words PriceMissing = codes "price missing"
fixed_words PriceNotExact = codes "price not in 1/10000"
fixed_words PriceOutOfRange = codes "price out of range"
fixed_words TooManyOpenOrders = codes "too many open orders"
fixed_words NoTokenLeft = codes "no token left"
fixed_words UnknownOrder = codes "unknown order"
fixed_words TooLate = codes "too late"
fixed_words AlreadyPending = codes "already pending"
fixed_words OtherTerms = codes "side, symbol or capacity"
fixed_words TotalNotAboveExecuted = codes "total not above executed"
fixed_words ReplaceLimit = codes "replace limit"

-- Text (58)
abbrev pub refusal_text : Refusal → List ℕ
refusal_text (PortFaulted n) = fixed_words (PortFaulted n) ++ decimal n
refusal_text refusal = fixed_words refusal

-- the verdict on a new order that a refusal is
abbrev pub refused_by : Refusal → Verdict
refused_by refusal = Refused (code_of refusal) (refusal_text refusal)

-- the verdict on a cancel or replace
abbrev pub request_refused_by : Refusal → Verdict
request_refused_by refusal = Refused (request_code_of refusal) (refusal_text refusal)

-- a call decides on a cancel or replace as this verdict does: it gives something where that accepts, else the row
-- that refuses
abbrev pub Decides : {A : Type 0} → Result A Refusal → Verdict → Type 0
Decides result verdict = MatchResult result (λ given. verdict ≡ Accepted)
    (λ refusal. verdict ≡ request_refused_by refusal)
