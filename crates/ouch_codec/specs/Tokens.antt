-- The order that a message from the market is on. (OUCH 4.2, "Outbound Messages".)
use Rattle.std.specs.Prelude.{ℕ, List, Option, Some, None}
use Rattle.ouch_codec.specs.declared.outbound.Outbound.{Outbound}
use Rattle.ouch_codec.specs.declared.outbound.Outbound.TheVariants as market

-- the token that a message is on, which a System Event and a Priority Update have not: of a Replaced the previous one
abbrev pub order_token : Outbound → Option (List ℕ)
order_token (market.Accepted m) = Some m.token
order_token (market.Replaced m) = Some m.previous_token
order_token (market.Canceled m) = Some m.token
order_token (market.Executed m) = Some m.token
order_token (market.Broken m) = Some m.token
order_token (market.Rejected m) = Some m.token
order_token (market.CancelPending m) = Some m.token
order_token (market.CancelReject m) = Some m.token
order_token other = None
