-- What a message comes to on the one order that it is on, and whether the token is known that it gives the order.
use Rattle.std.specs.Prelude.{◌≡◌, ℕ, Bool, true, false, List, [], is_some, decimal}
use Rattle.ouch_codec.specs.declared.outbound.Outbound.{Outbound}
use Rattle.ouch_codec.specs.declared.outbound.Outbound.TheVariants as market
use Rattle.order_machine.specs.OrderRecord.{OrderRecord, after_message, replacements}
use Rattle.order_table.specs.Held.{Held, found}
use Rattle.market_messages.specs.declared.heard.Heard.{Heard}
use Rattle.market_messages.specs.Meets.{IsHeard, is_lawful, told_of}
use Rattle.market_messages.specs.declared.judged.Judged.{Judged}
use Rattle.market_messages.specs.declared.judged.Judged.TheVariants.{Faulty, Silent, Told}
use Rattle.market_messages.specs.declared.market_fault.MarketFault.TheVariants.{NotLawful, OutsideProfile, Undecodable}
use Rattle.market_messages.specs.declared.market_fault.MarketFault.TheVariants.{UnknownToken}

-- it is lawful, nobody is told anything, and the order stays as it is
pub record IsPassedOver (issued : ℕ) (m : Outbound) (o : OrderRecord) : Type 0 where
  pub lawful : is_lawful m o ≡ true
  pub told : told_of issued m o ≡ []
  pub now : after_message issued m o ≡ o

-- it is lawful, and changes the order with this OrderID and of this client, of which replaces are pending by these
-- tokens
pub record IsToldOf (issued : ℕ) (m : Outbound) (o : OrderRecord) (order_id client : ℕ) (next : List (List ℕ))
    (h : Heard) : Type 0 where
  pub of_order : o.new.order ≡ decimal order_id
  pub of_client : o.new.client ≡ client
  pub of_replaces : next ≡ replacements o.replaces
  pub is_heard : IsHeard issued m o h

abbrev pub IsJudgedOf : ℕ → Outbound → OrderRecord → Judged → Type 0
IsJudgedOf issued m o Silent = IsPassedOver issued m o
IsJudgedOf issued m o (Faulty NotLawful) = is_lawful m o ≡ false
IsJudgedOf issued m o (Faulty Undecodable) = ⊥
IsJudgedOf issued m o (Faulty UnknownToken) = ⊥
IsJudgedOf issued m o (Faulty OutsideProfile) = ⊥
IsJudgedOf issued m o (Told order_id client next h) = IsToldOf issued m o order_id client next h

-- a Replaced gives its order a token: the replace's, so it has to be known; no other message gives one
abbrev pub knows_new_token : Held → ℕ → Outbound → Bool
knows_new_token held port (market.Replaced m) = is_some (found held port m.token)
knows_new_token held port other = true
