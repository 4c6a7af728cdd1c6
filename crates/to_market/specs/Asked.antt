-- What an accepted cancel or replace asks, and when one is accepted.
use Rattle.std.specs.Prelude.{◌≡◌, ◌<◌, ℕ, List, [], ◌∷◌, Option, Some, codes, length, map}
use Rattle.std.specs.Str.Parse.{digits_value}
use Rattle.order_law.specs.ouch_codec.declared.inbound.Inbound.{Inbound}
use Rattle.order_law.specs.ouch_codec.Inbound.{inbound_bytes}
use Rattle.order_law.specs.Asks.{Standing}
use Rattle.order_law.specs.Headline.{Says}
use Rattle.std.specs.List.{count_by}
use Rattle.order_law.specs.History.{Asked, last_token, terms_of}
use Rattle.order_machine.specs.fix_fields.Field.{Message, text}
use Rattle.order_law.specs.Verdicts as law
use Rattle.order_machine.specs.Machine.{verdict_in}
use Rattle.order_machine.specs.OrderRecord.{OrderRecord, live_token, replacements}
use Rattle.order_machine.specs.Table.{TableState, record_by_id, is_replacement_of}
use Rattle.to_market.specs.PortsSeen.{port_seen}
use Rattle.to_market.specs.RequestAsks.{cancel_asked_with, replace_asked_with}
use Rattle.to_market.specs.TermsSeen.{terms_seen}
use Rattle.to_market.specs.declared.sender.Sender.{Sender}

-- a cancel asks by each token: that which the order goes by, and those of its pending replaces
abbrev pub cancels_asked : OrderRecord → Message → List Asked
cancels_asked o m = map (λ token. cancel_asked_with o.new.order token m) (live_token o ∷ replacements o.replaces)

-- a message asks that an order which goes by a token be cancelled
abbrev pub SaysTheCancel : List ℕ → Inbound → Type 0
SaysTheCancel token x =
    (m : Message) → text 35 m ≡ codes "F" → (order : List ℕ) (standing : Standing) (order_of : List ℕ → Option ℕ)
    → order_of token ≡ Some (digits_value 10 order)
    → Says standing order_of (cancel_asked_with order token m) (inbound_bytes x)

-- one for each of these tokens
abbrev pub SayCancels : List (List ℕ) → List Inbound → Type 0
SayCancels [] [] = Unit {0}
SayCancels [] (x ∷ xs) = ⊥
SayCancels (t ∷ ts) [] = ⊥
SayCancels (t ∷ ts) (x ∷ xs) = SaysTheCancel t x × SayCancels ts xs

-- a replace asks once, from the token that the order goes by once its pending replaces are done to its own
abbrev pub replaces_asked : OrderRecord → List ℕ → Message → List Asked
replaces_asked o token m = replace_asked_with o.new.order (last_token (live_token o) (replacements o.replaces)) token m
    ∷ []

-- the message is on this order, and accepted
pub record IsAccepted (issued : ℕ) (sender : Sender) (m : Message) (o : OrderRecord) (s : TableState) : Type 0 where
  pub reports : s.exec_ids ≡ issued
  pub named : record_by_id s sender.client (text 41 m) ≡ Some o
  pub verdict : verdict_in s sender.client (port_seen sender.port) m ≡ law.Accepted

-- and it takes the token after so many
pub record TakesToken (given : ℕ) (sender : Sender) (o : OrderRecord) (s : TableState) : Type 0 where
  pub tokens : length s.tokens ≡ given
  pub terms : terms_of s.terms sender.client ≡ terms_seen sender.terms
  pub room : count_by (is_replacement_of o.new.order) s.tokens < 65_535
  pub few : length o.replaces < 4
