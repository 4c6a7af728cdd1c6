-- What passes over the turns of a history are told, and what they keep of it.
use Rattle.std.specs.Prelude.{◌≡◌, ◌==◌, ℕ, List, [], ◌∷◌, ◌++◌, map, reverse, if◌then◌else◌}
use Rattle.gate_law.specs.fix_fields.Field.{Message}
use Rattle.gate_law.specs.Events.{Batch, History}
use Rattle.order_law.specs.declared.account.Account.{Account}
use Rattle.order_law.specs.Headline.{Each}
use Rattle.order_law.specs.Life.{account_of, life}
use Rattle.order_law.specs.Reading.{account_read, reading}
use Rattle.order_accounts.specs.Held.{IsHeld, StaysHeld, heard_on}
use Rattle.order_accounts.specs.ouch_codec.declared.outbound.Outbound.{Outbound}
use Rattle.gate_audit.specs.Pairs.{OpenedOrder, Pair, SaidToClient, paired, told_anyone}
use Rattle.gate_audit.specs.Read.{ReadOrder}

-- what a batch told, whole, and what was told before, the newest first
abbrev pub told_more : Batch → List SaidToClient → List SaidToClient
told_more b before = reverse (told_anyone b.client b.reports) ++ before

-- all that the batches of a history told, whole, the newest first
abbrev pub told_whole : History → List SaidToClient
told_whole [] = []
told_whole (t ∷ before) = told_more t.batch (told_whole before)

-- what a client was told of these
abbrev pub sent_to : ℕ → List SaidToClient → List Message
sent_to client [] = []
sent_to client (x ∷ earlier) = if x.client == client then x.report ∷ sent_to client earlier else sent_to client earlier

-- ---- readings of orders

abbrev pub order_id : ReadOrder → List ℕ
order_id o = o.order

-- one report more to a client makes of an order what it makes of the client's own
abbrev pub hears : ℕ → Message → ReadOrder → ReadOrder
hears client r o = record o { reading = if client == o.client then heard_on o.order o.reading r else o.reading }

-- what its client has read of an order, where this was told
abbrev pub read_as : List SaidToClient → ReadOrder → ReadOrder
read_as all o = record o { reading = reading o.order (sent_to o.client all) }

-- what was read of these orders stays within integers
abbrev pub StayRead : List SaidToClient → List ReadOrder → Type 0
StayRead all os = Each (λ (o : ReadOrder). StaysHeld o.order (sent_to o.client all)) os

abbrev pub HasHeld : ReadOrder → Type 0
HasHeld o = IsHeld o.reading

-- these orders now, where this was told
pub record AreRead (os : List ReadOrder) (all : List SaidToClient) (now : List ReadOrder) : Type 0 where
  pub read : now ≡ map (read_as all) os
  pub held : StayRead all os

-- ---- changes at places

abbrev pub changed : {X : Type 0} → (X → X) → ℕ → List X → List X
changed f k [] = []
changed f ℕ.zero (x ∷ xs) = f x ∷ xs
changed f (ℕ.suc k) (x ∷ xs) = x ∷ changed f k xs

-- at each of these places, one after another
abbrev pub changed_at : {X : Type 0} → (X → X) → List ℕ → List X → List X
changed_at f [] xs = xs
changed_at f (k ∷ ks) xs = changed_at f ks (changed f k xs)

-- ---- both accounts

-- what a port's messages, the newest first, say of an order
abbrev pub said_of : List Outbound → OpenedOrder → Account
said_of handled o = account_of (life o.root o.side handled)

-- what its client read of an order
abbrev pub fix_in : List SaidToClient → OpenedOrder → Account
fix_in all o = account_read (reading o.order (sent_to o.client all))

-- what was read of these orders stays within integers
abbrev pub StayHeld : List SaidToClient → List OpenedOrder → Type 0
StayHeld all os = Each (λ (o : OpenedOrder). StaysHeld o.order (sent_to o.client all)) os

-- orders, each with the next of both accounts, as long as there are any
abbrev pub pairs_with : List OpenedOrder → List Account → List Account → List Pair
pairs_with [] fix said = []
pairs_with (o ∷ os) [] said = []
pairs_with (o ∷ os) (x ∷ fix) [] = []
pairs_with (o ∷ os) (x ∷ fix) (y ∷ said) = paired o.client o.id x y ∷ pairs_with os fix said
