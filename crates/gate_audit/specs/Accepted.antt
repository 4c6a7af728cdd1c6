-- The orders that reports opened, of which nothing was read.
use Rattle.std.specs.Prelude.{◌≡◌, ◌==◌, ℕ, List, [], ◌∷◌, filter, reverse, if◌then◌else◌}
use Rattle.gate_law.specs.fix_fields.Field.{text}
use Rattle.order_law.specs.Reading.{unread}
use Rattle.gate_audit.specs.declared.accepted.AcceptedOrders.{AcceptedOrders}
use Rattle.gate_audit.specs.Pairs.{SaidToClient}
use Rattle.gate_audit.specs.Read.{ReadOrder, opens_new_order}

abbrev pub accepted_by : SaidToClient → ReadOrder
accepted_by x = record { client = x.client; order = text 37 x.report; id = text 11 x.report; reading = unread }

-- those that these reports, the newest first, opened
abbrev pub accepted_in : List SaidToClient → List ReadOrder
accepted_in [] = []
accepted_in (x ∷ earlier) = if opens_new_order x.report then accepted_by x ∷ accepted_in earlier
    else accepted_in earlier

abbrev pub own_of : ℕ → List ReadOrder → List ReadOrder
own_of client os = filter (λ (o : ReadOrder). o.client == client) os

-- an order of which nothing was read
abbrev pub as_unread : ReadOrder → ReadOrder
as_unread o = record o { reading = unread }

pub record AreAccepted (all : List SaidToClient) (x : AcceptedOrders) : Type 0 where
  pub orders : x.orders.items ≡ reverse (accepted_in all)
