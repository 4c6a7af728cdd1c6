-- From which clients the messages of the order level's history came.
use Rattle.std.specs.Prelude.{ℕ}
use Rattle.order_law.specs.History as orders
use Rattle.order_law.specs.History.{Came, Heard}
use Rattle.order_law.specs.Headline.{Each}

-- a client's message came from a client of which this holds
abbrev pub IsFrom : (ℕ → Type 0) → orders.OrderEvent → Type 0
IsFrom P (Came client m port) = P client
IsFrom P (Heard p m) = Unit {0}

-- each client's message of a history did
abbrev pub AreFrom : (ℕ → Type 0) → orders.OrderHistory → Type 0
AreFrom P h = Each (λ (t : orders.OrderTurn). IsFrom P t.event) h
