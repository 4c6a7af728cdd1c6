-- Histories whose turns tell what the law tells, with the faults that it judges.
use Rattle.std.specs.Prelude.{◌≡◌, ℕ, List, [], ◌∷◌, Option, None}
use Rattle.order_law.specs.History.{Came, OrderEvent, Heard, OrderHistory, Terms, OrderTurn}
use Rattle.order_law.specs.Lawful.{judgement}
use Rattle.order_law.specs.Told.{told}
use Rattle.order_law.specs.Headline.{said_in}

-- the fault of an event after these turns: a client's message is none
abbrev pub fault_of : List Terms → OrderEvent → OrderHistory → Option ℕ
fault_of terms (Came client m port) before = None
fault_of terms (Heard port heard) before = judgement terms port heard before

pub record IsToldTurn (terms : List Terms) (t : OrderTurn) (before : OrderHistory) : Type 0 where
  pub tells : told terms t.event before ≡ said_in t
  pub fault : t.fault ≡ fault_of terms t.event before

abbrev pub IsTold : List Terms → OrderHistory → Type 0
IsTold terms [] = Unit {0}
IsTold terms (t ∷ before) = IsToldTurn terms t before × IsTold terms before
