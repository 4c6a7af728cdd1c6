-- When what comes of a message on an order is what the law says.
use Rattle.std.specs.Prelude.{◌≡◌, ℕ, Bool, true, false, not, ◌&&◌, List, [], map, Result, Ok, Err}
use Rattle.orders.specs.fix_types.Application.{body_fields}
use Rattle.ouch_codec.specs.declared.outbound.Outbound.{Outbound}
use Rattle.ouch_codec.specs.declared.outbound.rejected.Rejected.{Rejected}
use Rattle.orders.specs.order_law.declared.stage.Stage.TheVariants.{Waiting, Closed}
use Rattle.order_machine.specs.fix_fields.Field.{Message}
use Rattle.orders.specs.order_law.Lawful.{is_first, row_holds}
use Rattle.orders.specs.order_law.Life.{is_closed, is_live, is_waiting}
use Rattle.orders.specs.order_law.Told.{told_by}
use Rattle.order_machine.specs.OrderRecord.{OrderRecord, after_message, fill_of, last_of, record_life, replacements}
use Rattle.order_machine.specs.OrderRecord.{shown_as}
use Rattle.orders.specs.Changes.{Fits, changed_by}
use Rattle.market_messages.specs.declared.heard.Heard.{Heard}
use Rattle.market_messages.specs.declared.heard.RowFault.{RowFault}
use Rattle.market_messages.specs.declared.heard.RowFault.TheVariants.{NoMemory, NotLawful}

-- the message is lawful of the order
abbrev pub is_lawful : Outbound → OrderRecord → Bool
is_lawful m o = row_holds m (record_life o) o.new (replacements o.replaces)

-- what a Rejected is lawful of: the new order, which waits, or the oldest pending replace of an order that isn't closed
abbrev pub rejects_new : Rejected → OrderRecord → Bool
rejects_new m o = is_live (record_life o) m.token && is_waiting o.stage

abbrev pub rejects_replace : Rejected → OrderRecord → Bool
rejects_replace m o = is_first m.token (replacements o.replaces) && not (is_closed o.stage)

-- what its client is told, after so many reports
abbrev pub told_of : ℕ → Outbound → OrderRecord → List Message
told_of issued m o = told_by issued m (record_life o) (last_of m (replacements o.replaces) o.cancel)
    (map fill_of o.trades) (shown_as o)

-- after so many reports: it is lawful, its client is told what the law tells, and what it changes fits the order and
-- makes of it what the law makes
pub record IsHeard (issued : ℕ) (m : Outbound) (o : OrderRecord) (h : Heard) : Type 0 where
  pub lawful : is_lawful m o ≡ true
  pub told : map body_fields h.bodies.items ≡ told_of issued m o
  pub now : changed_by h.change o ≡ after_message issued m o
  pub fits : Fits h.change o

-- nobody is told anything, and the order stays as it is
pub record IsQuiet (issued : ℕ) (m : Outbound) (o : OrderRecord) : Type 0 where
  pub told : told_of issued m o ≡ []
  pub now : after_message issued m o ≡ o

-- nothing is traded while it waits, and nothing is open once it is closed
pub record IsSteady (o : OrderRecord) : Type 0 where
  pub idle : o.stage ≡ Waiting → o.trades ≡ []
  pub none_closed : o.stage ≡ Closed → o.unfilled ≡ 0

abbrev pub MeetsRow : ℕ → Outbound → OrderRecord → Result Heard RowFault → Type 0
MeetsRow issued m o (Ok h) = IsHeard issued m o h
MeetsRow issued m o (Err NoMemory) = Unit {0}
MeetsRow issued m o (Err NotLawful) = is_lawful m o ≡ false
