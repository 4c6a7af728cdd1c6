-- What a client has executed, by its own reports: of all of its orders.
-- (FIX 4.4 Volume 4, "Execution Report"; Volume 6, ExecType (150).)
use Rattle.std.specs.Prelude.{ℕ, List}
use Rattle.std.specs.List.{sum_by}
use Rattle.order_machine.specs.Field.{Message}
use Rattle.outstanding.specs.order_law.Chain.{orders}
use Rattle.outstanding.specs.order_law.Reading.{reading}

-- CumQty (14) of each order in sum, in shares: a trade that was broken isn't among it
abbrev pub executed_shares : List Message → ℕ
executed_shares sent = sum_by (λ order. (reading order sent).executed) (orders sent)

-- shares times price of the trades that stand, in sum, in 1/10,000
abbrev pub executed_value : List Message → ℕ
executed_value sent = sum_by (λ order. (reading order sent).value) (orders sent)
