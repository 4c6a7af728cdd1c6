-- A list of orders that is put back to how it stood when it was last settled.
use Rattle.std.specs.Prelude.{ℕ, List, [], ◌∷◌, take, reverse}
use Rattle.orders.specs.order_machine.OrderRecord.{OrderRecord}
use Rattle.orders.specs.PutBack.{put_back}
use Rattle.orders.specs.order_trades.Marking.{changed_at}
use Rattle.undo_orders.specs.declared.list.Was.{Was}

-- with what orders had put back, the newest change first
abbrev pub restored : List Was → List OrderRecord → List OrderRecord
restored [] orders = orders
restored (w ∷ older) orders = restored older (changed_at (put_back w.earlier) w.place orders)

-- As many orders as there were; what they had is put back. A change behind these is of none of them.
abbrev pub settled_of : ℕ → List Was → List OrderRecord → List OrderRecord
settled_of count changed orders = restored (reverse changed) (take count orders)
