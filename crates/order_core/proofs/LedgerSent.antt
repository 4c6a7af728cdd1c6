-- A ledger may go to another thread where its hasher may. A `search` takes so many steps and no more, too few for all
-- of it at once: what takes the most has lemmas of its own.
use denote.RattleType.{RattleType}
use denote.Param.Send.{IsSend, sendable, view_send}
use denote.Param.SendFields.{declared_send}
use Rattle.std.specs.declared.hash.Hasher as Hasher
use Rattle.std.specs.declared.hash.BuildHasher as BuildHasher
use Rattle.std.proofs.Crossing.{crosses}
use Rattle.to_market.specs.orders.contracts.order.Order as Order
use Rattle.to_market.specs.orders.contracts.requests.Cancelling as Cancelling
use Rattle.to_market.specs.orders.contracts.requests.Replacing as Replacing
use Rattle.to_market.specs.orders.order_trades.contracts.indexed.Indexed as Indexed
use Rattle.to_market.specs.orders.order_trades.contracts.trades.Trades as Trades
use Rattle.to_market.specs.order_table.contracts.table.Table as Table
use Rattle.order_core.specs.contracts.ledger.OrderLedger as OrderLedger
use Rattle.order_core.specs.contracts.used_ids.UsedIds as UsedIds

replacing : IsSend Replacing.the_row
replacing = search (sendable, crosses) depth 100 fits 500000

cancelling : IsSend Cancelling.the_row
cancelling = search (sendable, crosses) depth 100 fits 500000

indexed : IsSend Indexed.the_row
indexed = search (sendable, crosses) depth 100 fits 500000

trades : IsSend Trades.the_row
trades = search (indexed, sendable, crosses) depth 100 fits 500000

order : IsSend Order.the_row
order = search (trades, replacing, cancelling, sendable, crosses) depth 100 fits 500000

module _ (S T : RattleType) (g : BuildHasher.Ghosts S.Denot T.Denot) (h : Hasher.Ghosts T.Denot) (s : IsSend S) where
  table : IsSend (Table.the_row S T g h)
  table = search (order, trades, replacing, cancelling, sendable, crosses) depth 100 fits 500000

  used : IsSend (UsedIds.the_row S T g h)
  used = search (sendable, crosses) depth 100 fits 500000

  number : IsSend (denote.Hole.as_row denote.Struct.Field.u64-field)
  number = search sendable

  pub ledger_send : IsSend (OrderLedger.the_row S T g h)
  ledger_send = view_send _ _ _ _ _ (declared_send (OrderLedger.TheInside.the_type S T g h)
      (search (sendable, crosses) depth 40, (table, (used, (number, (number, (number, (number, tt))))))))
