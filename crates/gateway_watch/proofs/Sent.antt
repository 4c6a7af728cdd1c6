-- A board may be shared between threads, and who looks for orders that wait may go to another.
use denote.RattleType.{RattleType}
use denote.Ref.{NamedLft}
use denote.Param.SendFields.{declared_send}
use denote.Param.Send.{IsSend, IsSync, sendable}
use Rattle.std.proofs.Crossing.{crosses}
use Rattle.gateway_watch.specs.contracts.order_watch.OrderWatch as OrderWatch
use Rattle.gateway_watch.specs.contracts.board.Shown as Shown
use Rattle.gateway_watch.specs.contracts.board.StatusBoard as StatusBoard

shown_send : IsSend Shown.the_row
shown_send = search (sendable, crosses) depth 100 fits 500000

pub board_sync : IsSync StatusBoard.the_row
board_sync = search (shown_send, sendable, crosses) depth 100 fits 500000

module _ (a : NamedLft) (R : RattleType) (r : IsSync R) where
  pub order_watch_send : IsSend (OrderWatch.the_row a R)
  order_watch_send = declared_send (OrderWatch.the_type a R)
      (search (r, sendable) depth 40, (search (sendable, crosses) depth 40, (search (sendable, crosses) depth 40, tt)))
