-- An order whose trade is taken back.
use Rattle.std.proofs.Common.{◌≡◌, ◌≢◌, ◌+◌, ◌-◌, ◌*◌, List, map, refl, sym, ◌∙◌}
use Rattle.order_machine.specs.order_law.declared.stage.Stage.{Stage}
use Rattle.order_machine.specs.order_law.declared.stage.Stage.TheVariants.{Waiting, Working, Closed}
use Rattle.order_machine.specs.OrderRecord as record_of
use Rattle.order_machine.specs.OrderRecord.{OrderRecord, with_trade_broken, mark}
use Rattle.order_trades.specs.declared.told_trade.ToldTrade.{ToldTrade}
use Rattle.orders.specs.declared.progress.Progress.{Progress}
use Rattle.orders.specs.Seen.{progressed, told_seen}

pub broken-is : (t : ToldTrade) (o : OrderRecord) (p : Progress) (ts : List record_of.ToldTrade)
    → ts ≡ map (mark t.trade.match_number) o.trades
    → p.stage ≡ o.stage → p.is_refused ≡ o.is_refused → (o.stage ≡ Closed → p.total ≡ o.total)
    → (o.stage ≢ Closed → p.total ≡ (o.executed - t.trade.shares) + o.unfilled)
    → p.price ≡ o.price → p.unfilled ≡ o.unfilled → p.executed ≡ o.executed - t.trade.shares → p.cancelled ≡ o.cancelled
    → p.value ≡ o.value - t.trade.shares * t.trade.price
    → record (progressed p o) { trades = ts } ≡ with_trade_broken (told_seen t) o
broken-is t o p ts marked stage refused closed still price unfilled executed cancelled value = by_stage o.stage refl
  where
    by_stage : (x : Stage) → o.stage ≡ x → record (progressed p o) { trades = ts } ≡ with_trade_broken (told_seen t) o
    by_stage Closed e = let total = closed e in
        rw (marked, stage, refused, total, price, unfilled, executed, cancelled, value, e) refl
    by_stage Working e = let total = still (λ x. (let y : Working ≡ Closed = sym e ∙ x in cc)) in
        rw (marked, stage, refused, total, price, unfilled, executed, cancelled, value, e) refl
    by_stage Waiting e = let total = still (λ x. (let y : Waiting ≡ Closed = sym e ∙ x in cc)) in
        rw (marked, stage, refused, total, price, unfilled, executed, cancelled, value, e) refl
