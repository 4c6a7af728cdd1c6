-- Executed of an order.
use Rattle.std.proofs.Common.{◌≡◌, ℕ, ◌+◌, ◌-◌, ◌≤◌, Bool, true, false, List, [], ◌∷◌, map, reverse, refl, sym, ◌∙◌}
use Rattle.std.proofs.Common.{arith, bytes_eq, ne_eqb}
use Rattle.std.specs.Prelude.{◌==◌, ◌&&◌, not}
use Rattle.std.specs.List.{list_any}
use Rattle.std.proofs.lemmas.Bool.{and_parts}
use Rattle.ouch_codec.specs.declared.outbound.executed.Executed.{Executed}
use Rattle.ouch_codec.specs.declared.outbound.Outbound.TheVariants as market
use Rattle.orders.specs.order_law.declared.stage.Stage.TheVariants.{Working}
use Rattle.orders.specs.order_law.declared.trade.Trade.{Trade}
use Rattle.orders.specs.order_law.Lawful.{may_leave, works_as}
use Rattle.orders.specs.order_law.Told as law
use Rattle.order_machine.specs.OrderRecord.{OrderRecord, ToldTrade, after_message, live_token, record_life, shown_as}
use Rattle.order_machine.specs.OrderRecord.{trade_in}
use Rattle.orders.specs.order_trades.declared.told_trade.ToldTrade as table
use Rattle.orders.specs.order_trades.Marking.{has_match}
use Rattle.orders.specs.Changes.{changed_by, holds_match, with_quantities}
use Rattle.orders.specs.declared.change.Change.TheVariants as changes
use Rattle.orders.proofs.Marks.{any-map, holds-seen}
use Rattle.orders.specs.Seen.{told_seen}
use Rattle.to_client.specs.Occasions.{occasion_seen}
use Rattle.to_client.specs.declared.occasion.Occasion.TheVariants as occasions
use Rattle.market_messages.specs.Meets.{is_lawful, told_of}
use Rattle.market_messages.proofs.Stages.{leaves-few, works-parts}

-- its trade, told under an ExecID of this number
abbrev pub trade_said : Executed → ℕ → table.ToldTrade
trade_said m number = record { trade = trade_in m; number = number }

-- the trades of a table's order and those of its record
pub any-seen : (n : ℕ) (ts : List table.ToldTrade)
    → list_any (has_match n) ts ≡ list_any (λ (t : Trade). t.match_number == n) (map (λ (t : ToldTrade). t.trade) (reverse (map told_seen ts)))
any-seen n ts =
    holds-seen n ts
    ∙ sym (any-map (λ (t : Trade). t.match_number == n) (λ (t : ToldTrade). t.trade) (reverse (map told_seen ts)))

not-true : (b : Bool) → not b ≡ true → b ≡ false
not-true true e = sym e
not-true false e = refl

-- ---- the row

module _ (m : Executed) (o : OrderRecord) (may : is_lawful (market.Executed m) o ≡ true) where
  abbrev is_new : Bool
  is_new = not (list_any (λ (t : Trade). t.match_number == m.match_number) (record_life o).trades)

  parts : (works_as (record_life o) m.token ≡ true) × ((may_leave m.shares (record_life o) && is_new) ≡ true)
  parts = and_parts (works_as (record_life o) m.token) (may_leave m.shares (record_life o) && is_new) may

  token : bytes_eq m.token (live_token o) ≡ true
  token = (works-parts (record_life o) m.token parts.0).0

  pub trade-works : o.stage ≡ Working
  trade-works = (works-parts (record_life o) m.token parts.0).1

  pub trade-few : m.shares ≤ o.unfilled
  trade-few = leaves-few (record_life o) m.shares (and_parts (may_leave m.shares (record_life o)) is_new parts.1).0

  pub trade-new : holds_match m.match_number o ≡ false
  trade-new =
      sym (any-map (λ (t : Trade). t.match_number == m.match_number) (λ (t : ToldTrade). t.trade) o.trades)
      ∙ not-true (list_any (λ (t : Trade). t.match_number == m.match_number) (record_life o).trades)
      (and_parts (may_leave m.shares (record_life o)) is_new parts.1).1

  module _ (issued : ℕ) where
    abbrev pub left : OrderRecord
    left = with_quantities (changed_by (changes.Traded (trade_said m (issued + 1))) o) o

    pub executed-now : changed_by (changes.Traded (trade_said m (issued + 1))) o
        ≡ after_message issued (market.Executed m) o
    executed-now = refl

    pub filled-told : m.shares ≡ o.unfilled → told_of issued (market.Executed m) o
        ≡ law.report (issued + 1) (occasion_seen (occasions.Trade m.shares m.price)) (shown_as left) ∷ law.too_late
        (shown_as left)
    filled-told all =
        let works = trade-works in
        let nothing : o.unfilled - m.shares ≡ 0 = omega (arith, all) in
        rw (token, works, nothing) refl

    pub traded-told : ((m.shares ≡ o.unfilled) → ⊥)
        → told_of issued (market.Executed m) o ≡ law.report (issued + 1)
        (occasion_seen (occasions.Trade m.shares m.price)) (shown_as left) ∷ []
    traded-told part =
        let works = trade-works in
        let few = trade-few in
        let some : (o.unfilled - m.shares == 0) ≡ false =
        ne_eqb (o.unfilled - m.shares) 0 (λ e. part (omega (arith, few, e))) in
        rw (token, some, works) refl
