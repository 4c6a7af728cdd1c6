-- Broken Trade of an order.
use Rattle.std.proofs.Common.{◌≡◌, ℕ, ◌+◌, Bool, true, false, List, [], ◌∷◌, map, reverse, refl, sym, ap, ◌∙◌, subst}
use Rattle.std.proofs.Common.{decimal, Option, Some, None, eqb-true}
use Rattle.std.specs.Prelude.{◌==◌, ◌&&◌, ◌||◌, not, if◌then◌else◌, is_some, option_map}
use Rattle.std.specs.List.{find, list_any}
use Rattle.ouch_codec.specs.declared.outbound.broken.Broken.{Broken}
use Rattle.ouch_codec.specs.declared.outbound.Outbound.TheVariants as market
use Rattle.orders.specs.order_law.declared.stage.Stage.{Stage}
use Rattle.orders.specs.order_law.declared.stage.Stage.TheVariants.{Waiting, Working, Closed}
use Rattle.orders.specs.order_law.declared.trade.Trade.{Trade}
use Rattle.orders.specs.order_law.Asks.{total_of}
use Rattle.orders.specs.order_law.Life.{after, is_of, marked, stands_as}
use Rattle.orders.specs.order_law.Told as law
use Rattle.order_machine.specs.OrderRecord.{OrderRecord, ToldTrade, after_message, with_trade_broken, fill_of}
use Rattle.order_machine.specs.OrderRecord.{record_life, mark, shown_as, stands_told}
use Rattle.order_machine.proofs.Finding.{find-map, map-map}
use Rattle.orders.specs.order_trades.declared.told_trade.ToldTrade as table
use Rattle.orders.specs.order_trades.Marking.{told_stands}
use Rattle.orders.specs.Changes.{changed_by, with_quantities}
use Rattle.orders.specs.declared.change.Change.TheVariants as changes
use Rattle.orders.specs.Seen.{told_seen}
use Rattle.orders.proofs.Marks.{map-reverse}
use Rattle.to_client.specs.Occasions.{occasion_seen}
use Rattle.to_client.specs.declared.occasion.Occasion.TheVariants as occasions
use Rattle.market_messages.specs.Meets.{IsSteady, is_lawful, told_of}

abbrev trade_of : ToldTrade → Trade
trade_of t = t.trade

-- ---- what stands

-- of the table's trades, and of those of its record
pub standing-seen : (n : ℕ) (ts : List table.ToldTrade)
    → option_map told_seen (find (told_stands n) (reverse ts)) ≡ find (stands_told n) (reverse (map told_seen ts))
standing-seen n ts = sym (find-map told_seen (stands_told n) (reverse ts))
    ∙ ap (find (stands_told n)) (map-reverse told_seen ts)

any-stands : (n : ℕ) (ts : List ToldTrade)
    → list_any (stands_as n) (map trade_of ts) ≡ is_some (find (stands_told n) ts)
any-stands n [] = refl
any-stands n (t ∷ ts) = by_test (stands_as n t.trade) (any-stands n ts)
  where
    by_test : (b : Bool) → list_any (stands_as n) (map trade_of ts) ≡ is_some (find (stands_told n) ts)
        → (b || list_any (stands_as n) (map trade_of ts)) ≡ is_some (if b then Some t else find (stands_told n) ts)
    by_test true e = refl
    by_test false e = e

-- the newest that stands, as the law finds it: among trades, and by what was told of it
record IsFirst (n : ℕ) (ts : List ToldTrade) (t : ToldTrade) : Type 0 where
  pub same_match : t.trade.match_number ≡ n
  pub found : find (stands_as n) (map trade_of ts) ≡ Some t.trade
  pub exec_id : law.exec_id_of n (map trade_of ts) (map fill_of ts) ≡ Some (decimal t.number)

first-is : (n : ℕ) (ts : List ToldTrade) (t : ToldTrade) → find (stands_told n) ts ≡ Some t → IsFirst n ts t
first-is n [] t e = absurd (cc)
first-is n (x ∷ xs) t e = by_test (stands_as n x.trade) refl e (λ f. first-is n xs t f)
  where
    numbered : (k : ℕ) (b : Bool) → ((k == n) && b) ≡ true → k ≡ n
    numbered k b e = eqb-true k n (first_of_both (k == n) b e)
      where
        first_of_both : (c d : Bool) → (c && d) ≡ true → c ≡ true
        first_of_both true d e = refl
        first_of_both false d e = absurd (cc)

    by_test : (b : Bool) → stands_as n x.trade ≡ b → (if b then Some x else find (stands_told n) xs) ≡ Some t
        → (find (stands_told n) xs ≡ Some t → IsFirst n xs t) → IsFirst n (x ∷ xs) t
    by_test true it e later =
        let same : x ≡ t = cc in
        subst (IsFirst n (x ∷ xs)) same (record {
          same_match = numbered x.trade.match_number (not x.trade.is_broken) it;
          found = rw it refl;
          exec_id = rw it refl;
        })
    by_test false off e later =
        let rest = later e in
        record { same_match = rest.same_match; found = rw off rest.found; exec_id = rw off rest.exec_id }

marks-same : (n : ℕ) (ts : List ToldTrade) → map (marked n) (map trade_of ts) ≡ map trade_of (map (mark n) ts)
marks-same n ts = map-map trade_of (marked n) ts ∙ sym (map-map (mark n) trade_of ts)

-- ---- when it is lawful

pub broken-unlawful : (m : Broken) (o : OrderRecord) → find (stands_told m.match_number) o.trades ≡ None
    → is_lawful (market.Broken m) o ≡ false
broken-unlawful m o none = by_token (is_of (record_life o) m.token)
  where
    stands : list_any (stands_as m.match_number) (record_life o).trades ≡ false
    stands = any-stands m.match_number o.trades ∙ ap (λ (x : Option ToldTrade). is_some x) none

    by_token : (b : Bool) → (b && list_any (stands_as m.match_number) (record_life o).trades) ≡ false
    by_token true = stands
    by_token false = refl

-- ---- the row

module _ (issued : ℕ) (m : Broken) (o : OrderRecord) (told : table.ToldTrade) (steady : IsSteady o) (own : is_of (record_life o) m.token ≡ true) (here : find (stands_told m.match_number) o.trades ≡ Some (told_seen told)) where
  abbrev t : ToldTrade
  t = told_seen told

  abbrev pub left : OrderRecord
  left = with_quantities (changed_by (changes.Broken told) o) o

  -- one that waits has no trades
  pub break-accepted : o.stage ≡ Waiting → ⊥
  break-accepted waits = let x : None ≡ Some t = ap (find (stands_told m.match_number)) (sym (steady.idle waits)) ∙ here
      in cc

  pub broken-is-lawful : is_lawful (market.Broken m) o ≡ true
  broken-is-lawful =
      let stands : list_any (stands_as m.match_number) (record_life o).trades ≡ true =
      any-stands m.match_number o.trades ∙ ap (λ (x : Option ToldTrade). is_some x) here in
      rw (own, stands) refl

  first : IsFirst m.match_number o.trades t
  first = first-is m.match_number o.trades t here

  lives : after (record_life o) (market.Broken m) ≡ record_life (with_trade_broken t o)
  lives =
      let same = first.same_match in
      let found = first.found in
      let marks = marks-same m.match_number o.trades in
      rw (own, found, marks, same) refl

  open_as : law.leaves_at o.stage (total_of o.new.message) o.unfilled ≡ o.unfilled
  open_as = by_stage o.stage refl
    where
      by_stage : (s : Stage) → o.stage ≡ s → law.leaves_at s (total_of o.new.message) o.unfilled ≡ o.unfilled
      by_stage Waiting e = absurd (break-accepted e)
      by_stage Working e = refl
      by_stage Closed e = sym (steady.none_closed e)

  shown : law.lived (record_life (with_trade_broken t o)) (shown_as o) ≡ shown_as left
  shown = rw open_as refl

  pub broken-told : told_of issued (market.Broken m) o
      ≡ law.report (issued + 1) (occasion_seen (occasions.TradeCancel told.number m.reason)) (shown_as left) ∷ []
  broken-told =
      (let exec = first.exec_id in rw (lives, exec) refl)
      ∙ ap (λ (s : law.Shown). law.report (issued + 1)
      (occasion_seen (occasions.TradeCancel told.number m.reason)) s ∷ []) shown

  pub broken-now : changed_by (changes.Broken told) o ≡ after_message issued (market.Broken m) o
  broken-now = rw here refl
