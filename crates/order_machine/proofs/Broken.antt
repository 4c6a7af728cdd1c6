-- Broken Trade: a trade that stands is taken back.
use Rattle.std.proofs.Common.{◌≡◌, ℕ, ◌+◌, ◌-◌, ◌<◌, ◌≤◌, ◌^◌, Bool, true, false, List, [], ◌∷◌, map, refl, sym, ap}
use Rattle.std.proofs.Common.{◌∙◌, subst, arith, decimal, bytes_eq, Some, eqb-true}
use Rattle.std.specs.Prelude.{◌&&◌, ◌||◌, ◌==◌, not}
use Rattle.std.specs.List.{find, list_any}
use Rattle.order_law.specs.ouch_codec.declared.outbound.Outbound.TheVariants as market
use Rattle.order_law.specs.ouch_codec.declared.outbound.broken.Broken.{Broken}
use Rattle.order_law.specs.declared.stage.Stage.{Stage}
use Rattle.order_law.specs.declared.stage.Stage.TheVariants.{Waiting, Working, Closed}
use Rattle.order_law.specs.declared.trade.Trade.{Trade}
use Rattle.fix_fields.specs.Field.{Message}
use Rattle.order_law.specs.Life.{after, is_of, is_waiting, marked, stands_as}
use Rattle.order_law.specs.Reading.{Fill}
use Rattle.order_law.specs.Chain.{chain}
use Rattle.order_law.specs.History.{Entry, Said, SaysCancel, SaysNew, SaysReplace, Terms, answers}
use Rattle.order_law.specs.Told.{Shown, exec_id_of, priced, report, told_by}
use Rattle.order_law.specs.Headline.{has_due_ids}
use Rattle.order_machine.specs.OrderRecord.{stands_told, OrderRecord, ToldTrade, asked_as, with_trade_broken, chained}
use Rattle.order_machine.specs.OrderRecord.{fill_of, pending, record_life, replacements, mark, shown_as}
use Rattle.order_machine.proofs.Texts.{and-parts, eq-decimal_other, eq-same}
use Rattle.order_machine.proofs.Due.{Reads}
use Rattle.order_machine.proofs.Reports.{broken-Reads, broken_occasion, report-tells}
use Rattle.order_machine.proofs.Sound.{broken-sound}
use Rattle.order_machine.proofs.Leads.{AreNamed, Leads, leads-one}
use Rattle.order_machine.proofs.Moves.{AreNumbered, Keeps, Moves, answers_last}
use Rattle.order_machine.proofs.Executed.{AreNumbered-more, unanswered-same}

abbrev pub trade_of : ToldTrade → Trade
trade_of t = t.trade

-- a trade that stands under this number: told under a number of its own
pub record Stands (match_number reports : ℕ) (ts : List ToldTrade) : Type 0 where
  pub told : ToldTrade
  pub same_match : told.trade.match_number ≡ match_number
  pub number : told.number ≤ reports
  pub here : find (stands_told match_number) ts ≡ Some told
  pub found : find (stands_as match_number) (map trade_of ts) ≡ Some told.trade
  pub exec_id : exec_id_of match_number (map trade_of ts) (map fill_of ts) ≡ Some (decimal told.number)
  pub fill : find (λ (f : Fill). bytes_eq f.exec_id (decimal told.number)) (map fill_of ts) ≡ Some (fill_of told)

stands-in : (match_number reports : ℕ) (ts : List ToldTrade) → reports < 10 ^ 64 → AreNumbered reports ts
    → list_any (stands_as match_number) (map trade_of ts) ≡ true → Stands match_number reports ts
stands-in match_number reports [] small numbered some = absurd (cc)
stands-in match_number reports (t ∷ ts) small numbered some =
    by_test (stands_as match_number t.trade) refl some
    (λ e. stands-in match_number (t.number - 1) ts (omega (arith, numbered.1)) numbered.2 e)
  where
    same : (k n : ℕ) (b : Bool) → ((k == n) && b) ≡ true → k ≡ n
    same k n b e = eqb-true k n (and-parts (k == n) b e).0

    by_test : (b : Bool) → stands_as match_number t.trade ≡ b
        → (b || list_any (stands_as match_number) (map trade_of ts)) ≡ true
        → (list_any (stands_as match_number) (map trade_of ts) ≡ true → Stands match_number (t.number - 1) ts)
        → Stands match_number reports (t ∷ ts)
    by_test true it_stands e later =
        let own = eq-same (decimal t.number) in
        record {
          told = t;
          same_match = same t.trade.match_number match_number (not t.trade.is_broken) it_stands;
          number = numbered.1;
          here = rw it_stands refl;
          found = rw it_stands refl;
          exec_id = rw it_stands refl;
          fill = rw own refl;
        }
    by_test false off e later =
        let rest = later e in
        let other : bytes_eq (decimal t.number) (decimal rest.told.number) ≡ false =
        eq-decimal_other t.number rest.told.number (λ alike. (omega (arith, alike, rest.number, numbered.0)))
        (omega (arith, numbered.1)) (omega (arith, rest.number, numbered.1)) in
        record {
          told = rest.told;
          same_match = rest.same_match;
          number = omega (arith, rest.number, numbered.1);
          here = rw off rest.here;
          found = rw off rest.found;
          exec_id = rw off rest.exec_id;
          fill = rw other rest.fill;
        }

-- marks on trades are marks on what was told of them
marks-same : (match_number : ℕ) (ts : List ToldTrade)
    → map (marked match_number) (map trade_of ts) ≡ map trade_of (map (mark match_number) ts)
marks-same match_number [] = refl
marks-same match_number (t ∷ ts) = ap (λ xs. marked match_number t.trade ∷ xs) (marks-same match_number ts)

AreNumbered-marked : (match_number reports : ℕ) (ts : List ToldTrade) → AreNumbered reports ts
    → AreNumbered reports (map (mark match_number) ts)
AreNumbered-marked match_number reports [] a = tt
AreNumbered-marked match_number reports (t ∷ ts) a = (a.0, a.1, AreNumbered-marked match_number (t.number - 1) ts a.2)

none-stands : (match_number : ℕ) (ts : List ToldTrade) → ts ≡ []
    → list_any (stands_as match_number) (map trade_of ts) ≡ true → ⊥
none-stands match_number ts none some = let x : list_any (stands_as match_number) (map trade_of []) ≡ true =
    subst (λ (xs : List ToldTrade). list_any (stands_as match_number) (map trade_of xs) ≡ true) none some in cc

shown-broken : (t : ToldTrade) (o : OrderRecord) (s : Stage) → o.stage ≡ s → is_waiting s ≡ false
    → (o.stage ≡ Closed → o.unfilled ≡ 0) → Rattle.order_law.specs.Told.lived (record_life (with_trade_broken t o))
    (shown_as o) ≡ shown_as (with_trade_broken t o)
shown-broken t o Waiting e off none = absurd (cc)
shown-broken t o Working e off none = rw e refl
shown-broken t o Closed e off none = let left = none e in rw (e, left) refl

module _ (P : List ℕ → Type 0) (Q : Entry → Type 0) (R : List ℕ → Type 0) (terms : List Terms)
    (old_id : List ℕ → List ℕ) (sent : List Message) (reports limit more : ℕ) (m : Broken) (o : OrderRecord)
    (own : is_of (record_life o) m.token ≡ true)
    (stands : list_any (stands_as m.match_number) (record_life o).trades ≡ true)
    (reports_small : reports < 10 ^ 64) (limit_small : limit < 10 ^ 63)
    (keeps : Keeps reports limit o) (named : AreNamed old_id (pending o)) (reads : Reads sent o) where
  pub found : Stands m.match_number reports o.trades
  found = stands-in m.match_number reports o.trades reports_small keeps.numbered stands

  abbrev pub t : ToldTrade
  t = found.told

  accepted : is_waiting o.stage ≡ false
  accepted = by_stage o.stage refl
    where
      by_stage : (s : Stage) → o.stage ≡ s → is_waiting s ≡ false
      by_stage Waiting e = absurd (none-stands m.match_number o.trades (keeps.idle e) stands)
      by_stage Working e = refl
      by_stage Closed e = refl

  live_order : o.is_refused ≡ false
  live_order = by_flag o.is_refused refl
    where
      by_flag : (b : Bool) → o.is_refused ≡ b → o.is_refused ≡ false
      by_flag true e = absurd (none-stands m.match_number o.trades (keeps.rejected e) stands)
      by_flag false e = e

  abbrev reason : List ℕ
  reason = m.reason ∷ []

  abbrev pub p : OrderRecord
  p = with_trade_broken t o

  answers_none : (said : Said) → answers (market.Broken m) (replacements o.replaces) said ≡ false
  answers_none (SaysNew token) = refl
  answers_none (SaysReplace from to) = refl
  answers_none (SaysCancel token) = refl

  broken-lives : after (record_life o) (market.Broken m) ≡ record_life p
  broken-lives =
      let same = found.same_match in
      let first = found.found in
      let marks = marks-same m.match_number o.trades in
      rw (own, first, marks, same) refl

  broken-bodies : told_by reports (market.Broken m) (record_life o)
      (answers_last (market.Broken m) (replacements o.replaces) (asked_as terms o)) (map fill_of o.trades) (shown_as o)
      ≡ report (reports + 1) (broken_occasion t reason) (shown_as p) ∷ []
  broken-bodies =
      let exec = found.exec_id in
      let first : told_by reports (market.Broken m) (record_life o)
      (answers_last (market.Broken m) (replacements o.replaces) (asked_as terms o)) (map fill_of o.trades)
      (shown_as o) ≡ report (reports + 1) (broken_occasion t reason)
      (Rattle.order_law.specs.Told.lived (record_life p) (shown_as o)) ∷ [] = rw (broken-lives, exec) refl in
      first ∙ ap (λ (s : Shown). report (reports + 1) (broken_occasion t reason) s ∷ [])
      (shown-broken t o o.stage refl accepted keeps.none_closed)

  broken-ids : has_due_ids (report (reports + 1) (broken_occasion t reason) (shown_as p)) (chain o.new.order sent)
      (chained p) old_id ≡ true
  broken-ids = let id = eq-same o.id in rw id refl

  pub broken-moves : Moves P Q R terms old_id sent reports limit more (market.Broken m) o p
  broken-moves = record {
    same = refl;
    kept = λ k. record { front = k.front; live = k.live; replaces = k.replaces; cancel = k.cancel; id = k.id };
    lives = broken-lives;
    leads = subst (λ (bodies : List Message). Leads o.new old_id sent bodies p (pending p)) (sym broken-bodies)
        (leads-one old_id sent _ p (pending p) (report-tells (reports + 1) (broken_occasion t reason) p
        (pending p) old_id sent (broken-sound t o accepted keeps.sound)
        (broken-Reads (reports + 1) t reason o sent found.fill
        (omega (arith, keeps.small, limit_small)) live_order accepted reads) broken-ids));
    asked = λ e. unanswered-same terms (market.Broken m) (replacements o.replaces) o answers_none;
    price = refl;
    keeps = λ after later. record {
      sound = broken-sound t o accepted keeps.sound;
      apart = keeps.apart;
      current = keeps.current;
      tokens_apart = keeps.tokens_apart;
      few = keeps.few;
      first = keeps.first;
      over_replace = keeps.over_replace;
      over_cancel = keeps.over_cancel;
      left = keeps.left;
      idle = λ e. absurd (let x : is_waiting Waiting ≡ false = ap is_waiting (sym e) ∙ accepted in cc);
      rejected = λ e. absurd (let x : true ≡ false = sym e ∙ live_order in cc);
      none_waiting = λ e. absurd (let x : is_waiting Waiting ≡ false = ap is_waiting (sym e) ∙ accepted in cc);
      none_closed = keeps.none_closed;
      small = omega (arith, keeps.small);
      numbered = AreNumbered-more reports after (map (mark t.trade.match_number) o.trades) (omega (arith, later))
          (AreNumbered-marked t.trade.match_number reports o.trades keeps.numbered);
    };
  }
