-- Executed: a trade, which may leave nothing open.
use Rattle.std.proofs.Common.{◌≡◌, ℕ, ◌+◌, ◌-◌, ◌<◌, ◌≤◌, ◌^◌, Bool, true, false, List, [], ◌∷◌, map, refl, sym, ap}
use Rattle.std.proofs.Common.{◌∙◌, None, subst, arith, eqb-true}
use Rattle.std.specs.Prelude.{◌==◌, if◌then◌else◌}
use Rattle.std.specs.List.{count_by}
use Rattle.std.proofs.lemmas.List.Sums.{sum_by-append}
use Rattle.order_law.specs.Reading.{is_report}
use Rattle.order_law.specs.ouch_codec.declared.outbound.Outbound.{Outbound}
use Rattle.order_law.specs.ouch_codec.declared.outbound.Outbound.TheVariants as market
use Rattle.order_law.specs.ouch_codec.declared.outbound.executed.Executed.{Executed}
use Rattle.order_law.specs.declared.stage.Stage.TheVariants.{Waiting, Working, Closed}
use Rattle.order_law.specs.declared.trade.Trade.{Trade}
use Rattle.fix_fields.specs.Field.{Message}
use Rattle.order_law.specs.Life.{after, is_live}
use Rattle.order_law.specs.Chain.{chain}
use Rattle.order_law.specs.History.{Asked, Entry, Said, SaysCancel, Terms, answers, is_cancel_said, token_of}
use Rattle.order_law.specs.Told.{Shown, priced, report, told_by, too_late}
use Rattle.order_law.specs.Headline.{has_due_ids}
use Rattle.order_machine.specs.OrderRecord.{OrderRecord, ToldTrade, asked_as, chained, fill_of, filled, leaves}
use Rattle.order_machine.specs.OrderRecord.{pending, record_life, replacements, shown_as, with_trade, unasked}
use Rattle.order_machine.proofs.Texts.{eq-same}
use Rattle.order_machine.proofs.Due.{Reads}
use Rattle.order_machine.proofs.Reports.{Tells, filled-Reads, report-tells, trade_occasion, traded-Reads}
use Rattle.order_machine.proofs.Sound.{filled-sound, traded-sound}
use Rattle.order_machine.proofs.Leads.{AreNamed, Leads, leads-at, leads-more, leads-one, too_late-leads}
use Rattle.order_machine.proofs.Moves.{AreNumbered, Keeps, Moves, Of-unasked, answers_last, unanswered}

pub count-more : {X : Type 0} (p : X → Bool) (x : X) (xs : List X)
    → count_by p (x ∷ xs) ≡ (if p x then 1 else 0) + count_by p xs
count-more {X = X} p x xs = sum_by-append (λ (y : X). if p y then 1 else 0) (x ∷ []) xs ∙ omega arith

-- under rising numbers
pub AreNumbered-more : (n k : ℕ) (ts : List ToldTrade) → n ≤ k → AreNumbered n ts → AreNumbered k ts
AreNumbered-more n k [] more a = tt
AreNumbered-more n k (t ∷ ts) more a = (a.0, omega (arith, a.1), a.2)

-- a message that answers nothing leaves all that is asked
pub unanswered-same : (terms : List Terms) (m : Outbound) (next : List (List ℕ)) (o : OrderRecord)
    → ((said : Said) → answers m next said ≡ false) → unanswered m next (asked_as terms o) ≡ asked_as terms o
unanswered-same terms m next o none = same (asked_as terms o)
  where
    same : (asked : List Asked) → unanswered m next asked ≡ asked
    same [] = refl
    same (a ∷ asked) = rw (none a.said) (ap (λ xs. a ∷ xs) (same asked))

module _ (P : List ℕ → Type 0) (Q : Entry → Type 0) (R : List ℕ → Type 0) (terms : List Terms)
    (old_id : List ℕ → List ℕ) (sent : List Message) (reports limit more : ℕ) (m : Executed) (o : OrderRecord)
    (live : is_live (record_life o) m.token ≡ true) (works : o.stage ≡ Working)
    (some : 1 ≤ m.shares) (few : m.shares ≤ o.unfilled) (price_small : m.price < 2 ^ 128)
    (limit_small : limit < 10 ^ 63)
    (keeps : Keeps reports limit o) (named : AreNamed old_id (pending o)) (reads : Reads sent o) where
  abbrev trade : Trade
  trade = record { match_number = m.match_number; shares = m.shares; price = m.price; is_broken = false }

  in_book : leaves o ≡ o.unfilled
  in_book = rw works refl

  small : o.executed + o.unfilled < 10 ^ 64
  small = omega (arith, keeps.small, in_book, limit_small)

  answers_none : (said : Said) → answers (market.Executed m) (replacements o.replaces) said ≡ false
  answers_none (Rattle.order_law.specs.History.SaysNew token) = refl
  answers_none (Rattle.order_law.specs.History.SaysReplace from to) = refl
  answers_none (SaysCancel token) = refl

  same_price : priced (market.Executed m) (record_life o) o.price ≡ o.price
  same_price = refl

  live_order : o.is_refused ≡ false
  live_order = by_flag o.is_refused refl
    where
      by_flag : (b : Bool) → o.is_refused ≡ b → o.is_refused ≡ false
      by_flag true e = absurd (let x : Working ≡ Closed = sym works ∙ keeps.sound.refused e in cc)
      by_flag false e = e

  trade-ids : (n : ℕ) (p : OrderRecord) → p.id ≡ o.id
      → has_due_ids (report n (trade_occasion trade) (shown_as p)) (chain o.new.order sent) (chained p) old_id ≡ true
  trade-ids n p same = let id = eq-same p.id in rw id refl

  -- with a report more, its number is among those that were given
  one_more : (last : ℕ) (rs : List Message) (s : Shown) {bodies : List Message}
      → bodies ≡ report (reports + 1) (trade_occasion trade) s ∷ rs → count_by is_report bodies + reports ≤ last
      → reports + 1 ≤ last
  one_more last rs s {bodies = bodies} same later =
      let more_reports : count_by is_report bodies ≡ 1 + count_by is_report rs = ap (count_by is_report) same
      ∙ count-more is_report (report (reports + 1) (trade_occasion trade) s) rs in
      omega (arith, more_reports, later)

  module _ (rest : (o.unfilled - m.shares == 0) ≡ false) where
    abbrev p : OrderRecord
    p = with_trade (reports + 1) trade o

    part-lives : after (record_life o) (market.Executed m) ≡ record_life p
    part-lives = rw (live, rest) refl

    part-bodies : told_by reports (market.Executed m) (record_life o)
        (answers_last (market.Executed m) (replacements o.replaces) (asked_as terms o)) (map fill_of o.trades)
        (shown_as o) ≡ report (reports + 1) (trade_occasion trade) (shown_as p) ∷ []
    part-bodies = rw (part-lives, works) refl

    pub part-moves : Moves P Q R terms old_id sent reports limit more (market.Executed m) o p
    part-moves = record {
      same = refl;
      kept = λ k. record { front = k.front; live = k.live; replaces = k.replaces; cancel = k.cancel; id = k.id };
      lives = part-lives;
      leads = subst (λ (bodies : List Message). Leads o.new old_id sent bodies p (pending p)) (sym part-bodies)
          (leads-one old_id sent _ p (pending p) (report-tells (reports + 1) (trade_occasion trade) p
          (pending p) old_id sent (traded-sound (reports + 1) trade o works keeps.sound)
          (traded-Reads (reports + 1) trade o sent works few rest price_small small reads)
          (trade-ids (reports + 1) p refl)));
      asked = λ e. unanswered-same terms (market.Executed m) (replacements o.replaces) o answers_none;
      price = same_price;
      keeps = λ after later. record {
        sound = traded-sound (reports + 1) trade o works keeps.sound;
        apart = keeps.apart;
        current = keeps.current;
        tokens_apart = keeps.tokens_apart;
        few = keeps.few;
        first = λ e. absurd (let x : Working ≡ Waiting = sym works ∙ e in cc);
        over_replace = λ e. absurd (let x : Working ≡ Closed = sym works ∙ e in cc);
        over_cancel = λ e. absurd (let x : Working ≡ Closed = sym works ∙ e in cc);
        left = keeps.left;
        idle = λ e. absurd (let x : Working ≡ Waiting = sym works ∙ e in cc);
        none_waiting = λ e. absurd (let x : Working ≡ Waiting = sym works ∙ e in cc);
        none_closed = λ e. absurd (let x : Working ≡ Closed = sym works ∙ e in cc);
        rejected = λ e. absurd (let x : true ≡ false = sym e ∙ live_order in cc);
        small = bound;
        numbered = (
          omega arith,
          omega (arith, one_more after _ (shown_as p) part-bodies later),
          AreNumbered-more
              reports (reports + 1 - 1) o.trades (omega arith) keeps.numbered,
        );
      };
    }
      where
        bound : p.executed + leaves p ≤ limit + more
        bound = rw works (omega (arith, keeps.small, in_book, few))

  module _ (none : (o.unfilled - m.shares == 0) ≡ true) where
    abbrev f : OrderRecord
    f = filled (reports + 1) trade o

    all-lives : after (record_life o) (market.Executed m) ≡ record_life (unasked f)
    all-lives = rw (live, none) refl

    nothing_left : o.unfilled - m.shares ≡ 0
    nothing_left = eqb-true (o.unfilled - m.shares) 0 none

    all-bodies : told_by reports (market.Executed m) (record_life o)
        (answers_last (market.Executed m) (replacements o.replaces) (asked_as terms o)) (map fill_of o.trades)
        (shown_as o) ≡ report (reports + 1) (trade_occasion trade) (shown_as f) ∷ too_late (shown_as f)
    all-bodies = rw (all-lives, nothing_left) refl

    first-tells : Tells old_id sent (report (reports + 1) (trade_occasion trade) (shown_as f)) f (pending f)
    first-tells = report-tells (reports + 1) (trade_occasion trade) f (pending f) old_id sent
        (filled-sound (reports + 1) trade o keeps.sound)
        (filled-Reads (reports + 1) trade o sent works few price_small small reads) (trade-ids (reports + 1) f refl)

    pub all-moves : Moves P Q R terms old_id sent reports limit more (market.Executed m) o (unasked f)
    all-moves = record {
      same = refl;
      kept = Of-unasked P Q R o (unasked f) refl refl refl refl;
      lives = all-lives;
      leads = subst (λ (bodies : List Message). Leads o.new old_id sent bodies (unasked f) []) (sym all-bodies)
          (leads-more old_id sent _ _ f (unasked f) (pending f) [] first-tells
          (leads-at o.new old_id _ _ f [] None [] (too_late-leads old_id f
          (filled-sound (reports + 1) trade o keeps.sound) (pending f)
          (pending f) _ keeps.apart named first-tells.reads)));
      asked = λ e. absurd (cc);
      price = same_price;
      keeps = λ after later. record {
        sound = record { total = λ e. absurd (cc); refused = λ e. refl; replaces = tt; cancels = λ c e. absurd (cc) };
        apart = tt;
        current = tt;
        tokens_apart = tt;
        few = omega arith;
        first = λ e. absurd (cc);
        over_replace = λ e. refl;
        over_cancel = λ e. refl;
        left = λ c e. absurd (cc);
        idle = λ e. absurd (cc);
        none_waiting = λ e. absurd (cc);
        none_closed = λ e. nothing_left;
        rejected = λ e. absurd (let x : true ≡ false = sym e ∙ live_order in cc);
        small = omega (arith, keeps.small, in_book, few);
        numbered = (
          omega arith,
          omega (arith, one_more after _ (shown_as f) all-bodies later),
          AreNumbered-more reports
              (reports + 1 - 1) o.trades (omega arith) keeps.numbered,
        );
      };
    }
