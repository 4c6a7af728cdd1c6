-- Canceled: a part of what is open, or all of it.
use Rattle.std.proofs.Common.{◌≡◌, ℕ, ◌+◌, ◌-◌, ◌<◌, ◌≤◌, ◌^◌, true, false, List, [], ◌∷◌, map, refl, sym, ap, ◌∙◌}
use Rattle.std.proofs.Common.{subst, arith, codes, Option, Some, None, eqb-true}
use Rattle.std.specs.Prelude.{◌==◌}
use Rattle.order_law.specs.ouch_codec.declared.outbound.Outbound.TheVariants as market
use Rattle.order_law.specs.ouch_codec.declared.outbound.canceled.Canceled.{Canceled}
use Rattle.order_law.specs.declared.stage.Stage.TheVariants.{Waiting, Working, Closed}
use Rattle.fix_fields.specs.Field.{Message}
use Rattle.order_law.specs.Life.{after, is_closed, is_live}
use Rattle.order_law.specs.Chain.{chain}
use Rattle.order_law.specs.History.{Entry, Said, SaysCancel, SaysNew, SaysReplace, Terms, answers}
use Rattle.order_law.specs.Told.{Occasion, Shown, cancelled, priced, plain, report, told_by}
use Rattle.order_law.specs.Told as told
use Rattle.order_law.specs.Headline.{has_due_ids}
use Rattle.order_machine.specs.OrderRecord.{Cancelling, OrderRecord, asked_as, chained, fill_of, gone, leaves}
use Rattle.order_machine.specs.OrderRecord.{pending, record_life, reduced, replacements, shown_as, unasked}
use Rattle.order_machine.proofs.Texts.{eq-same}
use Rattle.order_machine.proofs.Due.{Reads}
use Rattle.order_machine.proofs.Reports.{report-tells, restated-Reads}
use Rattle.order_machine.proofs.Sound.{reduced-sound}
use Rattle.order_machine.proofs.Leads.{AreNamed, Leads, leads-one}
use Rattle.order_machine.proofs.Endings.{cancelled-leads}
use Rattle.order_machine.proofs.Moves.{AreNumbered, Keeps, Moves, Of-unasked, answers_last}
use Rattle.order_machine.proofs.Executed.{AreNumbered-more, unanswered-same}

-- an order of which nothing is open or asked any more keeps what it has to
pub over-keeps : (reports limit more after : ℕ) (o p : OrderRecord) → reports ≤ after → p.stage ≡ Closed
    → p.replaces ≡ [] → p.cancel ≡ None → p.trades ≡ o.trades → (p.is_refused ≡ true → o.trades ≡ []) → p.unfilled ≡ 0
    → p.executed ≤ limit + more → AreNumbered reports o.trades
    → Keeps after (limit + more) p
over-keeps reports limit more after o p later over no_r no_c same rejected none small numbered = record {
  sound = record {
    total = λ e. absurd (let x : is_closed Closed ≡ false = ap is_closed (sym over) ∙ e in cc);
    refused = λ e. over;
    replaces = rw no_r tt;
    cancels = λ c e. absurd (let x : ◌≡◌ {A = Option Cancelling} None (Some c) = sym no_c ∙ e in cc);
  };
  apart = rw (no_r, no_c) tt;
  current = rw no_r tt;
  tokens_apart = rw no_r tt;
  few = rw no_r (omega arith);
  first = λ e. absurd (let x : Closed ≡ Waiting = sym over ∙ e in cc);
  over_replace = λ e. no_r;
  over_cancel = λ e. no_c;
  left = λ c e. absurd (let x : ◌≡◌ {A = Option Cancelling} None (Some c) = sym no_c ∙ e in cc);
  idle = λ e. absurd (let x : Closed ≡ Waiting = sym over ∙ e in cc);
  rejected = λ e. same ∙ rejected e;
  none_waiting = λ e. none;
  none_closed = λ e. none;
  small = rw over (omega (arith, small));
  numbered = rw same (AreNumbered-more reports after o.trades later numbered);
}

module _ (P : List ℕ → Type 0) (Q : Entry → Type 0) (R : List ℕ → Type 0) (terms : List Terms)
    (old_id : List ℕ → List ℕ) (sent : List Message) (reports limit more : ℕ) (m : Canceled) (o : OrderRecord)
    (live : is_live (record_life o) m.token ≡ true) (works : o.stage ≡ Working)
    (some : 1 ≤ m.decrement) (few : m.decrement ≤ o.unfilled) (limit_small : limit < 10 ^ 63)
    (keeps : Keeps reports limit o) (named : AreNamed old_id (pending o)) (reads : Reads sent o) where
  in_book : leaves o ≡ o.unfilled
  in_book = rw works refl

  small : o.executed + o.unfilled < 10 ^ 64
  small = omega (arith, keeps.small, in_book, limit_small)

  answers_none : (said : Said) → answers (market.Canceled m) (replacements o.replaces) said ≡ false
  answers_none (SaysNew token) = refl
  answers_none (SaysReplace from to) = refl
  answers_none (SaysCancel token) = refl

  same_price : priced (market.Canceled m) (record_life o) o.price ≡ o.price
  same_price = refl

  abbrev reason : List ℕ
  reason = m.reason ∷ []

  abbrev restated : Occasion
  restated = record (plain (codes "D")) { restated = Some (codes "5"); why = Some reason }

  module _ (rest : (o.unfilled - m.decrement == 0) ≡ false) where
    abbrev p : OrderRecord
    p = reduced m.decrement o

    part-lives : after (record_life o) (market.Canceled m) ≡ record_life p
    part-lives = rw (live, rest) refl

    part-bodies : told_by reports (market.Canceled m) (record_life o)
        (answers_last (market.Canceled m) (replacements o.replaces) (asked_as terms o)) (map fill_of o.trades)
        (shown_as o) ≡ report (reports + 1) restated (shown_as p) ∷ []
    part-bodies = rw (part-lives, works) refl

    part-ids : has_due_ids (report (reports + 1) restated (shown_as p)) (chain o.new.order sent) (chained p) old_id
        ≡ true
    part-ids = let id = eq-same o.id in rw id refl

    pub part-moves : Moves P Q R terms old_id sent reports limit more (market.Canceled m) o p
    part-moves = record {
      same = refl;
      kept = λ k. record { front = k.front; live = k.live; replaces = k.replaces; cancel = k.cancel; id = k.id };
      lives = part-lives;
      leads = subst (λ (bodies : List Message). Leads o.new old_id sent bodies p (pending p)) (sym part-bodies)
          (leads-one old_id sent _ p (pending p) (report-tells (reports + 1) restated p (pending p) old_id sent
          (reduced-sound m.decrement o works keeps.sound)
          (restated-Reads (reports + 1) m.decrement (codes "5") reason o sent works few (omega (arith, small)) small reads) part-ids));
      asked = λ e. unanswered-same terms (market.Canceled m) (replacements o.replaces) o answers_none;
      price = same_price;
      keeps = λ after later. record {
        sound = reduced-sound m.decrement o works keeps.sound;
        apart = keeps.apart;
        current = keeps.current;
        tokens_apart = keeps.tokens_apart;
        few = keeps.few;
        first = keeps.first;
        over_replace = keeps.over_replace;
        over_cancel = keeps.over_cancel;
        left = keeps.left;
        idle = keeps.idle;
        rejected = keeps.rejected;
        none_waiting = λ e. absurd (let x : Working ≡ Waiting = sym works ∙ e in cc);
        none_closed = λ e. absurd (let x : Working ≡ Closed = sym works ∙ e in cc);
        small = bound;
        numbered = AreNumbered-more reports after o.trades (omega (arith, later)) keeps.numbered;
      };
    }
      where
        bound : p.executed + leaves p ≤ limit + more
        bound = rw works (omega (arith, keeps.small, in_book, few))

  module _ (none : (o.unfilled - m.decrement == 0) ≡ true) where
    nothing_left : o.unfilled - m.decrement ≡ 0
    nothing_left = eqb-true (o.unfilled - m.decrement) 0 none

    all_of_it : m.decrement ≡ o.unfilled
    all_of_it = omega (arith, nothing_left, few)

    all-lives : after (record_life o) (market.Canceled m) ≡ record_life (unasked (gone o))
    all-lives = rw (live, none, nothing_left, all_of_it) refl

    all-bodies : told_by reports (market.Canceled m) (record_life o)
        (answers_last (market.Canceled m) (replacements o.replaces) (asked_as terms o)) (map fill_of o.trades)
        (shown_as o) ≡ cancelled (reports + 1) (Some reason) (told.closed (shown_as o))
    all-bodies = rw (all-lives) refl

    pub all-moves : Moves P Q R terms old_id sent reports limit more (market.Canceled m) o (unasked (gone o))
    all-moves = record {
      same = refl;
      kept = Of-unasked P Q R o (unasked (gone o)) refl refl refl refl;
      lives = all-lives;
      leads = subst (λ (bodies : List Message). Leads o.new old_id sent bodies (unasked (gone o)) []) (sym all-bodies)
          (cancelled-leads old_id (reports + 1) (Some reason) o works keeps.sound sent o.replaces o.cancel
          keeps.sound.replaces keeps.sound.cancels keeps.apart keeps.current named reads);
      asked = λ e. absurd (cc);
      price = same_price;
      keeps = λ after later. over-keeps reports limit more after o (unasked (gone o))
          (omega (arith, later)) refl refl refl refl keeps.rejected refl (omega (arith, keeps.small)) keeps.numbered;
    }
