-- What a lawful message makes of the order that it is on, whatever its type.
use Rattle.std.proofs.Common.{◌≡◌, ◌≢◌, ℕ, ◌-◌, ◌<◌, ◌≤◌, ◌^◌, Bool, true, false, List, [], ◌∷◌, map, refl, sym, ap}
use Rattle.std.proofs.Common.{subst}
use Rattle.std.proofs.Common.{arith}
use Rattle.std.specs.Prelude.{◌&&◌, ◌||◌, ◌==◌, not}
use Rattle.std.specs.List.{list_any}
use Rattle.order_law.specs.ouch_codec.declared.outbound.Outbound.{Outbound}
use Rattle.order_law.specs.ouch_codec.declared.outbound.Outbound.TheVariants as market
use Rattle.order_law.specs.ouch_codec.declared.outbound.accepted.Accepted.{Accepted}
use Rattle.order_law.specs.ouch_codec.declared.outbound.replaced.Replaced.{Replaced}
use Rattle.order_law.specs.ouch_codec.declared.outbound.canceled.Canceled.{Canceled}
use Rattle.order_law.specs.ouch_codec.declared.outbound.executed.Executed.{Executed}
use Rattle.order_law.specs.ouch_codec.declared.outbound.broken.Broken.{Broken}
use Rattle.order_law.specs.ouch_codec.declared.outbound.rejected.Rejected.{Rejected}
use Rattle.order_law.specs.ouch_codec.declared.outbound.cancel_reject.CancelReject.{CancelReject}
use Rattle.order_law.specs.declared.stage.Stage.{Stage}
use Rattle.order_law.specs.declared.stage.Stage.TheVariants.{Waiting, Working, Closed}
use Rattle.fix_fields.specs.Field.{Message}
use Rattle.order_law.specs.Life.{after, is_closed, is_dead, is_live, is_waiting}
use Rattle.order_law.specs.History.{Entry, Said, Terms, answers, token_of}
use Rattle.order_law.specs.Told.{priced, told_by}
use Rattle.order_machine.specs.OrderRecord.{after_message, OrderRecord, asked_as, fill_of, record_life, replacements}
use Rattle.order_machine.specs.OrderRecord.{at, pending, shown_as, still_cancelling}
use Rattle.order_machine.proofs.Texts.{eq-is}
use Rattle.order_machine.proofs.Due.{Reads}
use Rattle.order_machine.proofs.Leads.{AreNamed, Leads, leads-none}
use Rattle.order_machine.proofs.Moves.{Keeps, Moves, answers_last}
use Rattle.order_machine.proofs.Executed.{AreNumbered-more, unanswered-same}
use Rattle.order_machine.proofs.Canceled.{over-keeps}
use Rattle.order_law.specs.Life.{is_of, is_working, stands_as}
use Rattle.order_law.specs.Lawful.{is_first, may_leave, row_holds, same_terms, works_as}
use Rattle.std.specs.Prelude.{nat_le}
use Rattle.std.proofs.Common.{leb-true}
use Rattle.order_law.specs.declared.trade.Trade.{Trade}
use Rattle.order_machine.proofs.Texts.{and-parts}
use Rattle.order_machine.proofs.Executed as executed
use Rattle.order_machine.proofs.Canceled as canceled
use Rattle.order_machine.proofs.Accepted as accepted
use Rattle.order_machine.proofs.Broken as broken
use Rattle.order_machine.proofs.Rejected as rejected
use Rattle.order_machine.proofs.NotReplaced.{not_replaced}
use Rattle.order_machine.proofs.Replaced as replaced

working-is : (s : Stage) → is_working s ≡ true → s ≡ Working
working-is Waiting e = absurd (cc)
working-is Working e = refl
working-is Closed e = absurd (cc)

waiting-is : (s : Stage) → is_waiting s ≡ true → s ≡ Waiting
waiting-is Waiting e = refl
waiting-is Working e = absurd (cc)
waiting-is Closed e = absurd (cc)

closed-is : (s : Stage) → not (is_closed s) ≡ true → s ≢ Closed
closed-is Waiting e over = absurd (let x : Waiting ≡ Closed = over in cc)
closed-is Working e over = absurd (let x : Working ≡ Closed = over in cc)
closed-is Closed e over = absurd (cc)

-- the first token of pending replaces is that of the oldest
pub oldest-is : (rs : List Entry) (token : List ℕ) → is_first token (replacements rs) ≡ true
    → (q : Entry) × (qs : List Entry) × (rs ≡ q ∷ qs) × (token ≡ token_of q)
oldest-is [] token e = absurd (cc)
oldest-is (q ∷ qs) token e = (q, qs, refl, eq-is token (token_of q) e)

or-parts : (a b : Bool) → (a || b) ≡ true → a ≡ false → b ≡ true
or-parts true b e off = absurd (cc)
or-parts false b e off = e

-- a message that says nothing of an order changes nothing
module _ (P : List ℕ → Type 0) (Q : Entry → Type 0) (R : List ℕ → Type 0) (terms : List Terms)
    (old_id : List ℕ → List ℕ) (sent : List Message) (reports limit more : ℕ) (m : Outbound) (o : OrderRecord)
    (lives : after (record_life o) m ≡ record_life o)
    (answers_none : (said : Said) → answers m (replacements o.replaces) said ≡ false)
    (price : priced m (record_life o) o.price ≡ o.price)
    (bodies : told_by reports m (record_life o) (answers_last m (replacements o.replaces) (asked_as terms o))
    (map fill_of o.trades) (shown_as o) ≡ [])
    (keeps : Keeps reports limit o) (reads : Reads sent o) where
  pub passed-moves : Moves P Q R terms old_id sent reports limit more m o o
  passed-moves = record {
    same = refl;
    kept = λ k. k;
    lives = lives;
    leads = subst (λ (bodies : List Message). Leads o.new old_id sent bodies o (pending o)) (sym bodies)
        (leads-none old_id sent o (pending o) reads);
    asked = λ is_live. unanswered-same terms m (replacements o.replaces) o answers_none;
    price = price;
    keeps = λ last later. record {
      sound = keeps.sound;
      apart = keeps.apart;
      current = keeps.current;
      tokens_apart = keeps.tokens_apart;
      few = keeps.few;
      first = keeps.first;
      over_replace = keeps.over_replace;
      over_cancel = keeps.over_cancel;
      left = keeps.left;
      idle = keeps.idle;
      rejected = keeps.rejected;
      none_waiting = keeps.none_waiting;
      none_closed = keeps.none_closed;
      small = omega (arith, keeps.small);
      numbered = AreNumbered-more reports last o.trades (omega (arith, later)) keeps.numbered;
    };
  }

module _ (P : List ℕ → Type 0) (Q : Entry → Type 0) (R : List ℕ → Type 0) (terms : List Terms)
    (old_id : List ℕ → List ℕ) (sent : List Message) (reports limit : ℕ) (o : OrderRecord)
    (reports_small : reports < 10 ^ 64) (limit_small : limit < 10 ^ 63)
    (keeps : Keeps reports limit o) (named : AreNamed old_id (pending o)) (reads : Reads sent o) where
  abbrev Goes : Outbound → Type 0
  Goes m = Moves P Q R terms old_id sent reports limit 1_000_000 m o (after_message reports m o)

  goes : (m : Outbound) (p : OrderRecord) → after_message reports m o ≡ p
      → Moves P Q R terms old_id sent reports limit 1_000_000 m o p → Goes m
  goes m p e moves = subst (λ (x : OrderRecord). Moves P Q R terms old_id sent reports limit 1_000_000 m o x)
      (sym e) moves

  abbrev Holds : Outbound → Type 0
  Holds m = row_holds m (record_life o) o.new (replacements o.replaces) ≡ true

  on_accepted : (m : Accepted) → Holds (market.Accepted m) → Goes (market.Accepted m)
  on_accepted m may =
      let parts = and-parts (is_live (record_life o) m.token)
      (is_waiting o.stage && same_terms m.side m.stock o.new) may in
      let waits = waiting-is o.stage (and-parts (is_waiting o.stage) (same_terms m.side m.stock o.new) parts.1).0 in
      by_state parts.0 waits (is_dead m.order_state) refl
    where
      by_state : is_live (record_life o) m.token ≡ true → o.stage ≡ Waiting → (d : Bool) → is_dead m.order_state ≡ d
          → Goes (market.Accepted m)
      by_state live waits true dead = goes (market.Accepted m) _ (rw dead refl)
          (accepted.dead-moves P Q R terms old_id sent reports limit 1_000_000 m o live waits
          (omega (arith, m.shares_set.1)) (omega arith) limit_small keeps named reads dead)
      by_state live waits false alive = goes (market.Accepted m) _ (rw alive refl)
          (accepted.live-moves P Q R terms old_id sent reports limit 1_000_000 m o live waits
          (omega (arith, m.shares_set.1)) (omega arith) limit_small keeps named reads alive)

  on_replaced : (m : Replaced) → Holds (market.Replaced m) → Goes (market.Replaced m)
  on_replaced m may =
      let parts = and-parts (works_as (record_life o) m.previous_token)
      (is_first m.token (replacements o.replaces) && same_terms m.side m.stock o.new) may in
      let works = and-parts (is_live (record_life o) m.previous_token) (is_working o.stage) parts.0 in
      let asked = oldest-is o.replaces m.token (and-parts (is_first m.token (replacements o.replaces))
      (same_terms m.side m.stock o.new) parts.1).0 in
      by_state works.0 (working-is o.stage works.1) asked.0 asked.1 asked.2 asked.3 (is_dead m.order_state) refl
    where
      by_state : is_live (record_life o) m.previous_token ≡ true → o.stage ≡ Working → (q : Entry) (qs : List Entry)
          → o.replaces ≡ q ∷ qs → m.token ≡ token_of q → (d : Bool) → is_dead m.order_state ≡ d
          → Goes (market.Replaced m)
      by_state live works q qs are token true dead =
          goes (market.Replaced m) _ (rw (are, dead) refl)
          (replaced.replaced_dead P Q R terms old_id sent reports limit 1_000_000 m o q qs works live are token
          (omega (arith, m.shares_set.1)) (omega arith) limit_small keeps named reads dead)
      by_state live works q qs are token false alive =
          goes (market.Replaced m) _ (rw (are, alive) refl)
          (replaced.replaced_live P Q R terms old_id sent reports limit 1_000_000 m o q qs works live are token
          (omega (arith, m.shares_set.1)) (omega arith) limit_small keeps named reads alive)

  on_canceled : (m : Canceled) → Holds (market.Canceled m) → Goes (market.Canceled m)
  on_canceled m may =
      let parts = and-parts (works_as (record_life o) m.token) (may_leave m.decrement (record_life o)) may in
      let works = and-parts (is_live (record_life o) m.token) (is_working o.stage) parts.0 in
      let few = and-parts (nat_le 1 m.decrement) (nat_le m.decrement o.unfilled) parts.1 in
      by_rest works.0 (working-is o.stage works.1) (leb-true 1 m.decrement few.0)
      (leb-true m.decrement o.unfilled few.1) (o.unfilled - m.decrement == 0) refl
    where
      by_rest : is_live (record_life o) m.token ≡ true → o.stage ≡ Working → 1 ≤ m.decrement → m.decrement ≤ o.unfilled
          → (r : Bool) → (o.unfilled - m.decrement == 0) ≡ r → Goes (market.Canceled m)
      by_rest live works some few true none = goes (market.Canceled m) _ (rw none refl)
          (canceled.all-moves P Q R terms old_id sent reports limit 1_000_000 m o live works some few limit_small keeps
          named reads none)
      by_rest live works some few false rest = goes (market.Canceled m) _ (rw rest refl)
          (canceled.part-moves P Q R terms old_id sent reports limit 1_000_000 m o live works some few limit_small keeps
          named reads rest)

  on_executed : (m : Executed) → Holds (market.Executed m) → Goes (market.Executed m)
  on_executed m may =
      let parts = and-parts (works_as (record_life o) m.token)
      (may_leave m.shares (record_life o) && not
      (list_any (λ (t : Trade). t.match_number == m.match_number) (record_life o).trades)) may in
      let works = and-parts (is_live (record_life o) m.token) (is_working o.stage) parts.0 in
      let few = and-parts (nat_le 1 m.shares) (nat_le m.shares o.unfilled)
      (and-parts (may_leave m.shares (record_life o))
      (not (list_any (λ (t : Trade). t.match_number == m.match_number) (record_life o).trades)) parts.1).0 in
      by_rest works.0 (working-is o.stage works.1) (leb-true 1 m.shares few.0) (leb-true m.shares o.unfilled few.1)
      (o.unfilled - m.shares == 0) refl
    where
      by_rest : is_live (record_life o) m.token ≡ true → o.stage ≡ Working → 1 ≤ m.shares → m.shares ≤ o.unfilled
          → (r : Bool) → (o.unfilled - m.shares == 0) ≡ r → Goes (market.Executed m)
      by_rest live works some few true none = goes (market.Executed m) _ (rw none refl)
          (executed.all-moves P Q R terms old_id sent reports limit 1_000_000 m o live works some few
          (omega (arith, m.price_set)) limit_small keeps named reads none)
      by_rest live works some few false rest = goes (market.Executed m) _ (rw rest refl)
          (executed.part-moves P Q R terms old_id sent reports limit 1_000_000 m o live works some few
          (omega (arith, m.price_set)) limit_small keeps named reads rest)

  on_broken : (m : Broken) → Holds (market.Broken m) → Goes (market.Broken m)
  on_broken m may =
      let parts = and-parts (is_of (record_life o) m.token)
      (list_any (stands_as m.match_number) (record_life o).trades) may in
      goes (market.Broken m) _ (let here = (broken.found P Q R terms old_id sent reports limit 1_000_000 m o parts.0
      parts.1 reports_small limit_small keeps named reads).here in rw here refl)
      (broken.broken-moves P Q R terms old_id sent reports limit 1_000_000 m o parts.0 parts.1 reports_small
      limit_small keeps named reads)

  on_rejected : (m : Rejected) → Holds (market.Rejected m) → Goes (market.Rejected m)
  on_rejected m may =
      by_first may (is_waiting o.stage && is_live (record_life o) m.token) refl
    where
      flipped : (x y : Bool) → (x && y) ≡ false → (y && x) ≡ false
      flipped true y e = rw e refl
      flipped false true e = refl
      flipped false false e = refl

      by_first : Holds (market.Rejected m) → (b : Bool) → (is_waiting o.stage && is_live (record_life o) m.token) ≡ b
          → Goes (market.Rejected m)
      by_first may true first =
          let parts = and-parts (is_waiting o.stage) (is_live (record_life o) m.token) first in
          goes (market.Rejected m) _ (rw first refl)
          (rejected.refused-moves P Q R terms old_id sent reports limit 1_000_000 m o parts.1
          (waiting-is o.stage parts.0) keeps named reads)
      by_first may false not_first =
          let rest = or-parts (is_live (record_life o) m.token && is_waiting o.stage)
          (is_first m.token (replacements o.replaces) && not (is_closed o.stage)) may
          (flipped (is_waiting o.stage) (is_live (record_life o) m.token) not_first) in
          let parts = and-parts (is_first m.token (replacements o.replaces)) (not (is_closed o.stage)) rest in
          let asked = oldest-is o.replaces m.token parts.0 in
          goes (market.Rejected m) _ (rw not_first (ap
          (λ (rs : List Entry). at o [] (still_cancelling (market.Rejected m) (replacements rs) o.cancel)) asked.2))
          (not_replaced P Q R terms old_id sent reports limit 1_000_000 m o asked.0 asked.1
          (closed-is o.stage parts.1) not_first asked.2 asked.3 keeps named reads)

  on_cancel_reject : (m : CancelReject) → Holds (market.CancelReject m) → Goes (market.CancelReject m)
  on_cancel_reject m may =
      let works = and-parts (is_live (record_life o) m.token) (is_working o.stage) may in
      goes (market.CancelReject m) _ refl (rejected.cancel_reject-moves P Q R terms old_id sent reports limit 1_000_000
      m o (working-is o.stage works.1) keeps named reads)

  abbrev Passes : Outbound → Type 0
  Passes m = (after (record_life o) m ≡ record_life o)
      × ((said : Said) → answers m (replacements o.replaces) said ≡ false)
      × (priced m (record_life o) o.price ≡ o.price)

  passed : (m : Outbound) → Passes m → told_by reports m (record_life o)
      (answers_last m (replacements o.replaces) (asked_as terms o)) (map fill_of o.trades) (shown_as o) ≡ []
      → after_message reports m o ≡ o → Goes m
  passed m p none e = goes m o e (passed-moves P Q R terms old_id sent reports limit 1_000_000 m o p.0 p.1 p.2 none
      keeps reads)

  pub row-moves : (m : Outbound) → Holds m → Goes m
  row-moves (market.Accepted m) may = on_accepted m may
  row-moves (market.Replaced m) may = on_replaced m may
  row-moves (market.Canceled m) may = on_canceled m may
  row-moves (market.Executed m) may = on_executed m may
  row-moves (market.Broken m) may = on_broken m may
  row-moves (market.Rejected m) may = on_rejected m may
  row-moves (market.CancelReject m) may = on_cancel_reject m may
  row-moves (market.CancelPending m) may = passed (market.CancelPending m) (refl, λ said. refl, refl) refl refl
  row-moves (market.SystemEvent m) may = passed (market.SystemEvent m) (refl, λ said. refl, refl) refl refl
  row-moves market.Skipped may = passed market.Skipped (refl, λ said. refl, refl) refl refl
