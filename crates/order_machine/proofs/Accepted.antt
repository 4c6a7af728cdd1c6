-- Accepted: the order is in the book, or dead at once.
use Rattle.std.proofs.Common.{◌≡◌, ◌≢◌, ℕ, ◌+◌, ◌<◌, ◌≤◌, ◌^◌, Bool, true, false, List, [], ◌∷◌, ◌++◌, map, refl, sym}
use Rattle.std.proofs.Common.{ap, ◌∙◌, subst, arith, codes, bytes_eq, Option, Some, None}
use Rattle.order_law.specs.ouch_codec.declared.outbound.Outbound.{Outbound}
use Rattle.order_law.specs.ouch_codec.declared.outbound.Outbound.TheVariants as market
use Rattle.order_law.specs.ouch_codec.declared.outbound.accepted.Accepted.{Accepted}
use Rattle.order_law.specs.declared.stage.Stage.TheVariants.{Waiting, Closed}
use Rattle.fix_fields.specs.Field.{Message}
use Rattle.order_law.specs.Life.{after, first_token, is_dead, is_live}
use Rattle.order_law.specs.Chain.{chain}
use Rattle.order_law.specs.History.{Asked, Entry, Terms, token_of}
use Rattle.order_law.specs.Told.{Occasion, Shown, cancelled, priced, plain, report, told_by}
use Rattle.order_law.specs.Told as told
use Rattle.order_law.specs.Headline.{has_due_ids}
use Rattle.order_machine.specs.OrderRecord.{Cancelling, OrderRecord, asked_as, cancel_asked, chained, fill_of, gone}
use Rattle.order_machine.specs.OrderRecord.{unanswered_tokens, live_token, pending, record_life, put_in_book}
use Rattle.order_machine.specs.OrderRecord.{replacements}
use Rattle.order_machine.specs.OrderRecord.{shown_as, still_cancelling, unasked, with_tokens}
use Rattle.order_machine.proofs.Texts.{eq-same}
use Rattle.order_machine.proofs.Due.{IsSound, Reads}
use Rattle.order_machine.proofs.Reports.{Tells, new-Reads, report-tells}
use Rattle.order_machine.proofs.Sound.{opened-sound}
use Rattle.order_machine.proofs.Leads.{AreNamed, Leads, leads-more, leads-one}
use Rattle.order_machine.proofs.Endings.{cancelled-leads}
use Rattle.order_machine.proofs.Moves.{Keeps, Moves, Of-unasked, answers_last, filter-all, unanswered}
use Rattle.order_machine.proofs.Asked.{asked-parts, replaces-kept}
use Rattle.order_machine.proofs.Executed.{AreNumbered-more}
use Rattle.order_machine.proofs.Canceled.{over-keeps}

-- with the same tokens a pending cancel is as it was
pub same-cancel : (c : Option Cancelling) (m : Outbound) (next : List (List ℕ))
    → ((x : Cancelling) → c ≡ Some x → x.tokens ≢ [])
    → ((x : Cancelling) → c ≡ Some x → unanswered_tokens m next x.tokens ≡ x.tokens) → still_cancelling m next c ≡ c
same-cancel None m next left same = refl
same-cancel (Some c) m next left same = rw (same c refl) (by_tokens c.tokens refl (left c refl))
  where
    by_tokens : (tokens : List (List ℕ)) → c.tokens ≡ tokens → c.tokens ≢ [] → with_tokens c.request tokens ≡ Some c
    by_tokens [] e some = absurd (some e)
    by_tokens (token ∷ tokens) e some = ap (λ ts. Some (record { request = c.request; tokens = ts })) (sym e)

module _ (P : List ℕ → Type 0) (Q : Entry → Type 0) (R : List ℕ → Type 0) (terms : List Terms)
    (old_id : List ℕ → List ℕ) (sent : List Message) (reports limit more : ℕ) (m : Accepted) (o : OrderRecord)
    (live : is_live (record_life o) m.token ≡ true) (waits : o.stage ≡ Waiting)
    (shares : m.shares ≤ more) (more_small : more < 10 ^ 63) (limit_small : limit < 10 ^ 63)
    (keeps : Keeps reports limit o) (named : AreNamed old_id (pending o)) (reads : Reads sent o) where
  live_order : o.is_refused ≡ false
  live_order = by_flag o.is_refused refl
    where
      by_flag : (b : Bool) → o.is_refused ≡ b → o.is_refused ≡ false
      by_flag true e = absurd (let x : Waiting ≡ Closed = sym waits ∙ keeps.sound.refused e in cc)
      by_flag false e = e

  abbrev p : OrderRecord
  p = put_in_book m.shares m.price o

  sound : IsSound p
  sound = opened-sound m.shares m.price o live_order keeps.sound

  new-ids : has_due_ids (report (reports + 1) (plain (codes "0")) (shown_as p)) (chain o.new.order sent) (chained p) old_id ≡ true
  new-ids = let id = eq-same o.id in rw id refl

  new-tells : Tells old_id sent (report (reports + 1) (plain (codes "0")) (shown_as p)) p (pending p)
  new-tells = report-tells (reports + 1) (plain (codes "0")) p (pending p) old_id sent sound
      (new-Reads (reports + 1) m.shares m.price o sent waits live_order (omega (arith, shares, more_small))
      (omega (arith, keeps.small, shares, more_small, limit_small)) reads) new-ids

  own : bytes_eq m.token (token_of o.new) ≡ true
  own = subst (λ (ts : List (List ℕ)). bytes_eq m.token (first_token ts) ≡ true) (keeps.first waits) live

  price_now : priced (market.Accepted m) (record_life o) o.price ≡ m.price
  price_now = rw live refl

  live-bodies : is_dead m.order_state ≡ false → told_by reports (market.Accepted m) (record_life o) (answers_last (market.Accepted m) (replacements o.replaces) (asked_as terms o)) (map fill_of o.trades) (shown_as o) ≡ report (reports + 1) (plain (codes "0")) (shown_as p) ∷ []
  live-bodies alive = rw alive refl

  dead-bodies : is_dead m.order_state ≡ true → told_by reports (market.Accepted m) (record_life o) (answers_last (market.Accepted m) (replacements o.replaces) (asked_as terms o)) (map fill_of o.trades) (shown_as o) ≡ report (reports + 1) (plain (codes "0")) (shown_as p) ∷ cancelled (reports + 2) None (told.closed (shown_as p))
  dead-bodies dead = rw dead refl

  live-lives : is_dead m.order_state ≡ false → after (record_life o) (market.Accepted m) ≡ record_life p
  live-lives alive = rw (live, waits, alive) refl

  dead-lives : is_dead m.order_state ≡ true → after (record_life o) (market.Accepted m) ≡ record_life (unasked (gone p))
  dead-lives dead = rw (live, waits, dead) refl

  live-asked : unanswered (market.Accepted m) (replacements o.replaces) (asked_as terms o) ≡ asked_as terms p
  live-asked = asked-parts terms (market.Accepted m) (replacements o.replaces) o
      ∙ rw (
        same-cancel o.cancel (market.Accepted m) (replacements o.replaces) keeps.left
            (λ c is_c. filter-all c.tokens),
        waits,
        own,
      )
      (ap (λ (asks : List Asked). asks ++ cancel_asked o.new o.cancel)
      (replaces-kept (market.Accepted m) (replacements o.replaces) o.new (λ from to. refl)
      (live_token o) o.replaces))

  pub live-moves : is_dead m.order_state ≡ false
      → Moves P Q R terms old_id sent reports limit more (market.Accepted m) o p
  live-moves alive = record {
    same = refl;
    kept = λ k. record { front = k.front; live = k.live; replaces = k.replaces; cancel = k.cancel; id = k.id };
    lives = live-lives alive;
    leads = subst (λ (bodies : List Message). Leads o.new old_id sent bodies p (pending p)) (sym (live-bodies alive))
        (leads-one old_id sent _ p (pending p) new-tells);
    asked = λ e. live-asked;
    price = price_now;
    keeps = λ after later. record {
      sound = sound;
      apart = keeps.apart;
      current = keeps.current;
      tokens_apart = keeps.tokens_apart;
      few = keeps.few;
      first = λ e. absurd (cc);
      over_replace = λ e. absurd (cc);
      over_cancel = λ e. absurd (cc);
      left = keeps.left;
      idle = λ e. absurd (cc);
      rejected = keeps.rejected;
      none_waiting = λ e. absurd (cc);
      none_closed = λ e. absurd (cc);
      small = omega (arith, keeps.small, shares);
      numbered = AreNumbered-more reports after o.trades (omega (arith, later)) keeps.numbered;
    };
  }

  pub dead-moves : is_dead m.order_state ≡ true
      → Moves P Q R terms old_id sent reports limit more (market.Accepted m) o (unasked (gone p))
  dead-moves dead = record {
    same = refl;
    kept = Of-unasked P Q R o (unasked (gone p)) refl refl refl refl;
    lives = dead-lives dead;
    leads = subst (λ (bodies : List Message). Leads o.new old_id sent bodies (unasked (gone p)) [])
        (sym (dead-bodies dead))
        (leads-more old_id sent _ _ p (unasked (gone p)) (pending p) [] new-tells
        (cancelled-leads old_id (reports + 2) None p refl sound _ o.replaces o.cancel keeps.sound.replaces
        keeps.sound.cancels keeps.apart keeps.current named new-tells.reads));
    asked = λ e. absurd (cc);
    price = price_now;
    keeps = λ after later. over-keeps reports limit more after o (unasked (gone p))
        (omega (arith, later)) refl refl refl refl keeps.rejected refl (omega (arith, keeps.small)) keeps.numbered;
  }
