-- Rejected: of the new order, or of a replace; Cancel Reject; and what changes no order.
use Rattle.std.proofs.Common.{◌≡◌, ◌≢◌, ℕ, ◌+◌, ◌≤◌, true, false, List, [], ◌∷◌, ◌++◌, map, refl, sym, ap, ◌∙◌, subst}
use Rattle.std.proofs.Common.{arith}
use Rattle.std.proofs.Common.{Option, Some, None}
use Rattle.std.specs.Prelude.{length, not}
use Rattle.order_law.specs.ouch_codec.declared.outbound.Outbound.{Outbound}
use Rattle.order_law.specs.ouch_codec.declared.outbound.Outbound.TheVariants as market
use Rattle.order_law.specs.ouch_codec.declared.outbound.cancel_reject.CancelReject.{CancelReject}
use Rattle.order_law.specs.ouch_codec.declared.outbound.rejected.Rejected.{Rejected}
use Rattle.order_law.specs.declared.stage.Stage.TheVariants.{Waiting, Working, Closed}
use Rattle.fix_fields.specs.Field.{Message, text}
use Rattle.order_law.specs.Life.{after, is_live}
use Rattle.order_law.specs.Chain.{chain}
use Rattle.order_law.specs.Verdicts.{is_replace, most_pending}
use Rattle.order_law.specs.History.{Asked, Entry, SaysCancel, Terms, answers}
use Rattle.order_law.specs.Told.{cancel_rejected, report, told_by, too_late}
use Rattle.order_law.specs.Headline.{Each, has_due_ids}
use Rattle.order_machine.proofs.Lists.{Each-filter}
use Rattle.order_machine.specs.OrderRecord.{Cancelling, OrderRecord, asked_as, at, cancel_asked, chained, fill_of}
use Rattle.order_machine.specs.OrderRecord.{cancel_entry, last_of, live_token, pending, record_life, market_refused}
use Rattle.order_machine.specs.OrderRecord.{replacements, shown_as}
use Rattle.order_machine.specs.OrderRecord.{still_cancelling, unanswered_tokens, unasked, with_tokens}
use Rattle.order_machine.proofs.Texts.{eq-same}
use Rattle.order_machine.proofs.Due.{Reads}
use Rattle.order_machine.proofs.Leads.{AreApart, AreNamed, Leads, leads-at, leads-more, too_late-leads}
use Rattle.order_machine.proofs.Endings.{before-apart}
use Rattle.order_machine.proofs.AskedReplaces.{AreDistinct, append-nothing}
use Rattle.order_machine.proofs.Moves.{Keeps, Moves, Of-unasked, answers_last, unanswered}
use Rattle.order_machine.proofs.Asked.{asked-parts, cancel-goes_on, last-is, replaces-kept, still-left, still-request}
use Rattle.order_machine.proofs.Executed.{AreNumbered-more}
use Rattle.order_machine.proofs.Canceled.{over-keeps}
use Rattle.order_machine.proofs.Reports.{AreOthers, Tells, refused-Reads, refused_occasion, report-tells}
use Rattle.order_machine.proofs.Sound.{asked-sound, refused-sound}

-- ---- of the new order

module _ (P : List ℕ → Type 0) (Q : Entry → Type 0) (R : List ℕ → Type 0) (terms : List Terms)
    (old_id : List ℕ → List ℕ) (sent : List Message) (reports limit more : ℕ) (m : Rejected) (o : OrderRecord)
    (live : is_live (record_life o) m.token ≡ true) (waits : o.stage ≡ Waiting)
    (keeps : Keeps reports limit o) (named : AreNamed old_id (pending o)) (reads : Reads sent o) where
  abbrev reason : List ℕ
  reason = m.reason ∷ []

  abbrev f : OrderRecord
  f = market_refused o

  refused-lives : after (record_life o) (market.Rejected m) ≡ record_life (unasked f)
  refused-lives = rw (live, waits) refl

  refused-bodies : told_by reports (market.Rejected m) (record_life o)
      (answers_last (market.Rejected m) (replacements o.replaces) (asked_as terms o)) (map fill_of o.trades)
      (shown_as o) ≡ report (reports + 1) (refused_occasion reason) (shown_as f) ∷ too_late (shown_as f)
  refused-bodies = rw (live, waits) refl

  refused-ids : has_due_ids (report (reports + 1) (refused_occasion reason) (shown_as f)) (chain o.new.order sent)
      (chained f) old_id ≡ true
  refused-ids = let id = eq-same o.id in rw id refl

  refused-tells : Tells old_id sent (report (reports + 1) (refused_occasion reason) (shown_as f)) f (pending f)
  refused-tells = report-tells (reports + 1) (refused_occasion reason) f (pending f) old_id sent
      (refused-sound o keeps.sound) (refused-Reads (reports + 1) reason o sent waits reads) refused-ids

  pub refused-moves : Moves P Q R terms old_id sent reports limit more (market.Rejected m) o (unasked f)
  refused-moves = record {
    same = refl;
    kept = Of-unasked P Q R o (unasked f) refl refl refl refl;
    lives = refused-lives;
    leads = subst (λ (bodies : List Message). Leads o.new old_id sent bodies (unasked f) []) (sym refused-bodies)
        (leads-more old_id sent _ _ f (unasked f) (pending f) [] refused-tells
        (leads-at o.new old_id _ _ f [] None [] (too_late-leads old_id f (refused-sound o keeps.sound) (pending f)
        (pending f) _ keeps.apart named refused-tells.reads)));
    asked = λ e. absurd (cc);
    price = refl;
    keeps = λ after later. over-keeps reports limit more after o (unasked f) (omega (arith, later)) refl refl refl refl
        (λ e. keeps.idle waits) (keeps.none_waiting waits) (omega (arith, keeps.small)) keeps.numbered;
  }

-- ---- what changes nothing but the requests

-- what is left of a cancel is apart from the replaces before it
pub still-apart : (m : Outbound) (next : List (List ℕ)) (rs : List Entry) (c : Option Cancelling)
    → AreApart (rs ++ cancel_entry c) → AreApart (rs ++ cancel_entry (still_cancelling m next c))
still-apart m next rs None apart = apart
still-apart m next rs (Some c) apart = by_tokens (unanswered_tokens m next c.tokens)
  where
    by_tokens : (tokens : List (List ℕ)) → AreApart (rs ++ cancel_entry (with_tokens c.request tokens))
    by_tokens [] = subst AreApart (sym (append-nothing rs)) (before-apart rs c.request apart)
    by_tokens (token ∷ tokens) = apart

pub still-cancels : (m : Outbound) (next : List (List ℕ)) (c : Option Cancelling)
    → ((x : Cancelling) → c ≡ Some x → is_replace x.request.message ≡ false) → (x : Cancelling)
    → still_cancelling m next c ≡ Some x → is_replace x.request.message ≡ false
still-cancels m next c are x e = let was = still-request m next c x e in ap (λ (q : Entry). is_replace q.message) was.2
    ∙ are was.0 was.1

-- an order that keeps what it has to goes on with these replaces, and with what is left of a cancel
pub asked-keeps : (reports limit more after : ℕ) → reports ≤ after
    → (m : Outbound) (next : List (List ℕ)) (o : OrderRecord) (rs : List Entry)
    → Each (λ (q : Entry). is_replace q.message ≡ true) rs → AreApart (rs ++ cancel_entry o.cancel) → AreOthers o.id rs
    → AreDistinct (replacements rs) → length rs ≤ most_pending
    → (o.stage ≢ Closed) → Keeps reports limit o
    → Keeps after (limit + more) (at o rs (still_cancelling m next o.cancel))
asked-keeps reports limit more after later m next o rs are apart current distinct few is_live k = record {
  sound = asked-sound o rs (still_cancelling m next o.cancel) are
      (still-cancels m next o.cancel k.sound.cancels) k.sound;
  apart = still-apart m next rs o.cancel apart;
  current = current;
  tokens_apart = distinct;
  few = few;
  first = k.first;
  over_replace = λ e. absurd (is_live e);
  over_cancel = λ e. absurd (is_live e);
  left = λ c e. still-left m next o.cancel c e;
  idle = k.idle;
  rejected = k.rejected;
  none_waiting = k.none_waiting;
  none_closed = k.none_closed;
  small = omega (arith, k.small);
  numbered = AreNumbered-more reports after o.trades later k.numbered;
}

-- what is said of a pending cancel stays said of what is left of it
pub still-of : (P : List ℕ → Type 0) (Q : Entry → Type 0) (R : List ℕ → Type 0) (m : Outbound) (next : List (List ℕ))
    (c : Option Cancelling) → ((x : Cancelling) → c ≡ Some x
    → Each P x.tokens × Q x.request × R (text 11 x.request.message))
    → (y : Cancelling) → still_cancelling m next c ≡ Some y
    → Each P y.tokens × Q y.request × R (text 11 y.request.message)
still-of P Q R m next c said y e =
    let was = still-request m next c y e in
    let k = said was.0 was.1 in (
      subst (λ (ts : List (List ℕ)). Each P ts) (sym was.3)
          (Each-filter P (λ token. not (answers m next (SaysCancel token))) was.0.tokens k.0),
      subst Q (sym was.2) k.1,
      subst (λ (x : Entry). R (text 11 x.message)) (sym was.2) k.2,
    )

-- ---- Cancel Reject

module _ (P : List ℕ → Type 0) (Q : Entry → Type 0) (R : List ℕ → Type 0) (terms : List Terms)
    (old_id : List ℕ → List ℕ) (sent : List Message) (reports limit more : ℕ) (m : CancelReject) (o : OrderRecord)
    (works : o.stage ≡ Working)
    (keeps : Keeps reports limit o) (named : AreNamed old_id (pending o)) (reads : Reads sent o) where
  abbrev pub cancel_reject_leaves : OrderRecord
  cancel_reject_leaves = at o o.replaces (still_cancelling (market.CancelReject m) (replacements o.replaces) o.cancel)

  cancel_reject-bodies : told_by reports (market.CancelReject m) (record_life o)
      (answers_last (market.CancelReject m) (replacements o.replaces) (asked_as terms o)) (map fill_of o.trades)
      (shown_as o) ≡ cancel_rejected (last_of (market.CancelReject m) (replacements o.replaces) o.cancel) (shown_as o)
  cancel_reject-bodies = rw (last-is terms (market.CancelReject m) (replacements o.replaces) o keeps.left) refl

  cancel_reject-asked : unanswered (market.CancelReject m) (replacements o.replaces) (asked_as terms o)
      ≡ asked_as terms cancel_reject_leaves
  cancel_reject-asked = asked-parts terms (market.CancelReject m) (replacements o.replaces) o ∙ rw works
      (ap (λ (asks : List Asked). asks ++ cancel_asked o.new
      (still_cancelling (market.CancelReject m) (replacements o.replaces) o.cancel))
      (replaces-kept (market.CancelReject m) (replacements o.replaces) o.new (λ from to. refl)
      (live_token o) o.replaces))

  pub cancel_reject-moves : Moves P Q R terms old_id sent reports limit more
      (market.CancelReject m) o cancel_reject_leaves
  cancel_reject-moves = record {
    same = refl;
    kept = λ k. record {
      front = k.front;
      live = k.live;
      replaces = k.replaces;
      cancel =
          λ c e. still-of P Q R (market.CancelReject m) (replacements o.replaces) o.cancel k.cancel c e;
      id = k.id;
    };
    lives = refl;
    leads = subst (λ (bodies : List Message). Leads o.new old_id sent bodies cancel_reject_leaves
        (pending cancel_reject_leaves)) (sym cancel_reject-bodies)
        (leads-at o.new old_id sent _ o _ _ _ (cancel-goes_on old_id (market.CancelReject m)
        (replacements o.replaces) o o.replaces o.cancel sent keeps.sound keeps.sound.replaces keeps.sound.cancels
        keeps.apart named reads));
    asked = λ e. cancel_reject-asked;
    price = refl;
    keeps = λ after later. asked-keeps reports limit more after (omega (arith, later)) (market.CancelReject m)
        (replacements o.replaces) o o.replaces keeps.sound.replaces keeps.apart keeps.current keeps.tokens_apart
        keeps.few (λ e. (let x : Working ≡ Closed = sym works ∙ e in cc)) keeps;
  }
