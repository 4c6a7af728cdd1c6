-- Replaced: the oldest pending replace is done. Those behind it stay pending, unless the order is dead then.
use Rattle.std.proofs.Common.{◌≡◌, ℕ, ◌+◌, ◌<◌, ◌≤◌, ◌^◌, Bool, true, false, List, [], ◌∷◌, ◌++◌, map, refl, sym, ap}
use Rattle.std.proofs.Common.{◌∙◌}
use Rattle.std.proofs.Common.{subst, arith, codes, bytes_eq, Option, None}
use Rattle.std.specs.Prelude.{if◌then◌else◌}
use Rattle.order_law.specs.ouch_codec.declared.outbound.Outbound.TheVariants as market
use Rattle.order_law.specs.ouch_codec.declared.outbound.replaced.Replaced.{Replaced}
use Rattle.order_law.specs.declared.stage.Stage.TheVariants.{Working, Closed}
use Rattle.fix_fields.specs.Field.{Message, text}
use Rattle.order_law.specs.Life.{is_dead, is_live}
use Rattle.order_law.specs.History.{Entry, Terms, token_of}
use Rattle.order_law.specs.Told as told
use Rattle.order_law.specs.Told.{Shown, on_request, priced, report, told_by}
use Rattle.order_law.specs.Headline.{has_due_ids}
use Rattle.order_machine.specs.OrderRecord.{Cancelling, OrderRecord, asked_as, at, cancel_asked, cancel_entry, fill_of}
use Rattle.order_machine.specs.OrderRecord.{gone, last_of, leaves, live_token, pending, put_by_replace, record_life}
use Rattle.order_machine.specs.OrderRecord.{replacements, replaces_asked, shown_as, still_cancelling, unasked}
use Rattle.order_machine.proofs.Texts.{eq-same}
use Rattle.order_machine.proofs.Due.{IsSound, Reads, chained_with, shown_with}
use Rattle.order_machine.proofs.Reports.{AreOthers, Tells, replaced-Reads, report-tells}
use Rattle.order_machine.proofs.Sound.{asked-sound, replaced-sound}
use Rattle.order_machine.proofs.Leads.{AreNamed, Leads, leads-at, leads-more}
use Rattle.order_machine.proofs.Endings.{cancelled-leads}
use Rattle.order_machine.proofs.Moves.{Keeps, Moves, answers_last, unanswered}
use Rattle.order_machine.proofs.Asked.{asked-parts, cancel-goes_on, last-is, still-left}
use Rattle.order_machine.proofs.AskedReplaces.{replaced-left}
use Rattle.order_machine.proofs.Executed.{AreNumbered-more}
use Rattle.order_machine.proofs.Canceled.{over-keeps}
use Rattle.order_machine.proofs.Rejected.{still-apart, still-cancels, still-of}

others-front : (id : List ℕ) (qs later : List Entry) → AreOthers id (qs ++ later) → AreOthers id qs
others-front id [] later others = tt
others-front id (q ∷ qs) later others = (others.0, others-front id qs later others.1)

module _ (P : List ℕ → Type 0) (Q : Entry → Type 0) (R : List ℕ → Type 0) (terms : List Terms)
    (old_id : List ℕ → List ℕ) (sent : List Message) (reports limit more : ℕ) (m : Replaced) (b : OrderRecord)
    (q : Entry) (qs : List Entry) (c : Option Cancelling)
    (works : b.stage ≡ Working) (live : is_live (record_life b) m.previous_token ≡ true) (token : m.token ≡ token_of q)
    (shares : m.shares ≤ more) (more_small : more < 10 ^ 63) (limit_small : limit < 10 ^ 63)
    (keeps : Keeps reports limit (at b (q ∷ qs) c)) (named : AreNamed old_id (pending (at b (q ∷ qs) c))) (reads : Reads sent (at b (q ∷ qs) c)) where
  abbrev o : OrderRecord
  o = at b (q ∷ qs) c

  abbrev next : List (List ℕ)
  next = replacements (q ∷ qs)

  -- the rest, before a cancel is looked at
  abbrev rest : List Entry
  rest = qs ++ cancel_entry c

  -- with its oldest replace done
  abbrev r : OrderRecord
  r = put_by_replace m q o

  abbrev p : OrderRecord
  p = at r qs (still_cancelling (market.Replaced m) next c)

  live_order : b.is_refused ≡ false
  live_order = by_flag b.is_refused refl
    where
      by_flag : (f : Bool) → b.is_refused ≡ f → b.is_refused ≡ false
      by_flag true e = absurd (let x : Working ≡ Closed = sym works ∙ keeps.sound.refused e in cc)
      by_flag false e = e

  in_book : leaves b ≡ b.unfilled
  in_book = rw works refl

  sound : IsSound r
  sound = replaced-sound m q o live_order keeps.sound

  others : AreOthers (text 11 q.message) qs
  others = others-front (text 11 q.message) qs (cancel_entry c) keeps.apart.0

  ids : has_due_ids (report (reports + 1) (on_request (codes "5") q) (shown_with r rest)) (chained_with o (q ∷ rest)) (chained_with r rest) old_id ≡ true
  ids =
      let kind = keeps.sound.replaces.0 in
      let id = eq-same (text 11 q.message) in
      let old = eq-same (old_id (text 11 q.message)) in
      rw (kind, id, named.0, old) refl

  own : told.asked_token m.token q ≡ true
  own = let kind = keeps.sound.replaces.0 in let same : bytes_eq (token_of q) m.token ≡ true =
      ap (bytes_eq (token_of q)) token ∙ eq-same (token_of q) in rw (kind, same) refl

  renamed : told.shown_renamed m q (shown_as o) ≡ shown_with r rest
  renamed = by_test (told.asked_token m.token q) own
    where
      by_test : (x : Bool) → x ≡ true → ◌≡◌ {A = Shown}
          (record (shown_with r rest) {
            pending = if x then rest else q ∷ told.without_first
                (told.asked_token m.token) rest;
          }) (shown_with r rest)
      by_test true e = refl
      by_test false e = absurd (cc)

  bodies : told_by reports (market.Replaced m) (record_life o)
      (answers_last (market.Replaced m) next (asked_as terms o)) (map fill_of b.trades) (shown_as o)
      ≡ report (reports + 1) (on_request (codes "5") q) (shown_with r rest) ∷ told.where_dead (reports + 2) m.order_state (shown_with r rest) (told.cancel_rejected (last_of (market.Replaced m) next c) (shown_with r rest))
  bodies = rw (own, last-is terms (market.Replaced m) next o keeps.left)
      (ap (λ (s : Shown). report (reports + 1) (on_request (codes "5") q) s ∷ told.where_dead (reports + 2) m.order_state s (told.cancel_rejected (last_of (market.Replaced m) next c) s)) renamed)

  live-bodies : is_dead m.order_state ≡ false
      → told_by reports (market.Replaced m) (record_life o) (answers_last (market.Replaced m) next (asked_as terms o))
      (map fill_of b.trades) (shown_as o)
      ≡ report (reports + 1) (on_request (codes "5") q) (shown_with r rest) ∷ told.cancel_rejected (last_of (market.Replaced m) next c) (shown_with r rest)
  live-bodies alive = bodies ∙ rw alive refl

  dead-bodies : is_dead m.order_state ≡ true
      → told_by reports (market.Replaced m) (record_life o) (answers_last (market.Replaced m) next (asked_as terms o))
      (map fill_of b.trades) (shown_as o)
      ≡ report (reports + 1) (on_request (codes "5") q) (shown_with r rest) ∷ told.cancelled (reports + 2) None (told.closed (shown_with r rest))
  dead-bodies dead = bodies ∙ rw dead refl

  replaced-tells : Tells old_id sent (report (reports + 1) (on_request (codes "5") q) (shown_with r rest)) r rest
  replaced-tells = report-tells (reports + 1) (on_request (codes "5") q) r rest old_id sent sound
      (replaced-Reads (reports + 1) m q rest o sent works live_order keeps.apart.0 (omega (arith, shares, more_small))
      (omega (arith, keeps.small, shares, more_small, limit_small)) reads) (rw reads.chained_so ids)

  live-asked : unanswered (market.Replaced m) next (asked_as terms o) ≡ asked_as terms p
  live-asked =
      asked-parts terms (market.Replaced m) next o
      ∙ rw (replaced-left m next b.new (live_token o) q qs token keeps.tokens_apart, works)
      (ap (λ (t : List ℕ). replaces_asked b.new t qs
      ++ cancel_asked b.new (still_cancelling (market.Replaced m) next c)) (sym token))

  price_now : priced (market.Replaced m) (record_life o) o.price ≡ m.price
  price_now = rw live refl

  live-moves : is_dead m.order_state ≡ false → Moves P Q R terms old_id sent reports limit more (market.Replaced m) o p
  live-moves alive = record {
    same = refl;
    kept = λ k. record {
      front = subst P (sym token) k.replaces.0.0;
      live =
          (subst P (sym token) k.replaces.0.0, k.live);
      replaces = k.replaces.1;
      cancel =
          λ d e. still-of P Q R (market.Replaced m) next c k.cancel d e;
      id = k.replaces.0.2;
    };
    lives = rw (live, alive) refl;
    leads = subst (λ (bs : List Message). Leads b.new old_id sent bs p (pending p)) (sym (live-bodies alive))
        (leads-at b.new old_id sent _ r qs (still_cancelling (market.Replaced m) next c) (pending p)
        (leads-more old_id sent _ _ r r rest (pending p) replaced-tells
        (cancel-goes_on old_id (market.Replaced m) next r qs c _ sound keeps.sound.replaces.1 keeps.sound.cancels
        keeps.apart.1 named.1 replaced-tells.reads)));
    asked = λ e. live-asked;
    price = price_now;
    keeps = λ after later. record {
      sound = asked-sound r qs (still_cancelling (market.Replaced m) next c) keeps.sound.replaces.1
          (still-cancels (market.Replaced m) next c keeps.sound.cancels) sound;
      apart = still-apart (market.Replaced m) next qs c keeps.apart.1;
      current = others;
      tokens_apart = keeps.tokens_apart.1;
      few = omega (arith, keeps.few);
      first = λ e. absurd (cc);
      over_replace = λ e. absurd (cc);
      over_cancel = λ e. absurd (cc);
      left = λ d e. still-left (market.Replaced m) next c d e;
      idle = λ e. absurd (cc);
      rejected = keeps.rejected;
      none_waiting = λ e. absurd (cc);
      none_closed = λ e. absurd (cc);
      small = omega (arith, keeps.small, in_book, shares);
      numbered = AreNumbered-more reports after b.trades (omega (arith, later)) keeps.numbered;
    };
  }

  dead-moves : is_dead m.order_state ≡ true
      → Moves P Q R terms old_id sent reports limit more (market.Replaced m) o (unasked (gone r))
  dead-moves dead = record {
    same = refl;
    kept = λ k. record {
      front = subst P (sym token) k.replaces.0.0;
      live =
          (subst P (sym token) k.replaces.0.0, k.live);
      replaces = tt;
      cancel = λ d e. absurd (cc);
      id = k.replaces.0.2;
    };
    lives = rw (live, dead) refl;
    leads = subst (λ (bs : List Message). Leads b.new old_id sent bs (unasked (gone r)) []) (sym (dead-bodies dead))
        (leads-more old_id sent _ _ r (unasked (gone r)) rest [] replaced-tells
        (cancelled-leads old_id (reports + 2) None r refl sound _ qs c keeps.sound.replaces.1 keeps.sound.cancels
        keeps.apart.1 others named.1 replaced-tells.reads));
    asked = λ e. absurd (cc);
    price = price_now;
    keeps = λ after later. over-keeps reports limit more after b (unasked (gone r))
        (omega (arith, later)) refl refl refl refl keeps.rejected refl (omega (arith, keeps.small)) keeps.numbered;
  }

module _ (P : List ℕ → Type 0) (Q : Entry → Type 0) (R : List ℕ → Type 0) (terms : List Terms)
    (old_id : List ℕ → List ℕ) (sent : List Message) (reports limit more : ℕ) (m : Replaced) (o : OrderRecord)
    (q : Entry) (qs : List Entry)
    (works : o.stage ≡ Working) (live : is_live (record_life o) m.previous_token ≡ true) (are : o.replaces ≡ q ∷ qs)
    (token : m.token ≡ token_of q)
    (shares : m.shares ≤ more) (more_small : more < 10 ^ 63) (limit_small : limit < 10 ^ 63)
    (keeps : Keeps reports limit o) (named : AreNamed old_id (pending o)) (reads : Reads sent o) where
  same : o ≡ at o (q ∷ qs) o.cancel
  same = ap (λ (rs : List Entry). at o rs o.cancel) are

  keeps' : Keeps reports limit (at o (q ∷ qs) o.cancel)
  keeps' = subst (λ (x : OrderRecord). Keeps reports limit x) same keeps

  named' : AreNamed old_id (pending (at o (q ∷ qs) o.cancel))
  named' = subst (λ (x : OrderRecord). AreNamed old_id (pending x)) same named

  reads' : Reads sent (at o (q ∷ qs) o.cancel)
  reads' = subst (λ (x : OrderRecord). Reads sent x) same reads

  abbrev Makes : OrderRecord → Type 0
  Makes p = Moves P Q R terms old_id sent reports limit more (market.Replaced m) o p

  pub replaced_live : is_dead m.order_state ≡ false
      → Makes (at (put_by_replace m q o) qs (still_cancelling (market.Replaced m) (replacements (q ∷ qs)) o.cancel))
  replaced_live alive = subst (λ (x : OrderRecord). Moves P Q R terms old_id sent reports limit more
      (market.Replaced m) x (at (put_by_replace m q o) qs
      (still_cancelling (market.Replaced m) (replacements (q ∷ qs)) o.cancel))) (sym same)
      (live-moves P Q R terms old_id sent reports limit more m o q qs o.cancel works live token shares more_small
      limit_small keeps' named' reads' alive)

  pub replaced_dead : is_dead m.order_state ≡ true → Makes (unasked (gone (put_by_replace m q o)))
  replaced_dead dead = subst (λ (x : OrderRecord). Moves P Q R terms old_id sent reports limit more
      (market.Replaced m) x (unasked (gone (put_by_replace m q o)))) (sym same)
      (dead-moves P Q R terms old_id sent reports limit more m o q qs o.cancel works live token shares more_small
      limit_small keeps' named' reads' dead)
