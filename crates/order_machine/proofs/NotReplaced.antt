-- Rejected of the oldest pending replace: it falls, and those behind it.
use Rattle.std.proofs.Common.{◌≡◌, ◌≢◌, ℕ, Bool, true, false, List, [], ◌∷◌, ◌++◌, map, refl, sym, ap, ◌∙◌, subst}
use Rattle.std.proofs.Common.{arith, bytes_eq, Option, Some, None}
use Rattle.std.specs.Prelude.{◌&&◌, filter}
use Rattle.order_law.specs.ouch_codec.declared.outbound.Outbound.TheVariants as market
use Rattle.order_law.specs.ouch_codec.declared.outbound.rejected.Rejected.{Rejected}
use Rattle.order_law.specs.declared.stage.Stage.{Stage}
use Rattle.order_law.specs.declared.stage.Stage.TheVariants.{Waiting, Working, Closed}
use Rattle.fix_fields.specs.Field.{Message}
use Rattle.order_law.specs.Life.{after, first_token, is_live, is_waiting}
use Rattle.order_law.specs.Verdicts.{is_replace}
use Rattle.order_law.specs.History.{Entry, Terms, token_of}
use Rattle.order_law.specs.Told as told
use Rattle.order_law.specs.Told.{is_cancel, told_by}
use Rattle.order_law.specs.Headline.{Each}
use Rattle.order_machine.specs.OrderRecord.{Cancelling, OrderRecord, asked_as, at, cancel_asked, cancel_entry, fill_of}
use Rattle.order_machine.specs.OrderRecord.{last_of, live_token, new_asked, pending, record_life, replacements}
use Rattle.order_machine.specs.OrderRecord.{shown_as, still_cancelling}
use Rattle.order_machine.proofs.Due.{Reads, shown_with}
use Rattle.order_machine.proofs.Leads.{AreApart, AreNamed, Leads, leads-at, leads-on, not_replaced-leads}
use Rattle.order_machine.proofs.Moves.{Keeps, Moves, answers_last, unanswered}
use Rattle.order_machine.proofs.Asked.{asked-parts, cancel-goes_on, last-is}
use Rattle.order_machine.proofs.AskedReplaces.{rejected-left}
use Rattle.order_machine.proofs.Rejected.{asked-keeps, still-of}

flip-and : (x y : Bool) → (x && y) ≡ false → (y && x) ≡ false
flip-and true y e = e' y e
  where
    e' : (y : Bool) → (true && y) ≡ false → (y && true) ≡ false
    e' true e = e
    e' false e = refl
flip-and false true e = refl
flip-and false false e = refl

only-cancels : (rs : List Entry) (c : Option Cancelling) → Each (λ (q : Entry). is_replace q.message ≡ true) rs
    → ((x : Cancelling) → c ≡ Some x → is_replace x.request.message ≡ false)
    → filter is_cancel (rs ++ cancel_entry c) ≡ cancel_entry c
only-cancels [] None are is = refl
only-cancels [] (Some c) are is = rw (is c refl) refl
only-cancels (q ∷ rs) c are is = rw are.0 (only-cancels rs c are.1 is)

later-none : (c : Option Cancelling) → ((x : Cancelling) → c ≡ Some x → is_replace x.request.message ≡ false)
    → Each (λ (q : Entry). is_replace q.message ≡ false) (cancel_entry c)
later-none None is = tt
later-none (Some c) is = (is c refl, tt)

apart-behind : (rs later : List Entry) → AreApart (rs ++ later) → AreApart later
apart-behind [] later apart = apart
apart-behind (q ∷ rs) later apart = apart-behind rs later apart.1

named-behind : (old_id : List ℕ → List ℕ) (rs later : List Entry) → AreNamed old_id (rs ++ later)
    → AreNamed old_id later
named-behind old_id [] later named = named
named-behind old_id (q ∷ rs) later named = named-behind old_id rs later named.1

module _ (P : List ℕ → Type 0) (Q : Entry → Type 0) (R : List ℕ → Type 0) (terms : List Terms)
    (old_id : List ℕ → List ℕ) (sent : List Message) (reports limit more : ℕ) (m : Rejected) (b : OrderRecord)
    (q : Entry) (qs : List Entry) (c : Option Cancelling)
    (still : b.stage ≢ Closed) (not_first : (is_waiting b.stage && is_live (record_life b) m.token) ≡ false)
    (token : m.token ≡ token_of q)
    (keeps : Keeps reports limit (at b (q ∷ qs) c)) (named : AreNamed old_id (pending (at b (q ∷ qs) c))) (reads : Reads sent (at b (q ∷ qs) c)) where
  abbrev o : OrderRecord
  o = at b (q ∷ qs) c

  abbrev next : List (List ℕ)
  next = replacements (q ∷ qs)

  abbrev p : OrderRecord
  p = at b [] (still_cancelling (market.Rejected m) next c)

  not_replaced-lives : after (record_life o) (market.Rejected m) ≡ record_life p
  not_replaced-lives = let off = flip-and (is_waiting b.stage) (is_live (record_life b) m.token) not_first in
      rw off refl

  not_replaced-asked : unanswered (market.Rejected m) next (asked_as terms o) ≡ asked_as terms p
  not_replaced-asked = asked-parts terms (market.Rejected m) next o
      ∙ rw (rejected-left m b.new q qs token (live_token o)) (by_stage b.stage refl)
    where
      by_stage : (s : Stage) → b.stage ≡ s → unanswered (market.Rejected m) next (new_asked terms b.new b.stage)
          ++ cancel_asked b.new (still_cancelling (market.Rejected m) next c) ≡ asked_as terms p
      by_stage Waiting e =
          let root : bytes_eq m.token (token_of b.new) ≡ false =
          subst (λ (ts : List (List ℕ)). bytes_eq m.token (first_token ts) ≡ false) (keeps.first e)
          (rw e at not_first) in
          rw (e, root) refl
      by_stage Working e = rw e refl
      by_stage Closed e = absurd (still e)

  not_replaced-bodies : told_by reports (market.Rejected m) (record_life o)
      (answers_last (market.Rejected m) next (asked_as terms o)) (map fill_of b.trades) (shown_as o)
      ≡ told.each_not_replaced (m.reason ∷ []) (shown_as o) (pending o)
      ++ told.cancel_rejected (last_of (market.Rejected m) next c) (shown_with o (cancel_entry c))
  not_replaced-bodies =
      rw (not_first, last-is terms (market.Rejected m) next o keeps.left)
      (ap (λ (ps : List Entry). told.each_not_replaced (m.reason ∷ []) (shown_as o) (pending o)
      ++ told.cancel_rejected (last_of (market.Rejected m) next c) (shown_with o ps))
      (only-cancels (q ∷ qs) c keeps.sound.replaces keeps.sound.cancels))

  not_replaced-all-leads : Leads b.new old_id sent
      (told_by reports (market.Rejected m) (record_life o) (answers_last (market.Rejected m) next (asked_as terms o))
      (map fill_of b.trades) (shown_as o)) o (pending p)
  not_replaced-all-leads =
      let fall = not_replaced-leads old_id o keeps.sound (pending o) (q ∷ qs) (cancel_entry c) keeps.sound.replaces
      (later-none c keeps.sound.cancels) (m.reason ∷ []) sent keeps.apart named reads in
      subst (λ (bodies : List Message). Leads b.new old_id sent bodies o (pending p)) (sym not_replaced-bodies)
      (leads-on old_id sent _ _ o o (cancel_entry c) (pending p) fall
      (cancel-goes_on old_id (market.Rejected m) next o [] c _ keeps.sound tt keeps.sound.cancels
      (apart-behind (q ∷ qs) (cancel_entry c) keeps.apart)
      (named-behind old_id (q ∷ qs) (cancel_entry c) named) fall.reads))

  not_replaced-moves : Moves P Q R terms old_id sent reports limit more (market.Rejected m) o p
  not_replaced-moves = record {
    same = refl;
    kept = λ k. record {
      front = k.front;
      live = k.live;
      replaces = tt;
      cancel =
          λ d e. still-of P Q R (market.Rejected m) next c k.cancel d e;
      id = k.id;
    };
    lives = not_replaced-lives;
    leads = leads-at b.new old_id sent _ o [] (still_cancelling (market.Rejected m) next c)
        (pending p) not_replaced-all-leads;
    asked = λ e. not_replaced-asked;
    price = refl;
    keeps = λ after later. asked-keeps reports limit more after (omega (arith, later)) (market.Rejected m) next o [] tt
        (apart-behind (q ∷ qs) (cancel_entry c) keeps.apart) tt tt (omega arith) still keeps;
  }

pub not_replaced : (P : List ℕ → Type 0) (Q : Entry → Type 0) (R : List ℕ → Type 0) (terms : List Terms)
    (old_id : List ℕ → List ℕ) (sent : List Message) (reports limit more : ℕ) (m : Rejected) (o : OrderRecord)
    (q : Entry) (qs : List Entry)
    → o.stage ≢ Closed → (is_waiting o.stage && is_live (record_life o) m.token) ≡ false → o.replaces ≡ q ∷ qs
    → m.token ≡ token_of q
    → Keeps reports limit o → AreNamed old_id (pending o) → Reads sent o
    → Moves P Q R terms old_id sent reports limit more (market.Rejected m) o
    (at o [] (still_cancelling (market.Rejected m) (replacements (q ∷ qs)) o.cancel))
not_replaced P Q R terms old_id sent reports limit more m o q qs still not_first are token keeps named reads =
    let same : o ≡ at o (q ∷ qs) o.cancel = ap (λ (rs : List Entry). at o rs o.cancel) are in
    subst (λ (x : OrderRecord). Moves P Q R terms old_id sent reports limit more (market.Rejected m) x
    (at o [] (still_cancelling (market.Rejected m) (replacements (q ∷ qs)) o.cancel))) (sym same)
    (not_replaced-moves P Q R terms old_id sent reports limit more m o q qs o.cancel still not_first token
    (subst (λ (x : OrderRecord). Keeps reports limit x) same keeps)
    (subst (λ (x : OrderRecord). AreNamed old_id (pending x)) same named)
    (subst (λ (x : OrderRecord). Reads sent x) same reads))
