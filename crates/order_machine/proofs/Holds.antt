-- What every told history keeps, and that each message of the market keeps it.
use Rattle.std.proofs.Common.{◌≡◌, ℕ, ◌*◌, ◌<◌, ◌≤◌, ◌^◌, Bool, true, false, List, [], ◌∷◌, length, map, sym, ◌∙◌}
use Rattle.std.proofs.Common.{subst, arith, decimal, bytes_eq, Some}
use Rattle.std.specs.Prelude.{◌&&◌, ◌==◌, if◌then◌else◌, filter}
use Rattle.std.specs.List.{find}
use Rattle.tokens.specs.TokenText.{token_text}
use Rattle.order_law.specs.ouch_codec.declared.outbound.Outbound.{Outbound}
use Rattle.fix_fields.specs.Field.{Message, character, is}
use Rattle.order_law.specs.Life.{after, born, life}
use Rattle.order_law.specs.Chain.{is_used, orders}
use Rattle.order_law.specs.History.{Asked, Entry, OrderHistory, Terms, OrderTurn, accepted, given_tokens, handled}
use Rattle.order_law.specs.History.{is_new_order, issued, new_of, orders_numbered, outstanding, terms_of, token_of}
use Rattle.order_law.specs.Told.{price_after, priced, reports_in}
use Rattle.order_law.specs.Headline.{Each, IsTrueToMarket, ReadsWell, old_ids}
use Rattle.order_machine.specs.OrderRecord.{OrderRecord}
use Rattle.order_machine.proofs.Lists.{Each-map}
use Rattle.order_machine.proofs.Due.{IsUnread, Reads}
use Rattle.order_machine.proofs.Executed.{AreNumbered-more}
use Rattle.order_machine.proofs.Leads.{same_some}
use Rattle.order_machine.proofs.Moves.{Keeps, Of}
use Rattle.order_machine.proofs.Fits.{Fits, IsFound, IsHome, IsUsed, own}
use Rattle.order_machine.proofs.Agreeing.{agree-so, pending-of}

-- an accepted message: its order's new order is the client's, its token is among those that were given
pub record IsEntry (terms : List Terms) (entries : List Entry) (orders_numbered : ℕ) (e : Entry) : Type 0 where
  pub new : Entry
  pub found : new_of e.order entries ≡ Some new
  pub same_client : new.client ≡ e.client
  pub is_given : (n : ℕ) → e.token ≡ Some n → (1 ≤ n) × (n ≤ given_tokens entries)
  pub number : ℕ
  pub order_is : e.order ≡ decimal number
  pub is_numbered : number ≤ orders_numbered

abbrev pub port_of : List Terms → Entry → ℕ
port_of terms e = (terms_of terms e.client).port

abbrev pub FitsIn : List Terms → OrderHistory → OrderRecord → Type 0
FitsIn terms h o = Fits terms (accepted terms h) (orders_numbered h) (issued o.new.client h)
    (handled (port_of terms o.new) h) (outstanding terms (port_of terms o.new) h) (reports_in h)
    (1_000_000 * length h) o

pub record HasRecord (terms : List Terms) (h : OrderHistory) (e : Entry) : Type 0 where
  pub order : OrderRecord
  pub same : order.new ≡ e
  pub fits : FitsIn terms h order

abbrev pub news : List Entry → List Entry
news entries = filter (λ (e : Entry). is_new_order e.message) entries

abbrev pub orders_of : ℕ → List Entry → List (List ℕ)
orders_of client entries = map (λ (e : Entry). e.order) (filter (λ (e : Entry). e.client == client) (news entries))

-- a message is nothing to an order that no message has been on
abbrev pub PassesOver : List ℕ → ℕ → Outbound → Type 0
PassesOver root side m = (after (born root side) m ≡ born root side)
    × ((before : ℕ) → priced m (born root side) before ≡ before)

pub record Holds (terms : List Terms) (h : OrderHistory) : Type 0 where
  pub entries : Each (IsEntry terms (accepted terms h) (orders_numbered h)) (accepted terms h)
  pub short : given_tokens (accepted terms h) ≤ 9_999_999_999_999
  pub records : Each (HasRecord terms h) (news (accepted terms h))
  pub listed : (c : ℕ) → orders (issued c h) ≡ orders_of c (accepted terms h)
  pub unread : (n c : ℕ) → orders_numbered h < n → n < 10 ^ 64 → IsUnread (decimal n) (issued c h)
  pub unheard : (n p side : ℕ) → given_tokens (accepted terms h) < n → n ≤ 9_999_999_999_999
      → Each (PassesOver (token_text n) side) (handled p h)
  pub unasked : (n p : ℕ) → orders_numbered h < n → n < 10 ^ 64 → own (decimal n) (outstanding terms p h) ≡ []
  pub few : orders_numbered h ≤ length h

-- each order is as it was
abbrev pub Still : List Terms → OrderTurn → OrderHistory → Type 0
Still terms t before = (x : OrderRecord) → FitsIn terms before x → FitsIn terms (t ∷ before) x

-- each but one
abbrev pub StillBeside : List ℕ → List Terms → OrderTurn → OrderHistory → Type 0
StillBeside order terms t before = (x : OrderRecord) → FitsIn terms before x → bytes_eq order x.new.order ≡ false
    → FitsIn terms (t ∷ before) x

-- ---- members

pub each-find : {A : Type 0} (P : A → Type 0) (p : A → Bool) (xs : List A) (x : A) → Each P xs → find p xs ≡ Some x
    → P x
each-find P p [] x each e = absurd (cc)
each-find P p (y ∷ ys) x each e = by_test (p y) e (λ f. each-find P p ys x each.1 f)
  where
    by_test : (b : Bool) → (if b then Some y else find p ys) ≡ Some x → (find p ys ≡ Some x → P x) → P x
    by_test true e later = subst P (same_some y x e) each.0
    by_test false e later = later e

-- the record of a new order that is found
pub record-of : (terms : List Terms) (h : OrderHistory) (k : List ℕ) (entries : List Entry) (new : Entry)
    → Each (HasRecord terms h) (news entries) → new_of k entries ≡ Some new → HasRecord terms h new
record-of terms h k [] new each e = absurd (cc)
record-of terms h k (y ∷ ys) new each e =
    by_new (is_new_order y.message) (bytes_eq y.order k) each e (λ rest f. record-of terms h k ys new rest f)
  where
    by_new : (n b : Bool) → Each (HasRecord terms h) (if n then y ∷ news ys else news ys)
        → (if b && n then Some y else new_of k ys) ≡ Some new
        → (Each (HasRecord terms h) (news ys) → new_of k ys ≡ Some new → HasRecord terms h new) → HasRecord terms h new
    by_new true true each e later = subst (HasRecord terms h) (same_some y new e) each.0
    by_new true false each e later = later each.1 e
    by_new false true each e later = later each e
    by_new false false each e later = later each e

-- ---- more reports and turns

pub Keeps-more : (reports limit reports' limit' : ℕ) (o : OrderRecord) → reports ≤ reports' → limit ≤ limit'
    → Keeps reports limit o → Keeps reports' limit' o
Keeps-more reports limit reports' limit' o more more' k = record {
  sound = k.sound;
  apart = k.apart;
  current = k.current;
  tokens_apart = k.tokens_apart;
  few = k.few;
  first = k.first;
  over_replace = k.over_replace;
  over_cancel = k.over_cancel;
  left = k.left;
  idle = k.idle;
  rejected = k.rejected;
  none_waiting = k.none_waiting;
  none_closed = k.none_closed;
  small = omega (arith, k.small);
  numbered = AreNumbered-more reports reports' o.trades more k.numbered;
}

pub Of-used : (P : List ℕ → Type 0) (Q : Entry → Type 0) (R S : List ℕ → Type 0) (o : OrderRecord)
    → ((id : List ℕ) → R id → S id) → Of P Q R o → Of P Q S o
Of-used P Q R S o more k = record {
  front = k.front;
  live = k.live;
  replaces = Each-map _ _ o.replaces (λ q holds.
      (holds.0, holds.1, more (Rattle.fix_fields.specs.Field.text 11 q.message) holds.2)) k.replaces;
  cancel = λ c e. (
    (k.cancel c e).0,
    (k.cancel c e).1,
    more (Rattle.fix_fields.specs.Field.text 11 c.request.message)
        (k.cancel c e).2,
  );
  id = more o.id k.id;
}

-- an order that a turn doesn't change
pub quiet-Fits : (terms : List Terms) (entries : List Entry) (n n' : ℕ) (sent sent' : List Message)
    (messages messages' : List Outbound) (asked asked' : List Asked) (reports reports' limit limit' : ℕ)
    (o : OrderRecord)
    → Fits terms entries n sent messages asked reports limit o → n ≤ n'
    → Reads sent' o → ((id : List ℕ) → is_used id sent ≡ true → is_used id sent' ≡ true)
    → life (token_of o.new) (character 54 o.new.message) messages'
    ≡ life (token_of o.new) (character 54 o.new.message) messages
    → price_after o.new entries messages' ≡ price_after o.new entries messages
    → own o.new.order asked' ≡ own o.new.order asked → reports ≤ reports' → limit ≤ limit'
    → Fits terms entries n' sent' messages' asked' reports' limit' o
quiet-Fits terms entries n n' sent sent' messages messages' asked asked' reports reports' limit limit' o f more_orders
    reads used same_life same_price same_asked more more' = record {
      reads = reads;
      lives = same_life ∙ f.lives;
      priced = same_price ∙ f.priced;
      asked_so = same_asked ∙ f.asked_so;
      keeps = Keeps-more reports limit reports' limit' o more more' f.keeps;
      holds = Of-used (IsHome terms entries o.new) (IsFound entries o.new) (IsUsed sent) (IsUsed sent') o used f.holds;
      known = f.known;
      is_new = f.is_new;
      number = f.number;
      order_is = f.order_is;
      is_numbered = omega (arith, f.is_numbered);
    }

-- ---- an order after a turn is true to the market

pub true-of : (terms : List Terms) (t : OrderTurn) (before : OrderHistory) (e : Entry)
    (r : HasRecord terms (t ∷ before) e) → (t.client ≡ e.client
    → ReadsWell e.order e.message (old_ids e.client (accepted terms (t ∷ before))) (issued e.client before) t.bodies)
    → IsTrueToMarket terms t before e
true-of terms t before e r well = subst (IsTrueToMarket terms t before) r.same (record {
  agree = agree-so terms (accepted terms (t ∷ before)) (orders_numbered (t ∷ before))
      (issued r.order.new.client (t ∷ before)) (handled (port_of terms r.order.new) (t ∷ before))
      (outstanding terms (port_of terms r.order.new) (t ∷ before)) (reports_in (t ∷ before))
      (1_000_000 * length (t ∷ before)) r.order r.fits;
  well = subst (λ (x : Entry). t.client ≡ x.client
      → ReadsWell x.order x.message (old_ids x.client (accepted terms (t ∷ before))) (issued x.client before) t.bodies)
      (sym r.same) well;
  pending = pending-of terms (accepted terms (t ∷ before)) (orders_numbered (t ∷ before))
      (issued r.order.new.client (t ∷ before)) (handled (port_of terms r.order.new) (t ∷ before))
      (outstanding terms (port_of terms r.order.new) (t ∷ before)) (reports_in (t ∷ before))
      (1_000_000 * length (t ∷ before)) r.order r.fits;
})
