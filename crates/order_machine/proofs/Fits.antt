-- An order's record is as the lists of a history have it.
use Rattle.std.proofs.Common.{◌≡◌, ◌≢◌, ℕ, ◌+◌, ◌≤◌, Bool, true, false, List, [], ◌∷◌, refl, sym, ap, ◌∙◌, decimal}
use Rattle.std.proofs.Common.{bytes_eq, Option, Some, None}
use Rattle.std.specs.Prelude.{◌&&◌, ◌||◌, ◌++◌, map, not, if◌then◌else◌, filter}
use Rattle.std.specs.List.{filter_map}
use Rattle.tokens.specs.TokenText.{token_text}
use Rattle.order_law.specs.ouch_codec.declared.outbound.Outbound.{Outbound}
use Rattle.fix_fields.specs.Field.{Message, character, text}
use Rattle.order_law.specs.Asks.{total_of}
use Rattle.order_law.specs.Life.{Life, is_closed, life}
use Rattle.order_law.specs.Reading.{Reading, is_refused_order, reading}
use Rattle.order_law.specs.Chain.{Chain, Request, is_used}
use Rattle.order_law.specs.History.{Asked, Entry, OrderHistory, Terms, accepted, answers, by_id, given_tokens, handled}
use Rattle.order_law.specs.History.{is_new_order, issued, life_of, new_of, pending_tokens, terms_of, token_of}
use Rattle.order_law.specs.History.{Said, asked_of, is_answered, is_replace_said, next_tokens, replacement_of}
use Rattle.order_law.specs.Verdicts.{is_replace}
use Rattle.order_law.specs.Lawful.{order_of_token}
use Rattle.order_law.specs.Told.{Shown, price_after, shown}
use Rattle.order_law.specs.Headline.{Each, old_ids}
use Rattle.order_machine.specs.OrderRecord.{Cancelling, OrderRecord, asked_as, chained, leaves, record_life, pending}
use Rattle.order_machine.specs.OrderRecord.{cancel_entry, read, replacements, request_of, shown_as}
use Rattle.order_machine.proofs.Lists.{Each-append, Each-map}
use Rattle.order_machine.proofs.AskedReplaces.{tokens-asked}
use Rattle.order_machine.proofs.Texts.{eq-is, eq-same}
use Rattle.order_machine.proofs.Due.{Reads}
use Rattle.order_machine.proofs.Leads.{AreNamed}
use Rattle.order_machine.proofs.Moves.{Keeps, Of, unanswered}

-- a token leads to the order on the port of its client, and to none on another
pub record IsHome (terms : List Terms) (entries : List Entry) (new : Entry) (token : List ℕ) : Type 0 where
  pub mine : order_of_token terms (terms_of terms new.client).port entries token ≡ Some new
  pub elsewhere : (port : ℕ) → port ≢ (terms_of terms new.client).port → order_of_token terms port entries token ≡ None
  pub number : ℕ
  pub is_text : token ≡ token_text number
  pub is_given : number ≤ given_tokens entries

-- a request is found by its id
abbrev pub IsFound : List Entry → Entry → Entry → Type 0
IsFound entries new q = by_id new.client (text 11 q.message) entries ≡ Some q

abbrev pub IsUsed : List Message → List ℕ → Type 0
IsUsed sent id = is_used id sent ≡ true

-- what is asked for one order
abbrev pub own : List ℕ → List Asked → List Asked
own order asked = filter (λ (a : Asked). bytes_eq a.order order) asked

-- what is asked for an order of one kind is among what is asked for it
asked-own : (kind : Said → Bool) (order : List ℕ) (asked : List Asked)
    → asked_of kind order asked ≡ asked_of kind order (own order asked)
asked-own kind order [] = refl
asked-own kind order (a ∷ asked) = by_test (bytes_eq a.order order) refl (asked-own kind order asked)
  where
    by_test : (b : Bool) → bytes_eq a.order order ≡ b
        → asked_of kind order asked ≡ asked_of kind order (own order asked)
        → (if b && kind a.said then a ∷ asked_of kind order asked else asked_of kind order asked)
        ≡ asked_of kind order (if b then a ∷ own order asked else own order asked)
    by_test true is e = rw is (ap (λ (xs : List Asked). if kind a.said then a ∷ xs else xs) e)
    by_test false is e = e

-- the replaces that are asked for an order are its pending ones
pub next-own : (terms : List Terms) (o : OrderRecord) (asked : List Asked) → own o.new.order asked ≡ asked_as terms o
    → next_tokens o.new.order asked ≡ replacements o.replaces
next-own terms o asked same =
    ap (filter_map (λ (a : Asked). replacement_of a.said)) (asked-own is_replace_said o.new.order asked)
    ∙ ap (next_tokens o.new.order) same
    ∙ tokens-asked terms o

pub record Fits (terms : List Terms) (entries : List Entry) (numbered : ℕ) (sent : List Message) (messages : List Outbound) (asked : List Asked) (reports limit : ℕ) (o : OrderRecord) : Type 0 where
  pub reads : Reads sent o
  pub lives : life (token_of o.new) (character 54 o.new.message) messages ≡ record_life o
  pub priced : price_after o.new entries messages ≡ o.price
  pub asked_so : own o.new.order asked ≡ asked_as terms o
  pub keeps : Keeps reports limit o
  pub holds : Of (IsHome terms entries o.new) (IsFound entries o.new) (IsUsed sent) o
  pub known : new_of o.new.order entries ≡ Some o.new
  pub is_new : is_new_order o.new.message ≡ true
  pub number : ℕ
  pub order_is : o.new.order ≡ decimal number
  pub is_numbered : number ≤ numbered

module _ (terms : List Terms) (entries : List Entry) (numbered : ℕ) (sent : List Message) (messages : List Outbound)
    (asked : List Asked) (reports limit : ℕ) (o : OrderRecord)
    (f : Fits terms entries numbered sent messages asked reports limit o) where
  pub life-of : life_of o.new.order entries messages ≡ record_life o
  life-of = rw f.known f.lives

  found-cancel : (c : Option Cancelling) → ((x : Cancelling) → c ≡ Some x → IsFound entries o.new x.request)
      → Each (IsFound entries o.new) (cancel_entry c)
  found-cancel None found = tt
  found-cancel (Some c) found = (found c refl, tt)

  replaces-found : Each (IsFound entries o.new) o.replaces
  replaces-found = Each-map _ (IsFound entries o.new) o.replaces (λ q holds. holds.1) f.holds.replaces

  -- each pending request is found by its id
  all-found : Each (IsFound entries o.new) (pending o)
  all-found = Each-append (IsFound entries o.new) o.replaces (cancel_entry o.cancel) replaces-found
      (found-cancel o.cancel (λ c e. (f.holds.cancel c e).1))

  pub named : AreNamed (old_ids o.new.client entries) (pending o)
  named = Each-map (IsFound entries o.new) (λ (q : Entry). text 41 q.message
      ≡ old_ids o.new.client entries (text 11 q.message)) (pending o) (λ q found. rw found refl) all-found

  pub pending-is : filter_map (λ (q : Request). by_id o.new.client q.id entries) (chained o).pending ≡ pending o
  pending-is = each-is (pending o) all-found
    where
      each-is : (qs : List Entry) → Each (IsFound entries o.new) qs
          → filter_map (λ (q : Request). by_id o.new.client q.id entries) (map request_of qs) ≡ qs
      each-is [] found = refl
      each-is (q ∷ qs) found = rw found.0 (ap (λ (xs : List Entry). q ∷ xs) (each-is qs found.1))

  pub tokens-are : pending_tokens o.new.client (chained o) entries ≡ replacements o.replaces
  tokens-are = each-token o.replaces o.cancel f.keeps.sound.replaces replaces-found f.keeps.sound.cancels
    where
      each-token : (rs : List Entry) (c : Option Cancelling) → Each (λ (q : Entry). is_replace q.message ≡ true) rs
          → Each (IsFound entries o.new) rs → ((x : Cancelling) → c ≡ Some x → is_replace x.request.message ≡ false)
          → pending_tokens o.new.client (record { current = o.id; pending = map request_of (rs ++ cancel_entry c) })
          entries ≡ replacements rs
      each-token [] None are found none = refl
      each-token [] (Some c) are found none = rw (none c refl) refl
      each-token (q ∷ rs) c are found none = rw (are.0, found.0)
          (ap (λ (ts : List (List ℕ)). token_of q ∷ ts) (each-token rs c are.1 found.1 none))

  -- the replaces that are asked for it ask for their tokens
  pub next-is : next_tokens o.new.order asked ≡ replacements o.replaces
  next-is = next-own terms o asked f.asked_so

-- ---- an order as it is shown

-- shown, of what is read from the lists
abbrev shown_by : Entry → Chain → Reading → Life → ℕ → Bool → List Entry → Shown
shown_by new y x l price refused requests = record {
  order = new.order;
  id = y.current;
  symbol = text 55 new.message;
  side = text 54 new.message;
  total = if is_closed l.stage then x.total else l.executed + Rattle.order_law.specs.Told.leaves_at l.stage
      (total_of new.message) l.unfilled;
  price = price;
  leaves = Rattle.order_law.specs.Told.leaves_at l.stage (total_of new.message) l.unfilled;
  executed = l.executed;
  value = l.value;
  stage = l.stage;
  is_refused = refused;
  pending = requests;
}

module _ (terms : List Terms) (before : OrderHistory) (numbered : ℕ) (asked : List Asked) (reports limit : ℕ)
    (o : OrderRecord)
    (f : Fits terms (accepted terms before) numbered (issued o.new.client before) (handled (terms_of terms o.new.client).port before) asked reports limit o) where
  shown-by : shown terms before o.new ≡ shown_by o.new (chained o) (read o) (record_life o) o.price o.is_refused
      (pending o)
  shown-by =
      ap (λ (y : Chain). shown_by o.new y (reading o.new.order (issued o.new.client before))
      (life_of o.new.order (accepted terms before) (handled (terms_of terms o.new.client).port before))
      (price_after o.new (accepted terms before) (handled (terms_of terms o.new.client).port before))
      (is_refused_order o.new.order (issued o.new.client before))
      (filter_map (λ (q : Request). by_id o.new.client q.id (accepted terms before)) y.pending)) f.reads.chained_so
      ∙ ap (λ (x : Reading). shown_by o.new (chained o) x
      (life_of o.new.order (accepted terms before) (handled (terms_of terms o.new.client).port before))
      (price_after o.new (accepted terms before) (handled (terms_of terms o.new.client).port before))
      (is_refused_order o.new.order (issued o.new.client before))
      (filter_map (λ (q : Request). by_id o.new.client q.id (accepted terms before)) (chained o).pending))
      f.reads.read_so
      ∙ ap (λ (l : Life). shown_by o.new (chained o) (read o) l
      (price_after o.new (accepted terms before) (handled (terms_of terms o.new.client).port before))
      (is_refused_order o.new.order (issued o.new.client before))
      (filter_map (λ (q : Request). by_id o.new.client q.id (accepted terms before)) (chained o).pending))
      (life-of terms (accepted terms before) numbered (issued o.new.client before)
      (handled (terms_of terms o.new.client).port before) asked reports limit o f)
      ∙ ap (λ (p : ℕ). shown_by o.new (chained o) (read o) (record_life o) p
      (is_refused_order o.new.order (issued o.new.client before))
      (filter_map (λ (q : Request). by_id o.new.client q.id (accepted terms before)) (chained o).pending)) f.priced
      ∙ ap (λ (r : Bool). shown_by o.new (chained o) (read o) (record_life o) o.price r
      (filter_map (λ (q : Request). by_id o.new.client q.id (accepted terms before)) (chained o).pending))
      f.reads.refused_so
      ∙ ap (λ (qs : List Entry). shown_by o.new (chained o) (read o) (record_life o) o.price o.is_refused qs)
      (pending-is terms (accepted terms before) numbered (issued o.new.client before)
      (handled (terms_of terms o.new.client).port before) asked reports limit o f)

  total-is : (if is_closed o.stage then o.total else o.executed + leaves o) ≡ o.total
  total-is = by_closed (is_closed o.stage) refl
    where
      by_closed : (b : Bool) → is_closed o.stage ≡ b → (if b then o.total else o.executed + leaves o) ≡ o.total
      by_closed true e = refl
      by_closed false e = sym (f.keeps.sound.total e)

  pub shown-is : shown terms before o.new ≡ shown_as o
  shown-is = shown-by ∙ ap (λ (n : ℕ). record (shown_as o) { total = n }) total-is

-- ---- what is asked, after a message

module _ (order : List ℕ) (entries : List Entry) (messages : List Outbound) (m : Outbound) (earlier : List Asked) where
  abbrev still : Asked → Bool
  still a = not (is_answered m earlier a || is_closed (life_of a.order entries messages).stage)

  abbrev next : List (List ℕ)
  next = next_tokens order earlier

  abbrev Goal : Asked → List Asked → Bool → Type 0
  Goal a asked c = own order (filter still (a ∷ asked)) ≡ (if c then [] else unanswered m next (own order (a ∷ asked)))

  -- of another order
  other-after : (a : Asked) (asked : List Asked) (c : Bool) → bytes_eq a.order order ≡ false
      → own order (filter still asked) ≡ (if c then [] else unanswered m next (own order asked)) → Goal a asked c
  other-after a asked c other e = by_still (still a) refl
    where
      by_still : (b : Bool) → still a ≡ b → Goal a asked c
      by_still true s = rw (s, other) e
      by_still false s = rw (s, other) e

  -- of the order itself
  same-after : (a : Asked) (asked : List Asked) (c : Bool) → is_closed (life_of order entries messages).stage ≡ c
      → a.order ≡ order → own order (filter still asked) ≡ (if c then [] else unanswered m next (own order asked))
      → Goal a asked c
  same-after a asked true is_c same e = let closed_one =
      ap (λ (k : List ℕ). is_closed (life_of k entries messages).stage) same ∙ is_c in
      by_answer (is_answered m earlier a) refl closed_one
    where
      by_answer : (b : Bool) → is_answered m earlier a ≡ b → is_closed (life_of a.order entries messages).stage ≡ true
          → Goal a asked true
      by_answer true s closed_one = rw s e
      by_answer false s closed_one = rw (s, closed_one) e
  same-after a asked false is_c same e =
      let open_one = ap (λ (k : List ℕ). is_closed (life_of k entries messages).stage) same ∙ is_c in
      let mine = ap (λ (k : List ℕ). bytes_eq k order) same ∙ eq-same order in
      by_answer (answers m next a.said) refl (ap (λ (k : List ℕ). answers m (next_tokens k earlier) a.said) same)
      open_one mine
    where
      by_answer : (b : Bool) → answers m next a.said ≡ b → is_answered m earlier a ≡ answers m next a.said
          → is_closed (life_of a.order entries messages).stage ≡ false → bytes_eq a.order order ≡ true
          → Goal a asked false
      by_answer true s answer open_one mine = let all = answer ∙ s in rw (all, mine, s) e
      by_answer false s answer open_one mine = let all = answer ∙ s in rw (all, open_one, mine, s) (ap (λ xs. a ∷ xs) e)

  pub own-after : (c : Bool) → is_closed (life_of order entries messages).stage ≡ c → (asked : List Asked)
      → own order (filter still asked) ≡ (if c then [] else unanswered m next (own order asked))
  own-after true is_c [] = refl
  own-after false is_c [] = refl
  own-after c is_c (a ∷ asked) = by_own (bytes_eq a.order order) refl (own-after c is_c asked)
    where
      by_own : (b : Bool) → bytes_eq a.order order ≡ b
          → own order (filter still asked) ≡ (if c then [] else unanswered m next (own order asked)) → Goal a asked c
      by_own true is_own e = same-after a asked c is_c (eq-is a.order order is_own) e
      by_own false is_own e = other-after a asked c is_own e
