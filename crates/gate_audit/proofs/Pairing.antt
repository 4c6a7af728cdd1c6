-- Of the history of a run, the pairs by batches and messages are those of the accepted new orders, and both accounts of
-- each agree.
use Rattle.std.proofs.Common.{◌≡◌, ◌<◌, ◌≤◌, ◌+◌, ◌-◌, ◌^◌, ℕ, suc, zero, Bool, true, false, not, List, [], ◌∷◌}
use Rattle.std.proofs.Common.{Option, Some, map, reverse, length, get_or, refl, sym, ap, ◌∙◌, arith, eqb-true, eq-eqb}
use Rattle.std.specs.Prelude.{◌==◌, filter, if◌then◌else◌, option_map, unwrap_or}
use Rattle.std.specs.List.{All}
use Rattle.std.proofs.lemmas.List.Elements.{All-get_or}
use Rattle.std.proofs.lemmas.List.Sums.{count_by-le-length}
use Rattle.std.proofs.lemmas.Bool.Decides.{nat_tests}
use Rattle.order_accounts.specs.ouch_codec.declared.outbound.Outbound.{Outbound}
use Rattle.gate_law.specs.fix_fields.Field.{Message, character, text}
use Rattle.order_law.specs.Life.{Life, account_of, is_closed, life}
use Rattle.order_law.specs.Reading.{Reading, account_read, reading}
use Rattle.order_law.specs.History as orders
use Rattle.order_law.specs.History.{Entry, Terms, accepted, life_of, new_of, orders_numbered, terms_of, token_of}
use Rattle.order_law.specs.Headline.{Agree, Each, life_in}
use Rattle.gate_law.specs.Settings.{ClientSettings, Settings, port_of, terms}
use Rattle.gate_law.specs.Events.{History}
use Rattle.gate_law.specs.After.{lists_after, is_within_day, lists, most_events, order_turns}
use Rattle.gate_law.specs.Holds.{Holds, told_by_batches}
use Rattle.gate_law.proofs.Counted.{turns-few}
use Rattle.gate_law.proofs.Links.{EndsAll}
use Rattle.gate_core.specs.gate_settings.Kept.{IsOnPort}
use Rattle.gate_audit.specs.Read.{AgreesIn, for_clients, accepted_new_orders}
use Rattle.gate_audit.specs.Pairs.{AreByOrder, OpenedOrder, Pair, accepted_pair, accepted_pairs, accepted_pairs_of}
use Rattle.gate_audit.specs.Pairs.{handled_for, opened_orders, orders_of, pair_in, paired, pairs, pairs_of}
use Rattle.gate_audit.specs.Pairs.{said_to_clients, same_account}
use Rattle.gate_audit.proofs.Agreeing.{run-agrees}
use Rattle.gate_audit.proofs.Calling.{has-of, is-near}
use Rattle.gate_audit.proofs.Entries.{IsFound, all-by-order, all-found}
use Rattle.gate_audit.proofs.FirstTokens.{headline-told, started}
use Rattle.gate_audit.proofs.Following.{handled-again}
use Rattle.gate_audit.proofs.Lists.{map-each, map-map, map-reverse}
use Rattle.gate_audit.proofs.OwnOrders.{orders-started}
use Rattle.gate_audit.proofs.Said.{said-same}

-- ---- so many turns

turns-most : (s : Settings) (h : History) → length (order_turns s h) ≤ 2 ^ 48
turns-most s [] = omega arith
turns-most s (t ∷ before) = by_limit (is_within_day before) refl (turns-few s (t ∷ before)) (turns-most s before)
  where
    by_limit : (w : Bool) → is_within_day before ≡ w
        → length (if w then lists_after s t.event t.batch (lists s before) else lists s before).turns ≤ suc
        (length before) → length (order_turns s before) ≤ 2 ^ 48
        → length (if w then lists_after s t.event t.batch (lists s before) else lists s before).turns ≤ 2 ^ 48
    by_limit true within few earlier = (let near = is-near most_events (length before) within in
        omega (arith, near, few))
    by_limit false past few earlier = earlier

few-numbered : (s : Settings) (h : History) → orders_numbered (order_turns s h) < 10 ^ 64
few-numbered s h =
    let few : orders_numbered (order_turns s h) ≤ length (order_turns s h) = count_by-le-length _ (order_turns s h) in
    let most = turns-most s h in
    let big : 2 ^ 48 < 10 ^ 64 = omega arith in omega (arith, few, most, big)

-- ---- the port of a client

pub terms-at : (clients : List ClientSettings) (i : ℕ) (d : ClientSettings) → i < length clients
    → terms_of (map (λ (c : ClientSettings). c.terms) clients) (i + 1) ≡ (get_or clients i d).terms
terms-at [] i d inside = absurd (omega (arith, inside))
terms-at (c ∷ clients) zero d inside = refl
terms-at (c ∷ clients) (suc i) d inside =
    let not_first : (suc i + 1 == 1) ≡ false = grind (arith, nat_tests) in
    let one_less : suc i + 1 - 1 ≡ i + 1 = omega arith in
    rw (not_first, one_less) (terms-at clients i d (omega (arith, inside)))

-- any client
some_client : ClientSettings
some_client = record {
  comp = [];
  terms =
      record { port = 0; capacity = 0; standing = record { firm = []; customer = 0 } };
}

pub on-port : (s : Settings) → All (IsOnPort (length s.ports)) s.clients → (c : ℕ) → 1 ≤ c → c ≤ length s.clients
    → (1 ≤ port_of s c) × (port_of s c ≤ length s.ports)
on-port s all c some known =
    let again : c - 1 + 1 ≡ c = omega (arith, some) in
    let is : port_of s c ≡ (get_or s.clients (c - 1) some_client).terms.port = ap (port_of s) (sym again)
    ∙ ap (λ (t : Terms). t.port) (terms-at s.clients (c - 1) some_client (omega (arith, some, known))) in
    let on = All-get_or (IsOnPort (length s.ports)) s.clients (c - 1) some_client (omega (arith, some, known)) all in
    (rw is on.0, rw is on.1)

-- ---- one order

own-answer : (b : Bool) → (if b then b else not b) ≡ true
own-answer true = refl
own-answer false = refl

same-accounts : (x : Reading) (l : Life) → Agree x l → same_account (account_read x) (account_of l) ≡ true
same-accounts x l a =
    rw (
      eq-eqb x.side l.side a.side,
      eq-eqb x.unfilled l.unfilled a.unfilled,
      eq-eqb x.executed l.executed a.executed,
      eq-eqb x.cancelled l.cancelled a.cancelled,
      eq-eqb x.value l.value a.value,
      a.is_closed,
    )
    (own-answer (is_closed l.stage))

module _ (s : Settings) (h : History) (c : ℕ) where
  abbrev T : orders.OrderHistory
  T = order_turns s h

  abbrev A : List Entry
  A = accepted (terms s) T

  abbrev f : OpenedOrder → Pair
  f = pair_in (told_by_batches c h) (handled_for s h c)

  -- from its first token on its life is the law's
  first-life : (e : Entry) (ms : List Outbound) → new_of e.order A ≡ Some e
      → life (token_of e) (character 54 e.message) ms ≡ life_of e.order A ms
  first-life e ms found =
      ap (λ (x : Option Entry). life (unwrap_or (option_map token_of x) [])
      (unwrap_or (option_map (λ (new : Entry). character 54 new.message) x) 0) ms) (sym found)

  one-pair : (e : Entry) → told_by_batches c h ≡ orders.issued c T → handled_for s h c ≡ orders.handled (port_of s c) T
      → (e.client == c) ≡ true → IsFound A (orders_numbered T) e → AgreesIn s h e → f (started e) ≡ accepted_pair s h e
  one-pair e told handled is_c found agrees =
      let sent : List Message = orders.issued e.client T in
      let ms : List Outbound = orders.handled (port_of s e.client) T in
      let its_client : c ≡ e.client = sym (eqb-true e.client c is_c) in
      ap (λ (rs : List Message). pair_in rs (handled_for s h c) (started e)) told
      ∙ ap (λ (m : List Outbound). pair_in (orders.issued c T) m (started e)) handled
      ∙ ap (λ (k : ℕ). pair_in (orders.issued k T) (orders.handled (port_of s k) T) (started e)) its_client
      ∙ ap (λ (l : Life). paired e.client (text 11 e.message) (account_read (reading e.order sent)) (account_of l))
      (first-life e ms found.found)
      ∙ ap (λ (b : Bool). record {
        client = e.client;
        id = text 11 e.message;
        fix = account_read (reading e.order sent);
        ouch = account_of (life_in (terms s) T e);
        agree = b;
      }) (same-accounts (reading e.order sent) (life_in (terms s) T e) agrees)

  own-pairs : told_by_batches c h ≡ orders.issued c T → handled_for s h c ≡ orders.handled (port_of s c) T
      → (es : List Entry) → Each (IsFound A (orders_numbered T)) es → Each (AgreesIn s h) es
      → Each (λ (e : Entry). f (started e) ≡ accepted_pair s h e) (filter (λ (e : Entry). e.client == c) es)
  own-pairs told handled [] found agrees = tt
  own-pairs told handled (e ∷ es) found agrees =
      by_client (e.client == c) refl (own-pairs told handled es found.1 agrees.1)
    where
      by_client : (b : Bool) → (e.client == c) ≡ b
          → Each (λ (e : Entry). f (started e) ≡ accepted_pair s h e) (filter (λ (e : Entry). e.client == c) es)
          → Each (λ (e : Entry). f (started e) ≡ accepted_pair s h e) (filter (λ (e : Entry). e.client == c) (e ∷ es))
      by_client true is_c rest = rw is_c (one-pair e told handled is_c found.0 agrees.0, rest)
      by_client false is_c rest = rw is_c rest

-- ---- all of them

-- the orders that its reports open are its accepted new orders
pub orders-opened : (s : Settings) (h : History) → Holds s h → (c : ℕ)
    → orders_of c (opened_orders (said_to_clients h))
    ≡ map started (filter (λ (e : Entry). e.client == c) (accepted_new_orders s h))
orders-opened s h holds c =
    ap (λ all_said. orders_of c (opened_orders all_said)) (said-same s h holds.run)
    ∙ ap (orders_of c) (headline-told (terms s) (order_turns s h) holds.orders).same
    ∙ orders-started c (accepted_new_orders s h)

client-pairs : EndsAll → (s : Settings) (h : History) → Holds s h → All (IsOnPort (length s.ports)) s.clients → (c : ℕ)
    → 1 ≤ c → c ≤ length s.clients → pairs_of s h c ≡ accepted_pairs_of s h c
client-pairs ends s h holds all c some known =
    let turns = order_turns s h in
    let on = on-port s all c some known in
    let handled : handled_for s h c ≡ orders.handled (port_of s c) turns =
    sym (handled-again ends s (port_of s c) (has-of (port_of s c) (length s.ports) on.0 on.1) h holds.run) in
    let own : List Entry = filter (λ (e : Entry). e.client == c) (accepted_new_orders s h) in
    let opens : orders_of c (opened_orders (said_to_clients h)) ≡ map started own = orders-opened s h holds c in
    let each = own-pairs s h c (holds.reads c) handled (accepted_new_orders s h)
    (all-found (terms s) turns (few-numbered s h)) (run-agrees s h holds) in
    let pair : OpenedOrder → Pair = pair_in (told_by_batches c h) (handled_for s h c) in
    ap (λ os. map pair (reverse os)) opens
    ∙ ap (map pair) (sym (map-reverse started own))
    ∙ map-map pair started (reverse own)
    ∙ map-reverse (λ (e : Entry). pair (started e)) own
    ∙ ap reverse (map-each (λ (e : Entry). pair (started e)) (accepted_pair s h) own each)
    ∙ sym (map-reverse (accepted_pair s h) own)

for-known : {X : Type 0} (f g : ℕ → List X) (n : ℕ) → ((c : ℕ) → 1 ≤ c → c ≤ n → f c ≡ g c)
    → for_clients f n ≡ for_clients g n
for-known f g ℕ.zero same = refl
for-known f g (suc n) same = rw (
  for-known f g n (λ c some known. same c some (omega (arith, known))),
  same (suc n)
      (omega arith) (omega arith),
) refl

pub pairs-same : EndsAll → (s : Settings) (h : History) → All (IsOnPort (length s.ports)) s.clients → Holds s h
    → pairs s h ≡ accepted_pairs s h
pairs-same ends s h all holds = for-known (pairs_of s h) (accepted_pairs_of s h) (length s.clients)
    (client-pairs ends s h holds all)

pub orders-ascend : (s : Settings) (h : History) → AreByOrder (accepted_new_orders s h)
orders-ascend s h = all-by-order (terms s) (order_turns s h) (few-numbered s h)
