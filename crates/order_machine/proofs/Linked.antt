-- The table of orders is as the lists of a history have it: whatever is looked up in it is what the lists say.
use Rattle.std.proofs.Common.{◌≡◌, ℕ, ◌+◌, ◌*◌, ◌≤◌, Bool, true, false, List, [], ◌∷◌, length, map, refl, sym, ap, ◌∙◌}
use Rattle.std.proofs.Common.{subst, arith, bytes_eq, Option, Some, None, Result, Ok, Err, eqb-true}
use Rattle.std.specs.Prelude.{◌&&◌, ◌==◌, not, if◌then◌else◌, is_some, filter, option_and_then, option_map}
use Rattle.std.specs.List.{count_by, find}
use Rattle.fix_fields.specs.Field.{Message, text}
use Rattle.order_law.specs.Asks.{capacity_of}
use Rattle.order_law.specs.ouch_codec.declared.outbound.Outbound.{Outbound}
use Rattle.order_law.specs.ouch_codec.declared.outbound.Outbound.TheVariants as market
use Rattle.order_law.specs.ouch_codec.declared.refusal.DecodeRefusal.{DecodeRefusal}
use Rattle.order_law.specs.Life.{is_closed}
use Rattle.order_law.specs.Reading.{Reading, reading}
use Rattle.order_law.specs.Chain.{Chain, chain, goes_by, is_used, named, orders}
use Rattle.order_law.specs.Verdicts.{Named, Port, first_row, is_replace, open_orders, rows_of_new}
use Rattle.order_law.specs.Verdicts.{rows_of_request}
use Rattle.order_law.specs.History.{Entry, OrderHistory, Terms, accepted, given_tokens, handled, is_new_order, issued}
use Rattle.order_law.specs.History.{life_of, new_of, orders_numbered, pending_tokens, standing_of, terms_of, token_of}
use Rattle.order_law.specs.History.{verdict}
use Rattle.order_law.specs.Lawful.{has_token, is_lawful_on, judged, judged_by, judged_on, judgement, order_of_token}
use Rattle.order_law.specs.Lawful.{row_holds, token_fault}
use Rattle.order_law.specs.Told.{reports_in}
use Rattle.order_law.specs.Headline.{Each}
use Rattle.order_machine.specs.OrderRecord.{OrderRecord, chained, record_life, read, replacements}
use Rattle.order_machine.specs.Told.{IsTold}
use Rattle.order_machine.specs.Table.{GivenToken, TableState, record_by_id, by_number, record_by_token, has_number}
use Rattle.order_machine.specs.Table.{has_used, is_named, is_open_of, is_replacement_of, is_token, named_as}
use Rattle.order_machine.specs.Table.{open_count, token_given}
use Rattle.order_machine.specs.Machine.{payload_fault, is_lawful_in, verdict_in}
use Rattle.order_machine.proofs.Executed.{count-more}
use Rattle.order_machine.proofs.Finding.{Each-found, and-turned, count-each, find-each, find-filter, find-map}
use Rattle.order_machine.proofs.Finding.{find-same, length-map, map-filter, map-map}
use Rattle.order_machine.proofs.Fits.{life-of, tokens-are}
use Rattle.order_machine.proofs.Holds.{FitsIn, Holds, news, port_of}
use Rattle.order_machine.proofs.Placed.{AreDistinct}

-- an accepted replace has a token
abbrev pub HasOwnToken : Entry → Type 0
HasOwnToken e = is_replace e.message ≡ true → is_some e.token ≡ true

pub record IsTable (terms : List Terms) (h : OrderHistory) (s : TableState) : Type 0 where
  pub same_terms : s.terms ≡ terms
  pub held : Holds terms h
  pub listed : map (λ (o : OrderRecord). o.new) s.orders ≡ news (accepted terms h)
  pub fit : Each (FitsIn terms h) s.orders
  pub distinct : AreDistinct (news (accepted terms h))
  pub tokens : s.tokens ≡ map (token_given terms) (filter (λ (e : Entry). is_some e.token) (accepted terms h))
  pub replaces : Each HasOwnToken (accepted terms h)
  pub used : (c : ℕ) (id : List ℕ) → has_used s.used c id ≡ is_used id (issued c h)
  pub order_ids : s.order_ids ≡ orders_numbered h
  pub exec_ids : s.exec_ids ≡ reports_in h
  pub few : reports_in h ≤ 2 * length h
  pub is_told : IsTold terms h

-- ---- counts

given-length : (entries : List Entry) → given_tokens entries ≡ length (filter (λ (e : Entry). is_some e.token) entries)
given-length [] = refl
given-length (e ∷ entries) = (let more = count-more (λ (x : Entry). is_some x.token) e entries in more)
    ∙ record_by_token (is_some e.token) (given-length entries)
  where
    record_by_token : (b : Bool) → given_tokens entries ≡ length (filter (λ (x : Entry). is_some x.token) entries)
        → (if b then 1 else 0) + given_tokens entries
        ≡ length (if b then e ∷ filter (λ (x : Entry). is_some x.token) entries else filter
        (λ (x : Entry). is_some x.token) entries)
    record_by_token true e = omega (arith, e)
    record_by_token false e = omega (arith, e)

-- each replace of an order has a token of its own
replaces-given : (terms : List Terms) (order : List ℕ) (entries : List Entry) → Each HasOwnToken entries
    → count_by (is_replacement_of order) (map (token_given terms) (filter (λ (e : Entry). is_some e.token) entries))
    ≡ count_by (λ (e : Entry). bytes_eq e.order order && is_replace e.message) entries
replaces-given terms order [] each = refl
replaces-given terms order (e ∷ entries) each =
    record_by_token (is_some e.token) refl (replaces-given terms order entries each.1)
    ∙ sym (count-more (λ (x : Entry). bytes_eq x.order order && is_replace x.message) e entries)
  where
    none : (r : Bool) → is_replace e.message ≡ r → is_some e.token ≡ false → (bytes_eq e.order order && r) ≡ false
    none true is_r off = let on : is_some e.token ≡ true = each.0 is_r in absurd (cc)
    none false is_r off = by_order (bytes_eq e.order order)
      where
        by_order : (b : Bool) → (b && false) ≡ false
        by_order true = refl
        by_order false = refl

    record_by_token : (b : Bool) → is_some e.token ≡ b
        → count_by (is_replacement_of order) (map (token_given terms) (filter (λ (x : Entry). is_some x.token) entries))
        ≡ count_by (λ (x : Entry). bytes_eq x.order order && is_replace x.message) entries
        → count_by (is_replacement_of order) (map (token_given terms)
        (if b then e ∷ filter (λ (x : Entry). is_some x.token) entries else filter
        (λ (x : Entry). is_some x.token) entries))
        ≡ (if bytes_eq e.order order && is_replace e.message then 1 else 0) + count_by
        (λ (x : Entry). bytes_eq x.order order && is_replace x.message) entries
    record_by_token true on rest = count-more (is_replacement_of order) (token_given terms e)
        (map (token_given terms) (filter (λ (x : Entry). is_some x.token) entries))
        ∙ ap (λ n. (if bytes_eq e.order order && is_replace e.message then 1 else 0) + n) rest
    record_by_token false off rest = let no = none (is_replace e.message) refl off in rw no (omega (arith, rest))

module _ (terms : List Terms) (h : OrderHistory) (s : TableState) (t : IsTable terms h s) where
  abbrev A : List Entry
  A = accepted terms h

  pub given-tokens : length s.tokens ≡ given_tokens A
  given-tokens = ap length t.tokens ∙ length-map (token_given terms) (filter (λ (e : Entry). is_some e.token) A)
      ∙ sym (given-length A)

  pub replaces-counted : (order : List ℕ) → count_by (is_replacement_of order) s.tokens
      ≡ count_by (λ (e : Entry). bytes_eq e.order order && is_replace e.message) A
  replaces-counted order = ap (count_by (is_replacement_of order)) t.tokens ∙ replaces-given terms order A t.replaces

  -- ---- by OrderID and by token

  abbrev new_in : OrderRecord → Entry
  new_in o = o.new

  pub number-leads : (order : List ℕ) → option_map new_in (by_number s order) ≡ new_of order A
  number-leads order =
      sym (find-map new_in (λ (e : Entry). bytes_eq e.order order) s.orders)
      ∙ ap (find (λ (e : Entry). bytes_eq e.order order)) t.listed
      ∙ find-filter (λ (e : Entry). bytes_eq e.order order) (λ (e : Entry). is_new_order e.message) A
      ∙ find-same (λ (e : Entry). is_new_order e.message && bytes_eq e.order order)
      (λ (e : Entry). bytes_eq e.order order && is_new_order e.message) A
      (λ e. and-turned (is_new_order e.message) (bytes_eq e.order order))

  found-token : (port : ℕ) (token : List ℕ)
      → find (is_token port token) s.tokens ≡ option_map (token_given terms) (find (has_token terms port token) A)
  found-token port token =
      ap (find (is_token port token)) t.tokens
      ∙ find-map (token_given terms) (is_token port token) (filter (λ (e : Entry). is_some e.token) A)
      ∙ ap (option_map (token_given terms)) (find-filter (λ (e : Entry). is_token port token (token_given terms e))
      (λ (e : Entry). is_some e.token) A)

  pub token-leads : (port : ℕ) (token : List ℕ)
      → option_map new_in (record_by_token s port token) ≡ order_of_token terms port A token
  token-leads port token =
      ap (λ (x : Option GivenToken). option_map new_in (option_and_then (λ (g : GivenToken). by_number s g.order) x))
      (found-token port token)
      ∙ by_found (find (has_token terms port token) A) refl
    where
      by_found : (x : Option Entry) → find (has_token terms port token) A ≡ x
          → option_map new_in (option_and_then (λ (g : GivenToken). by_number s g.order)
          (option_map (token_given terms) x)) ≡ order_of_token terms port A token
      by_found None e = rw e refl
      by_found (Some x) e = rw e (number-leads x.order)

  -- ---- by ClOrdID

  chained-so : (c : ℕ) (o : OrderRecord) → FitsIn terms h o → o.new.client ≡ c
      → chain o.new.order (issued c h) ≡ chained o
  chained-so c o f mine = subst (λ (d : ℕ). chain o.new.order (issued d h) ≡ chained o) mine f.reads.chained_so

  read-so : (c : ℕ) (o : OrderRecord) → FitsIn terms h o → o.new.client ≡ c → reading o.new.order (issued c h) ≡ read o
  read-so c o f mine = subst (λ (d : ℕ). reading o.new.order (issued d h) ≡ read o) mine f.reads.read_so

  -- the client's orders, in the order in which the lists have them
  own-orders : (c : ℕ) → orders (issued c h)
      ≡ map (λ (o : OrderRecord). o.new.order) (filter (λ (o : OrderRecord). o.new.client == c) s.orders)
  own-orders c =
      t.held.listed c
      ∙ ap (λ (es : List Entry). map (λ (e : Entry). e.order) (filter (λ (e : Entry). e.client == c) es)) (sym t.listed)
      ∙ ap (map (λ (e : Entry). e.order)) (map-filter new_in (λ (e : Entry). e.client == c) s.orders)
      ∙ map-map new_in (λ (e : Entry). e.order) (filter (λ (o : OrderRecord). o.new.client == c) s.orders)

  if-mine : (c : ℕ) (o : OrderRecord) (p q : Bool) → (o.new.client ≡ c → p ≡ q)
      → (o.new.client == c && p) ≡ (o.new.client == c && q)
  if-mine c o p q same = by_client (o.new.client == c) refl
    where
      by_client : (b : Bool) → (o.new.client == c) ≡ b → (b && p) ≡ (b && q)
      by_client true e = same (eqb-true o.new.client c e)
      by_client false e = refl

  pub id-leads : (c : ℕ) (id : List ℕ) → named id (issued c h)
      ≡ option_map (λ (o : OrderRecord). o.new.order) (record_by_id s c id)
  id-leads c id =
      ap (find (λ order. goes_by id (chain order (issued c h)))) (own-orders c)
      ∙ find-map (λ (o : OrderRecord). o.new.order) (λ order. goes_by id (chain order (issued c h)))
      (filter (λ (o : OrderRecord). o.new.client == c) s.orders)
      ∙ ap (option_map (λ (o : OrderRecord). o.new.order))
      (find-filter (λ (o : OrderRecord). goes_by id (chain o.new.order (issued c h)))
      (λ (o : OrderRecord). o.new.client == c) s.orders
      ∙ find-each (FitsIn terms h) (λ (o : OrderRecord). o.new.client == c
      && goes_by id (chain o.new.order (issued c h))) (is_named c id) s.orders
      (λ o f. if-mine c o (goes_by id (chain o.new.order (issued c h))) (goes_by id (chained o))
      (λ mine. ap (goes_by id) (chained-so c o f mine))) t.fit)

  filter-filter : (p q : OrderRecord → Bool) (xs : List OrderRecord)
      → filter p (filter q xs) ≡ filter (λ (x : OrderRecord). q x && p x) xs
  filter-filter p q [] = refl
  filter-filter p q (x ∷ xs) = by_test (q x) (filter-filter p q xs)
    where
      by_test : (b : Bool) → filter p (filter q xs) ≡ filter (λ (y : OrderRecord). q y && p y) xs
          → filter p (if b then x ∷ filter q xs else filter q xs)
          ≡ (if b && p x then x ∷ filter (λ (y : OrderRecord). q y && p y) xs else filter
          (λ (y : OrderRecord). q y && p y) xs)
      by_test true e = by_inner (p x)
        where
          by_inner : (c : Bool) → (if c then x ∷ filter p (filter q xs) else filter p (filter q xs))
              ≡ (if c then x ∷ filter (λ (y : OrderRecord). q y && p y) xs else filter
              (λ (y : OrderRecord). q y && p y) xs)
          by_inner true = ap (λ ys. x ∷ ys) e
          by_inner false = e
      by_test false e = e

  pub open-counted : (c : ℕ) → open_count s.orders c ≡ open_orders (issued c h)
  open-counted c = sym (
      ap (λ ks. length (filter (λ order. not (reading order (issued c h)).is_closed) ks)) (own-orders c)
      ∙ ap length (map-filter (λ (o : OrderRecord). o.new.order) (λ order. not (reading order (issued c h)).is_closed)
      (filter (λ (o : OrderRecord). o.new.client == c) s.orders))
      ∙ length-map (λ (o : OrderRecord). o.new.order)
      (filter (λ (o : OrderRecord). not (reading o.new.order (issued c h)).is_closed)
      (filter (λ (o : OrderRecord). o.new.client == c) s.orders))
      ∙ ap length (filter-filter (λ (o : OrderRecord). not (reading o.new.order (issued c h)).is_closed)
      (λ (o : OrderRecord). o.new.client == c) s.orders)
      ∙ count-each (FitsIn terms h) (λ (o : OrderRecord). o.new.client == c
      && not (reading o.new.order (issued c h)).is_closed) (is_open_of c) s.orders
      (λ o f. if-mine c o (not (reading o.new.order (issued c h)).is_closed) (not (is_closed o.stage))
      (λ mine. ap (λ (x : Reading). not x.is_closed) (read-so c o f mine))) t.fit)

  -- ---- the verdict of a client's message

  -- what stands of an order that is named
  pub standing-same : (c : ℕ) (o : OrderRecord) → FitsIn terms h o → o.new.client ≡ c
      → standing_of terms (issued c h) A o.new.order ≡ Some (named_as s o)
  standing-same c o f mine =
      rw f.known (ap Some (
      ap (λ (ts : List Terms). named_by (capacity_of (terms_of ts o.new.client).capacity o.new.message)
      (reading o.new.order (issued c h)) (chain o.new.order (issued c h))
      (count_by (λ (e : Entry). bytes_eq e.order o.new.order && is_replace e.message) A)) (sym t.same_terms)
      ∙ ap (λ (x : Reading). named_by (capacity_of (terms_of s.terms o.new.client).capacity o.new.message) x
      (chain o.new.order (issued c h)) (count_by
      (λ (e : Entry). bytes_eq e.order o.new.order && is_replace e.message) A)) (read-so c o f mine)
      ∙ ap (λ (x : Chain). named_by (capacity_of (terms_of s.terms o.new.client).capacity o.new.message) (read o) x
      (count_by (λ (e : Entry). bytes_eq e.order o.new.order && is_replace e.message) A)) (chained-so c o f mine)
      ∙ ap (named_by (capacity_of (terms_of s.terms o.new.client).capacity o.new.message) (read o) (chained o))
      (sym (replaces-counted o.new.order))))
    where
      named_by : ℕ → Reading → Chain → ℕ → Named
      named_by capacity x y n = record {
        side = text 54 o.new.message;
        symbol = text 55 o.new.message;
        capacity =
            capacity;
        reading = x;
        chain = y;
        replaces = n;
      }

  pub named-client : (c : ℕ) (id : List ℕ) (o : OrderRecord) → record_by_id s c id ≡ Some o → o.new.client ≡ c
  named-client c id o e = by_test (o.new.client == c) refl
      (Rattle.order_machine.proofs.Lists.found-passes (is_named c id) s.orders o e)
    where
      by_test : (b : Bool) → (o.new.client == c) ≡ b → (b && goes_by id (chained o)) ≡ true → o.new.client ≡ c
      by_test true mine passes = eqb-true o.new.client c mine
      by_test false mine passes = absurd (cc)

  pub named-so : (c : ℕ) (id : List ℕ) → option_and_then (standing_of terms (issued c h) A) (named id (issued c h))
      ≡ option_map (named_as s) (record_by_id s c id)
  named-so c id = ap (option_and_then (standing_of terms (issued c h) A)) (id-leads c id)
      ∙ by_found (record_by_id s c id) refl
    where
      by_found : (x : Option OrderRecord) → record_by_id s c id ≡ x
          → option_and_then (standing_of terms (issued c h) A) (option_map (λ (o : OrderRecord). o.new.order) x)
          ≡ option_map (named_as s) x
      by_found None e = refl
      by_found (Some o) e = standing-same c o (Each-found (FitsIn terms h) (is_named c id) s.orders o t.fit e)
          (named-client c id o e)

  pub verdict-same : (c : ℕ) (m : Message) (port : Port) → verdict_in s c port m ≡ verdict terms (issued c h) A port m
  verdict-same c m port = by_new (is_new_order m)
    where
      by_new : (b : Bool)
          → (if b then first_row (rows_of_new (has_used s.used c (text 11 m)) port (open_count s.orders c)
          (length s.tokens) m) else first_row (rows_of_request (has_used s.used c (text 11 m))
          (option_map (named_as s) (record_by_id s c (text 41 m))) port (length s.tokens) m))
          ≡ (if b then first_row (rows_of_new (is_used (text 11 m) (issued c h)) port (open_orders (issued c h))
          (given_tokens A) m) else first_row (rows_of_request (is_used (text 11 m) (issued c h))
          (option_and_then (standing_of terms (issued c h) A) (named (text 41 m) (issued c h))) port
          (given_tokens A) m))
      by_new true =
          ap (λ (u : Bool). first_row (rows_of_new u port (open_count s.orders c) (length s.tokens) m))
          (t.used c (text 11 m))
          ∙ ap (λ n. first_row (rows_of_new (is_used (text 11 m) (issued c h)) port n (length s.tokens) m))
          (open-counted c)
          ∙ ap (λ n. first_row (rows_of_new (is_used (text 11 m) (issued c h)) port (open_orders (issued c h)) n m))
          given-tokens
      by_new false =
          ap (λ (u : Bool). first_row (rows_of_request u (option_map (named_as s) (record_by_id s c (text 41 m))) port
          (length s.tokens) m)) (t.used c (text 11 m))
          ∙ ap (λ (x : Option Named). first_row (rows_of_request (is_used (text 11 m) (issued c h)) x port
          (length s.tokens) m)) (sym (named-so c (text 41 m)))
          ∙ ap (λ n. first_row (rows_of_request (is_used (text 11 m) (issued c h))
          (option_and_then (standing_of terms (issued c h) A) (named (text 41 m) (issued c h))) port n m))
          given-tokens

-- a message is judged by what its tokens lead to
module _ (f g : Outbound → List ℕ → Option Bool) (same : (m : Outbound) (token : List ℕ) → f m token ≡ g m token) where
  judged-same : (m : Outbound) → judged (f m) m ≡ judged (g m) m
  judged-same (market.Replaced m) =
      ap (λ (x : Option Bool). if is_some x then judged_on
      (f (market.Replaced m) m.previous_token) else Some token_fault) (same (market.Replaced m) m.token)
      ∙ ap (λ (x : Option Bool). if is_some (g (market.Replaced m) m.token) then judged_on x else Some token_fault)
      (same (market.Replaced m) m.previous_token)
  judged-same (market.Accepted m) = ap judged_on (same (market.Accepted m) m.token)
  judged-same (market.Canceled m) = ap judged_on (same (market.Canceled m) m.token)
  judged-same (market.Executed m) = ap judged_on (same (market.Executed m) m.token)
  judged-same (market.Broken m) = ap judged_on (same (market.Broken m) m.token)
  judged-same (market.Rejected m) = ap judged_on (same (market.Rejected m) m.token)
  judged-same (market.CancelPending m) = ap judged_on (same (market.CancelPending m) m.token)
  judged-same (market.CancelReject m) = ap judged_on (same (market.CancelReject m) m.token)
  judged-same (market.SystemEvent m) = refl
  judged-same market.Skipped = refl

  judged_by-same : (heard : Result Outbound DecodeRefusal) → judged_by f heard ≡ judged_by g heard
  judged_by-same (Ok m) = judged-same m
  judged_by-same (Err refusal) = refl

-- ---- the fault of a payload

module _ (terms : List Terms) (h : OrderHistory) (s : TableState) (t : IsTable terms h s) (port : ℕ) (m : Outbound) where
  abbrev E : List Entry
  E = accepted terms h

  -- an order that a token leads to
  pub token-on : (token : List ℕ) (o : OrderRecord) → record_by_token s port token ≡ Some o
      → order_of_token terms port E token ≡ Some o.new
  token-on token o e = sym (token-leads terms h s t port token) ∙ ap (option_map (λ (x : OrderRecord). x.new)) e

  pub token-fits : (token : List ℕ) (o : OrderRecord) → record_by_token s port token ≡ Some o → FitsIn terms h o
  token-fits token o e = by_given (find (is_token port token) s.tokens) e
    where
      by_given : (x : Option GivenToken) → option_and_then (λ (g : GivenToken). by_number s g.order) x ≡ Some o
          → FitsIn terms h o
      by_given None e = absurd (cc)
      by_given (Some g) e = Each-found (FitsIn terms h) (has_number g.order) s.orders o t.fit e

  pub token-port : (token : List ℕ) (o : OrderRecord) → record_by_token s port token ≡ Some o
      → port_of terms o.new ≡ port
  token-port token o e = (Rattle.order_machine.proofs.Lawfully.token-of terms h port token o.new t.held
      (token-on token o e)).on_port

  row-same : (o : OrderRecord) → FitsIn terms h o → port_of terms o.new ≡ port
      → row_holds m (life_of o.new.order E (handled port h)) o.new
      (pending_tokens o.new.client (chain o.new.order (issued o.new.client h)) E)
      ≡ row_holds m (record_life o) o.new (replacements o.replaces)
  row-same o f own_port =
      let lives : life_of o.new.order E (handled port h) ≡ record_life o =
      subst (λ (p : ℕ). life_of o.new.order E (handled p h) ≡ record_life o) own_port
      (life-of terms E (orders_numbered h) (issued o.new.client h) (handled (port_of terms o.new) h)
      (Rattle.order_law.specs.History.outstanding terms (port_of terms o.new) h) (reports_in h)
      (1_000_000 * length h) o f) in
      let tokens : pending_tokens o.new.client (chain o.new.order (issued o.new.client h)) E ≡ replacements o.replaces =
      ap (λ (y : Chain). pending_tokens o.new.client y E) f.reads.chained_so
      ∙ tokens-are terms E (orders_numbered h) (issued o.new.client h) (handled (port_of terms o.new) h)
      (Rattle.order_law.specs.History.outstanding terms (port_of terms o.new) h) (reports_in h)
      (1_000_000 * length h) o f in
      ap (λ (l : Rattle.order_law.specs.Life.Life). row_holds m l o.new
      (pending_tokens o.new.client (chain o.new.order (issued o.new.client h)) E)) lives
      ∙ ap (λ (ts : List (List ℕ)). row_holds m (record_life o) o.new ts) tokens

  abbrev row_of : Entry → Bool
  row_of new = row_holds m (life_of new.order E (handled port h)) new
      (pending_tokens new.client (chain new.order (issued new.client h)) E)

  lawful-same : (token : List ℕ) → is_lawful_in s port m token ≡ is_lawful_on terms port h m token
  lawful-same token = by_order (record_by_token s port token) refl
      ∙ ap (option_map row_of) (token-leads terms h s t port token)
    where
      by_order : (x : Option OrderRecord) → record_by_token s port token ≡ x
          → option_map (λ (o : OrderRecord). row_holds m (record_life o) o.new (replacements o.replaces)) x
          ≡ option_map row_of (option_map (λ (o : OrderRecord). o.new) x)
      by_order None e = refl
      by_order (Some o) e = ap Some (sym (row-same o (token-fits token o e) (token-port token o e)))

pub fault-same : (terms : List Terms) (h : OrderHistory) (s : TableState) → IsTable terms h s
    → (port : ℕ) (heard : Result Outbound DecodeRefusal) → payload_fault s port heard ≡ judgement terms port heard h
fault-same terms h s t port heard = judged_by-same (is_lawful_in s port) (is_lawful_on terms port h)
    (lawful-same terms h s t port) heard
