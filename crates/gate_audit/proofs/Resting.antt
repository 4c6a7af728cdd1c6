-- Each order of the audit beside what its market's book has of it.
use Rattle.std.proofs.Common.{◌≡◌, ℕ, suc, Bool, true, false, List, [], ◌∷◌, ◌++◌, map, reverse, length}
use Rattle.std.proofs.Common.{refl, sym, ap, subst, ◌∙◌, eqb-true}
use Rattle.std.specs.Prelude.{◌==◌, filter}
use Rattle.std.proofs.lemmas.List.{reverse-append}
use Rattle.market_law.specs.declared.row.BookRow.{BookRow}
use Rattle.market_law.specs.Rows.{row}
use Rattle.order_law.specs.Reading.{Reading, account_read, reading}
use Rattle.order_law.specs.History as orders
use Rattle.order_law.specs.History.{Entry, token_of}
use Rattle.order_law.specs.Headline.{Each, EachWith}
use Rattle.gate_law.specs.Settings.{Settings, port_of}
use Rattle.gate_law.specs.Holds.{Holds}
use Rattle.world_law.specs.Rows.{ReadsAsBook}
use Rattle.world_law.specs.World.{World}
use Rattle.world_law.specs.Promises.{IsAtRest, RestsAlike, turns_of}
use Rattle.gate_audit.specs.Pairs.{OpenedOrder, Pair, accepted_pair, accepted_pairs, accepted_pairs_of}
use Rattle.gate_audit.specs.Played.{AgreesWithBook, IsAsBook, book_of, books, books_of}
use Rattle.gate_audit.specs.Read.{accepted_new_orders, for_clients}
use Rattle.gate_audit.proofs.FirstTokens.{started}
use Rattle.gate_audit.proofs.Lists.{map-map, map-reverse}
use Rattle.gate_audit.proofs.Pairing.{orders-opened}
use Rattle.gate_audit.proofs.Shelved.{each-append}

-- ---- lists

each-reversed : {X : Type 0} (P : X → Type 0) (xs : List X) → Each P xs → Each P (reverse xs)
each-reversed P [] each = tt
each-reversed P (x ∷ xs) each = subst (Each P) (sym (reverse-append (x ∷ []) xs))
    (each-append P (reverse xs) (x ∷ []) (each-reversed P xs each.1) (each.0, tt))

with-mapped : {X A B : Type 0} (P : A → B → Type 0) (f : X → A) (g : X → B) (xs : List X)
    → Each (λ (x : X). P (f x) (g x)) xs → EachWith P (map f xs) (map g xs)
with-mapped P f g [] each = tt
with-mapped P f g (x ∷ xs) each = (each.0, with-mapped P f g xs each.1)

with-append : {A B : Type 0} (P : A → B → Type 0) (xs : List A) (ys : List B) (us : List A) (vs : List B)
    → EachWith P xs ys → EachWith P us vs → EachWith P (xs ++ us) (ys ++ vs)
with-append P [] [] us vs first second = second
with-append P [] (y ∷ ys) us vs first second = absurd first
with-append P (x ∷ xs) [] us vs first second = absurd first
with-append P (x ∷ xs) (y ∷ ys) us vs first second = (first.0, with-append P xs ys us vs first.1 second)

for-clients-with : {A B : Type 0} (P : A → B → Type 0) (f : ℕ → List A) (g : ℕ → List B)
    → ((c : ℕ) → EachWith P (f c) (g c)) → (n : ℕ) → EachWith P (for_clients f n) (for_clients g n)
for-clients-with P f g each ℕ.zero = tt
for-clients-with P f g each (suc n) = with-append P (for_clients f n) (for_clients g n) (f (suc n)) (g (suc n))
    (for-clients-with P f g each n) (each (suc n))

-- ---- one client

module _ (s : Settings) (w : World) (c : ℕ) where
  -- what the market of its port has of an accepted new order
  abbrev row_of : Entry → BookRow
  row_of e = book_of w (port_of s c) (started e)

  abbrev Agrees : Entry → Type 0
  Agrees e = AgreesWithBook s w (accepted_pair s w.history e) (row_of e)

  -- a port of which all is handled: what is read of these of its orders is what the book has
  abbrev Rests : List Entry → ℕ → Type 0
  Rests es p = IsAtRest s w p
      → Each (λ (new : Entry). port_of s new.client ≡ p
      → ReadsAsBook (reading new.order (orders.issued new.client (turns_of s w)))
      (row (w.markets p).book.book (token_of new))) es

  book-read : (x : Reading) (r : BookRow) → ReadsAsBook x r → IsAsBook (account_read x) r
  book-read x r reads = record {
    side = reads.side;
    executed = reads.executed;
    unfilled = reads.unfilled;
    cancelled =
        reads.cancelled;
    value = reads.value;
  }

  one-order : (e : Entry) (es : List Entry) → (e.client == c) ≡ true → ((p : ℕ) → Rests (e ∷ es) p) → Agrees e
  one-order e es own rests =
      let its_client : e.client ≡ c = eqb-true e.client c own in
      record {
        accounts = refl;
        at_rest = λ rest. subst (λ (k : ℕ). IsAsBook
            (account_read (reading e.order (orders.issued e.client (turns_of s w))))
            (row (w.markets (port_of s k)).book.book (token_of e))) its_client
            (book-read (reading e.order (orders.issued e.client (turns_of s w)))
            (row (w.markets (port_of s e.client)).book.book (token_of e))
            ((rests (port_of s e.client) rest).0 refl));
      }

  own-orders : (es : List Entry) → ((p : ℕ) → Rests es p) → Each Agrees (filter (λ (e : Entry). e.client == c) es)
  own-orders [] rests = tt
  own-orders (e ∷ es) rests = by_client (e.client == c) refl (own-orders es (λ p rest. (rests p rest).1))
    where
      by_client : (b : Bool) → (e.client == c) ≡ b → Each Agrees (filter (λ (e : Entry). e.client == c) es)
          → Each Agrees (filter (λ (e : Entry). e.client == c) (e ∷ es))
      by_client true own others = rw own (one-order e es own rests, others)
      by_client false other others = rw other others

  -- its rows are those of its accepted new orders
  own-rows : Holds s w.history → books_of s w c
      ≡ map row_of (reverse (filter (λ (e : Entry). e.client == c) (accepted_new_orders s w.history)))
  own-rows holds =
      let own : List Entry = filter (λ (e : Entry). e.client == c) (accepted_new_orders s w.history) in
      let book : OpenedOrder → BookRow = book_of w (port_of s c) in
      ap (λ (os : List OpenedOrder). map book (reverse os)) (orders-opened s w.history holds c)
      ∙ ap (map book) (sym (map-reverse started own))
      ∙ map-map book started (reverse own)

  own-agree : Holds s w.history → ((p : ℕ) → RestsAlike s w p)
      → EachWith (AgreesWithBook s w) (accepted_pairs_of s w.history c) (books_of s w c)
  own-agree holds rests =
      let own : List Entry = filter (λ (e : Entry). e.client == c) (accepted_new_orders s w.history) in
      subst (EachWith (AgreesWithBook s w) (accepted_pairs_of s w.history c)) (sym (own-rows holds))
      (with-mapped (AgreesWithBook s w) (accepted_pair s w.history) row_of (reverse own)
      (each-reversed Agrees own (own-orders (accepted_new_orders s w.history) rests)))

-- ---- all of them

pub rows-agree : (s : Settings) (w : World) (ps : List Pair) (rows : List BookRow) → Holds s w.history
    → ps ≡ accepted_pairs s w.history → rows ≡ books s w → ((p : ℕ) → RestsAlike s w p)
    → EachWith (AgreesWithBook s w) ps rows
rows-agree s w ps rows holds are_pairs are_rows rests =
    subst (λ (xs : List Pair). EachWith (AgreesWithBook s w) xs rows) (sym are_pairs)
    (subst (EachWith (AgreesWithBook s w) (accepted_pairs s w.history)) (sym are_rows)
    (for-clients-with (AgreesWithBook s w) (accepted_pairs_of s w.history) (books_of s w)
    (λ c. own-agree s w c holds rests) (length s.clients)))
