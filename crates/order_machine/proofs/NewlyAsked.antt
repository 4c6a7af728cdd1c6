-- What a client's message asks stands behind what was asked, on the client's port and on no other.
use Rattle.std.proofs.Common.{◌≡◌, ℕ, ◌+◌, Bool, true, false, List, [], ◌∷◌, ◌++◌, map, refl, sym, ap, ◌∙◌, subst}
use Rattle.std.proofs.Common.{decimal, bytes_eq, Option, Some, None, eqb-true}
use Rattle.std.specs.Prelude.{◌==◌, ◌&&◌, if◌then◌else◌, option_to_list}
use Rattle.std.specs.List.{find}
use Rattle.order_law.specs.ouch_codec.declared.outbound.Outbound.{Outbound}
use Rattle.fix_fields.specs.Field.{Message}
use Rattle.order_law.specs.Life.{live}
use Rattle.order_law.specs.Chain.{chain}
use Rattle.order_law.specs.Verdicts.{Accepted, Port, Refused, Verdict, is_replace}
use Rattle.order_law.specs.History.{Asked, Came, Entry, OrderHistory, Terms, OrderTurn, accepted, asks, asks_of}
use Rattle.order_law.specs.History.{entry_at, given_tokens, handled, is_new_order, issued, life_of, new_of}
use Rattle.order_law.specs.History.{orders_numbered, outstanding, pending_tokens, terms_of, verdict}
use Rattle.order_law.specs.Headline.{Each}
use Rattle.order_machine.specs.OrderRecord.{asked_cancel}
use Rattle.order_machine.specs.Table.{TableState}
use Rattle.order_machine.specs.Outstanding.{OnPort, asked_on, on_port}
use Rattle.order_machine.proofs.Texts.{and-false, eq-is}
use Rattle.order_machine.proofs.Lists.{Each-map, found-passes}
use Rattle.order_machine.proofs.Leads.{same_some}
use Rattle.order_machine.proofs.Holds.{IsEntry, news, port_of}
use Rattle.order_machine.proofs.Coming.{coming_turn}
use Rattle.order_machine.proofs.Finding.{Each-found, and-turned, find-filter, find-same}
use Rattle.order_machine.proofs.Placed.{AreDistinct}
use Rattle.order_machine.proofs.Linked.{IsTable}
use Rattle.order_machine.proofs.OnPorts.{each-append, on-append, on-asked}
use Rattle.order_machine.proofs.Unanswered.{Asking, IsPlaced}

-- ---- all that a message asks is asked of its order

if-each : {A : Type 0} (P : A → Type 0) (b : Bool) (xs ys : List A) → Each P xs → Each P ys
    → Each P (if b then xs else ys)
if-each P true xs ys p q = p
if-each P false xs ys p q = q

each-image : {A B : Type 0} (P : B → Type 0) (f : A → B) → ((x : A) → P (f x)) → (xs : List A) → Each P (map f xs)
each-image P f p [] = tt
each-image P f p (x ∷ xs) = (p x, each-image P f p xs)

pub asks-own : (terms : List Terms) (e : Entry) (entries : List Entry) (sent : List Message) (messages : List Outbound)
    → Each (λ (a : Asked). a.order ≡ e.order) (asks terms e entries sent messages)
asks-own terms e entries sent messages =
    if-each (λ (a : Asked). a.order ≡ e.order) (is_new_order e.message) _ _ (refl, tt)
    (if-each (λ (a : Asked). a.order ≡ e.order) (is_replace e.message) _ _ (refl, tt)
    (each-image (λ (a : Asked). a.order ≡ e.order) (λ token. asked_cancel e e token) (λ token. refl)
    (live (life_of e.order entries messages) ∷ pending_tokens e.client (chain e.order sent) entries)))

-- ---- the turn of a client's message

module _ (terms : List Terms) (before : OrderHistory) (client : ℕ) (m : Message) (port : Port) (bodies : List Message) (sends : List (List ℕ)) where
  abbrev A : List Entry
  A = accepted terms before

  abbrev turn : OrderTurn
  turn = coming_turn client m port bodies sends

  abbrev taken : Option Entry
  taken = entry_at terms (Came client m port) before

  -- of a port, where it is accepted as this
  abbrev asks_on : ℕ → Option Entry → List Asked
  asks_on p x = asks_of terms p x A (issued client before) (handled p before)

  pub taken-client : (e : Entry) → taken ≡ Some e → e.client ≡ client
  taken-client e is = by_verdict (verdict terms (issued client before) A port m) refl
    where
      by_kind : (b : Bool) → is_new_order m ≡ b → verdict terms (issued client before) A port m ≡ Accepted
          → e.client ≡ client
      by_kind true new v =
          let got : ◌≡◌ {A = Option Entry} (Some (record {
            client = client;
            message = m;
            order = decimal (orders_numbered before + 1);
            token =
                Some (given_tokens A + 1);
          })) (Some e) = rw (v, new) at is in
          ap (λ (x : Entry). x.client) (sym (same_some _ e got))
      by_kind false old v =
          ap (λ (x : Entry). x.client) (sym (same_some _ e (rw (v, old) at is)))

      by_verdict : (w : Verdict) → verdict terms (issued client before) A port m ≡ w → e.client ≡ client
      by_verdict (Refused code why) v = absurd (let none : ◌≡◌ {A = Option Entry} None (Some e) = rw v at is in cc)
      by_verdict Accepted v = by_kind (is_new_order m) refl v

  module _ (s : TableState) (after : IsTable terms (turn ∷ before) s) where
    -- an order that was known is known still, by the same new order
    pub known-still : (a : Asked) (p : ℕ) (x : Option Entry) → taken ≡ x → (k : IsPlaced terms A p a)
        → new_of a.order (option_to_list x ++ A) ≡ Some k.new
    known-still a p None is k = k.known
    known-still a p (Some e) is k = by_kind (is_new_order e.message) refl
      where
        distinct : AreDistinct (news (e ∷ A))
        distinct = subst (λ (y : Option Entry). AreDistinct (news (option_to_list y ++ A))) is after.distinct

        same_order : k.new.order ≡ a.order
        same_order = eq-is k.new.order a.order (and-first (bytes_eq k.new.order a.order) (is_new_order k.new.message)
            (found-passes (λ (y : Entry). bytes_eq y.order a.order && is_new_order y.message) A k.new k.known))
          where
            and-first : (b c : Bool) → (b && c) ≡ true → b ≡ true
            and-first true c both = refl
            and-first false c both = absurd (cc)

        found : find (λ (y : Entry). bytes_eq y.order a.order) (news A) ≡ Some k.new
        found =
            find-filter (λ (y : Entry). bytes_eq y.order a.order) (λ (y : Entry). is_new_order y.message) A
            ∙ find-same (λ (y : Entry). is_new_order y.message && bytes_eq y.order a.order)
            (λ (y : Entry). bytes_eq y.order a.order && is_new_order y.message) A
            (λ y. and-turned (is_new_order y.message) (bytes_eq y.order a.order))
            ∙ k.known

        other : AreDistinct (e ∷ news A) → bytes_eq e.order a.order ≡ false
        other d = ap (bytes_eq e.order) (sym same_order)
            ∙ Each-found (λ (y : Entry). bytes_eq e.order y.order ≡ false) (λ (y : Entry). bytes_eq y.order a.order)
            (news A) k.new d.0 found

        by_kind : (b : Bool) → is_new_order e.message ≡ b → new_of a.order (e ∷ A) ≡ Some k.new
        by_kind true new = let off = other (rw new at distinct) in rw off k.known
        by_kind false old = rw (old, and-false (bytes_eq e.order a.order)) k.known

    still-known : (a : Asked) (p : ℕ) (x : Option Entry) → taken ≡ x → IsPlaced terms A p a
        → IsPlaced terms (option_to_list x ++ A) p a
    still-known a p x is k = record { new = k.new; known = known-still a p x is k; at_home = k.at_home }

    -- and what is asked now is asked of an order that is known
    now-known : (p : ℕ) (x : Option Entry) → taken ≡ x → Each (IsPlaced terms (option_to_list x ++ A) p) (asks_on p x)
    now-known p None is = tt
    now-known p (Some e) is = by_port (port_of terms e == p) refl
      where
        entry : IsEntry terms (e ∷ A) (orders_numbered (turn ∷ before)) e
        entry = (subst (λ (y : Option Entry). Each
            (IsEntry terms (option_to_list y ++ A) (orders_numbered (turn ∷ before))) (option_to_list y ++ A)) is
            after.held.entries).0

        by_port : (b : Bool) → (port_of terms e == p) ≡ b
            → Each (IsPlaced terms (e ∷ A) p) (if b then asks terms e A (issued client before)
            (handled p before) else [])
        by_port true home = Each-map (λ (a : Asked). a.order ≡ e.order) (IsPlaced terms (e ∷ A) p)
            (asks terms e A (issued client before) (handled p before))
            (λ a mine. record {
              new = entry.new;
              known = ap (λ (k : List ℕ). new_of k (e ∷ A)) mine ∙ entry.found;
              at_home = ap (λ (c : ℕ). (terms_of terms c).port) entry.same_client ∙ eqb-true (port_of terms e) p home;
            })
            (asks-own terms e A (issued client before) (handled p before))
        by_port false away = tt

    module _ (asked : List OnPort) (was : Asking terms before asked) (asks_now : List Asked) (asks_so : asks_now ≡ asks_on (terms_of terms client).port taken) where
      abbrev home : ℕ
      home = (terms_of terms client).port

      none-elsewhere : (p : ℕ) → (home == p) ≡ false → (x : Option Entry) → taken ≡ x → asks_on p x ≡ []
      none-elsewhere p away None is = refl
      none-elsewhere p away (Some e) is = let off : (port_of terms e == p) ≡ false =
          ap (λ (c : ℕ). (terms_of terms c).port == p) (taken-client e is) ∙ away in rw off refl

      asks-then : (p : ℕ) (b : Bool) → (home == p) ≡ b → (if b then asks_now else []) ≡ asks_on p taken
      asks-then p true here = asks_so ∙ ap (λ (r : ℕ). asks_on r taken) (eqb-true home p here)
      asks-then p false away = sym (none-elsewhere p away taken refl)

      pub came-Asking : Asking terms (turn ∷ before) (asked ++ asked_on home asks_now)
      came-Asking = record {
        placed = λ p. each-append (IsPlaced terms (option_to_list taken ++ A) p) (outstanding terms p before)
            (asks_on p taken)
            (Each-map (IsPlaced terms A p) (IsPlaced terms (option_to_list taken ++ A) p) (outstanding terms p before)
            (λ a k. still-known a p taken refl k) (was.placed p))
            (now-known p taken refl);
        same = λ p. on-append p asked (asked_on home asks_now)
            ∙ ap (λ (xs : List Asked). xs ++ on_port p (asked_on home asks_now)) (was.same p)
            ∙ ap (λ (xs : List Asked). outstanding terms p before ++ xs)
            (on-asked p home (home == p) refl asks_now ∙ asks-then p (home == p) refl);
      }
