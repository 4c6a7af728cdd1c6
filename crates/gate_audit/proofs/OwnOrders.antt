-- In every history of the order level that has the headline, the orders that a client's reports open are its accepted
-- new orders.
use Rattle.std.proofs.Common.{◌≡◌, ℕ, Bool, true, false, List, [], ◌∷◌, ◌++◌, map, reverse, refl, sym, ap, ◌∙◌}
use Rattle.std.specs.Prelude.{◌==◌, filter}
use Rattle.std.proofs.lemmas.List.{map-append}
use Rattle.std.proofs.lemmas.List.Elements.{filter-append}
use Rattle.gate_law.specs.fix_fields.Field.{Message}
use Rattle.order_law.specs.History.{Entry, OrderHistory, Terms, accepted, issued}
use Rattle.order_law.specs.Headline.{Headline}
use Rattle.gate_audit.specs.Read.{Opened, opened_in, opened_as, opens_new_order}
use Rattle.gate_audit.specs.Pairs.{OpenedOrder, SaidToClient, opened_orders, orders_of, said_to}
use Rattle.gate_audit.proofs.Entries.{news}
use Rattle.gate_audit.proofs.FirstTokens.{headline-told, started}
use Rattle.gate_audit.proofs.Lists.{map-map, map-reverse, filter-reverse}
use Rattle.gate_audit.proofs.Said.{said_turns}

-- what was told to a client alone
abbrev told_to : ℕ → List SaidToClient → List Message
told_to c all = map (λ (x : SaidToClient). x.report) (filter (λ (x : SaidToClient). x.client == c) all)

told_to-append : (c : ℕ) (xs ys : List SaidToClient) → told_to c (xs ++ ys) ≡ told_to c xs ++ told_to c ys
told_to-append c xs ys =
    ap (map (λ (x : SaidToClient). x.report)) (filter-append (λ (x : SaidToClient). x.client == c) xs ys)
    ∙ map-append (λ (x : SaidToClient). x.report) (filter (λ (x : SaidToClient). x.client == c) xs)
    (filter (λ (x : SaidToClient). x.client == c) ys)

told_to-reverse : (c : ℕ) (xs : List SaidToClient) → told_to c (reverse xs) ≡ reverse (told_to c xs)
told_to-reverse c xs =
    ap (map (λ (x : SaidToClient). x.report)) (filter-reverse (λ (x : SaidToClient). x.client == c) xs)
    ∙ map-reverse (λ (x : SaidToClient). x.report) (filter (λ (x : SaidToClient). x.client == c) xs)

told_to-own : (c n : ℕ) → (n == c) ≡ true → (rs : List Message) → told_to c (map (said_to n) rs) ≡ rs
told_to-own c n own [] = refl
told_to-own c n own (r ∷ rs) = rw (own, told_to-own c n own rs) refl

told_to-other : (c n : ℕ) → (n == c) ≡ false → (rs : List Message) → told_to c (map (said_to n) rs) ≡ []
told_to-other c n other [] = refl
told_to-other c n other (r ∷ rs) = rw (other, told_to-other c n other rs) refl

issued-told : (c : ℕ) (h : OrderHistory) → told_to c (said_turns h) ≡ issued c h
issued-told c [] = refl
issued-told c (t ∷ before) = by_client (t.client == c) refl (issued-told c before)
  where
    told : told_to c (said_turns (t ∷ before))
        ≡ reverse (told_to c (map (said_to t.client) t.bodies)) ++ told_to c (said_turns before)
    told =
        told_to-append c (reverse (map (said_to t.client) t.bodies)) (said_turns before)
        ∙ ap (λ rs. rs ++ told_to c (said_turns before)) (told_to-reverse c (map (said_to t.client) t.bodies))

    by_client : (b : Bool) → (t.client == c) ≡ b → told_to c (said_turns before) ≡ issued c before
        → told_to c (said_turns (t ∷ before)) ≡ issued c (t ∷ before)
    by_client true own earlier = told ∙ rw (own, told_to-own c t.client own t.bodies, earlier) refl
    by_client false other earlier = told ∙ rw (other, told_to-other c t.client other t.bodies, earlier) refl

-- as what client reads it
abbrev as_opened : OpenedOrder → Opened
as_opened o = record { order = o.order; id = o.id }

own-opened : (c : ℕ) (all : List SaidToClient)
    → map as_opened (orders_of c (opened_orders all)) ≡ opened_in (told_to c all)
own-opened c [] = refl
own-opened c (x ∷ all) = by_tests (x.client == c) refl (opens_new_order x.report) refl (own-opened c all)
  where
    by_tests : (b : Bool) → (x.client == c) ≡ b → (o : Bool) → opens_new_order x.report ≡ o
        → map as_opened (orders_of c (opened_orders all)) ≡ opened_in (told_to c all)
        → map as_opened (orders_of c (opened_orders (x ∷ all))) ≡ opened_in (told_to c (x ∷ all))
    by_tests true own true is earlier = rw (own, is, own, earlier) refl
    by_tests true own false is earlier = rw (own, is, earlier) refl
    by_tests false other true is earlier = rw (other, is, other, earlier) refl
    by_tests false other false is earlier = rw (other, is, earlier) refl

pub orders-started : (c : ℕ) (es : List Entry)
    → orders_of c (map started es) ≡ map started (filter (λ (e : Entry). e.client == c) es)
orders-started c [] = refl
orders-started c (e ∷ es) = by_client (e.client == c) refl (orders-started c es)
  where
    by_client : (b : Bool) → (e.client == c) ≡ b
        → orders_of c (map started es) ≡ map started (filter (λ (e : Entry). e.client == c) es)
        → orders_of c (map started (e ∷ es)) ≡ map started (filter (λ (e : Entry). e.client == c) (e ∷ es))
    by_client true is rest = rw (is, rest) refl
    by_client false is rest = rw (is, rest) refl

pub opened-same : (terms : List Terms) (h : OrderHistory) → Headline terms h → (c : ℕ)
    → opened_in (issued c h) ≡ map opened_as (filter (λ (e : Entry). e.client == c) (news (accepted terms h)))
opened-same terms h headline c =
    ap opened_in (sym (issued-told c h)) ∙ sym (own-opened c (said_turns h))
    ∙ ap (λ os. map as_opened (orders_of c os)) (headline-told terms h headline).same
    ∙ ap (map as_opened) (orders-started c (news (accepted terms h)))
    ∙ map-map as_opened started (filter (λ (e : Entry). e.client == c) (news (accepted terms h)))
