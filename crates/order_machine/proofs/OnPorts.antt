-- What ports are asked, in one list: what is on one port after a push and after a filter, and what a filter leaves of
-- an order.
use Rattle.std.proofs.Common.{◌≡◌, ℕ, ◌≤◌, Bool, true, false, List, [], ◌∷◌, ◌++◌, length, map, refl, sym, ap, ◌∙◌}
use Rattle.std.proofs.Common.{arith, bytes_eq}
use Rattle.std.specs.Prelude.{◌==◌, if◌then◌else◌, filter}
use Rattle.order_law.specs.History.{Asked}
use Rattle.order_law.specs.Headline.{Each}
use Rattle.order_machine.specs.Outstanding.{OnPort, asked_on, is_on, on_port}
use Rattle.order_machine.proofs.Texts.{not-both}
use Rattle.order_machine.proofs.Fits.{own}

-- ---- one port of all

abbrev asked_in : OnPort → Asked
asked_in q = q.asked

pub on-append : (p : ℕ) (xs ys : List OnPort) → on_port p (xs ++ ys) ≡ on_port p xs ++ on_port p ys
on-append p [] ys = refl
on-append p (q ∷ xs) ys = by_test (is_on p q) (on-append p xs ys)
  where
    by_test : (b : Bool) → on_port p (xs ++ ys) ≡ on_port p xs ++ on_port p ys
        → map asked_in (if b then q ∷ filter (is_on p) (xs ++ ys) else filter (is_on p) (xs ++ ys))
        ≡ map asked_in (if b then q ∷ filter (is_on p) xs else filter (is_on p) xs) ++ on_port p ys
    by_test true e = ap (λ asked. q.asked ∷ asked) e
    by_test false e = e

pub on-asked : (p home : ℕ) (b : Bool) → (home == p) ≡ b → (asks : List Asked)
    → on_port p (asked_on home asks) ≡ (if b then asks else [])
on-asked p home true here [] = refl
on-asked p home true here (a ∷ asks) = rw here (ap (λ asked. a ∷ asked) (on-asked p home true here asks))
on-asked p home false away [] = refl
on-asked p home false away (a ∷ asks) = rw away (on-asked p home false away asks)

-- a test of all ports' messages that is another one on this port
pub on-filter : (p : ℕ) (keep : OnPort → Bool) (keeps : Asked → Bool)
    → ((q : OnPort) → is_on p q ≡ true → keep q ≡ keeps q.asked) → (asked : List OnPort)
    → on_port p (filter keep asked) ≡ filter keeps (on_port p asked)
on-filter p keep keeps same [] = refl
on-filter p keep keeps same (q ∷ asked) = by_on (is_on p q) refl (keep q) refl (on-filter p keep keeps same asked)
  where
    by_on : (on : Bool) → is_on p q ≡ on → (kept : Bool) → keep q ≡ kept
        → on_port p (filter keep asked) ≡ filter keeps (on_port p asked)
        → on_port p (if kept then q ∷ filter keep asked else filter keep asked)
        ≡ filter keeps (map asked_in (if on then q ∷ filter (is_on p) asked else filter (is_on p) asked))
    by_on true here true is e = let keeps_so : keeps q.asked ≡ true = sym (same q here) ∙ is in
        rw (here, keeps_so) (ap (λ rest. q.asked ∷ rest) e)
    by_on true here false is e = let keeps_so : keeps q.asked ≡ false = sym (same q here) ∙ is in rw keeps_so e
    by_on false away true is e = rw away e
    by_on false away false is e = e

-- ---- members

pub each-both : {A : Type 0} (P Q : A → Type 0) (xs : List A) → Each P xs → Each Q xs → Each (λ (x : A). P x × Q x) xs
each-both P Q [] p q = tt
each-both P Q (x ∷ xs) p q = ((p.0, q.0), each-both P Q xs p.1 q.1)

pub each-all : {A X : Type 0} (Q : X → A → Type 0) (xs : List A) → ((k : X) → Each (Q k) xs)
    → Each (λ (x : A). (k : X) → Q k x) xs
each-all Q [] each = tt
each-all Q (x ∷ xs) each = (λ k. (each k).0, each-all Q xs (λ k. (each k).1))

pub each-append : {A : Type 0} (P : A → Type 0) (xs ys : List A) → Each P xs → Each P ys → Each P (xs ++ ys)
each-append P [] ys p q = q
each-append P (x ∷ xs) ys p q = (p.0, each-append P xs ys p.1 q)

-- tests that agree on the members leave the same
pub filter-each : {A : Type 0} (P : A → Type 0) (f g : A → Bool) (xs : List A) → ((x : A) → P x → f x ≡ g x) → Each P xs
    → filter f xs ≡ filter g xs
filter-each P f g [] same each = refl
filter-each P f g (x ∷ xs) same each = rw (same x each.0, filter-each P f g xs same each.1) refl

-- ---- one order of all

fewer : (k : List ℕ) (keeps : Asked → Bool) (asked : List Asked)
    → length (own k (filter keeps asked)) ≤ length (own k asked)
fewer k keeps [] = omega arith
fewer k keeps (a ∷ asked) = by_kept (keeps a) (bytes_eq a.order k) refl (fewer k keeps asked)
  where
    by_kept : (b mine : Bool) → bytes_eq a.order k ≡ mine → length (own k (filter keeps asked)) ≤ length (own k asked)
        → length (own k (if b then a ∷ filter keeps asked else filter keeps asked)) ≤ length
        (if mine then a ∷ own k asked else own k asked)
    by_kept true true e less = rw e (omega (arith, less))
    by_kept true false e less = rw e less
    by_kept false true e less = omega (arith, less)
    by_kept false false e less = less

-- where a filter leaves all that is asked of an order, each of these passes
pub kept-members : (k : List ℕ) (keeps : Asked → Bool) (asked : List Asked) → own k (filter keeps asked) ≡ own k asked
    → Each (λ (a : Asked). bytes_eq a.order k ≡ true → keeps a ≡ true) asked
kept-members k keeps [] same = tt
kept-members k keeps (a ∷ asked) same = by_own (bytes_eq a.order k) (keeps a) refl refl same
    (kept-members k keeps asked)
  where
    by_own : (mine b : Bool) → bytes_eq a.order k ≡ mine → keeps a ≡ b
        → own k (if b then a ∷ filter keeps asked else filter keeps asked)
        ≡ (if mine then a ∷ own k asked else own k asked)
        → (own k (filter keeps asked) ≡ own k asked
        → Each (λ (x : Asked). bytes_eq x.order k ≡ true → keeps x ≡ true) asked)
        → Each (λ (x : Asked). bytes_eq x.order k ≡ true → keeps x ≡ true) (a ∷ asked)
    by_own true true e is same later = (
      λ mine. is,
      later
          (let both : a ∷ own k (filter keeps asked) ≡ a ∷ own k asked = rw e at same in cc),
    )
    by_own true false e is same later = absurd
        (let less = fewer k keeps asked in let longer = ap length same in omega (arith, less, longer))
    by_own false true e is same later = (λ mine. absurd (not-both (bytes_eq a.order k) mine e), later (rw e at same))
    by_own false false e is same later = (λ mine. absurd (not-both (bytes_eq a.order k) mine e), later same)
