-- Trades of an order that are marked.
use Rattle.std.proofs.Common.{◌≡◌, ℕ, zero, suc, ◌≤◌, Bool, true, false, List, [], ◌∷◌, ◌++◌, length, map, take}
use Rattle.std.proofs.Common.{reverse, refl, sym, ap, ◌∙◌, arith}
use Rattle.std.proofs.Math.Seq.{take-length}
use Rattle.std.proofs.lemmas.List.{map-append, reverse-append, reverse-reverse, take-map}
use Rattle.std.specs.Prelude.{◌||◌, ◌==◌, Option, Some, None}
use Rattle.std.specs.List.{list_any}
use Rattle.order_machine.specs.OrderRecord.{mark}
use Rattle.order_machine.specs.OrderRecord as record_of
use Rattle.order_trades.specs.Marking.{changed_at, changed_if, has_match, told_marked, told_unbroken}
use Rattle.order_trades.specs.declared.told_trade.ToldTrade.{ToldTrade}
use Rattle.orders.specs.EarlierTrades.{seen_unbroken, told_before, trades_before}
use Rattle.orders.specs.declared.earlier_trades.EarlierTrades.{EarlierTrades}
use Rattle.orders.specs.Seen.{told_seen}

pub map-reverse : {A B : Type 0} (f : A → B) (xs : List A) → map f (reverse xs) ≡ reverse (map f xs)
map-reverse f [] = refl
map-reverse f (x ∷ xs) =
    ap (map f) (reverse-append (x ∷ []) xs)
    ∙ map-append f (reverse xs) (x ∷ [])
    ∙ ap (λ ys. ys ++ f x ∷ []) (map-reverse f xs)
    ∙ sym (reverse-append (f x ∷ []) (map f xs))

marked-each : (match_number : ℕ) (ts : List ToldTrade)
    → map told_seen (map (told_marked match_number) ts) ≡ map (mark match_number) (map told_seen ts)
marked-each match_number [] = refl
marked-each match_number (t ∷ ts) = ap (λ xs. told_seen (told_marked match_number t) ∷ xs) (marked-each match_number ts)

-- marks on the table's trades are marks on those of its record
pub marked-seen : (match_number : ℕ) (ts : List ToldTrade)
    → reverse (map told_seen (map (told_marked match_number) ts)) ≡ map (mark match_number) (reverse (map told_seen ts))
marked-seen match_number ts = ap reverse (marked-each match_number ts)
    ∙ sym (map-reverse (mark match_number) (map told_seen ts))

-- ---- a test on some item

pub any-map : {A : Type 0} {B : Type 0} (test : B → Bool) (f : A → B) (xs : List A)
    → list_any test (map f xs) ≡ list_any (λ x. test (f x)) xs
any-map test f [] = refl
any-map test f (x ∷ xs) = ap (λ b. test (f x) || b) (any-map test f xs)

or-push : (a b c : Bool) → (a || (b || c)) ≡ (b || (a || c))
or-push true true c = refl
or-push true false c = refl
or-push false b c = refl

pub any-push : {A : Type 0} (test : A → Bool) (xs : List A) (x : A)
    → list_any test (xs ++ x ∷ []) ≡ (test x || list_any test xs)
any-push test [] x = refl
any-push test (y ∷ ys) x = ap (λ b. test y || b) (any-push test ys x) ∙ or-push (test y) (test x) (list_any test ys)

pub any-reverse : {A : Type 0} (test : A → Bool) (xs : List A) → list_any test (reverse xs) ≡ list_any test xs
any-reverse test [] = refl
any-reverse test (x ∷ xs) = ap (list_any test) (reverse-append (x ∷ []) xs) ∙ any-push test (reverse xs) x
    ∙ ap (λ b. test x || b) (any-reverse test xs)

-- of the table's trades, and of those of its record
pub holds-seen : (n : ℕ) (ts : List ToldTrade) → list_any (has_match n) ts
    ≡ list_any (λ (t : record_of.ToldTrade). t.trade.match_number == n) (reverse (map told_seen ts))
holds-seen n ts =
    sym (any-reverse (λ (t : record_of.ToldTrade). t.trade.match_number == n) (map told_seen ts)
    ∙ any-map (λ (t : record_of.ToldTrade). t.trade.match_number == n) told_seen ts)

-- ---- trades that are put back

seen-changed : (place : ℕ) (ts : List ToldTrade)
    → map told_seen (changed_at told_unbroken place ts) ≡ changed_at seen_unbroken place (map told_seen ts)
seen-changed place [] = refl
seen-changed zero (t ∷ ts) = refl
seen-changed (suc place) (t ∷ ts) = ap (λ xs. told_seen t ∷ xs) (seen-changed place ts)

seen-changed-if : (place : Option ℕ) (ts : List ToldTrade)
    → map told_seen (changed_if told_unbroken place ts) ≡ changed_if seen_unbroken place (map told_seen ts)
seen-changed-if None ts = refl
seen-changed-if (Some place) ts = seen-changed place ts

pub told-of : (e : EarlierTrades) (ts : List ToldTrade)
    → reverse (map told_seen (trades_before e ts)) ≡ told_before e (reverse (map told_seen ts))
told-of e ts =
    ap reverse (seen-changed-if e.unbroken (take e.count ts))
    ∙ ap (λ xs. reverse (changed_if seen_unbroken e.unbroken xs)) (sym (take-map told_seen e.count ts))
    ∙ ap (λ xs. reverse (changed_if seen_unbroken e.unbroken (take e.count xs)))
    (sym (reverse-reverse (map told_seen ts)))

length-map : {A B : Type 0} (f : A → B) (xs : List A) → length (map f xs) ≡ length xs
length-map f [] = refl
length-map f (x ∷ xs) = ap suc (length-map f xs)

-- as many as there were, of which the one is put back that was marked
pub before-mark : (n : ℕ) (ts : List ToldTrade) (e : EarlierTrades) → e.count ≡ length ts
    → changed_if told_unbroken e.unbroken (map (told_marked n) ts) ≡ ts
    → told_before e (map (mark n) (reverse (map told_seen ts))) ≡ reverse (map told_seen ts)
before-mark n ts e many back =
    ap (told_before e) (sym (marked-seen n ts))
    ∙ sym (told-of e (map (told_marked n) ts))
    ∙ ap (λ k. reverse (map told_seen (changed_if told_unbroken e.unbroken (take k (map (told_marked n) ts)))))
    (many ∙ sym (length-map (told_marked n) ts))
    ∙ ap (λ (xs : List ToldTrade). reverse (map told_seen (changed_if told_unbroken e.unbroken xs)))
    (take-length (map (told_marked n) ts))
    ∙ ap (λ (xs : List ToldTrade). reverse (map told_seen xs)) back

changed-as-many : {A : Type 0} (f : A → A) (place : ℕ) (xs : List A) → length (changed_at f place xs) ≡ length xs
changed-as-many f place [] = refl
changed-as-many f zero (x ∷ xs) = refl
changed-as-many f (suc place) (x ∷ xs) = ap suc (changed-as-many f place xs)

taken-few : {A : Type 0} (n : ℕ) (xs : List A) → length (take n xs) ≤ n
taken-few zero xs = omega arith
taken-few (suc n) [] = omega arith
taken-few (suc n) (x ∷ xs) = let few = taken-few n xs in omega (arith, few)

pub few-before : (n : ℕ) (place : Option ℕ) (ts : List ToldTrade)
    → length (changed_if told_unbroken place (take n ts)) ≤ n
few-before n None ts = taken-few n ts
few-before n (Some place) ts =
    let many = changed-as-many told_unbroken place (take n ts) in
    let few = taken-few n ts in
    omega (arith, many, few)
