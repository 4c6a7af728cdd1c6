-- Trades by match number: where one stands, what a push keeps, and what a mark changes.
use Rattle.std.proofs.Common.{◌≡◌, ℕ, zero, suc, ◌+◌, ◌<◌, ◌≤◌, Bool, true, false, List, [], ◌∷◌, ◌++◌, length, map, take}
use Rattle.std.proofs.Common.{reverse, refl, sym, ap, ◌∙◌, subst, arith, cond, true≢false, eqb-true, get_or, slice_get}
use Rattle.std.proofs.Common.{slice_set, ◌⊎◌, inl, inr, eq-eqb}
use Rattle.std.specs.Prelude.{Result, Ok, Err, OnOk, OnErr, Option, Some, None, MatchOption, nat_eq, ◌==◌, ◌&&◌, ◌||◌, not, if◌then◌else◌}
use Rattle.std.specs.List.{find, list_any, position, position_from}
use Rattle.std.proofs.lemmas.Iterator.Adapters.{position_from-zero}
use Rattle.std.proofs.lemmas.Bool.{and_parts}
use Rattle.std.proofs.lemmas.List.Folds.{list_any_at}
use Rattle.std.proofs.lemmas.List.Quantifiers.{position-Some}
use Rattle.std.proofs.lemmas.Map.Keys.{any_passes_from_place}
use Rattle.std.proofs.lemmas.Option.{slice_get-get_or, slice_get_within}
use Rattle.order_law.specs.declared.trade.Trade.{Trade}
use Rattle.undo_index.specs.Newest.{IsNewest, OnlyAt}
use Rattle.undo_index.proofs.Newest.{nowhere, only-newest, only-none}
use Rattle.order_trades.specs.Found.{AreApart, IsAt, Leads, noted}
use Rattle.order_trades.specs.Marking.{changed_at, has_match, told_marked, told_stands, told_unbroken}
use Rattle.order_trades.specs.declared.told_trade.ToldTrade.{ToldTrade}

same-some : {A : Type 0} (a b : A) → ◌≡◌ {A = Option A} (Some a) (Some b) → a ≡ b
same-some a b e = cc

less : {m n : ℕ} → suc m ≡ suc n → m ≡ n
less e = omega (arith, e)

apart-places : (m : ℕ) → zero ≡ suc m → ⊥
apart-places m e = omega (arith, e)

-- ---- whether one passes

pub any-false : {A : Type 0} (test : A → Bool) (xs : List A)
    → ((i : ℕ) (a : A) → slice_get xs i ≡ Some a → test a ≡ false) → list_any test xs ≡ false
any-false test [] fails = refl
any-false test (x ∷ xs) fails =
    ap (λ b. b || list_any test xs) (fails 0 x refl) ∙ any-false test xs (λ i. fails (suc i))

pub false-at : {A : Type 0} (test : A → Bool) (xs : List A) → list_any test xs ≡ false → (i : ℕ) (a : A)
    → slice_get xs i ≡ Some a → test a ≡ false
false-at test xs none i a at = by_test (test a) refl
  where
    by_test : (b : Bool) → test a ≡ b → b ≡ false
    by_test true e = absurd (true≢false (sym (any_passes_from_place test xs i a at e) ∙ none))
    by_test false e = refl

pub passes-not : (b : Bool) → (b ≡ true → ⊥) → b ≡ false
passes-not true never = absurd (never refl)
passes-not false never = refl

own-has : (n : ℕ) (t : ToldTrade) → t.trade.match_number ≡ n → has_match n t ≡ true
own-has n t own = eq-eqb t.trade.match_number n own

pub has-own : (n : ℕ) (t : ToldTrade) → has_match n t ≡ true → t.trade.match_number ≡ n
has-own n t h = eqb-true t.trade.match_number n h

pub any-at : (n : ℕ) (ts : List ToldTrade) (p : ℕ) → IsAt n ts p → list_any (has_match n) ts ≡ true
any-at n ts p is = any_passes_from_place (has_match n) ts p is.told is.at (own-has n is.told is.its_own)

-- ---- a walk

walk-none : {A : Type 0} (test : A → Bool) (xs : List A) (i : ℕ) → position_from test i xs ≡ None
    → list_any test xs ≡ false
walk-none test [] i none = refl
walk-none {A = A} test (x ∷ xs) i none = by_test (test x) none (walk-none test xs (i + 1))
  where
    by_test : (b : Bool) → ◌≡◌ {A = Option ℕ} (cond b (Some i) (position_from test (i + 1) xs)) None
        → (position_from test (i + 1) xs ≡ None → list_any test xs ≡ false) → (b || list_any test xs) ≡ false
    by_test true e rest = absurd (cc)
    by_test false e rest = rest e

walk-at : (n : ℕ) (ts : List ToldTrade) (k : ℕ) → position (has_match n) ts ≡ Some k → IsAt n ts k
walk-at n [] k e = absurd (cc)
walk-at n (t ∷ ts) k e =
    let is = position-Some (has_match n) (t ∷ ts) k t e in
    record {
      told = get_or (t ∷ ts) k t;
      at = slice_get-get_or (t ∷ ts) k t is.0;
      its_own = has-own n (get_or (t ∷ ts) k t) is.1;
    }

pub walked : (n : ℕ) (ts : List ToldTrade) (r : Option ℕ) → r ≡ position (has_match n) ts
    → MatchOption r (list_any (has_match n) ts ≡ false) (IsAt n ts)
walked n ts None e = walk-none (has_match n) ts 0 (sym (position_from-zero (has_match n) ts) ∙ sym e)
walked n ts (Some k) e = walk-at n ts k (sym e)

-- ---- an index

pub none-noted : (places : List (ℕ × ℕ)) (ts : List ToldTrade) (n : ℕ) → Leads places ts → noted places n ≡ None
    → list_any (has_match n) ts ≡ false
none-noted places ts n leads none = any-false (has_match n) ts fails
  where
    fails : (i : ℕ) (a : ToldTrade) → slice_get ts i ≡ Some a → has_match n a ≡ false
    fails i a at = passes-not (has_match n a) there
      where
        there : has_match n a ≡ true → ⊥
        there h =
            let led : noted places n ≡ Some i = ap (noted places) (sym (has-own n a h)) ∙ leads i a at in
            let both : ◌≡◌ {A = Option ℕ} None (Some i) = sym none ∙ led in
            absurd (cc)

pub only-false : (n : ℕ) (ts : List ToldTrade) (p : ℕ)
    → ((i : ℕ) (t : ToldTrade) → slice_get ts i ≡ Some t → t.trade.match_number ≡ n → p ≡ i)
    → ((t : ToldTrade) → slice_get ts p ≡ Some t → has_match n t ≡ false) → list_any (has_match n) ts ≡ false
only-false n ts p only fails = any-false (has_match n) ts
    (λ i a at. passes-not (has_match n a)
    (λ h. true≢false (sym h ∙ fails a (ap (slice_get ts) (only i a at (has-own n a h)) ∙ at))))

get-pushed : {A : Type 0} (xs : List A) (a : A) (i : ℕ) (b : A) → slice_get (xs ++ a ∷ []) i ≡ Some b
    → (slice_get xs i ≡ Some b) ⊎ ((length xs ≡ i) × (a ≡ b))
get-pushed [] a zero b e = inr (refl, same-some a b e)
get-pushed [] a (suc i) b e = inl e
get-pushed (x ∷ xs) a zero b e = inl e
get-pushed {A = A} (x ∷ xs) a (suc i) b e = by_place (get-pushed xs a i b e)
  where
    by_place : (slice_get xs i ≡ Some b) ⊎ ((length xs ≡ i) × (a ≡ b))
        → (slice_get xs i ≡ Some b) ⊎ ((suc (length xs) ≡ suc i) × (a ≡ b))
    by_place (inl at) = inl at
    by_place (inr (l, same)) = inr (ap suc l, same)

get-changed : {A : Type 0} (xs : List A) (p : ℕ) (a : A) (i : ℕ) (b : A) → slice_get (slice_set xs p a) i ≡ Some b
    → (slice_get xs i ≡ Some b) ⊎ ((p ≡ i) × (a ≡ b))
get-changed [] p a i b e = inl e
get-changed (x ∷ xs) zero a zero b e = inr (refl, same-some a b e)
get-changed (x ∷ xs) zero a (suc i) b e = inl e
get-changed (x ∷ xs) (suc p) a zero b e = inl e
get-changed {A = A} (x ∷ xs) (suc p) a (suc i) b e = by_place (get-changed xs p a i b e)
  where
    by_place : (slice_get xs i ≡ Some b) ⊎ ((p ≡ i) × (a ≡ b)) → (slice_get xs i ≡ Some b) ⊎ ((suc p ≡ suc i) × (a ≡ b))
    by_place (inl at) = inl at
    by_place (inr (l, same)) = inr (ap suc l, same)

leads-pushed : (places now : List (ℕ × ℕ)) (ts : List ToldTrade) (t : ToldTrade) → Leads places ts
    → list_any (has_match t.trade.match_number) ts ≡ false
    → ((q : ℕ) → noted now q ≡ cond (nat_eq t.trade.match_number q) (Some (length ts)) (noted places q))
    → Leads now (ts ++ t ∷ [])
leads-pushed places now ts t leads new updates i a at = by_place (get-pushed ts t i a at)
  where
    old : (b : Bool) → nat_eq t.trade.match_number a.trade.match_number ≡ b → slice_get ts i ≡ Some a
        → noted now a.trade.match_number ≡ cond b (Some (length ts)) (noted places a.trade.match_number)
        → noted now a.trade.match_number ≡ Some i
    old true same at e = absurd (true≢false
        (sym (own-has t.trade.match_number a (sym (eqb-true t.trade.match_number a.trade.match_number same)))
        ∙ false-at (has_match t.trade.match_number) ts new i a at))
    old false other at e = e ∙ leads i a at

    by_place : (slice_get ts i ≡ Some a) ⊎ ((length ts ≡ i) × (t ≡ a)) → noted now a.trade.match_number ≡ Some i
    by_place (inl there) = old (nat_eq t.trade.match_number a.trade.match_number) refl there
        (updates a.trade.match_number)
    by_place (inr (l, same)) =
        ap (λ (x : ToldTrade). noted now x.trade.match_number) (sym same)
        ∙ updates t.trade.match_number
        ∙ ap (λ b. cond b (Some (length ts)) (noted places t.trade.match_number))
        (eq-eqb t.trade.match_number t.trade.match_number refl)
        ∙ ap Some l

pub leads-after : (places kept now : List (ℕ × ℕ)) (ts mid new : List ToldTrade) (t : ToldTrade) (place : ℕ)
    → Leads places ts → list_any (has_match t.trade.match_number) ts ≡ false → kept ≡ places → mid ≡ ts
    → place ≡ length mid → new ≡ mid ++ t ∷ []
    → ((q : ℕ) → noted now q ≡ cond (nat_eq t.trade.match_number q) (Some place) (noted kept q)) → Leads now new
leads-after places kept now ts mid new t place leads free keeps same there pushed updates =
    subst (Leads now) (sym (pushed ∙ ap (λ (xs : List ToldTrade). xs ++ t ∷ []) same))
    (leads-pushed places now ts t leads free
    (λ q. updates q
    ∙ ap (λ (p : ℕ). cond (nat_eq t.trade.match_number q) (Some p) (noted kept q))
    (there ∙ ap (λ (xs : List ToldTrade). length xs) same)
    ∙ ap (λ (ps : List (ℕ × ℕ)). cond (nat_eq t.trade.match_number q) (Some (length ts)) (noted ps q)) keeps))

-- ---- trades of which no two have the same match number

pub apart-pushed : (ts : List ToldTrade) (t : ToldTrade) → AreApart ts
    → list_any (has_match t.trade.match_number) ts ≡ false → AreApart (ts ++ t ∷ [])
apart-pushed ts t apart new i j a b at_i at_j same = by_places (get-pushed ts t i a at_i) (get-pushed ts t j b at_j)
  where
    never : (k : ℕ) (x : ToldTrade) → slice_get ts k ≡ Some x → x.trade.match_number ≡ t.trade.match_number → ⊥
    never k x at e = true≢false (sym (own-has t.trade.match_number x e)
        ∙ false-at (has_match t.trade.match_number) ts new k x at)

    by_places : (slice_get ts i ≡ Some a) ⊎ ((length ts ≡ i) × (t ≡ a))
        → (slice_get ts j ≡ Some b) ⊎ ((length ts ≡ j) × (t ≡ b)) → i ≡ j
    by_places (inl x) (inl y) = apart i j a b x y same
    by_places (inl x) (inr (l, is)) = absurd (never i a x
        (same ∙ ap (λ (y : ToldTrade). y.trade.match_number) (sym is)))
    by_places (inr (l, is)) (inl y) = absurd (never j b y
        (sym same ∙ ap (λ (x : ToldTrade). x.trade.match_number) (sym is)))
    by_places (inr (l, is)) (inr (m, was)) = sym l ∙ m

pub push-apart : {A E : Type 0} (r : Result A E) (ts now : List ToldTrade) (t : ToldTrade) → AreApart ts
    → list_any (has_match t.trade.match_number) ts ≡ false → OnOk r (now ≡ ts ++ t ∷ []) → OnErr r (now ≡ ts)
    → AreApart now
push-apart (Ok a) ts now t apart new pushed err = subst AreApart (sym pushed) (apart-pushed ts t apart new)
push-apart (Err e) ts now t apart new pushed err = subst AreApart (sym err) apart

pub apart-set : (ts : List ToldTrade) (p : ℕ) (t now : ToldTrade) → AreApart ts → slice_get ts p ≡ Some t
    → now.trade.match_number ≡ t.trade.match_number → AreApart (slice_set ts p now)
apart-set ts p t now apart here own i j a b at_i at_j same =
    by_places (get-changed ts p now i a at_i) (get-changed ts p now j b at_j)
  where
    of_now : (x : ToldTrade) → now ≡ x → t.trade.match_number ≡ x.trade.match_number
    of_now x is = sym own ∙ ap (λ (y : ToldTrade). y.trade.match_number) is

    by_places : (slice_get ts i ≡ Some a) ⊎ ((p ≡ i) × (now ≡ a))
        → (slice_get ts j ≡ Some b) ⊎ ((p ≡ j) × (now ≡ b)) → i ≡ j
    by_places (inl x) (inl y) = apart i j a b x y same
    by_places (inl x) (inr (l, is)) = apart i p a t x here (same ∙ sym (of_now b is)) ∙ l
    by_places (inr (l, is)) (inl y) = sym l ∙ apart p j t b here y (of_now a is ∙ same)
    by_places (inr (l, is)) (inr (m, was)) = sym l ∙ m

get-taken : {A : Type 0} (n : ℕ) (xs : List A) (i : ℕ) (a : A) → slice_get (take n xs) i ≡ Some a
    → slice_get xs i ≡ Some a
get-taken zero xs i a at = absurd (omega (arith, slice_get_within (take 0 xs) i a at))
get-taken (suc n) [] i a at = at
get-taken (suc n) (x ∷ xs) zero a at = at
get-taken (suc n) (x ∷ xs) (suc i) a at = get-taken n xs i a at

pub apart-taken : (n : ℕ) (ts : List ToldTrade) → AreApart ts → AreApart (take n ts)
apart-taken n ts apart i j a b at_i at_j same = apart i j a b (get-taken n ts i a at_i) (get-taken n ts j b at_j) same

taken-short : {A : Type 0} (n : ℕ) (xs : List A) → length (take n xs) ≤ n
taken-short zero xs = omega arith
taken-short (suc n) [] = omega arith
taken-short (suc n) (x ∷ xs) = let few = taken-short n xs in omega (arith, few)

-- one has a number that none before it has
pub new-behind : (ts : List ToldTrade) (i : ℕ) (t : ToldTrade) → AreApart ts → slice_get ts i ≡ Some t
    → list_any (has_match t.trade.match_number) (take i ts) ≡ false
new-behind ts i t apart at = any-false (has_match t.trade.match_number) (take i ts) fails
  where
    fails : (j : ℕ) (a : ToldTrade) → slice_get (take i ts) j ≡ Some a → has_match t.trade.match_number a ≡ false
    fails j a there = passes-not (has_match t.trade.match_number a) same
      where
        same : has_match t.trade.match_number a ≡ true → ⊥
        same h =
            let place : j ≡ i = apart j i a t (get-taken i ts j a there) at (has-own t.trade.match_number a h) in
            let inside = slice_get_within (take i ts) j a there in
            let few = taken-short i ts in
            absurd (omega (arith, place, inside, few))

pub only-at : (n : ℕ) (ts : List ToldTrade) (p : ℕ) → AreApart ts → IsAt n ts p → OnlyAt p (has_match n) ts
only-at n ts p apart is i a at h = apart p i is.told a is.at at (is.its_own ∙ sym (has-own n a h))

-- ---- marks

map-same : {A : Type 0} (f : A → A) (xs : List A) → ((i : ℕ) (a : A) → slice_get xs i ≡ Some a → f a ≡ a)
    → map f xs ≡ xs
map-same f [] same = refl
map-same f (x ∷ xs) same =
    ap (λ y. y ∷ map f xs) (same 0 x refl) ∙ ap (λ ys. x ∷ ys) (map-same f xs (λ i. same (suc i)))

marked-not : (n : ℕ) (t : ToldTrade) → has_match n t ≡ false → told_marked n t ≡ t
marked-not n t other = by_test (has_match n t) other
  where
    by_test : (b : Bool) → b ≡ false
        → ◌≡◌ {A = ToldTrade} (record t { trade = if b then record t.trade { is_broken = true } else t.trade }) t
    by_test true e = absurd (true≢false e)
    by_test false e = refl

marked-broken : (n : ℕ) (t : ToldTrade) → t.trade.is_broken ≡ true → told_marked n t ≡ t
marked-broken n t broken = by_test (has_match n t)
  where
    by_test : (b : Bool)
        → ◌≡◌ {A = ToldTrade} (record t { trade = if b then record t.trade { is_broken = true } else t.trade }) t
    by_test true = (λ j. record t { trade = record t.trade { is_broken = sym broken j } })
    by_test false = refl

pub marked-own : (n : ℕ) (t : ToldTrade) → (told_marked n t).trade.match_number ≡ t.trade.match_number
marked-own n t = by_test (has_match n t)
  where
    by_test : (b : Bool) → ◌≡◌ {A = ℕ}
        (if b then record t.trade { is_broken = true } else t.trade).match_number t.trade.match_number
    by_test true = refl
    by_test false = refl

marked-back : (n : ℕ) (t : ToldTrade) → t.trade.is_broken ≡ false → told_unbroken (told_marked n t) ≡ t
marked-back n t stands = by_test (has_match n t)
  where
    by_test : (b : Bool) → ◌≡◌ {A = ToldTrade}
        (told_unbroken (record t { trade = if b then record t.trade { is_broken = true } else t.trade })) t
    by_test true = (λ j. record t { trade = record t.trade { is_broken = sym stands j } })
    by_test false = (λ j. record t { trade = record t.trade { is_broken = sym stands j } })

pub marked-none : (n : ℕ) (ts : List ToldTrade) → list_any (has_match n) ts ≡ false → map (told_marked n) ts ≡ ts
marked-none n ts none = map-same (told_marked n) ts
    (λ i a at. marked-not n a (false-at (has_match n) ts none i a at))

-- the only one with the number was broken before
pub marked-again : (n : ℕ) (ts : List ToldTrade) (p : ℕ) (t : ToldTrade) → OnlyAt p (has_match n) ts
    → slice_get ts p ≡ Some t → t.trade.is_broken ≡ true → map (told_marked n) ts ≡ ts
marked-again n ts p t only at broken = map-same (told_marked n) ts each
  where
    each : (i : ℕ) (a : ToldTrade) → slice_get ts i ≡ Some a → told_marked n a ≡ a
    each i a there = by_test (has_match n a) refl
      where
        by_test : (b : Bool) → has_match n a ≡ b → told_marked n a ≡ a
        by_test true h =
            let same : t ≡ a = same-some t a (sym at ∙ ap (slice_get ts) (only i a there h) ∙ there) in
            marked-broken n a (ap (λ (x : ToldTrade). x.trade.is_broken) (sym same) ∙ broken)
        by_test false h = marked-not n a h

only-behind : {A : Type 0} (p : ℕ) (test : A → Bool) (x : A) (xs : List A) → OnlyAt (suc p) test (x ∷ xs)
    → OnlyAt p test xs
only-behind p test x xs only i a at h = less (only (suc i) a at h)

only-first : (n : ℕ) (t : ToldTrade) (ts : List ToldTrade) → OnlyAt 0 (has_match n) (t ∷ ts)
    → map (told_marked n) ts ≡ ts
only-first n t ts only = map-same (told_marked n) ts
    (λ i a at. marked-not n a (passes-not (has_match n a) (λ h. apart-places i (only (suc i) a at h))))

not-first : (n p : ℕ) (t : ToldTrade) (ts : List ToldTrade) → OnlyAt (suc p) (has_match n) (t ∷ ts)
    → told_marked n t ≡ t
not-first n p t ts only = marked-not n t (passes-not (has_match n t) (λ h. apart-places p (sym (only 0 t refl h))))

-- the only one with the number is marked
pub set-marked : (n : ℕ) (ts : List ToldTrade) (p : ℕ) (t : ToldTrade) → OnlyAt p (has_match n) ts
    → slice_get ts p ≡ Some t → slice_set ts p (told_marked n t) ≡ map (told_marked n) ts
set-marked n [] p t only at = refl
set-marked n (x ∷ xs) zero t only at =
    ap (λ (y : ToldTrade). told_marked n y ∷ xs) (sym (same-some x t at))
    ∙ ap (λ (ys : List ToldTrade). told_marked n x ∷ ys) (sym (only-first n x xs only))
set-marked n (x ∷ xs) (suc p) t only at =
    ap (λ (ys : List ToldTrade). x ∷ ys) (set-marked n xs p t (only-behind p (has_match n) x xs only) at)
    ∙ ap (λ (y : ToldTrade). y ∷ map (told_marked n) xs) (sym (not-first n p x xs only))

-- and put back
pub unmarked : (n : ℕ) (ts : List ToldTrade) (p : ℕ) (t : ToldTrade) → OnlyAt p (has_match n) ts
    → slice_get ts p ≡ Some t → t.trade.is_broken ≡ false → changed_at told_unbroken p (map (told_marked n) ts) ≡ ts
unmarked n [] p t only at stands = refl
unmarked n (x ∷ xs) zero t only at stands =
    ap (λ (ys : List ToldTrade). told_unbroken (told_marked n x) ∷ ys) (only-first n x xs only)
    ∙ ap (λ (y : ToldTrade). y ∷ xs)
    (marked-back n x (ap (λ (y : ToldTrade). y.trade.is_broken) (same-some x t at) ∙ stands))
unmarked n (x ∷ xs) (suc p) t only at stands =
    ap (λ (ys : List ToldTrade). told_marked n x ∷ ys) (unmarked n xs p t (only-behind p (has_match n) x xs only) at stands)
    ∙ ap (λ (y : ToldTrade). y ∷ xs) (not-first n p x xs only)

pub set-changed : {A : Type 0} (f : A → A) (xs : List A) (p : ℕ) (a : A) → slice_get xs p ≡ Some a
    → slice_set xs p (f a) ≡ changed_at f p xs
set-changed f [] p a at = refl
set-changed f (x ∷ xs) zero a at = ap (λ y. f y ∷ xs) (sym (same-some x a at))
set-changed f (x ∷ xs) (suc p) a at = ap (λ ys. x ∷ ys) (set-changed f xs p a at)

pub none-changed : {A : Type 0} (f : A → A) (xs : List A) (p : ℕ) → length xs ≤ p → xs ≡ changed_at f p xs
none-changed f [] p behind = refl
none-changed f (x ∷ xs) zero behind = absurd (omega (arith, behind))
none-changed f (x ∷ xs) (suc p) behind = ap (λ ys. x ∷ ys) (none-changed f xs p (omega (arith, behind)))

-- ---- what stands

stands-has : (n : ℕ) (t : ToldTrade) → told_stands n t ≡ true → has_match n t ≡ true
stands-has n t h = (and_parts (has_match n t) (not t.trade.is_broken) h).0

only-standing : (n : ℕ) (ts : List ToldTrade) (p : ℕ) → OnlyAt p (has_match n) ts → OnlyAt p (told_stands n) ts
only-standing n ts p only i a at h = only i a at (stands-has n a h)

broken-not : (n : ℕ) (t : ToldTrade) → t.trade.is_broken ≡ true → told_stands n t ≡ false
broken-not n t broken = passes-not (told_stands n t) stands
  where
    stands : told_stands n t ≡ true → ⊥
    stands h =
        let still : not t.trade.is_broken ≡ true = (and_parts (has_match n t) (not t.trade.is_broken) h).1 in
        true≢false (sym still ∙ ap not broken)

stands-now : (n : ℕ) (t : ToldTrade) → t.trade.match_number ≡ n → t.trade.is_broken ≡ false → told_stands n t ≡ true
stands-now n t own stands =
    ap (λ b. b && not t.trade.is_broken) (own-has n t own) ∙ ap not stands

pub none-stands : (n : ℕ) (ts : List ToldTrade) → list_any (has_match n) ts ≡ false
    → find (told_stands n) (reverse ts) ≡ None
none-stands n ts none = nowhere (told_stands n) ts
    (λ i a at. passes-not (told_stands n a)
    (λ h. true≢false (sym (stands-has n a h) ∙ false-at (has_match n) ts none i a at)))

pub broken-stands : (n : ℕ) (ts : List ToldTrade) (p : ℕ) (t : ToldTrade) → OnlyAt p (has_match n) ts
    → slice_get ts p ≡ Some t → t.trade.is_broken ≡ true → find (told_stands n) (reverse ts) ≡ None
broken-stands n ts p t only at broken = only-none (told_stands n) ts p (only-standing n ts p only)
    (λ a there. ap (told_stands n) (same-some a t (sym there ∙ at)) ∙ broken-not n t broken)

pub stands-at : (n : ℕ) (ts : List ToldTrade) (p : ℕ) (t : ToldTrade) → OnlyAt p (has_match n) ts
    → slice_get ts p ≡ Some t → t.trade.match_number ≡ n → t.trade.is_broken ≡ false
    → find (told_stands n) (reverse ts) ≡ slice_get ts p
stands-at n ts p t only at own stands =
    (only-newest (told_stands n) ts p t (only-standing n ts p only) at (stands-now n t own stands)).newest
