-- Chains lead to each message that isn't settled after one more, one less, and other answers, and where what is settled
-- is
-- left out.
use Rattle.std.proofs.Common.{◌≡◌, ◌≢◌, ℕ, zero, suc, ◌+◌, ◌<◌, ◌≤◌, ◌^◌, true, List, [], ◌∷◌, ◌++◌, length}
use Rattle.std.proofs.Common.{◌-◌, get_or, set, slice_get, refl, sym, ap, ◌∙◌, subst, ◌⊎◌, inl, inr, arith}
use Rattle.std.specs.Prelude.{Option, Some, None}
use Rattle.std.proofs.lemmas.Bool.{cases_eq, cases_lt}
use Rattle.std.proofs.lemmas.Option.{slice_get_within}
use Rattle.std.proofs.lemmas.List.{get_or-set_other, get_or-set_same, get_or_append_left, get_or_push, length-set}
use Rattle.std.proofs.lemmas.List.{length_push}
use Rattle.outstanding.specs.declared.asked.AskedMessage.{AskedMessage}
use Rattle.outstanding.specs.Chaining.{IsChained, Reaches, bucket}
use Rattle.outstanding.specs.Marks.{is_settled}

-- ---- items of lists

same-some : {A : Type 0} (b c : A) → ◌≡◌ {A = Option A} (Some b) (Some c) → b ≡ c
same-some b c e = cc

pub get-left : {A : Type 0} (xs ys : List A) (i : ℕ) → i < length xs → slice_get (xs ++ ys) i ≡ slice_get xs i
get-left [] ys i inside = absurd (omega arith)
get-left (x ∷ xs) ys zero inside = refl
get-left (x ∷ xs) ys (suc i) inside = get-left xs ys i (omega arith)

pub get-end : {A : Type 0} (xs : List A) (a : A) → slice_get (xs ++ a ∷ []) (length xs) ≡ Some a
get-end [] a = refl
get-end (x ∷ xs) a = get-end xs a

pub get-pushed : {A : Type 0} (xs : List A) (a : A) (i : ℕ) (b : A) → slice_get (xs ++ a ∷ []) i ≡ Some b
    → ((i < length xs) × (slice_get xs i ≡ Some b)) ⊎ ((i ≡ length xs) × (a ≡ b))
get-pushed [] a zero b e = inr (refl, same-some a b e)
get-pushed {A = A} [] a (suc i) b e = let none : ◌≡◌ {A = Option A} None (Some b) = e in absurd (cc)
get-pushed (x ∷ xs) a zero b e = inl (omega arith, e)
get-pushed {A = A} (x ∷ xs) a (suc i) b e = by_place (get-pushed xs a i b e)
  where
    by_place : ((i < length xs) × (slice_get xs i ≡ Some b)) ⊎ ((i ≡ length xs) × (a ≡ b))
        → ((suc i < suc (length xs)) × (slice_get xs i ≡ Some b)) ⊎ ((suc i ≡ suc (length xs)) × (a ≡ b))
    by_place (inl at) = inl (omega (arith, at.0), at.1)
    by_place (inr at) = inr (ap suc at.0, at.1)

pub get-changed : {A : Type 0} (xs : List A) (p : ℕ) (a : A) (i : ℕ) (b : A) → slice_get (set xs p a) i ≡ Some b
    → ((p ≢ i) × (slice_get xs i ≡ Some b)) ⊎ ((p ≡ i) × (a ≡ b))
get-changed {A = A} [] p a i b e = let none : ◌≡◌ {A = Option A} None (Some b) = e in absurd (cc)
get-changed (x ∷ xs) zero a zero b e = inr (refl, same-some a b e)
get-changed (x ∷ xs) zero a (suc i) b e = inl (λ same. omega arith, e)
get-changed (x ∷ xs) (suc p) a zero b e = inl (λ same. omega arith, e)
get-changed {A = A} (x ∷ xs) (suc p) a (suc i) b e = by_place (get-changed xs p a i b e)
  where
    by_place : ((p ≢ i) × (slice_get xs i ≡ Some b)) ⊎ ((p ≡ i) × (a ≡ b))
        → ((suc p ≢ suc i) × (slice_get xs i ≡ Some b)) ⊎ ((suc p ≡ suc i) × (a ≡ b))
    by_place (inl at) = inl (λ same. at.0 (omega (arith, same)), at.1)
    by_place (inr at) = inr (ap suc at.0, at.1)

-- ---- reaches

-- of a longer list, and of a shorter one
reaches-longer : (n : ℕ) (xs ys : List AskedMessage) (b r k : ℕ) → k ≤ length xs → Reaches n xs b r k
    → Reaches n (xs ++ ys) b r k
reaches-longer n xs ys b r k inside reach = record {
  below = reach.below;
  own = λ p x e at. reach.own p x e (sym (get-left xs ys p (omega (arith, reach.below))) ∙ at);
  past = λ i x from to at own. reach.past i x from to (sym (get-left xs ys i (omega arith)) ∙ at) own;
}

reaches-shorter : (n : ℕ) (xs ys : List AskedMessage) (b r k : ℕ) → k ≤ length xs → Reaches n (xs ++ ys) b r k
    → Reaches n xs b r k
reaches-shorter n xs ys b r k inside reach = record {
  below = reach.below;
  own = λ p x e at. reach.own p x e (get-left xs ys p (omega (arith, reach.below)) ∙ at);
  past = λ i x from to at own. reach.past i x from to (get-left xs ys i (omega arith) ∙ at) own;
}

-- ---- one more

module _ (n : ℕ) (heads older : List ℕ) (xs : List AskedMessage) (x : AskedMessage)
    (chained : IsChained n heads older xs)
    (some : 0 < n) (small : x.order_id < 2 ^ 64) (inside : bucket n x.order_id < n) where
  first-pushed : (b : ℕ) → b < n
      → Reaches n (xs ++ x ∷ []) b (get_or (set heads (bucket n x.order_id) (length xs + 1)) b 0)
      (length (xs ++ x ∷ []))
  first-pushed b there = by_bucket (cases_eq b (bucket n x.order_id))
    where
      by_bucket : (b ≡ bucket n x.order_id) ⊎ (b ≢ bucket n x.order_id)
          → Reaches n (xs ++ x ∷ []) b (get_or (set heads (bucket n x.order_id) (length xs + 1)) b 0)
          (length (xs ++ x ∷ []))
      by_bucket (inl same) =
          subst (λ (r : ℕ). Reaches n (xs ++ x ∷ []) b r (length (xs ++ x ∷ [])))
          (sym (ap (λ (c : ℕ). get_or (set heads (bucket n x.order_id) (length xs + 1)) c 0) same
          ∙ get_or-set_same heads (bucket n x.order_id) (length xs + 1) 0 (omega (arith, chained.wide))))
          (record {
            below = omega (arith, length_push xs x);
            own = λ p y e at. by_place p y e (get-pushed xs x p y at);
            past = λ i y from to at o. absurd (omega (arith, length_push xs x));
          })
        where
          by_place : (p : ℕ) (y : AskedMessage) → length xs + 1 ≡ p + 1
              → ((p < length xs) × (slice_get xs p ≡ Some y)) ⊎ ((p ≡ length xs) × (x ≡ y)) → bucket n y.order_id ≡ b
          by_place p y e (inl at) = absurd (omega (arith, at.0))
          by_place p y e (inr at) = ap (λ (z : AskedMessage). bucket n z.order_id) (sym at.1) ∙ sym same
      by_bucket (inr other) =
          subst (λ (r : ℕ). Reaches n (xs ++ x ∷ []) b r (length (xs ++ x ∷ [])))
          (sym (get_or-set_other heads (bucket n x.order_id) b (length xs + 1) 0 other))
          (record {
            below = omega (arith, length_push xs x, (chained.begins b there).below);
            own = (reaches-longer n xs (x ∷ []) b (get_or heads b 0) (length xs) (omega arith)
                (chained.begins b there)).own;
            past = λ i y from to at o. by_place i y from o (get-pushed xs x i y at);
          })
        where
          by_place : (i : ℕ) (y : AskedMessage) → get_or heads b 0 ≤ i → bucket n y.order_id ≡ b
              → ((i < length xs) × (slice_get xs i ≡ Some y)) ⊎ ((i ≡ length xs) × (x ≡ y)) → is_settled y ≡ true
          by_place i y from o (inl at) = (chained.begins b there).past i y from at.0 at.1 o
          by_place i y from o (inr at) = absurd (other
              (sym o ∙ ap (λ (z : AskedMessage). bucket n z.order_id) (sym at.1)))

  next-pushed : (inside_heads : length heads ≡ n) (j : ℕ) (y : AskedMessage) → slice_get (xs ++ x ∷ []) j ≡ Some y
      → Reaches n (xs ++ x ∷ []) (bucket n y.order_id)
      (get_or (older ++ get_or heads (bucket n x.order_id) 0 ∷ []) j 0) j
  next-pushed wide j y at = by_place (get-pushed xs x j y at)
    where
      by_place : ((j < length xs) × (slice_get xs j ≡ Some y)) ⊎ ((j ≡ length xs) × (x ≡ y))
          → Reaches n (xs ++ x ∷ []) (bucket n y.order_id)
          (get_or (older ++ get_or heads (bucket n x.order_id) 0 ∷ []) j 0) j
      by_place (inl old) =
          subst (λ (r : ℕ). Reaches n (xs ++ x ∷ []) (bucket n y.order_id) r j)
          (sym (get_or_append_left older (get_or heads (bucket n x.order_id) 0 ∷ []) 0 j
          (omega (arith, chained.long, old.0))))
          (reaches-longer n xs (x ∷ []) (bucket n y.order_id) (get_or older j 0) j (omega (arith, old.0))
          (chained.goes_on j y old.1))
      by_place (inr new) =
          subst (λ (r : ℕ). Reaches n (xs ++ x ∷ []) (bucket n y.order_id) r j)
          (sym (get_or_push older (get_or heads (bucket n x.order_id) 0) 0 j (chained.long ∙ sym new.0)))
          (subst (λ (k : ℕ). Reaches n (xs ++ x ∷ []) (bucket n y.order_id) (get_or heads (bucket n x.order_id) 0) k)
          (sym new.0)
          (subst (λ (z : AskedMessage). Reaches n (xs ++ x ∷ []) (bucket n z.order_id)
          (get_or heads (bucket n x.order_id) 0)
          (length xs)) new.1
          (reaches-longer n xs (x ∷ []) (bucket n x.order_id) (get_or heads (bucket n x.order_id) 0) (length xs)
          (omega arith) (chained.begins (bucket n x.order_id) inside))))

  pub chained-pushed : IsChained n (set heads (bucket n x.order_id) (length xs + 1))
      (older ++ get_or heads (bucket n x.order_id) 0 ∷ []) (xs ++ x ∷ [])
  chained-pushed = record {
    wide = length-set heads (bucket n x.order_id) (length xs + 1) ∙ chained.wide;
    long = length_push older (get_or heads (bucket n x.order_id) 0) ∙ ap (λ (k : ℕ). k + 1) chained.long
        ∙ sym (length_push xs x);
    some = λ nonempty. some;
    small = λ i y at. by_place i y (get-pushed xs x i y at);
    begins = first-pushed;
    goes_on = next-pushed chained.wide;
  }
    where
      by_place : (i : ℕ) (y : AskedMessage)
          → ((i < length xs) × (slice_get xs i ≡ Some y)) ⊎ ((i ≡ length xs) × (x ≡ y)) → y.order_id < 2 ^ 64
      by_place i y (inl at) = chained.small i y at.1
      by_place i y (inr at) = subst (λ (z : AskedMessage). z.order_id < 2 ^ 64) at.1 small

-- ---- one less

pub chained-popped : (n : ℕ) (heads older : List ℕ) (xs : List AskedMessage) (x : AskedMessage) (r : ℕ)
    → bucket n x.order_id < n
    → IsChained n heads (older ++ r ∷ []) (xs ++ x ∷ []) → IsChained n (set heads (bucket n x.order_id) r) older xs
chained-popped n heads older xs x r inside chained = record {
  wide = length-set heads (bucket n x.order_id) r ∙ chained.wide;
  long = as_long;
  some = λ nonempty. omega (arith, inside);
  small = λ i y at. chained.small i y (get-left xs (x ∷ []) i (slice_get_within xs i y at) ∙ at);
  begins = λ b there. by_bucket b there (cases_eq b (bucket n x.order_id));
  goes_on = λ j y at. goes_on j y at (slice_get_within xs j y at);
}
  where
    as_long : length older ≡ length xs
    as_long = omega (arith, length_push older r, length_push xs x, chained.long)

    own_place : slice_get (xs ++ x ∷ []) (length xs) ≡ Some x
    own_place = get-end xs x

    own_reach : Reaches n xs (bucket n x.order_id) r (length xs)
    own_reach = reaches-shorter n xs (x ∷ []) (bucket n x.order_id) r (length xs) (omega arith)
        (subst (λ (s : ℕ). Reaches n (xs ++ x ∷ []) (bucket n x.order_id) s (length xs))
        (get_or_push older r 0 (length xs) as_long) (chained.goes_on (length xs) x own_place))

    by_bucket : (b : ℕ) → b < n → (b ≡ bucket n x.order_id) ⊎ (b ≢ bucket n x.order_id)
        → Reaches n xs b (get_or (set heads (bucket n x.order_id) r) b 0) (length xs)
    by_bucket b there (inl same) =
        subst (λ (c : ℕ). Reaches n xs c (get_or (set heads (bucket n x.order_id) r) c 0) (length xs)) (sym same)
        (subst (λ (s : ℕ). Reaches n xs (bucket n x.order_id) s (length xs))
        (sym (get_or-set_same heads (bucket n x.order_id) r 0 (omega (arith, chained.wide)))) own_reach)
    by_bucket b there (inr other) =
        subst (λ (s : ℕ). Reaches n xs b s (length xs)) (sym (get_or-set_other heads (bucket n x.order_id) b r 0 other))
        (record {
          below = below;
          own = λ p y e at. was.own p y e (get-left xs (x ∷ []) p (omega (arith, below)) ∙ at);
          past = λ i y from to at o. was.past i y from (omega (arith, length_push xs x))
              (get-left xs (x ∷ []) i to ∙ at) o;
        })
      where
        was : Reaches n (xs ++ x ∷ []) b (get_or heads b 0) (length (xs ++ x ∷ []))
        was = chained.begins b there

        by_end : (get_or heads b 0 ≡ length xs + 1) ⊎ (get_or heads b 0 ≢ length xs + 1)
            → get_or heads b 0 ≤ length xs
        by_end (inl e) = absurd (other (sym (was.own (length xs) x e own_place)))
        by_end (inr ne) = omega (arith, was.below, length_push xs x)

        below : get_or heads b 0 ≤ length xs
        below = by_end (cases_eq (get_or heads b 0) (length xs + 1))

    goes_on : (j : ℕ) (y : AskedMessage) → slice_get xs j ≡ Some y → j < length xs
        → Reaches n xs (bucket n y.order_id) (get_or older j 0) j
    goes_on j y at there = reaches-shorter n xs (x ∷ []) (bucket n y.order_id) (get_or older j 0) j (omega arith)
        (subst (λ (s : ℕ). Reaches n (xs ++ x ∷ []) (bucket n y.order_id) s j)
        (get_or_append_left older (r ∷ []) 0 j (omega (arith, as_long)))
        (chained.goes_on j y (get-left xs (x ∷ []) j there ∙ at)))

-- ---- what is settled is left out

pub reaches-past : (n : ℕ) (heads older : List ℕ) (xs : List AskedMessage) → IsChained n heads older xs
    → (p : ℕ) (x : AskedMessage) → slice_get xs p ≡ Some x → is_settled x ≡ true
    → (b k : ℕ) → Reaches n xs b (p + 1) k → Reaches n xs b (get_or older p 0) k
reaches-past n heads older xs chained p x at settled b k reach =
    let down : Reaches n xs b (get_or older p 0) p =
    subst (λ (c : ℕ). Reaches n xs c (get_or older p 0) p) (reach.own p x refl at) (chained.goes_on p x at) in
    record {
      below = omega (arith, down.below, reach.below);
      own = down.own;
      past = λ i y from to it o. by_place i y from to it o down (cases_eq i p);
    }
  where
    by_place : (i : ℕ) (y : AskedMessage) → get_or older p 0 ≤ i → i < k → slice_get xs i ≡ Some y
        → bucket n y.order_id ≡ b → Reaches n xs b (get_or older p 0) p → (i ≡ p) ⊎ (i ≢ p) → is_settled y ≡ true
    by_place i y from to it o down (inl same) =
        let alike : x ≡ y = same-some x y (sym at ∙ ap (slice_get xs) (sym same) ∙ it) in
        ap is_settled (sym alike) ∙ settled
    by_place i y from to it o down (inr other) = by_side (cases_lt i p)
      where
        by_side : (i < p) ⊎ (p ≤ i) → is_settled y ≡ true
        by_side (inl less) = down.past i y from less it o
        by_side (inr more) = reach.past i y (omega (arith, more, other)) to it o

-- a chain may begin, or go on, by any reach
pub chained-begins : (n : ℕ) (heads older : List ℕ) (xs : List AskedMessage) → IsChained n heads older xs
    → (b r : ℕ) → b < n → Reaches n xs b r (length xs) → IsChained n (set heads b r) older xs
chained-begins n heads older xs chained b r inside reach = record {
  wide = length-set heads b r ∙ chained.wide;
  long = chained.long;
  some = chained.some;
  small = chained.small;
  begins = λ c there. by_bucket c there (cases_eq c b);
  goes_on = chained.goes_on;
}
  where
    by_bucket : (c : ℕ) → c < n → (c ≡ b) ⊎ (c ≢ b) → Reaches n xs c (get_or (set heads b r) c 0) (length xs)
    by_bucket c there (inl same) =
        subst (λ (d : ℕ). Reaches n xs d (get_or (set heads b r) d 0) (length xs)) (sym same)
        (subst (λ (s : ℕ). Reaches n xs b s (length xs))
        (sym (get_or-set_same heads b r 0 (omega (arith, chained.wide))))
        reach)
    by_bucket c there (inr other) = subst (λ (s : ℕ). Reaches n xs c s (length xs))
        (sym (get_or-set_other heads b c r 0 other)) (chained.begins c there)

pub chained-goes_on : (n : ℕ) (heads older : List ℕ) (xs : List AskedMessage) → IsChained n heads older xs
    → (p r : ℕ) (x : AskedMessage) → slice_get xs p ≡ Some x → Reaches n xs (bucket n x.order_id) r p
    → IsChained n heads (set older p r) xs
chained-goes_on n heads older xs chained p r x at reach = record {
  wide = chained.wide;
  long = length-set older p r ∙ chained.long;
  some = chained.some;
  small = chained.small;
  begins = chained.begins;
  goes_on = λ j y it. by_place j y it (cases_eq j p);
}
  where
    by_place : (j : ℕ) (y : AskedMessage) → slice_get xs j ≡ Some y → (j ≡ p) ⊎ (j ≢ p)
        → Reaches n xs (bucket n y.order_id) (get_or (set older p r) j 0) j
    by_place j y it (inl same) =
        let alike : x ≡ y = same-some x y (sym at ∙ ap (slice_get xs) (sym same) ∙ it) in
        subst (λ (z : AskedMessage). Reaches n xs (bucket n z.order_id) (get_or (set older p r) j 0) j) alike
        (subst (λ (i : ℕ). Reaches n xs (bucket n x.order_id) (get_or (set older p r) i 0) i) (sym same)
        (subst (λ (s : ℕ). Reaches n xs (bucket n x.order_id) s p)
        (sym (get_or-set_same older p r 0 (omega (arith, chained.long, slice_get_within xs p x at)))) reach))
    by_place j y it (inr other) = subst (λ (s : ℕ). Reaches n xs (bucket n y.order_id) s j)
        (sym (get_or-set_other older p j r 0 other)) (chained.goes_on j y it)

-- ---- other answers

-- Each message is of the same order, and is settled if it was.
pub record KeepsChains (xs ys : List AskedMessage) : Type 0 where
  pub long : length ys ≡ length xs
  pub each : (i : ℕ) (y : AskedMessage) → slice_get ys i ≡ Some y
      → (x : AskedMessage) × (slice_get xs i ≡ Some x) × (y.order_id ≡ x.order_id)
      × (is_settled x ≡ true → is_settled y ≡ true)

reaches-kept : (n : ℕ) (xs ys : List AskedMessage) → KeepsChains xs ys → (b r k : ℕ) → Reaches n xs b r k
    → Reaches n ys b r k
reaches-kept n xs ys keeps b r k reach = record {
  below = reach.below;
  own = λ p y e at. let was = keeps.each p y at in ap (bucket n) was.2 ∙ reach.own p was.0 e was.1;
  past = λ i y from to at o. let was = keeps.each i y at in
      was.3 (reach.past i was.0 from to was.1 (ap (bucket n) (sym was.2) ∙ o));
}

pub chained-kept : (n : ℕ) (heads older : List ℕ) (xs ys : List AskedMessage) → KeepsChains xs ys
    → IsChained n heads older xs → IsChained n heads older ys
chained-kept n heads older xs ys keeps chained = record {
  wide = chained.wide;
  long = chained.long ∙ sym keeps.long;
  some = λ nonempty. chained.some (omega (arith, nonempty, keeps.long));
  small = λ i y at. let was = keeps.each i y at in omega (arith, was.2, chained.small i was.0 was.1);
  begins = λ b there. subst (λ (k : ℕ). Reaches n ys b (get_or heads b 0) k) (sym keeps.long)
      (reaches-kept n xs ys keeps b (get_or heads b 0) (length xs) (chained.begins b there));
  goes_on = λ j y at. let was = keeps.each j y at in
      subst (λ (id : ℕ). Reaches n ys (bucket n id) (get_or older j 0) j) (sym was.2)
      (reaches-kept n xs ys keeps (bucket n was.0.order_id) (get_or older j 0) j (chained.goes_on j was.0 was.1));
}

-- ---- as the code has them

pub chained-linked : (n : ℕ) (heads older newer : List ℕ) (xs : List AskedMessage) (x : AskedMessage)
    → IsChained n heads older xs → x.order_id < 2 ^ 64 → (b v r : ℕ) → b < n → b ≡ bucket n x.order_id
    → v ≡ length xs + 1 → r ≡ get_or heads b 0 → newer ≡ older ++ r ∷ []
    → IsChained n (set heads b v) newer (xs ++ x ∷ [])
chained-linked n heads older newer xs x chained small b v r inside is_own is_next is_read is_more =
    subst (λ (os : List ℕ). IsChained n (set heads b v) os (xs ++ x ∷ [])) (sym is_more)
    (subst (λ (s : ℕ). IsChained n (set heads b v) (older ++ s ∷ []) (xs ++ x ∷ [])) (sym is_read)
    (subst (λ (w : ℕ). IsChained n (set heads b w) (older ++ get_or heads b 0 ∷ []) (xs ++ x ∷ [])) (sym is_next)
    (subst (λ (c : ℕ). IsChained n (set heads c (length xs + 1)) (older ++ get_or heads c 0 ∷ []) (xs ++ x ∷ []))
    (sym is_own) (chained-pushed n heads older xs x chained (omega (arith, inside)) small
    (subst (λ (c : ℕ). c < n) is_own inside)))))

pub chained-unlinked : (n : ℕ) (heads older newer : List ℕ) (xs : List AskedMessage) (x : AskedMessage) (b r : ℕ)
    → b < n → b ≡ bucket n x.order_id → older ≡ newer ++ r ∷ [] → IsChained n heads older (xs ++ x ∷ [])
    → IsChained n (set heads b r) newer xs
chained-unlinked n heads older newer xs x b r inside is_own is_less chained =
    subst (λ (c : ℕ). IsChained n (set heads c r) newer xs) (sym is_own)
    (chained-popped n heads newer xs x r (subst (λ (c : ℕ). c < n) is_own inside)
    (subst (λ (os : List ℕ). IsChained n heads os (xs ++ x ∷ [])) is_less chained))

pub get-there : {A : Type 0} (xs : List A) (p : ℕ) → p < length xs → (x : A) × (slice_get xs p ≡ Some x)
get-there [] p inside = absurd (omega arith)
get-there (x ∷ xs) zero inside = (x, refl)
get-there (x ∷ xs) (suc p) inside = get-there xs p (omega arith)

pub older-below : (n : ℕ) (heads older : List ℕ) (xs : List AskedMessage) → IsChained n heads older xs
    → (p r : ℕ) → p < length xs → r ≡ get_or older p 0 → r ≤ p
older-below n heads older xs chained p r inside is_read =
    let it = get-there xs p inside in
    subst (λ (s : ℕ). s ≤ p) (sym is_read) (chained.goes_on p it.0 it.1).below

-- a reach whose last message is settled leads on to what that leads to
pub reaches-on : (n : ℕ) (heads older : List ℕ) (xs : List AskedMessage) → IsChained n heads older xs
    → (r s : ℕ) (x : AskedMessage) → 0 < r → slice_get xs (r - 1) ≡ Some x → is_settled x ≡ true
    → s ≡ get_or older (r - 1) 0 → (b k : ℕ) → Reaches n xs b r k → Reaches n xs b s k
reaches-on n heads older xs chained r s x some at settled is_read b k reach =
    let whole : r ≡ (r - 1) + 1 = omega arith in
    subst (λ (t : ℕ). Reaches n xs b t k) (sym is_read)
    (reaches-past n heads older xs chained (r - 1) x at settled b k (subst (λ (t : ℕ). Reaches n xs b t k) whole reach))
