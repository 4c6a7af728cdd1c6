-- An order in its place in the table, and all others as they were.
use Rattle.std.proofs.Common.{◌≡◌, ℕ, Bool, true, false, List, [], ◌∷◌, map, refl, sym, ap, ◌∙◌, bytes_eq, Some}
use Rattle.std.specs.Prelude.{if◌then◌else◌}
use Rattle.std.specs.List.{find}
use Rattle.order_law.specs.History.{Entry}
use Rattle.order_law.specs.Headline.{Each}
use Rattle.order_machine.specs.OrderRecord.{OrderRecord}
use Rattle.order_machine.specs.Table.{has_number, put}
use Rattle.order_machine.proofs.Texts.{eq-is, eq-same, eq-turned}

-- all OrderIDs are different
abbrev pub AreDistinct : List Entry → Type 0
AreDistinct [] = Unit {0}
AreDistinct (e ∷ es) = Each (λ (x : Entry). bytes_eq e.order x.order ≡ false) es × AreDistinct es

abbrev pub entries_of : List OrderRecord → List Entry
entries_of os = map (λ (o : OrderRecord). o.new) os

module _ (P Q : OrderRecord → Type 0) (p : OrderRecord) (now : Q p) (others : (x : OrderRecord) → P x → bytes_eq p.new.order x.new.order ≡ false → Q x) where
  -- where none has its number
  Each-apart : (k : List ℕ) → k ≡ p.new.order → (os : List OrderRecord)
      → Each (λ (x : Entry). bytes_eq k x.order ≡ false) (entries_of os) → Each P os → Each Q os
  Each-apart k is_k [] apart each = tt
  Each-apart k is_k (o ∷ os) apart each = (
    others o each.0
        (ap (λ i. bytes_eq i o.new.order) (sym is_k) ∙ apart.0),
    Each-apart k is_k os apart.1 each.1,
  )

  pub Each-put : (os : List OrderRecord) → AreDistinct (entries_of os) → Each P os → Each Q (put p os)
  Each-put [] distinct each = tt
  Each-put (o ∷ os) distinct each = by_number (has_number p.new.order o) refl (Each-put os distinct.1 each.1)
    where
      by_number : (b : Bool) → has_number p.new.order o ≡ b → Each Q (put p os)
          → Each Q (if b then p ∷ os else o ∷ put p os)
      by_number true same rest = (now, Each-apart o.new.order (eq-is o.new.order p.new.order same) os distinct.0 each.1)
      by_number false other rest = (others o each.0 (eq-turned o.new.order p.new.order other), rest)

-- the accepted messages are the same
pub entries-put : (P : OrderRecord → Type 0) (p : OrderRecord) (os : List OrderRecord)
    → ((x : OrderRecord) → P x → x.new.order ≡ p.new.order → x.new ≡ p.new) → Each P os
    → entries_of (put p os) ≡ entries_of os
entries-put P p [] same each = refl
entries-put P p (o ∷ os) same each = by_number (has_number p.new.order o) refl (entries-put P p os same each.1)
  where
    by_number : (b : Bool) → has_number p.new.order o ≡ b → entries_of (put p os) ≡ entries_of os
        → entries_of (if b then p ∷ os else o ∷ put p os) ≡ o.new ∷ entries_of os
    by_number true here rest = ap (λ (e : Entry). e ∷ entries_of os)
        (sym (same o each.0 (eq-is o.new.order p.new.order here)))
    by_number false other rest = ap (λ es. o.new ∷ es) rest

-- ---- what has a number then

pub number-put_own : (p : OrderRecord) (os : List OrderRecord) (x : OrderRecord)
    → find (has_number p.new.order) os ≡ Some x → find (has_number p.new.order) (put p os) ≡ Some p
number-put_own p [] x found = absurd (cc)
number-put_own p (o ∷ os) x found = by_number (has_number p.new.order o) refl found (number-put_own p os x)
  where
    by_number : (b : Bool) → has_number p.new.order o ≡ b
        → (if b then Some o else find (has_number p.new.order) os) ≡ Some x
        → (find (has_number p.new.order) os ≡ Some x → find (has_number p.new.order) (put p os) ≡ Some p)
        → find (has_number p.new.order) (if b then p ∷ os else o ∷ put p os) ≡ Some p
    by_number true here found later = rw (eq-same p.new.order) refl
    by_number false other found later = rw other (later found)

pub number-put_other : (p : OrderRecord) (k : List ℕ) → bytes_eq p.new.order k ≡ false → (os : List OrderRecord)
    → find (has_number k) (put p os) ≡ find (has_number k) os
number-put_other p k apart [] = refl
number-put_other p k apart (o ∷ os) = by_number (has_number p.new.order o) refl (number-put_other p k apart os)
  where
    by_number : (b : Bool) → has_number p.new.order o ≡ b → find (has_number k) (put p os) ≡ find (has_number k) os
        → find (has_number k) (if b then p ∷ os else o ∷ put p os) ≡ find (has_number k) (o ∷ os)
    by_number true here rest = let off : bytes_eq o.new.order k ≡ false =
        ap (λ i. bytes_eq i k) (eq-is o.new.order p.new.order here) ∙ apart in rw (apart, off) refl
    by_number false other rest = rw rest refl
