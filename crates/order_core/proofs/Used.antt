-- Used ids are led to by their keys; room in a list and in its index.
use Rattle.std.proofs.Common.{◌≡◌, ◌≤◌, ℕ, Bool, true, false, List, refl, sym, arith, subst, eqb-true, leb-true}
use Rattle.std.proofs.Common.{true≢false}
use Rattle.std.specs.Prelude.{◌&&◌, ◌==◌, nat_le, bytes_eq, if◌then◌else◌}
use Rattle.std.proofs.lemmas.Bool.{and_parts}
use Rattle.std.proofs.lemmas.Bool.Decides.{nat_tests}
use Rattle.undo_index.proofs.Keys.{key-of-same}
use Rattle.undo_index.specs.Hints.{Hints, LeadsTo, hint_of}
use Rattle.undo_index.specs.KeyLaws.{same-is}
use Rattle.undo_index.specs.TextKeys.{same_key, text_key}
use Rattle.undo_index.specs.declared.text_key.TextKey.{TextKey}
use Rattle.order_machine.proofs.Texts.{eq-is}
use Rattle.order_machine.specs.Table.{UsedId, is_same_id}
use Rattle.order_core.specs.UsedKeys.{has_used_key, room_of}

within : (m n : ℕ) → m ≤ n → nat_le m n ≡ true
within m n few = grind (arith, nat_tests)

pub room-for : (a b : ℕ) → 1 ≤ a → 1 ≤ b → 1 ≤ room_of a b
room-for a b x y = by_both (nat_le 1 a) (nat_le 1 b) (within 1 a x) (within 1 b y)
  where
    by_both : (p q : Bool) → p ≡ true → q ≡ true → 1 ≤ (if p && q then 1 else 0)
    by_both true true e f = omega arith
    by_both true false e f = absurd (true≢false (sym f))
    by_both false q e f = absurd (true≢false (sym e))

pub room-in : (a b : ℕ) → 1 ≤ room_of a b → (1 ≤ a) × (1 ≤ b)
room-in a b h =
    let parts = and_parts (nat_le 1 a) (nat_le 1 b) (one (nat_le 1 a && nat_le 1 b) h) in
    (leb-true 1 a parts.0, leb-true 1 b parts.1)
  where
    one : (p : Bool) → 1 ≤ (if p then 1 else 0) → p ≡ true
    one true e = refl
    one false e = absurd (omega (arith, e))

pub used-key : (client : ℕ) (id : List ℕ) (u : UsedId) → is_same_id client id u ≡ true
    → has_used_key (text_key client id) u ≡ true
used-key client id u t =
    let parts = and_parts (u.client == client) (bytes_eq u.id id) t in
    key-of-same client u.client id u.id (sym (eqb-true u.client client parts.0)) (sym (eq-is u.id id parts.1))

pub used-leads : (h : Hints TextKey) (u : UsedId) (place : ℕ)
    → LeadsTo (hint_of same_key h (text_key u.client u.id)) place → (k : TextKey) → has_used_key k u ≡ true
    → LeadsTo (hint_of same_key h k) place
used-leads h u place led k t = subst (λ (q : TextKey). LeadsTo (hint_of same_key h q) place)
    (sym (same-is k (text_key u.client u.id) t)) led
