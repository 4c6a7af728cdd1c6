-- The test whether bytes are a message of a layout says so just where they are one.
use Rattle.std.proofs.Common.{◌≡◌, ℕ, suc, ◌≤◌, Bool, true, false, List, [], ◌∷◌, length, take, drop, refl, arith}
use Rattle.std.specs.Prelude.{◌==◌, ◌&&◌, nat_le}
use Rattle.std.proofs.lemmas.Bool.Decides.{nat_tests}
use Rattle.ouch_codec.specs.declared.layout.Kind.{Kind}
use Rattle.ouch_codec.specs.Layout.{width, is_in, IsMessage, is_message}

le_test : (m n : ℕ) → m ≤ n → nat_le m n ≡ true
le_test m n h = grind (arith, nat_tests)

le_said : (m n : ℕ) → nat_le m n ≡ true → m ≤ n
le_said m n h = grind (arith, nat_tests)

-- what holds of two tests together
pub both : (a b : Bool) → (a && b) ≡ true → (a ≡ true) × (b ≡ true)
both true b h = (refl, h)
both false b h = absurd cc

not_nothing : (n : ℕ) → (suc n == 0) ≡ true → ⊥
not_nothing n h = grind (arith, nat_tests)

empty_of : (bs : List ℕ) → (length bs == 0) ≡ true → bs ≡ []
empty_of [] h = refl
empty_of (b ∷ bs) h = absurd (not_nothing (length bs) h)

-- a message passes the test
pub is_message-passes : (kinds : List Kind) (bs : List ℕ) → IsMessage kinds bs → is_message kinds bs ≡ true
is_message-passes [] bs message = rw message refl
is_message-passes (kind ∷ kinds) bs message =
    rw (
      le_test (width kind) (length bs) message.0,
      message.1,
      is_message-passes kinds
          (drop (width kind) bs) message.2,
    ) refl

-- what passes the test is a message
pub IsMessage-passed : (kinds : List Kind) (bs : List ℕ) → is_message kinds bs ≡ true → IsMessage kinds bs
IsMessage-passed [] bs h = empty_of bs h
IsMessage-passed (kind ∷ kinds) bs h =
    let long = both (nat_le (width kind) (length bs))
    (is_in kind (take (width kind) bs) && is_message kinds (drop (width kind) bs)) h in
    let inside = both (is_in kind (take (width kind) bs)) (is_message kinds (drop (width kind) bs)) long.1 in
    (le_said (width kind) (length bs) long.0, inside.0, IsMessage-passed kinds (drop (width kind) bs) inside.1)
