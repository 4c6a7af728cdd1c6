-- Ports side by side, a turn more for one after another.
use Rattle.std.proofs.Common.{◌≡◌, ◌<◌, ◌≤◌, ◌+◌, ℕ, Bool, true, false, List, [], ◌∷◌, ◌++◌, length, map, reverse, get_or, set}
use Rattle.std.proofs.Common.{sym, ap, subst, ◌∙◌, arith}
use Rattle.std.specs.Prelude.{nat_lt, if◌then◌else◌}
use Rattle.std.proofs.lemmas.Bool.Decides.{nat_tests}
use Rattle.order_accounts.specs.ouch_codec.declared.outbound.Outbound.{Outbound}
use Rattle.gate_law.specs.Settings.{Settings, port_terms}
use Rattle.gate_law.specs.Events.{History, Turn}
use Rattle.gate_audit.specs.declared.messages.HandledSoFar.{HandledSoFar}
use Rattle.gate_audit.specs.Again.{called_again}
use Rattle.gate_audit.specs.Called.{AreHandled, AreStepped, IsHandled, heard_on}

is-before : (k i : ℕ) → k < i → nat_lt k i ≡ true
is-before k i e = grind (arith, nat_tests)

is-behind : (k i : ℕ) → i ≤ k → nat_lt k i ≡ false
is-behind k i e = grind (arith, nat_tests)

module _ (s : Settings) (t : Turn) (h : History) where
  abbrev At : ℕ → Bool → HandledSoFar → Type 0
  At k b x = IsHandled (port_terms s (k + 1)) (k + 1) (if b then t ∷ h else h) x

  pub stepped-first : (k : ℕ) (xs : List HandledSoFar) → AreHandled s h k xs → AreStepped s t h 0 k xs
  stepped-first k [] is = tt
  stepped-first k (x ∷ xs) is =
      (subst (λ (b : Bool). At k b x) (sym (is-behind k 0 (omega arith))) is.0, stepped-first (k + 1) xs is.1)

  pub stepped-last : (i k : ℕ) (xs : List HandledSoFar) → k + length xs ≤ i → AreStepped s t h i k xs
      → AreHandled s (t ∷ h) k xs
  stepped-last i k [] few is = tt
  stepped-last i k (x ∷ xs) few is = (
    subst (λ (b : Bool). At k b x) (is-before k i (omega (arith, few))) is.0,
    stepped-last i (k + 1) xs (omega (arith, few)) is.1,
  )

  pub stepped-at : (i k : ℕ) (xs : List HandledSoFar) (j : ℕ) (x : HandledSoFar) → k + j ≡ i → j < length xs
      → x ≡ get_or xs j x → AreStepped s t h i k xs → IsHandled (port_terms s (i + 1)) (i + 1) h x
  stepped-at i k [] j x there inside is stepped = absurd (omega (arith, inside))
  stepped-at i k (y ∷ ys) ℕ.zero x there inside is stepped =
      let same : k ≡ i = omega (arith, there) in
      subst (λ (z : HandledSoFar). IsHandled (port_terms s (i + 1)) (i + 1) h z) (sym is)
      (subst (λ (n : ℕ). IsHandled (port_terms s (n + 1)) (n + 1) h y) same
      (subst (λ (b : Bool). At k b y) (is-behind k i (omega (arith, same))) stepped.0))
  stepped-at i k (y ∷ ys) (ℕ.suc j) x there inside is stepped =
      stepped-at i (k + 1) ys j x (omega (arith, there)) (omega (arith, inside)) is stepped.1

  stepped-behind : (i k : ℕ) (xs : List HandledSoFar) → i < k → AreStepped s t h i k xs → AreStepped s t h (i + 1) k xs
  stepped-behind i k [] past is = tt
  stepped-behind i k (x ∷ xs) past is = (
    subst (λ (b : Bool). At k b x) (is-behind k i (omega (arith, past)) ∙ sym (is-behind k (i + 1) (omega (arith, past))))
        is.0,
    stepped-behind i (k + 1) xs (omega (arith, past)) is.1,
  )

  pub stepped-set : (i k : ℕ) (xs : List HandledSoFar) (j : ℕ) (y : HandledSoFar) → k + j ≡ i
      → IsHandled (port_terms s (i + 1)) (i + 1) (t ∷ h) y → AreStepped s t h i k xs
      → AreStepped s t h (i + 1) k (set xs j y)
  stepped-set i k [] j y there own is = tt
  stepped-set i k (x ∷ xs) ℕ.zero y there own is =
      let same : i ≡ k = omega (arith, there) in (
        subst (λ (b : Bool). At k b y) (sym (is-before k (i + 1) (omega (arith, same))))
            (subst (λ (n : ℕ). IsHandled (port_terms s (n + 1)) (n + 1) (t ∷ h) y) same own),
        stepped-behind i (k + 1) xs (omega (arith, same)) is.1,
      )
  stepped-set i k (x ∷ xs) (ℕ.suc j) y there own is = (
    subst (λ (b : Bool). At k b x) (is-before k i (omega (arith, there)) ∙ sym (is-before k (i + 1) (omega
        (arith, there)))) is.0,
    stepped-set i (k + 1) xs j y (omega (arith, there)) own is.1,
  )

pub handled-push : (s : Settings) (h : History) (k : ℕ) (xs : List HandledSoFar) (y : HandledSoFar) (p : ℕ)
    → p ≡ k + length xs + 1 → AreHandled s h k xs → IsHandled (port_terms s p) p h y → AreHandled s h k (xs ++ y ∷ [])
handled-push s h k [] y p is all own =
    (subst (λ (n : ℕ). IsHandled (port_terms s n) n h y) (is ∙ omega arith) own, tt)
handled-push s h k (x ∷ xs) y p is all own = (all.0, handled-push s h (k + 1) xs y p (omega (arith, is)) all.1 own)

-- the messages of the port at a place
pub heard-at : (s : Settings) (h : History) (k : ℕ) (xs : List HandledSoFar) (j : ℕ) (d : List Outbound) (p : ℕ)
    → p ≡ k + j + 1 → j < length xs → AreHandled s h k xs
    → get_or (map heard_on xs) j d ≡ reverse (called_again (port_terms s p) p h).handled
heard-at s h k [] j d p is inside all = absurd (omega (arith, inside))
heard-at s h k (x ∷ xs) ℕ.zero d p is inside all =
    let same : k + 1 ≡ p = omega (arith, is) in
    all.0.again.handled ∙ ap (λ (n : ℕ). reverse (called_again (port_terms s n) n h).handled) same
heard-at s h k (x ∷ xs) (ℕ.suc j) d p is inside all =
    heard-at s h (k + 1) xs j d p (omega (arith, is)) (omega (arith, inside)) all.1
