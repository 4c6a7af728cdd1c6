-- Two orders in the book are one where all that they say is the same.
use Rattle.std.proofs.Common.{◌≡◌, ℕ, ◌<◌, ◌^◌, Bool, List, refl}
use Rattle.std.proofs.Props.{props}
use mathlib.Core.HLevel.{Σ_prop_path}
use Rattle.ouch_codec.specs.declared.inbound.enter_order.EnterOrder.{EnterOrder}
use Rattle.ouch_codec.specs.declared.inbound.replace.Replace.{Replace}
use Rattle.market_law.specs.order_law.declared.trade.Trade.{Trade}
use Rattle.market_law.specs.Machine.{BookOrder}

abbrev Fit : ℕ → Type 0
Fit n = n < 2 ^ 32

Fit-prop : (n : ℕ) → IsProp (Fit n)
Fit-prop n = hlevel props

same-fit : (m n : ℕ) (p : Fit m) (q : Fit n) → m ≡ n → ◌≡◌ {A = (k : ℕ) × Fit k} (m, p) (n, q)
same-fit m n p q e = Σ_prop_path {A = ℕ} {B = Fit} Fit-prop {u = (m, p)} {v = (n, q)} e

abbrev of : EnterOrder → List Replace → (k : ℕ) × Fit k → ℕ → ℕ → ℕ → List Trade → Bool → BookOrder
of entered replacements u executed cancelled value trades has_traded = record {
  entered = entered;
  replacements = replacements;
  unfilled = u.0;
  executed = executed;
  cancelled = cancelled;
  value = value;
  trades = trades;
  has_traded = has_traded;
  unfilled_set = u.1;
}

same-parts : (e e' : EnterOrder) (r r' : List Replace) (u u' : (k : ℕ) × Fit k) (x x' c c' v v' : ℕ) (t t' : List Trade)
    (h h' : Bool)
    → e ≡ e' → r ≡ r' → u ≡ u' → x ≡ x' → c ≡ c' → v ≡ v' → t ≡ t' → h ≡ h'
    → of e r u x c v t h ≡ of e' r' u' x' c' v' t' h'
same-parts e e' r r' u u' x x' c c' v v' t t' h h' he hr hu hx hc hv ht hh = rw (he, hr, hu, hx, hc, hv, ht, hh) refl

pub same-order : (a b : BookOrder) → a.entered ≡ b.entered → a.replacements ≡ b.replacements → a.unfilled ≡ b.unfilled
    → a.executed ≡ b.executed → a.cancelled ≡ b.cancelled → a.value ≡ b.value → a.trades ≡ b.trades
    → a.has_traded ≡ b.has_traded → a ≡ b
same-order a b e r u x c v t h =
    same-parts a.entered b.entered a.replacements b.replacements (a.unfilled, a.unfilled_set)
    (b.unfilled, b.unfilled_set)
    a.executed b.executed a.cancelled b.cancelled a.value b.value a.trades b.trades a.has_traded b.has_traded
    e r (same-fit a.unfilled b.unfilled a.unfilled_set b.unfilled_set u) x c v t h
