-- Messages that say what is asked of an order, where every token leads to the order.
use Rattle.std.proofs.Common.{◌≡◌, ℕ, List, [], ◌∷◌, refl, subst}
use Rattle.order_law.specs.Headline.{Each}
use Rattle.order_law.specs.History.{Asked, Said, SaysCancel, SaysNew, SaysReplace}
use Rattle.order_machine.specs.Runs.{Finds, finds_said}
use Rattle.outstanding.specs.Keeping.{always}
use Rattle.outstanding.specs.KeptInTurns.{SaidOfOrder}

found-always : (order : List ℕ) (s : Said) → finds_said (always order) order s
found-always order (SaysNew token) = tt
found-always order (SaysReplace from to) = refl
found-always order (SaysCancel token) = refl

always-finds : (order : List ℕ) (asks : List Asked) → Each (λ (a : Asked). a.order ≡ order) asks
    → Each (Finds (always order)) asks
always-finds order [] of_order = tt
always-finds order (a ∷ asks) of_order = (
  subst (λ (k : List ℕ). Finds (always k) a) of_order.0
      (found-always a.order a.said),
  always-finds order asks of_order.1,
)

pub said-of-order : SaidOfOrder
said-of-order standing order asks messages of_order says = says (always order) (always-finds order asks of_order)
