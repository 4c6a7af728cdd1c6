-- Stages, by their tests, and what is known of an order in the book.
use Rattle.std.proofs.Common.{◌≡◌, ◌≤◌, ℕ, true, false, List, refl, leb-true}
use Rattle.std.specs.Prelude.{nat_le}
use Rattle.std.proofs.lemmas.Bool.{and_parts}
use Rattle.orders.specs.order_law.declared.stage.Stage.{Stage}
use Rattle.orders.specs.order_law.declared.stage.Stage.TheVariants.{Waiting, Working, Closed}
use Rattle.orders.specs.order_law.Lawful.{may_leave, works_as}
use Rattle.orders.specs.order_law.Life.{Life, is_live, is_waiting, is_working}

pub waits-is : (s : Stage) → is_waiting s ≡ true → s ≡ Waiting
waits-is Waiting e = refl
waits-is Working e = absurd (let x : false ≡ true = e in cc)
waits-is Closed e = absurd (let x : false ≡ true = e in cc)

works-is : (s : Stage) → is_working s ≡ true → s ≡ Working
works-is Waiting e = absurd (let x : false ≡ true = e in cc)
works-is Working e = refl
works-is Closed e = absurd (let x : false ≡ true = e in cc)

-- under this token
pub works-parts : (l : Life) (token : List ℕ) → works_as l token ≡ true → (is_live l token ≡ true) × (l.stage ≡ Working)
works-parts l token works = let parts = and_parts (is_live l token) (is_working l.stage) works in
    (parts.0, works-is l.stage parts.1)

-- so many shares are open
pub leaves-few : (l : Life) (shares : ℕ) → may_leave shares l ≡ true → shares ≤ l.unfilled
leaves-few l shares may = leb-true shares l.unfilled (and_parts (nat_le 1 shares) (nat_le shares l.unfilled) may).1
