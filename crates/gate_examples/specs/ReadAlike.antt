-- What a client read of an order beside a row of the market's book: alike, and each field off by one; and members of
-- lists.
use Rattle.std.proofs.Common.{ℕ, List, [], ◌∷◌, Some, None, inl, inr, ⊎_elim, refl, arith, true, false}
use Rattle.order_law.specs.Reading.{Reading}
use Rattle.market_law.specs.declared.row.BookRow.{BookRow}
use Rattle.world_law.specs.Asked.{IsIn}
use Rattle.world_law.specs.Rows.{ReadsAsBook}

-- 200 of 300 are executed at 23.45; 50 are open, and 50 are cancelled
abbrev a_reading : Reading
a_reading = record {
  side = 50;
  total = 250;
  unfilled = 50;
  executed = 200;
  cancelled = 50;
  value = 46_900_000;
  fills = [];
  is_accepted = true;
  is_closed = false;
}

abbrev its_row : BookRow
its_row = record { side = Some 50; executed = 200; unfilled = 50; cancelled = 50; value = 46_900_000 }

-- an order that never came to the book has no side there
read_alike :
    ReadsAsBook a_reading its_row
    × ReadsAsBook a_reading (record its_row { side = None })
read_alike = (
  record { side = refl; executed = refl; unfilled = refl; cancelled = refl; value = refl },
  record { side = tt; executed = refl; unfilled = refl; cancelled = refl; value = refl },
)

read_otherwise :
    (ReadsAsBook a_reading (record its_row { side = Some 49 }) → ⊥)
    × (ReadsAsBook a_reading (record its_row { executed = 201 }) → ⊥)
    × (ReadsAsBook a_reading (record its_row { unfilled = 49 }) → ⊥)
    × (ReadsAsBook a_reading (record its_row { cancelled = 51 }) → ⊥)
    × (ReadsAsBook a_reading (record its_row { value = 46_900_001 }) → ⊥)
read_otherwise = (
  λ k. omega (arith, k.side),
  λ k. omega (arith, k.executed),
  λ k. omega (arith, k.unfilled),
  λ k. omega (arith, k.cancelled),
  λ k. omega (arith, k.value),
)

abbrev seven_and_eight : List ℕ
seven_and_eight = 7 ∷ 8 ∷ []

members :
    IsIn {A = ℕ} 7 seven_and_eight
    × IsIn {A = ℕ} 8 seven_and_eight
    × (IsIn {A = ℕ} 9 seven_and_eight → ⊥)
    × (IsIn {A = ℕ} 7 [] → ⊥)
members = (
  inl refl,
  inr (inl refl),
  λ k. ⊎_elim (λ e. omega (arith, e)) (λ m. ⊎_elim (λ e. omega (arith, e)) (λ n. n) m) k,
  λ k. k,
)
