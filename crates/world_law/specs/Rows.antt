-- What a client read of an order, beside what the market's book has of it.
use Rattle.std.specs.Prelude.{◌≡◌, ℕ, Option, Some, None}
use Rattle.order_law.specs.Reading.{Reading}
use Rattle.market_law.specs.declared.row.BookRow.{BookRow}

-- the side is the row's, where the row has one
abbrev pub HasSide : ℕ → Option ℕ → Type 0
HasSide side None = Unit {0}
HasSide side (Some letter) = side ≡ letter

-- What a client read of an order is what the market's book has of it. An order that never came to the book, or was
-- rejected, has a row of zeros without a side.
pub record ReadsAsBook (x : Reading) (r : BookRow) : Type 0 where
  pub side : HasSide x.side r.side
  pub executed : x.executed ≡ r.executed
  pub unfilled : x.unfilled ≡ r.unfilled
  pub cancelled : x.cancelled ≡ r.cancelled
  pub value : x.value ≡ r.value
