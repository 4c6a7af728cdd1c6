-- What the book has of one order, by any token that the order has had.
use Rattle.std.specs.Prelude.{ℕ, Bool, List, Option, Some, None, bytes_eq}
use Rattle.std.specs.List.{find, list_any}
use Rattle.order_law.specs.ouch_codec.Letters.{side_letter}
use Rattle.order_law.specs.Asks.{side_of_letter}
use Rattle.market_law.specs.declared.row.BookRow.{BookRow}
use Rattle.market_law.specs.Machine.{BookOrder, tokens_of}

-- the token is or was the order's live one
abbrev pub has_had : List ℕ → BookOrder → Bool
has_had token c = list_any (bytes_eq token) (tokens_of c)

abbrev pub row_of_order : Option BookOrder → BookRow
row_of_order None = record { side = None; executed = 0; unfilled = 0; cancelled = 0; value = 0 }
row_of_order (Some c) = record {
  side = side_of_letter (side_letter c.entered.side);
  executed = c.executed;
  unfilled = c.unfilled;
  cancelled = c.cancelled;
  value = c.value;
}

-- of the order that has had this token; zeros and no side where there is none
abbrev pub row : List BookOrder → List ℕ → BookRow
row book token = row_of_order (find (has_had token) book)
