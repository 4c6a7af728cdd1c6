-- Texts of some formats.
use Rattle.std.specs.Prelude.{ℕ, Bool, ◌&&◌, nat_le, List, length, is_some}
use Rattle.fixed_point.specs.Decimal.{fraction}

-- 1 to 64 bytes. (FIX 4.4 Volume 6, ClOrdID; the limit is this gateway's own.)
abbrev pub is_cl_ord_id : List ℕ → Bool
is_cl_ord_id text = nat_le 1 (length text) && nat_le (length text) 64

-- A text that denotes a number. (FIX 4.4 Volume 1, data type float.)
abbrev pub is_float : List ℕ → Bool
is_float text = is_some (fraction text)
