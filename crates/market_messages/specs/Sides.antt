-- The market's sides as FIX writes them.
use Rattle.std.specs.Prelude.{ℕ, codes, slice_index}
use Rattle.ouch_codec.specs.declared.side.Side.{Side}
use Rattle.ouch_codec.specs.declared.side.Side.TheVariants.{Buy, Sell, SellShort, SellShortExempt}

abbrev pub fix_side : Side → ℕ
fix_side Buy = slice_index (codes "1") 0
fix_side Sell = slice_index (codes "2") 0
fix_side SellShort = slice_index (codes "5") 0
fix_side SellShortExempt = slice_index (codes "6") 0
