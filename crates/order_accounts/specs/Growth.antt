-- How much a message adds to the sums of an order, at most: shares have four bytes, prices too.
use Rattle.std.specs.Prelude.{◌≤◌, ◌+◌, ◌^◌}
use Rattle.order_law.specs.Life.{Life}

pub record LifeGrows (old new : Life) : Type 0 where
  pub executed : new.executed ≤ old.executed + 2 ^ 32
  pub cancelled : new.cancelled ≤ old.cancelled + 2 ^ 32
  pub value : new.value ≤ old.value + 2 ^ 64
