-- What a change of an order keeps of the keys that lead to it.
use Rattle.std.specs.Prelude.{◌≡◌, true, ◌⊎◌}
use Rattle.order_table.specs.declared.keys.NameKey.{NameKey}
use Rattle.order_machine.specs.OrderRecord.{OrderRecord}
use Rattle.order_table.specs.Keys.{has_name_key}

-- what was asked is the same, and each key of it was one
pub record KeepsNames (was now : OrderRecord) : Type 0 where
  pub asked : now.new ≡ was.new
  pub names : (k : NameKey) → has_name_key k now ≡ true → has_name_key k was ≡ true

-- or is this one
pub record KeepsNamesBut (name : NameKey) (was now : OrderRecord) : Type 0 where
  pub asked : now.new ≡ was.new
  pub names : (k : NameKey) → has_name_key k now ≡ true → (has_name_key k was ≡ true) ⊎ (k ≡ name)
