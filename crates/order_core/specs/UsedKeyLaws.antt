-- Equal keys are had alike.
use Rattle.std.proofs.Common.{◌≡◌, true, ap}
use Rattle.undo_index.specs.KeyLaws.{same-is}
use Rattle.undo_index.specs.TextKeys.{same_key}
use Rattle.undo_index.specs.declared.text_key.TextKey.{TextKey}
use Rattle.order_machine.specs.Table.{UsedId}
use Rattle.order_core.specs.UsedKeys.{has_used_key}

pub used-alike : (x y : TextKey) (u : UsedId) → same_key x y ≡ true → has_used_key x u ≡ has_used_key y u
used-alike x y u e = ap (λ (k : TextKey). has_used_key k u) (same-is x y e)
