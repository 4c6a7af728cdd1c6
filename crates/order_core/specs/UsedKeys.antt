-- By what keys the index leads to used ids, and room in both as one number.
use Rattle.std.specs.Prelude.{ℕ, Bool, ◌&&◌, nat_le, if◌then◌else◌}
use Rattle.undo_index.specs.TextKeys.{same_key, text_key}
use Rattle.undo_index.specs.declared.text_key.TextKey.{TextKey}
use Rattle.order_machine.specs.Table.{UsedId}

-- its client with its bytes
abbrev pub has_used_key : TextKey → UsedId → Bool
has_used_key k u = same_key k (text_key u.client u.id)

-- one more of the list and of its index
abbrev pub room_of : ℕ → ℕ → ℕ
room_of list index = if nat_le 1 list && nat_le 1 index then 1 else 0
