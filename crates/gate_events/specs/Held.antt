-- The items by where they stand. No public clause cites this module.
use Rattle.std.specs.Prelude.{◌≡◌, List, [], length}
use Rattle.gate_events.specs.declared.short_list.Held.{Held}
use Rattle.gate_events.specs.declared.short_list.Held.TheVariants.{None, One, Many}

abbrev pub held_items : {T : Type 0} → Held T → List T
held_items None = []
held_items (One item) = item
held_items (Many items) = items.items

-- the array of one item has one
abbrev pub IsOneAtOne : {T : Type 0} → Held T → Type 0
IsOneAtOne None = Unit {0}
IsOneAtOne (One item) = length item ≡ 1
IsOneAtOne (Many items) = Unit {0}

-- one item, that stands in the array
abbrev pub IsOne : {T : Type 0} → Held T → Type 0
IsOne None = ⊥
IsOne (One item) = length item ≡ 1
IsOne (Many items) = ⊥
