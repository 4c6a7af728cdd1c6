-- Pending replaces by where they stand. No public clause cites this module.
use Rattle.std.specs.Prelude.{List, [], Option, Some, None}
use Rattle.std.specs.Global.{Vec}
use Rattle.orders.specs.declared.requests.Replacing.{Replacing}

abbrev pub held_replaces : Option (Vec Replacing) → List Replacing
held_replaces None = []
held_replaces (Some replaces) = replaces.items
