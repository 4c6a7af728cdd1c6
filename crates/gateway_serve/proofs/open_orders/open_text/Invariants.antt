use Rattle.std.proofs.Common.{◌≡◌, take}
use Rattle.std.specs.List.{flat_map}
use Rattle.gateway_serve.specs.Lines.{shown_order}
use Rattle.gateway_serve.proofs.open_orders.open_text.Given as goal

abbrev pub invariant-loop-pair : goal.invariant-loop-pair
invariant-loop-pair l = l.text.items ≡ flat_map (shown_order l.settings) (take l.pair-index l.pairs)
