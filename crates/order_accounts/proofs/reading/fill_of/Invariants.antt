use Rattle.std.proofs.Common.{◌≡◌, bytes_eq, take, None}
use Rattle.std.specs.List.{find}
use Rattle.order_accounts.proofs.reading.fill_of.Given as goal

abbrev pub invariant-loop-fill : goal.invariant-loop-fill
invariant-loop-fill l = find (λ f. bytes_eq f.exec_id l.exec_id) (take l.fill-index l.fills) ≡ None
