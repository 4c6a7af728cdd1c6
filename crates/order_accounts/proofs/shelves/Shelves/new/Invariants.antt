-- So many are empty.
use Rattle.std.proofs.Common.{◌≡◌, [], map, replicate}
use Rattle.order_accounts.proofs.shelves.Shelves.new.Given as goal

abbrev pub invariant-loop : goal.invariant-loop
invariant-loop g l = record { empty : map (λ shelf. shelf.items) l.shelves.items ≡ replicate l.counter [] }
