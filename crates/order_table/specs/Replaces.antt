-- How many tokens replaces of each order were given, as they are counted by its OrderID.
use Rattle.std.specs.Prelude.{◌≡◌, ℕ, ◌<◌, ◌^◌, List, decimal}
use Rattle.std.specs.List.{count_by}
use Rattle.undo_index.specs.declared.number_count.NumberCount.{NumberCount}
use Rattle.undo_index.specs.Counts.{counted}
use Rattle.order_machine.specs.Table.{GivenToken, is_replacement_of}

abbrev pub AreReplaces : List NumberCount → List GivenToken → Type 0
AreReplaces counts tokens = (number : ℕ) → number < 2 ^ 64
    → counted number counts ≡ count_by (is_replacement_of (decimal number)) tokens
