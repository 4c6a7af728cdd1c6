-- The lines of an audit.
use Rattle.std.specs.Prelude.{ℕ, Bool, List, [], ◌∷◌, ◌++◌, codes, decimal, length, if◌then◌else◌}
use Rattle.std.specs.List.{count_by, flat_map}
use Rattle.gate_audit.specs.order_law.declared.account.Account.{Account}
use Rattle.gate_audit.specs.Pairs.{Pair}

-- a word and a number
abbrev pub counted_word : List ℕ → ℕ → List ℕ
counted_word word number = word ++ decimal number

-- side as in 54, and shares that are executed and open
abbrev pub shown_shares : Account → List ℕ
shown_shares a = codes " side " ++ a.side ∷ [] ++ counted_word (codes " executed ") a.executed
    ++ counted_word (codes " open ") a.unfilled

-- shares that are cancelled, and shares times price in 1/10,000
abbrev pub shown_sums : Account → List ℕ
shown_sums a = counted_word (codes " cancelled ") a.cancelled ++ counted_word (codes " value ") a.value

unfoldable pub shown_account : Account → List ℕ
shown_account a = shown_shares a ++ shown_sums a

abbrev pub verdict_word : Bool → List ℕ
verdict_word agree = if agree then codes " agree" else codes " differ"

-- an order as its client read it, and whether the market said the same:
-- `C1 A1 side 1 executed 300 open 0 cancelled 0 value 70330000 agree`
unfoldable pub shown_pair : Pair → List ℕ
shown_pair p = codes "C" ++ decimal p.client ++ codes " " ++ p.id ++ shown_account p.fix ++ verdict_word p.agree ++ 10
    ∷ []

-- of how many orders both accounts agree
abbrev pub agreeing : List Pair → ℕ
agreeing pairs = count_by (λ (p : Pair). p.agree) pairs

-- the last line: `orders 2 agree 2`
abbrev pub shown_total : ℕ → ℕ → List ℕ
shown_total orders agree = codes "orders " ++ decimal orders ++ codes " agree " ++ decimal agree ++ 10 ∷ []

-- a line for each pair in their order, and last how many there are and how many agree
abbrev pub shown_audit : List Pair → List ℕ
shown_audit pairs = flat_map shown_pair pairs ++ shown_total (length pairs) (agreeing pairs)
