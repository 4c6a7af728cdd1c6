-- What is told of orders that aren't over at the end of a day.
use Rattle.std.specs.Prelude.{ℕ, ◌+◌, ◌-◌, ◌^◌, ◌==◌, ◌&&◌, min, List, [], ◌∷◌, ◌++◌, codes, decimal, if◌then◌else◌}
use Rattle.std.specs.List.{count_by, flat_map}
use Rattle.gateway_run.specs.Pairs.{Pair}
use Rattle.gateway_run.specs.gate_law.Settings.{Settings, client_name}
use Rattle.gateway_serve.specs.Standing.{is_open, is_unanswered, standing}
use Rattle.gateway_serve.specs.declared.standing.Standing.{Standing}
use Rattle.gateway_serve.specs.declared.standing.Standing.TheVariants.{Over, Open, Unanswered}

-- a word and a number
abbrev pub counted_word : List ℕ → ℕ → List ℕ
counted_word word number = word ++ decimal number

-- its first ClOrdID (11), and its client: `A7 of BANK`
abbrev pub shown_whose : Settings → Pair → List ℕ
shown_whose s p = p.id ++ codes " of " ++ client_name s p.client

-- all shares that the order has, as far as 128 bits hold them
abbrev pub all_shares : Pair → ℕ
all_shares p = min (min (p.fix.unfilled + p.fix.executed) (2 ^ 128 - 1) + p.fix.cancelled) (2 ^ 128 - 1)

-- `: 100 of 300`
abbrev pub shown_shares : Pair → List ℕ
shown_shares p = counted_word (codes ": ") p.fix.unfilled ++ counted_word (codes " of ") (all_shares p)

-- `A7 of BANK: 100 of 300 open at the market`
unfoldable pub shown_open_order : Settings → Pair → List ℕ
shown_open_order s p = shown_whose s p ++ shown_shares p ++ codes " open at the market" ++ 10 ∷ []

-- `A9 of FUND: asked, not answered`
unfoldable pub shown_unanswered : Settings → Pair → List ℕ
shown_unanswered s p = shown_whose s p ++ codes ": asked, not answered" ++ 10 ∷ []

abbrev pub shown_standing : Settings → Pair → Standing → List ℕ
shown_standing s p Over = []
shown_standing s p Open = shown_open_order s p
shown_standing s p Unanswered = shown_unanswered s p

-- a line of an order that isn't over
abbrev pub shown_order : Settings → Pair → List ℕ
shown_order s p = shown_standing s p (standing p)

abbrev pub open_count : List Pair → ℕ
open_count pairs = count_by is_open pairs

abbrev pub unanswered_count : List Pair → ℕ
unanswered_count pairs = count_by is_unanswered pairs

-- `gateway: 17 orders are open at the market, 2 weren't answered`, where there are any
abbrev pub shown_counts : ℕ → ℕ → List ℕ
shown_counts live unanswered =
    if live == 0 && unanswered == 0 then []
    else counted_word (codes "gateway: ") live ++ counted_word (codes " orders are open at the market, ") unanswered
    ++ codes " weren't answered" ++ 10 ∷ []

-- a line for each order that isn't over, in the order of the pairs, and last how many there are
abbrev pub shown_open : Settings → List Pair → List ℕ
shown_open s pairs = flat_map (shown_order s) pairs ++ shown_counts (open_count pairs) (unanswered_count pairs)
