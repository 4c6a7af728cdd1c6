-- How an order stands at the end of a day, by what its client read of it. (FIX 4.4 Volume 6, LeavesQty (151): a new
-- order that the market hasn't answered has none.)
use Rattle.std.specs.Prelude.{Bool, true, false, ◌==◌, if◌then◌else◌}
use Rattle.gateway_run.specs.Pairs.{Pair}
use Rattle.gateway_serve.specs.declared.standing.Standing.{Standing}
use Rattle.gateway_serve.specs.declared.standing.Standing.TheVariants.{Over, Open, Unanswered}

abbrev pub standing : Pair → Standing
standing p = if p.fix.is_closed then Over else if p.fix.unfilled == 0 then Unanswered else Open

abbrev pub stands_open : Standing → Bool
stands_open Open = true
stands_open other = false

abbrev pub stands_unanswered : Standing → Bool
stands_unanswered Unanswered = true
stands_unanswered other = false

abbrev pub is_open : Pair → Bool
is_open p = stands_open (standing p)

abbrev pub is_unanswered : Pair → Bool
is_unanswered p = stands_unanswered (standing p)
