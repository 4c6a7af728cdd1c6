-- The history of a day that is over, be it in memory or not.
use Rattle.std.specs.Prelude.{Bool, true, false}
use Rattle.gate_lines.specs.gate_audit.gate_journal.Kept.{Kept}
use Rattle.gateway_day.specs.declared.day.DayHistory.{DayHistory}
use Rattle.gateway_day.specs.declared.day.DayHistory.TheVariants.{Whole, Written}

abbrev pub kept_of : DayHistory → Kept
kept_of (Whole history) = history
kept_of (Written history) = history

abbrev pub is_whole : DayHistory → Bool
is_whole (Whole history) = true
is_whole (Written history) = false
