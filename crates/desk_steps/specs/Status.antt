-- A status: a board of a history of which all that is promised holds. (Own.)
use Rattle.gate_journal.specs.gate_law.Settings.{Settings}
use Rattle.gate_journal.specs.gate_law.Events.{History}
use Rattle.gate_journal.specs.gate_law.Holds.{Holds}
use Rattle.gate_core.specs.Board.{IsBoard}
use Rattle.gate_core.specs.declared.board.Board.{Board}

-- Each row is of the same history, by the same settings.
pub record IsStatus (b : Board) : Type 0 where
  pub settings : Settings
  pub day : History
  pub holds : Holds settings day
  pub rows : IsBoard settings day b
