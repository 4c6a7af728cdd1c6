-- What contracts see of a log: its file, and why it takes no more, if it doesn't.
use Rattle.std.specs.Prelude.{Option}
use Rattle.journal_log.specs.declared.fault.LogFault.{LogFault}

pub record LogState (F : Type 0) : Type 0 where
  pub file : F
  pub shut : Option LogFault
