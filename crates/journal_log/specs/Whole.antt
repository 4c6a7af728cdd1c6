-- What a file has that was opened, as it was noted.
use Rattle.std.specs.Prelude.{◌≡◌, ℕ, List, [], length}
use Rattle.journal_log.specs.declared.host_file.HostFile.{HostFile}
use Rattle.journal_log.specs.declared.opening.FoundLog.{FoundLog}
use Rattle.journal_log.specs.declared.opening.FoundLog.TheVariants.{New, There}

-- a file has just these bytes, all of them durable
pub record HasJust (bytes : List ℕ) (file : HostFile) : Type 0 where
  pub noted : file.noted.bytes ≡ bytes
  pub durable : file.durable ≡ length bytes

-- one that was made has none
abbrev pub HasNothing : FoundLog → Type 0
HasNothing (New file) = HasJust [] file
HasNothing (There stopped) = Unit {0}

-- one file has what another has, and as much of it durable, as it was noted
pub record IsSameFile (file same : HostFile) : Type 0 where
  pub noted : same.noted.bytes ≡ file.noted.bytes
  pub durable : same.durable ≡ file.durable
  pub failures : same.failures.bytes ≡ file.failures.bytes
