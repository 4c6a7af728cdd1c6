-- A file of the system, as logs see it (`LogFile` of `journal_log`).
use Rattle.std.specs.Prelude.{ℕ, List}
use Rattle.journal_log.specs.declared.host_file.HostFile.{HostFile}
use Rattle.journal_log.specs.Left.{IsLeft}

-- what it has
abbrev pub host_seen : HostFile → List ℕ
host_seen f = f.noted.bytes

-- what a crash may leave of it
abbrev pub host_may_leave : HostFile → List ℕ → Type 0
host_may_leave f c = IsLeft f.durable f.noted.bytes c
