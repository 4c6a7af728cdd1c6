-- What a crash may leave of bytes of which so many are durable.
use Rattle.std.specs.Prelude.{◌≡◌, ◌<◌, ◌⊎◌, ℕ, List, length, take}
use Rattle.journal_log.specs.Crash.{StandsBefore}

-- all of them; or, where not all are durable, those that are, and anything behind them
abbrev pub IsLeft : ℕ → List ℕ → List ℕ → Type 0
IsLeft durable bytes c = (c ≡ bytes) ⊎ ((durable < length bytes) × StandsBefore (take durable bytes) c)
