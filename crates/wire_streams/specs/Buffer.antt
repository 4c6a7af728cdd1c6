-- What a reader holds of a stream, and how much was written to hold it.
use Rattle.std.specs.Prelude.{◌≡◌, ℕ, ◌+◌, ◌-◌, ◌^◌, ◌≤◌, ◌⊎◌, min, List, [], ◌++◌, length, drop}

pub record BytesHeld : Type 0 where
  -- the bytes that were taken and not let go
  pub held : List ℕ
  -- how many bytes are free in front of them
  pub room : ℕ
  -- how many bytes were written, as far as a word of 64 bits counts
  pub copied : ℕ
  -- how many bytes were taken, as far
  pub fed : ℕ

pub record Buffer : Type 0 where
  pub kept : BytesHeld
  -- a piece that stands behind them and isn't taken
  pub offered : List ℕ

abbrev pub nothing_held : BytesHeld
nothing_held = record { held = []; room = 0; copied = 0; fed = 0 }

abbrev pub empty_buffer : Buffer
empty_buffer = record { kept = nothing_held; offered = [] }

-- as far as a word of 64 bits counts
abbrev pub saturated : ℕ → ℕ
saturated n = min n (2 ^ 64 - 1)

-- these bytes of a piece of so many were written behind what was held
pub record Takes (written : List ℕ) (size : ℕ) (old new : BytesHeld) : Type 0 where
  pub held : new.held ≡ old.held ++ written
  pub room : new.room ≡ old.room
  pub copied : new.copied ≡ saturated (old.copied + length written)
  pub grows : old.copied ≤ new.copied
  pub fed : new.fed ≡ saturated (old.fed + size)

-- so many bytes in front were let go: what is left stays where it lies, or is written anew at the buffer's front
pub record LetsGo (count : ℕ) (old new : BytesHeld) : Type 0 where
  pub held : new.held ≡ drop count old.held
  pub fed : new.fed ≡ old.fed
  pub copied : ((new.room ≡ old.room + count) × (new.copied ≡ old.copied))
      ⊎ ((new.room ≡ 0) × (new.copied ≡ saturated (old.copied + length new.held)))
  pub grows : old.copied ≤ new.copied

-- so many bytes were taken, and what was written is still counted
pub record Counts (size : ℕ) (old new : BytesHeld) : Type 0 where
  pub fed : new.fed ≡ saturated (old.fed + size)
  pub copied : old.copied ≤ new.copied
