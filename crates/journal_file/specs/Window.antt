-- The bytes of a stream that were read.
use Rattle.std.specs.Prelude.{◌≡◌, ◌≤◌, ℕ, Bool, true, false, List, [], ◌++◌, length, Option}
use Rattle.std.specs.Io.KnownBytes.{Consumes, IsAtEnd}
use Rattle.journal_file.specs.declared.read_fault.ReadFault.{ReadFault}
use Rattle.journal_file.specs.declared.read_fault.ReadFault.TheVariants.{NoFile, NoMemory, Read}

-- all, and those that weren't taken
pub record Bytes : Type 0 where
  pub read : List ℕ
  pub left : List ℕ

abbrev pub nothing_read : Bytes
nothing_read = record { read = []; left = [] }

-- a piece more was read; none at the stream's end
pub record HasGrown (known later : Option (List ℕ)) (old new : Bytes) (more : Bool) : Type 0 where
  pub piece : List ℕ
  pub consumed : Consumes known later piece
  pub read : new.read ≡ old.read ++ piece
  pub left : new.left ≡ old.left ++ piece
  pub some : more ≡ true → 1 ≤ length piece
  pub end : more ≡ false → (piece ≡ []) × IsAtEnd later

-- a piece of so many bytes was put behind others
pub record Puts (known later : Option (List ℕ)) (old new : List ℕ) (count : ℕ) : Type 0 where
  pub piece : List ℕ
  pub same : new ≡ old ++ piece
  pub size : length piece ≡ count
  pub consumed : Consumes known later piece
  pub end : count ≡ 0 → IsAtEnd later

-- memory ran out or a read failed: nothing is said of the file
abbrev pub IsEnded : ReadFault → Type 0
IsEnded (NoFile n fault) = ⊥
IsEnded NoMemory = Unit {0}
IsEnded (Read error) = Unit {0}
