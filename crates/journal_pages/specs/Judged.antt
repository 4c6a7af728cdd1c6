-- Bytes that were judged: records to their end.
use Rattle.std.specs.Prelude.{◌≡◌, ℕ, ◌+◌, List, [], ◌∷◌, length}
use Rattle.journal_pages.specs.Record.{Record, records_in, size_of}

-- how many bytes records have
abbrev pub size_of_all : List Record → ℕ
size_of_all [] = 0
size_of_all (r ∷ rs) = size_of r + size_of_all rs

-- some bytes are records to their end: those that stand in front have as many bytes
abbrev pub AreRecords : List ℕ → Type 0
AreRecords bytes = length bytes ≡ size_of_all (records_in bytes)
