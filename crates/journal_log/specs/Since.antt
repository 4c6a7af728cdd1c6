-- What a page that is written ahead has: the records that pages have behind a mark. The format is the gateway's own.
use Rattle.std.specs.Prelude.{◌≡◌, ◌<◌, ◌+◌, ◌⊎◌, ℕ, zero, suc, List, [], ◌∷◌, ◌++◌, drop}

-- the records of whole pages, as bytes
abbrev pub bytes_of : List (List ℕ) → List ℕ
bytes_of [] = []
bytes_of (page ∷ pages) = drop 12 page ++ bytes_of pages

-- of the first page those behind so many of its bytes, of the others all
abbrev pub bytes_from : ℕ → List (List ℕ) → List ℕ
bytes_from bytes [] = []
bytes_from bytes (page ∷ pages) = drop bytes page ++ bytes_of pages

-- behind so many pages, of the last of which so many bytes count
abbrev pub bytes_since : ℕ → ℕ → List (List ℕ) → List ℕ
bytes_since zero bytes pages = bytes_of pages
bytes_since (suc whole) bytes pages = bytes_from bytes (drop whole pages)

-- Of pages, so many of which aren't in memory, so many in memory stand in front of a mark that stands behind so many of
-- all. The page that the mark stands in is in memory.
pub record IsBefore (left marked count : ℕ) : Type 0 where
  pub sum : left + count ≡ marked
  pub stands : (left ≡ 0) ⊎ (left < marked)
