-- What is lent of pages, piece by piece.
use Rattle.std.specs.Prelude.{ℕ, List, ◌++◌, length}
use Rattle.journal_days.specs.Cut.{texts}
use Rattle.journal_log.specs.Since.{bytes_from}
use Rattle.journal_pages.specs.Page.{page_front}
use Rattle.journal_log.specs.declared.pieces.Pieces.{Pieces}

-- the bytes of all pieces
abbrev pub bytes_ahead : Pieces → List ℕ
bytes_ahead p = bytes_from p.skip (texts p.pages.now)

-- how many pieces there are
abbrev pub pages_ahead : Pieces → ℕ
pages_ahead p = length p.pages.now

-- a page of them, behind so many records
abbrev pub page_of : ℕ → Pieces → List ℕ
page_of before p = page_front before ++ bytes_ahead p
