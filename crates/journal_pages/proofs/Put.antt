-- The bytes of a head before a payload.
use Rattle.std.proofs.Common.{◌≡◌, ℕ, List, [], ◌∷◌, ◌++◌, length, get_or, refl}
use Rattle.std.specs.Int.{w16, w32, w64, to_be_bytes}
use Rattle.journal_pages.specs.Record.{Record, kind_number, record_bytes}

pub head-put : (r : Record) (k : ℕ) (s l a n : List ℕ) → k ≡ kind_number r.kind → s ≡ to_be_bytes w16 r.source
    → l ≡ to_be_bytes w64 r.link → a ≡ to_be_bytes w64 r.at → n ≡ to_be_bytes w32 (length r.payload)
    → (k ∷ get_or s 0 0 ∷ get_or s 1 0
    ∷ get_or l 0 0 ∷ get_or l 1 0 ∷ get_or l 2 0 ∷ get_or l 3 0 ∷ get_or l 4 0 ∷ get_or l 5 0 ∷ get_or l 6 0 ∷ get_or l
    7 0
    ∷ get_or a 0 0 ∷ get_or a 1 0 ∷ get_or a 2 0 ∷ get_or a 3 0 ∷ get_or a 4 0 ∷ get_or a 5 0 ∷ get_or a 6 0 ∷ get_or a
    7 0
    ∷ get_or n 0 0 ∷ get_or n 1 0 ∷ get_or n 2 0 ∷ get_or n 3 0 ∷ []) ++ r.payload ≡ record_bytes r
head-put r k s l a n ek es el ea en = rw (ek, es, el, ea, en) refl
