-- The number of a page, and what stands behind it.
use Rattle.std.proofs.Common.{◌≡◌, ◌<◌, ◌≤◌, ◌^◌, ℕ, Bool, true, false, List, ◌++◌, length, take, drop, refl, sym, ap}
use Rattle.std.proofs.Common.{◌∙◌, arith, append_assoc, length-append, length-drop}
use Rattle.std.proofs.lemmas.Bool.{le-ltb}
use Rattle.std.proofs.lemmas.List.{drop-append-le, drop_at, take-append-le}
use Rattle.std.proofs.lemmas.Nat.{from_be_bytes-to_be_bytes_8}
use Rattle.std.specs.Prelude.{nat_lt, if◌then◌else◌}
use Rattle.std.specs.Int.{w64, from_be_bytes, to_be_bytes}
use Rattle.journal_pages.specs.Page.{page_front, page_number}

long-number : (text : List ℕ) → 12 ≤ length text → page_number text ≡ from_be_bytes w64 (take 8 (drop 4 text))
long-number text long =
    let is : nat_lt (length text) 12 ≡ false = le-ltb (length text) 12 long in
    ap (λ (b : Bool). if b then 0 else from_be_bytes w64 (take 8 (drop 4 text))) is

-- records behind a page don't change its number
pub number-kept : (page text : List ℕ) → 12 ≤ length page → page_number (page ++ text) ≡ page_number page
number-kept page text long =
    let many = length-append page text in
    let left = length-drop 4 page in
    long-number (page ++ text) (omega (arith, many, long))
    ∙ ap (λ (l : List ℕ). from_be_bytes w64 (take 8 l)) (drop-append-le 4 page text (omega (arith, long)))
    ∙ ap (from_be_bytes w64) (take-append-le 8 (drop 4 page) text (omega (arith, left, long)))
    ∙ sym (long-number page long)

-- a page that is begun with a number has it
pub number-begun : (n : ℕ) (text : List ℕ) → n < 2 ^ 64 → page_number (page_front n ++ text) ≡ n
number-begun n text few =
    let many = length-append (page_front n) text in
    long-number (page_front n ++ text) (omega (arith, many)) ∙ from_be_bytes-to_be_bytes_8 n few

pub front-behind : (n : ℕ) (text : List ℕ) → drop 12 (page_front n ++ text) ≡ text
front-behind n text = refl
