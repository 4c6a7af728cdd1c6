-- Pages with more records behind are the pages, the last of them with more bytes perhaps, and more pages behind.
use Rattle.std.proofs.Common.{◌≡◌, ℕ, Bool, true, false, List, [], ◌∷◌, ◌++◌, length, refl, sym, ap}
use Rattle.std.proofs.Common.{subst, ◌∙◌, arith, append-nil, append_assoc, length-append}
use Rattle.std.specs.Prelude.{if◌then◌else◌}
use mathlib.Core.List.{IsPrefix}
use Rattle.journal_pages.specs.Record.{Record}
use Rattle.journal_days.specs.Cut.{IsMoreOf, has_room, last_size, number_behind, page_with, record_text}
use Rattle.journal_days.specs.Cut.{with_records, with_text}

abbrev pub GoesOn : List (List ℕ) → List (List ℕ) → Type 0
GoesOn [] now = Unit {0}
GoesOn (page ∷ pages) [] = ⊥
GoesOn (page ∷ []) (last ∷ now) = IsPrefix page last
GoesOn (page ∷ next ∷ pages) (other ∷ now) = (other ≡ page) × GoesOn (next ∷ pages) now

goes-self : (pages : List (List ℕ)) → GoesOn pages pages
goes-self [] = tt
goes-self (page ∷ []) = ([], append-nil page)
goes-self (page ∷ next ∷ pages) = (refl, goes-self (next ∷ pages))

longer : (page last text : List ℕ) → IsPrefix page last → IsPrefix page (last ++ text)
longer page last text p = (p.0 ++ text, sym (append_assoc page p.0 text) ∙ ap (λ (l : List ℕ). l ++ text) p.1)

goes-text : (before now : List (List ℕ)) (text : List ℕ) → GoesOn before now → GoesOn before (with_text now text)
goes-text [] now text g = tt
goes-text (page ∷ pages) [] text g = absurd g
goes-text (page ∷ []) (last ∷ []) text g = by_room (has_room last (length text))
  where
    by_room : (b : Bool) → GoesOn (page ∷ [])
        (if b then (last ++ text) ∷ [] else last ∷ page_with (number_behind last) text ∷ [])
    by_room true = longer page last text g
    by_room false = g
goes-text (page ∷ []) (last ∷ other ∷ now) text g = g
goes-text (page ∷ next ∷ pages) (last ∷ []) text g = absurd g.1
goes-text (page ∷ next ∷ pages) (last ∷ other ∷ now) text g = (g.0, goes-text (next ∷ pages) (other ∷ now) text g.1)

goes-records : (before now : List (List ℕ)) (rs : List Record) → GoesOn before now → GoesOn before (with_records now rs)
goes-records before now [] g = g
goes-records before now (r ∷ rs) g = goes-records before (with_text now (record_text r)) rs
    (goes-text before now (record_text r) g)

pub more-goes-on : (before now : List (List ℕ)) → IsMoreOf before now → GoesOn before now
more-goes-on before now more = subst (λ (pages : List (List ℕ)). GoesOn before pages) (sym more.same)
    (goes-records before before more.records (goes-self before))

-- ---- the same end, the same pages

nothing-more : (page last : List ℕ) → IsPrefix page last → length last ≡ length page → last ≡ page
nothing-more page last p same =
    let many = length-append page p.0 in
    let is = ap length p.1 in
    sym p.1 ∙ ap (λ (l : List ℕ). page ++ l) (none p.0 (omega (arith, many, is, same))) ∙ append-nil page
  where
    none : (l : List ℕ) → length l ≡ 0 → l ≡ []
    none [] e = refl
    none (x ∷ l) e = absurd (omega (arith, e))

pub same-end : (before now : List (List ℕ)) → GoesOn before now → length now ≡ length before
    → last_size now ≡ last_size before → now ≡ before
same-end [] [] g count size = refl
same-end [] (page ∷ now) g count size = absurd (omega (arith, count))
same-end (page ∷ pages) [] g count size = absurd g
same-end (page ∷ []) (last ∷ []) g count size = ap (λ (l : List ℕ). l ∷ []) (nothing-more page last g size)
same-end (page ∷ []) (last ∷ other ∷ now) g count size = absurd (omega (arith, count))
same-end (page ∷ next ∷ pages) (last ∷ []) g count size = absurd g.1
same-end (page ∷ next ∷ pages) (last ∷ other ∷ now) g count size =
    ap (λ (l : List ℕ). l ∷ other ∷ now) g.0
    ∙ ap (λ (ps : List (List ℕ)). page ∷ ps) (same-end (next ∷ pages) (other ∷ now) g.1 (omega (arith, count)) size)
