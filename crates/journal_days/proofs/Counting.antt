-- The number of the page behind stays known behind records whose bytes say them.
use Rattle.std.proofs.Common.{◌≡◌, ◌<◌, ◌≤◌, ◌+◌, ◌%◌, ◌^◌, ℕ, true, false, Bool, Option, Some, None, List, []}
use Rattle.std.specs.Prelude.{Vec, if◌then◌else◌}
use Rattle.std.specs.declared.alloc.Global.{Global}
use Rattle.std.specs.Option.{option_map}
use Rattle.std.proofs.Common.{◌∷◌, ◌++◌, length, drop, refl, sym, ap, subst, ◌∙◌, arith, append_assoc, length-append}
use Rattle.journal_pages.specs.declared.version.Version.TheVariants.{Two}
use Rattle.journal_pages.specs.Record.{Record, records_in}
use Rattle.journal_pages.specs.Ordered.{IsWritable}
use Rattle.journal_pages.specs.Page.{page_records}
use Rattle.journal_pages.proofs.Listed.{written-listed}
use Rattle.journal_pages.proofs.Numbered.{number-kept}
use Rattle.journal_days.specs.Cut.{has_room, last_has_room, next_number, number_behind, page_with, record_text}
use Rattle.journal_days.specs.Cut.{texts, with_text}
use Rattle.journal_days.specs.Counted.{GoesOn, IsCounted, LastGoesOn}
use Rattle.journal_days.proofs.Cutting.{no-room, text-is}
use Rattle.journal_days.proofs.Leading.{begun, small-number, some-text, text-listed}

listed : (r : Record) (more : List ℕ) → IsWritable r → records_in (record_text r ++ more) ≡ r ∷ records_in more
listed r more good = ap (λ (l : List ℕ). records_in (l ++ more)) (sym (text-is r))
    ∙ written-listed r more good.source good.link good.at good.sound

-- ---- one page

begun-goes : (n : ℕ) (r : Record) → IsWritable r → GoesOn (page_with n (record_text r))
begun-goes n r good = record {
  front = omega arith;
  records = λ more.
      let both : length (page_records Two (page_with n (record_text r) ++ more)) ≡ length (r ∷ records_in more) =
      ap length (listed r more good) in
      let one : length (page_records Two (page_with n (record_text r))) ≡ 1 = ap length (text-listed r good) in
      omega (arith, both, one);
}

one-longer : (page : List ℕ) (r : Record) → GoesOn page → IsWritable r
    → length (page_records Two (page ++ record_text r)) ≡ length (page_records Two page) + 1
one-longer page r goes good =
    goes.records (record_text r) ∙ ap (λ n. length (page_records Two page) + n) (ap length (text-listed r good))

more-goes : (page : List ℕ) (r : Record) → GoesOn page → IsWritable r → GoesOn (page ++ record_text r)
more-goes page r goes good =
    let many = length-append page (record_text r) in
    let long = goes.front in
    let own = one-longer page r goes good in
    record {
      front = omega (arith, many, long);
      records = λ more.
          let all : length (page_records Two ((page ++ record_text r) ++ more))
          ≡ length (page_records Two page) + length (records_in (record_text r ++ more)) =
          ap (λ (l : List ℕ). length (page_records Two l)) (append_assoc page (record_text r) more)
          ∙ goes.records (record_text r ++ more) in
          let behind : length (records_in (record_text r ++ more)) ≡ length (r ∷ records_in more) =
          ap length (listed r more good) in
          omega (arith, all, behind, own);
    }

more-number : (page : List ℕ) (r : Record) → GoesOn page → IsWritable r
    → number_behind (page ++ record_text r) ≡ (number_behind page + 1) % 2 ^ 64
more-number page r goes good =
    let same = number-kept page (record_text r) goes.front in
    let many = one-longer page r goes good in
    omega (arith, same, many)

-- ---- the last of pages

no-last : (page : List ℕ) (before : List (List ℕ)) (x last : List ℕ) → page ∷ [] ≡ x ∷ (before ++ last ∷ []) → ⊥
no-last page before x last e =
    let many = ap length e in
    let both = length-append before (last ∷ []) in
    omega (arith, many, both)

one-goes : (page : List ℕ) → GoesOn page → LastGoesOn (page ∷ [])
one-goes page goes [] last e = let same : page ≡ last = cc in subst GoesOn same goes
one-goes page goes (x ∷ before) last e = absurd (no-last page before x last e)

two-go : (p q : List ℕ) (pages : List (List ℕ)) → LastGoesOn (q ∷ pages) → LastGoesOn (p ∷ q ∷ pages)
two-go p q pages goes [] last e = let no : ⊥ = cc in absurd no
two-go p q pages goes (x ∷ before) last e = let later : q ∷ pages ≡ before ++ last ∷ [] = cc in goes before last later

in-front : (p : List ℕ) (pages : List (List ℕ)) (n : ℕ) → 1 ≤ length pages → IsCounted n pages → IsCounted n (p ∷ pages)
in-front p [] n some is = absurd (omega (arith, some))
in-front p (q ∷ pages) n some is = record { next = is.next; last = two-go p q pages is.last }

behind-first : (p q : List ℕ) (pages : List (List ℕ)) (n : ℕ) → IsCounted n (p ∷ q ∷ pages) → IsCounted n (q ∷ pages)
behind-first p q pages n is = record {
  next = is.next;
  last = λ before last e. is.last (p ∷ before) last (ap (λ (ps : List (List ℕ)). p ∷ ps) e);
}

-- without the first, where another one stands behind it
pub dropped : (n : ℕ) (pages : List (Vec ℕ Global)) → 1 ≤ length (drop 1 pages) → IsCounted n (texts pages)
    → IsCounted n (texts (drop 1 pages))
dropped n [] some is = absurd (omega (arith, some))
dropped n (p ∷ []) some is = absurd (omega (arith, some))
dropped n (p ∷ q ∷ pages) some is = behind-first p.items q.items (texts pages) n is

alone : (page : List ℕ) (n : ℕ) → number_behind page ≡ n → GoesOn page → IsCounted n (page ∷ [])
alone page n is goes = record { next = is; last = one-goes page goes }

small-next : (pages : List (List ℕ)) → next_number pages < 2 ^ 64
small-next [] = omega arith
small-next (p ∷ []) = small-number p
small-next (p ∷ q ∷ pages) = small-next (q ∷ pages)

begins : (n : ℕ) (r : Record) → n < 2 ^ 64 → IsWritable r → IsCounted ((n + 1) % 2 ^ 64) (page_with n (record_text r) ∷ [])
begins n r few good = alone (page_with n (record_text r)) ((n + 1) % 2 ^ 64) (begun n r few good) (begun-goes n r good)

-- ---- one record more

last-counted : (page : List ℕ) (r : Record) → GoesOn page → IsWritable r
    → IsCounted ((number_behind page + 1) % 2 ^ 64) (with_text (page ∷ []) (record_text r))
last-counted page r goes good = by_room (has_room page (length (record_text r)))
  where
    by_room : (b : Bool) → IsCounted ((number_behind page + 1) % 2 ^ 64)
        (if b then (page ++ record_text r) ∷ [] else page ∷ page_with (number_behind page) (record_text r) ∷ [])
    by_room true = alone (page ++ record_text r) ((number_behind page + 1) % 2 ^ 64) (more-number page r goes good)
        (more-goes page r goes good)
    by_room false = in-front page (page_with (number_behind page) (record_text r) ∷ [])
        ((number_behind page + 1) % 2 ^ 64) (omega arith) (begins (number_behind page) r (small-number page) good)

further : (pages : List (List ℕ)) (r : Record) → LastGoesOn pages → IsWritable r
    → IsCounted ((next_number pages + 1) % 2 ^ 64) (with_text pages (record_text r))
further [] r goes good = begins 0 r (omega arith) good
further (page ∷ []) r goes good = last-counted page r (goes [] page refl) good
further (p ∷ q ∷ pages) r goes good =
    in-front p (with_text (q ∷ pages) (record_text r)) ((next_number (q ∷ pages) + 1) % 2 ^ 64)
    (some-text (q ∷ pages) (record_text r))
    (further (q ∷ pages) r
    (λ before last e. goes (p ∷ before) last (ap (λ (ps : List (List ℕ)). p ∷ ps) e)) good)

behind-all : (pages : List (List ℕ)) (page : List ℕ) (n : ℕ) → IsCounted n (page ∷ []) → IsCounted n (pages ++ page ∷ [])
behind-all [] page n is = is
behind-all (p ∷ pages) page n is =
    let both = length-append pages (page ∷ []) in
    in-front p (pages ++ page ∷ []) n (omega (arith, both)) (behind-all pages page n is)

-- a page begins with it
new-page-counted : (pages : List (List ℕ)) (r : Record) → last_has_room pages (length (record_text r)) ≡ false
    → IsWritable r → IsCounted ((next_number pages + 1) % 2 ^ 64) (with_text pages (record_text r))
new-page-counted pages r none good =
    subst (λ (ps : List (List ℕ)). IsCounted ((next_number pages + 1) % 2 ^ 64) ps)
    (sym (no-room pages (record_text r) none))
    (behind-all pages (page_with (next_number pages) (record_text r)) ((next_number pages + 1) % 2 ^ 64)
    (begins (next_number pages) r (small-next pages) good))

-- the last page has room, and is records to its end; or a page begins
pub counted-more : (pages : List (List ℕ)) (r : Record)
    → (last_has_room pages (length (record_text r)) ≡ true → LastGoesOn pages) → IsWritable r
    → IsCounted ((next_number pages + 1) % 2 ^ 64) (with_text pages (record_text r))
counted-more pages r goes good = by_room (last_has_room pages (length (record_text r))) refl
  where
    by_room : (b : Bool) → last_has_room pages (length (record_text r)) ≡ b
        → IsCounted ((next_number pages + 1) % 2 ^ 64) (with_text pages (record_text r))
    by_room true is = further pages r (goes is) good
    by_room false is = new-page-counted pages r is good

-- the number behind a record, where it was known before it
pub known-behind : (next after : Option ℕ) (n : ℕ) (pages now : List (List ℕ)) (r : Record)
    → after ≡ option_map (λ m. (m + 1) % 2 ^ 64) next → ((m : ℕ) → next ≡ Some m → next_number pages ≡ m)
    → ((m : ℕ) → next ≡ Some m → last_has_room pages (length (record_text r)) ≡ true → LastGoesOn pages)
    → IsWritable r → now ≡ with_text pages (record_text r) → after ≡ Some n → IsCounted n now
known-behind None after n pages now r is number goes good more e = let no : ⊥ = cc in absurd no
known-behind (Some m) after n pages now r is number goes good more e =
    let further : (m + 1) % 2 ^ 64 ≡ n = cc in
    let same : (next_number pages + 1) % 2 ^ 64 ≡ n = ap (λ k. (k + 1) % 2 ^ 64) (number m refl) ∙ further in
    subst (λ (ps : List (List ℕ)). IsCounted n ps) (sym more)
    (subst (λ k. IsCounted k (with_text pages (record_text r))) same (counted-more pages r (goes m refl) good))

-- the number behind a record that begins a page
pub begun-behind : (number after n : ℕ) (pages now : List (List ℕ)) (r : Record) → number ≡ next_number pages
    → after ≡ (number + 1) % 2 ^ 64 → last_has_room pages (length (record_text r)) ≡ false → IsWritable r
    → now ≡ with_text pages (record_text r) → Some after ≡ Some n → IsCounted n now
begun-behind number after n pages now r is further none good more e =
    let same : (next_number pages + 1) % 2 ^ 64 ≡ n =
    let last : after ≡ n = cc in ap (λ k. (k + 1) % 2 ^ 64) (sym is) ∙ (sym further ∙ last) in
    subst (λ (ps : List (List ℕ)). IsCounted n ps) (sym more)
    (subst (λ k. IsCounted k (with_text pages (record_text r))) same (new-page-counted pages r none good))
