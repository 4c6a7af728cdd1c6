-- A page of all the records that a history has more goes on with a day that has its records so far.
use Rattle.std.proofs.Common.{◌≡◌, ◌<◌, ◌≤◌, ◌%◌, ◌^◌, ℕ, ◌+◌, Bool, true, false, Option, Some, None, List}
use Rattle.std.proofs.Common.{[], ◌∷◌, ◌++◌, length, drop, refl, sym, ap, subst, ◌∙◌, arith, append-nil}
use Rattle.std.proofs.Common.{append_assoc, length-append}
use Rattle.std.proofs.lemmas.Bool.Decides.{nat_tests}
use Rattle.std.specs.Prelude.{◌==◌, if◌then◌else◌}
use Rattle.journal_pages.specs.declared.fault.PageFault.{PageFault}
use Rattle.journal_pages.specs.declared.fault.PageFault.TheVariants as faults
use Rattle.journal_pages.specs.declared.place.Place.{Place}
use Rattle.journal_pages.specs.declared.place.Place.TheVariants.{BetweenBatches, PageStart}
use Rattle.journal_pages.specs.declared.version.Version.TheVariants.{Two}
use Rattle.journal_pages.specs.Record.{Record}
use Rattle.journal_pages.specs.Ordered.{order_fault, place_behind}
use Rattle.journal_pages.specs.Page.{page_front, page_number, page_records, records_fault}
use Rattle.journal_pages.proofs.Listed.{page-made}
use Rattle.journal_pages.proofs.Numbered.{number-begun}
use Rattle.journal_days.specs.Cut.{last_size, number_behind}
use Rattle.journal_days.specs.Day.{at_page, day_fault, day_records, end_fault, fault_from, number_fault, page_behind}
use Rattle.journal_days.specs.Day.{page_fault_in_day}
use Rattle.journal_days.proofs.Leading.{From, Goes, Leads, behind, leads-of, start}
use Rattle.journal_log.specs.Since.{bytes_from, bytes_of, bytes_since}
use Rattle.journal_log.proofs.GoesOn.{GoesOn}
use Rattle.journal_log.proofs.Read.{More, Reads, fault-elsewhere, last-more, less-order, pages-read}

-- ---- what a history has more

pages-more : (p q r : From) (page : List ℕ) (pages now : List (List ℕ)) → Leads Two p (page ∷ pages) q
    → Leads Two p now r → GoesOn (page ∷ pages) now
    → More q.place (bytes_from (last_size (page ∷ pages)) (drop (length pages) now)) (day_records Two (page ∷ pages))
    (day_records Two now) r.place
pages-more p q r page [] [] l m g = absurd g
pages-more p q r page [] (last ∷ now) l m g = last-more p q r page last now l m g
pages-more p q r page (next ∷ pages) [] l m g = absurd g
pages-more p q r page (next ∷ pages) (other ∷ now) l m g =
    let there : Leads Two (behind Two p page) now r = subst (λ (x : List ℕ). Leads Two (behind Two p x) now r) g.0 m.1
    in
    let later = pages-more (behind Two p page) q r next pages now l.1 there g.1 in
    record {
      records = later.records;
      reads = later.reads;
      all = ap (λ (x : List ℕ). page_records Two x ++ day_records Two now) g.0
          ∙ ap (λ (l : List Record). page_records Two page ++ l) later.all
          ∙ sym (append_assoc (page_records Two page) (day_records Two (next ∷ pages)) later.records);
    }

pub history-more : (before now : List (List ℕ)) → day_fault Two before ≡ None → day_fault Two now ≡ None
    → GoesOn before now
    → More BetweenBatches (bytes_since (length before) (last_size before) now) (day_records Two before)
    (day_records Two now) BetweenBatches
history-more [] now old new g =
    let on = leads-of Two now new in
    record {
      records = day_records Two now;
      reads = subst (λ (z : Place). Reads BetweenBatches (bytes_of now) (day_records Two now) z) on.closed
          (pages-read start on.to now on.leads);
      all = refl;
    }
history-more (page ∷ more) now old new g =
    let from = leads-of Two (page ∷ more) old in
    let on = leads-of Two now new in
    let all = pages-more start from.to on.to page more now from.leads on.leads g in
    subst (λ (z : Place). More z (bytes_from (last_size (page ∷ more)) (drop (length more) now))
    (day_records Two (page ∷ more)) (day_records Two now) BetweenBatches) from.closed
    (subst (λ (z : Place). More from.to.place (bytes_from (last_size (page ∷ more)) (drop (length more) now))
    (day_records Two (page ∷ more)) (day_records Two now) z) on.closed all)

-- ---- numbers

is-number : (n m : ℕ) → (n == m) ≡ true → n ≡ m
is-number n m e = grind (arith, nat_tests)

number-of : (n : ℕ) (page : List ℕ) → number_fault Two n page ≡ None → page_number page ≡ n
number-of n page e = by_test (page_number page == n) refl e
  where
    by_test : (b : Bool) → (page_number page == n) ≡ b → (if b then None else Some faults.Number) ≡ None
        → page_number page ≡ n
    by_test true is e = is-number (page_number page) n is
    by_test false is e = let no : ⊥ = cc in absurd no

same-number : (n m : ℕ) → n ≡ m → (n == m) ≡ true
same-number n m e = grind (arith, nat_tests, e)

-- the number of the page behind is how many records there are
pub records-count : (p q : From) (pages : List (List ℕ)) → Leads Two p pages q → p.number < 2 ^ 64
    → q.number ≡ (p.number + length (day_records Two pages)) % 2 ^ 64
records-count p q [] l few =
    let same : p.number ≡ q.number = ap (λ (x : From). x.number) l in
    omega (arith, same, few)
records-count p q (page ∷ pages) l few =
    let later = records-count (behind Two p page) q pages l.1 (omega arith) in
    let is = number-of p.number page l.0.number in
    let many = length-append (page_records Two page) (day_records Two pages) in
    omega (arith, later, is, many)

-- ---- a page behind a day

behind-last : (p q : From) (pages : List (List ℕ)) (page : List ℕ) → Leads Two p pages q → Goes Two q page
    → Leads Two p (pages ++ page ∷ []) (behind Two q page)
behind-last p q [] page l goes = rw l (goes, refl)
behind-last p q (first ∷ pages) page l goes = (l.0, behind-last (behind Two p first) q pages page l.1 goes)

in-day : (last : Bool) (p : From) (page : List ℕ) → Goes Two p page
    → end_fault last (place_behind p.place (page_records Two page)) ≡ None
    → page_fault_in_day Two last p.number p.place page ≡ None
in-day last p page goes end = rw (goes.whole, goes.number, goes.order) end

is-day : (n : ℕ) (p q : From) (pages : List (List ℕ)) → Leads Two p pages q → q.place ≡ BetweenBatches
    → fault_from Two n p.number p.place pages ≡ None
is-day n p q [] l closed = refl
is-day n p q (page ∷ []) l closed =
    let end : place_behind p.place (page_records Two page) ≡ BetweenBatches = ap (λ (x : From). x.place) l.1 ∙ closed in
    ap (λ (f : Option PageFault). at_page n f None) (in-day true p page l.0 (ap (end_fault true) end))
is-day n p q (page ∷ next ∷ pages) l closed =
    ap (λ (f : Option PageFault). at_page n f
    (fault_from Two (page_behind n) (number_behind page) (place_behind p.place (page_records Two page))
    (next ∷ pages)))
    (in-day false p page l.0 refl)
    ∙ is-day (page_behind n) (behind Two p page) q (next ∷ pages) l.1 closed

listed-last : (pages : List (List ℕ)) (page : List ℕ)
    → day_records Two (pages ++ page ∷ []) ≡ day_records Two pages ++ page_records Two page
listed-last [] page = append-nil (page_records Two page)
listed-last (first ∷ pages) page =
    ap (λ (l : List Record). page_records Two first ++ l) (listed-last pages page)
    ∙ sym (append_assoc (page_records Two first) (day_records Two pages) (page_records Two page))

pub record MoreDay (pages : List (List ℕ)) (page : List ℕ) (rs : List Record) : Type 0 where
  pub day : day_fault Two (pages ++ page ∷ []) ≡ None
  pub records : day_records Two (pages ++ page ∷ []) ≡ day_records Two pages ++ rs
  pub own : page_records Two page ≡ rs

pub page-behind : (pages : List (List ℕ)) (n : ℕ) (bytes : List ℕ) (rs : List Record) → day_fault Two pages ≡ None
    → n ≡ length (day_records Two pages) % 2 ^ 64
    → 1 ≤ length bytes → Reads BetweenBatches bytes rs BetweenBatches → MoreDay pages (page_front n ++ bytes) rs
page-behind pages n bytes rs day number some reads =
    let page : List ℕ = page_front n ++ bytes in
    let on = leads-of Two pages day in
    let few : n < 2 ^ 64 = omega (arith, number) in
    let is : page_number page ≡ n = number-begun n bytes few in
    let count = records-count start on.to pages on.leads (omega arith) in
    let same : page_number page ≡ on.to.number = omega (arith, is, number, count) in
    let many = length-append (page_front n) bytes in
    let alone : records_fault PageStart bytes ≡ None =
    fault-elsewhere BetweenBatches PageStart bytes reads.fault
    (rw reads.records (less-order PageStart BetweenBatches rs tt reads.order)) in
    let goes : Goes Two on.to page = record {
      whole = page-made Two page refl (omega (arith, many, some)) alone;
      number = ap (λ (b : Bool). if b then None else Some faults.Number)
          (same-number (page_number page) on.to.number same);
      order = rw on.closed (ap (order_fault BetweenBatches) reads.records ∙ reads.order);
    } in
    let ends : place_behind on.to.place (page_records Two page) ≡ BetweenBatches =
    ap (λ (z : Place). place_behind z (page_records Two page)) on.closed
    ∙ ap (place_behind BetweenBatches) reads.records ∙ reads.ends in
    record {
      day = is-day 0 start (behind Two on.to page) (pages ++ page ∷ [])
          (behind-last start on.to pages page on.leads goes) ends;
      records = listed-last pages page ∙ ap (λ (l : List Record). day_records Two pages ++ l) reads.records;
      own = reads.records;
    }
