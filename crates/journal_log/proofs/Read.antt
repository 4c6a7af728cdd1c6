-- Bytes that are read as records in order, wherever pages were cut between them.
use Rattle.std.proofs.Common.{◌≡◌, ◌≤◌, ℕ, zero, suc, None, List, [], ◌∷◌, ◌++◌, length, drop, refl}
use Rattle.std.proofs.Common.{sym, ap, ◌∙◌, append-nil, append_assoc}
use Rattle.std.proofs.lemmas.List.{drop-append-le, drop_at}
use mathlib.Core.List.{IsPrefix}
use Rattle.journal_pages.specs.declared.place.Place.{Place}
use Rattle.journal_pages.specs.declared.place.Place.TheVariants.{PageStart}
use Rattle.journal_pages.specs.declared.version.Version.TheVariants.{Two}
use Rattle.journal_pages.specs.Record.{Front, Record, Refused, Stands, front, records_by_looks, records_in}
use Rattle.journal_pages.specs.Record.{records_of_front, size_of}
use Rattle.journal_pages.specs.Ordered.{order_fault, place_behind}
use Rattle.journal_pages.specs.Page.{fault_at, fault_by_looks, fault_of_front, page_records, place_after, records_fault}
use Rattle.journal_pages.proofs.Further.{goes-on}
use Rattle.journal_pages.proofs.Listed.{both-none, page-parts}
use Rattle.journal_days.proofs.Leading.{From, Goes, Leads, behind}
use Rattle.journal_days.proofs.Places.{behind-both, less-after, less-fault, order-both, Less}
use Rattle.journal_days.specs.Day.{day_records}
use Rattle.journal_log.specs.Since.{bytes_of}

-- ---- the same records behind another place

fault-front : (looks : ℕ) (p q : Place) (bytes : List ℕ)
    → ((a b : Place) (n : ℕ) → fault_by_looks looks a (drop n bytes) ≡ None
    → order_fault b (records_by_looks looks (drop n bytes)) ≡ None → fault_by_looks looks b (drop n bytes) ≡ None)
    → (f : Front) → fault_of_front f p (λ later size. fault_by_looks looks later (drop size bytes)) ≡ None
    → order_fault q (records_of_front f (λ size. records_by_looks looks (drop size bytes))) ≡ None
    → fault_of_front f q (λ later size. fault_by_looks looks later (drop size bytes)) ≡ None
fault-front looks p q bytes later (Refused fault) e o = let no : ⊥ = cc in absurd no
fault-front looks p q bytes later (Stands r) e o =
    let first = both-none (fault_at p r) (fault_by_looks looks (place_after p r) (drop (size_of r) bytes)) e in
    let other = both-none (fault_at q r) (order_fault (place_after q r)
    (records_by_looks looks (drop (size_of r) bytes))) o in
    rw other.0 (later (place_after p r) (place_after q r) (size_of r) first.1 other.1)

fault-looks : (looks : ℕ) (p q : Place) (bytes : List ℕ) → fault_by_looks looks p bytes ≡ None
    → order_fault q (records_by_looks looks bytes) ≡ None → fault_by_looks looks q bytes ≡ None
fault-looks zero p q bytes e o = refl
fault-looks (suc looks) p q [] e o = refl
fault-looks (suc looks) p q (b ∷ bytes) e o =
    fault-front looks p q (b ∷ bytes) (λ x y n one other. fault-looks looks x y (drop n (b ∷ bytes)) one other)
    (front (b ∷ bytes)) e o

pub fault-elsewhere : (p q : Place) (bytes : List ℕ) → records_fault p bytes ≡ None
    → order_fault q (records_in bytes) ≡ None → records_fault q bytes ≡ None
fault-elsewhere p q bytes e o = fault-looks (length bytes) p q bytes e o

pub less-order : (p q : Place) (rs : List Record) → Less p q → order_fault q rs ≡ None → order_fault p rs ≡ None
less-order p q [] less e = refl
less-order p q (r ∷ rs) less e =
    let both = both-none (fault_at q r) (order_fault (place_after q r) rs) e in
    rw (less-fault p q r less both.0) (less-order (place_after p r) (place_after q r) rs
    (less-after p q r less both.0) both.1)

-- ---- bytes that are records, from a place to a place

pub record Reads (p : Place) (bytes : List ℕ) (rs : List Record) (q : Place) : Type 0 where
  pub fault : records_fault p bytes ≡ None
  pub records : records_in bytes ≡ rs
  pub order : order_fault p rs ≡ None
  pub ends : place_behind p rs ≡ q

reads-both : (p q r : Place) (x y : List ℕ) (xs ys : List Record) → Reads p x xs q → Reads q y ys r
    → Reads p (x ++ y) (xs ++ ys) r
reads-both p q r x y xs ys one other =
    let goes = goes-on p x y one.fault in
    let there : place_behind p (records_in x) ≡ q = ap (place_behind p) one.records ∙ one.ends in
    record {
      fault = goes.fault ∙ ap (λ (z : Place). records_fault z y) there ∙ other.fault;
      records = goes.records ∙ ap (λ (l : List Record). l ++ records_in y) one.records
          ∙ ap (λ (l : List Record). xs ++ l) other.records;
      order = order-both p xs ys one.order ∙ ap (λ (z : Place). order_fault z ys) one.ends ∙ other.order;
      ends = behind-both p xs ys ∙ ap (λ (z : Place). place_behind z ys) one.ends ∙ other.ends;
    }

-- the records of a page that stands at a place
page-reads : (p : From) (page : List ℕ) → Goes Two p page
    → Reads p.place (drop 12 page) (page_records Two page) (behind Two p page).place
page-reads p page goes = record {
  fault = fault-elsewhere PageStart p.place (drop 12 page) (page-parts Two page goes.whole).records goes.order;
  records = refl;
  order = goes.order;
  ends = refl;
}

pub pages-read : (p q : From) (pages : List (List ℕ)) → Leads Two p pages q
    → Reads p.place (bytes_of pages) (day_records Two pages) q.place
pages-read p q [] l = record { fault = refl; records = refl; order = refl; ends = ap (λ (x : From). x.place) l }
pages-read p q (page ∷ pages) l =
    reads-both p.place (behind Two p page).place q.place (drop 12 page) (bytes_of pages) (page_records Two page)
    (day_records Two pages)
    (page-reads p page l.0) (pages-read (behind Two p page) q pages l.1)

-- what stands behind records that are read
rest-reads : (p q r : Place) (x y : List ℕ) (xs zs : List Record) → Reads p x xs q → Reads p (x ++ y) zs r
    → (zs ≡ xs ++ records_in y) × Reads q y (records_in y) r
rest-reads p q r x y xs zs one all =
    let goes = goes-on p x y one.fault in
    let there : place_behind p (records_in x) ≡ q = ap (place_behind p) one.records ∙ one.ends in
    let parts : zs ≡ xs ++ records_in y = sym all.records ∙ goes.records
    ∙ ap (λ (l : List Record). l ++ records_in y) one.records in (
      parts,
      record {
        fault = ap (λ (z : Place). records_fault z y) (sym there) ∙ sym goes.fault ∙ all.fault;
        records = refl;
        order = ap (λ (z : Place). order_fault z (records_in y)) (sym one.ends)
            ∙ sym (order-both p xs (records_in y) one.order) ∙ ap (order_fault p) (sym parts) ∙ all.order;
        ends = ap (λ (z : Place). place_behind z (records_in y)) (sym one.ends) ∙ sym (behind-both p xs (records_in y))
            ∙ ap (place_behind p) (sym parts) ∙ all.ends;
      },
    )

-- ---- what pages have behind others that they go on

pub record More (p : Place) (bytes : List ℕ) (old new : List Record) (q : Place) : Type 0 where
  pub records : List Record
  pub reads : Reads p bytes records q
  pub all : new ≡ old ++ records

pub last-more : (p q r : From) (page last : List ℕ) (now : List (List ℕ)) → Leads Two p (page ∷ []) q
    → Leads Two p (last ∷ now) r → IsPrefix page last
    → More q.place (drop (length page) last ++ bytes_of now) (day_records Two (page ∷ []))
    (day_records Two (last ∷ now)) r.place
last-more p q r page last now l m goes =
    let x : List ℕ = goes.0 in
    let left : drop (length page) last ≡ x = ap (drop (length page)) (sym goes.1) ∙ drop_at page x (length page) refl in
    let long : 12 ≤ length page = (page-parts Two page l.0.whole).long in
    let here : drop 12 last ≡ drop 12 page ++ x = ap (drop 12) (sym goes.1) ∙ drop-append-le 12 page x long in
    let first = page-reads p page l.0 in
    let whole = page-reads p last m.0 in
    let again : Reads p.place (drop 12 page ++ x) (page_records Two last) (behind Two p last).place = record {
      fault = ap (records_fault p.place) (sym here) ∙ whole.fault;
      records = ap records_in (sym here);
      order = whole.order;
      ends = whole.ends;
    } in
    let rest = rest-reads p.place (behind Two p page).place (behind Two p last).place (drop 12 page) x
    (page_records Two page) (page_records Two last) first again in
    let place : (behind Two p page).place ≡ q.place = ap (λ (f : From). f.place) l.1 in
    let other : Reads q.place x (records_in x) (behind Two p last).place = rw (← place) rest.1 in
    let both = reads-both q.place (behind Two p last).place r.place x (bytes_of now) (records_in x)
    (day_records Two now) other (pages-read (behind Two p last) r now m.1) in
    record {
      records = records_in x ++ day_records Two now;
      reads = rw left both;
      all = ap (λ (l : List Record). l ++ day_records Two now) rest.0
          ∙ append_assoc (page_records Two page) (records_in x) (day_records Two now)
          ∙ ap (λ (l : List Record). l ++ (records_in x ++ day_records Two now))
          (sym (append-nil (page_records Two page)));
    }
