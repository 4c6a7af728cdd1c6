-- Pages that lead from a place to a place: each is a page, has its number, and its records stand behind those before.
-- Records that may stand behind them lead further.
use Rattle.std.proofs.Common.{inl, inr, ◌≡◌, ◌<◌, ◌≤◌, ◌+◌, ◌%◌, ◌^◌, ℕ, true, false, Bool, Option, Some, None, List}
use Rattle.std.proofs.Common.{[], ◌∷◌, ◌++◌, length, drop, refl, sym, ap, ◌∙◌, arith, append_assoc, append-nil}
use Rattle.std.proofs.Common.{length-append}
use Rattle.std.proofs.lemmas.Bool.Decides.{nat_tests}
use Rattle.std.proofs.lemmas.List.{drop-append-le, take-append-le}
use Rattle.std.specs.Prelude.{◌⊎◌, ◌==◌, if◌then◌else◌}
use Rattle.journal_pages.specs.declared.fault.PageFault.{PageFault}
use Rattle.journal_pages.specs.declared.fault.PageFault.TheVariants as faults
use Rattle.journal_pages.specs.declared.place.Place.{Place}
use Rattle.journal_pages.specs.declared.place.Place.TheVariants.{PageStart, BetweenBatches, InBatch}
use Rattle.journal_pages.specs.declared.version.Version.{Version}
use Rattle.journal_pages.specs.declared.version.Version.TheVariants.{One, Two}
use Rattle.journal_pages.specs.Record.{Record, front, record_bytes, records_in, size_of, Stands}
use Rattle.journal_pages.specs.Ordered.{AreWritable, IsWritable, order_fault, place_behind}
use Rattle.journal_pages.specs.Page.{fault_at, page_fault, page_number, page_records, place_after, records_fault}
use Rattle.journal_pages.specs.Page.{unless}
use Rattle.journal_pages.proofs.Further.{goes-on, one-record}
use Rattle.journal_pages.proofs.Listed.{both-none, page-made, page-parts, written-alone, written-front}
use Rattle.journal_pages.proofs.Numbered.{number-begun, number-kept}
use Rattle.journal_days.specs.Cut.{has_room, number_behind, page_with, record_text, with_records, with_text}
use Rattle.journal_days.specs.Day.{day_fault, day_records, end_fault, fault_from, number_fault, page_behind}
use Rattle.journal_days.specs.Day.{at_page, page_fault_in_day}
use Rattle.journal_days.proofs.Cutting.{text-is}
use Rattle.journal_days.proofs.Places.{behind-both, less-behind, less-fault, order-both}

-- a place, and the number that a page there has
pub record From : Type 0 where
  pub number : ℕ
  pub place : Place

-- a page may stand there
pub record Goes (version : Version) (p : From) (page : List ℕ) : Type 0 where
  pub whole : page_fault version page ≡ None
  pub number : number_fault version p.number page ≡ None
  pub order : order_fault p.place (page_records version page) ≡ None

-- where it leads to
abbrev pub behind : Version → From → List ℕ → From
behind version p page = record { number = number_behind page; place = place_behind p.place (page_records version page) }

abbrev pub Leads : Version → From → List (List ℕ) → From → Type 0
Leads version p [] q = p ≡ q
Leads version p (page ∷ pages) q = Goes version p page × Leads version (behind version p page) pages q

-- ---- one page of version 2

record Whole (page : List ℕ) (rs : List Record) : Type 0 where
  none : page_fault Two page ≡ None
  records : page_records Two page ≡ rs

-- a record's text
pub sized : (r : Record) → length (record_text r) ≡ size_of r
sized r = ap length (sym (text-is r)) ∙ counted r
  where
    counted : (r : Record) → length (record_bytes r) ≡ size_of r
    counted r = omega arith

-- as many bytes as were counted
pub counted : (r : Record) (front back : List ℕ) → r.payload ≡ front ++ back
    → length (record_text r) ≡ 23 + length front + length back
counted r front back is =
    let all = sized r in
    let size = ap length is in
    let both = length-append front back in
    omega (arith, all, size, both)

text-stands : (r : Record) → IsWritable r → front (record_text r) ≡ Stands r
text-stands r good = ap front (sym (text-is r)) ∙ written-front r good.source good.link good.at good.sound

pub text-listed : (r : Record) → IsWritable r → records_in (record_text r) ≡ r ∷ []
text-listed r good = ap records_in (sym (text-is r)) ∙ written-alone r good.source good.link good.at good.sound

text-none : (p : Place) (r : Record) → IsWritable r → fault_at p r ≡ None → records_fault p (record_text r) ≡ None
text-none p r good none = one-record p (record_text r) r (text-stands r good) (sym (sized r)) none

new-page : (n : ℕ) (r : Record) → IsWritable r → Whole (page_with n (record_text r)) (r ∷ [])
new-page n r good =
    let size = sized r in
    record {
      none = page-made Two (page_with n (record_text r)) refl (omega (arith, size)) (text-none PageStart r good refl);
      records = text-listed r good;
    }

page-more : (page : List ℕ) (r : Record) → page_fault Two page ≡ None → IsWritable r
    → fault_at (place_behind PageStart (page_records Two page)) r ≡ None
    → Whole (page ++ record_text r) (page_records Two page ++ r ∷ [])
page-more page r whole good none =
    let text : List ℕ = record_text r in
    let parts = page-parts Two page whole in
    let long : 12 ≤ length page = parts.long in
    let size = sized r in
    let many = length-append page text in
    let rest : drop 12 (page ++ text) ≡ drop 12 page ++ text = drop-append-le 12 page text long in
    let goes = goes-on PageStart (drop 12 page) text parts.records in
    record {
      none = page-made Two (page ++ text) (take-append-le 4 page text (omega (arith, long)) ∙ parts.name)
          (omega (arith, long, size, many))
          (ap (records_fault PageStart) rest ∙ goes.fault
          ∙ text-none (place_behind PageStart (page_records Two page)) r good none);
      records = ap records_in rest ∙ goes.records
          ∙ ap (λ (rs : List Record). page_records Two page ++ rs) (text-listed r good);
    }

-- ---- numbers

numbered : (n m : ℕ) → n ≡ m → (n == m) ≡ true
numbered n m e = grind (arith, nat_tests, e)

has-number : (n : ℕ) (page : List ℕ) → page_number page ≡ n → number_fault Two n page ≡ None
has-number n page e = ap (λ (b : Bool). if b then None else Some faults.Number) (numbered (page_number page) n e)

number-is : (n : ℕ) (page : List ℕ) → number_fault Two n page ≡ None → page_number page ≡ n
number-is n page e = by_test (page_number page == n) refl e
  where
    by_test : (b : Bool) → (page_number page == n) ≡ b → (if b then None else Some faults.Number) ≡ None
        → page_number page ≡ n
    by_test true is e = grind (arith, nat_tests, is)
    by_test false is e = let no : ⊥ = cc in absurd no

-- one record more is one number more
one-further : (page after : List ℕ) (r : Record) → page_number after ≡ page_number page
    → page_records Two after ≡ page_records Two page ++ r ∷ []
    → number_behind after ≡ (number_behind page + 1) % 2 ^ 64
one-further page after r same more =
    let many : length (page_records Two after) ≡ length (page_records Two page ++ r ∷ []) = ap length more in
    let both = length-append (page_records Two page) (r ∷ []) in
    omega (arith, same, many, both)

-- ---- pages of version 2

-- behind one record more
abbrev further : From → Record → From
further q r = record { number = (q.number + 1) % 2 ^ 64; place = place_after q.place r }

record Grown (p : From) (pages after : List (List ℕ)) (q : From) (rs : List Record) : Type 0 where
  leads : Leads Two p after q
  records : day_records Two after ≡ day_records Two pages ++ rs

same-from : (a b : ℕ) (x y : Place) → a ≡ b → x ≡ y
    → (let one : From = record { number = a; place = x } in let other : From = record { number = b; place = y } in
    one ≡ other)
same-from a b x y e f = cc

order-one : (p : Place) (r : Record) → fault_at p r ≡ None → order_fault p (r ∷ []) ≡ None
order-one p r none = ap (λ (f : Option PageFault). unless f None) none

pub small-number : (page : List ℕ) → number_behind page < 2 ^ 64
small-number page = omega arith

pub begun : (n : ℕ) (r : Record) → n < 2 ^ 64 → IsWritable r
    → number_behind (page_with n (record_text r)) ≡ (n + 1) % 2 ^ 64
begun n r few good =
    let number = number-begun n (record_text r) few in
    let one : length (page_records Two (page_with n (record_text r))) ≡ 1 = ap length (text-listed r good) in
    omega (arith, number, one)

first-page : (p q : From) (n : ℕ) (r : Record) → p ≡ q → n ≡ q.number → n < 2 ^ 64 → IsWritable r
    → fault_at q.place r ≡ None
    → Grown p [] (page_with n (record_text r) ∷ []) (further q r) (r ∷ [])
first-page p q n r same is few good none =
    let page = new-page n r good in
    let stands : fault_at p.place r ≡ None = ap (λ (x : From). fault_at x.place r) same ∙ none in
    record {
      leads = (
        record {
          whole = page.none;
          number = has-number p.number (page_with n (record_text r))
              (number-begun n (record_text r) few ∙ is ∙ ap (λ (x : From). x.number) (sym same));
          order = ap (order_fault p.place) page.records ∙ order-one p.place r stands;
        },
        same-from _ _ _ _ (begun n r few good ∙ ap (λ m. (m + 1) % 2 ^ 64) is)
            (ap (place_behind p.place) page.records ∙ ap (λ (x : From). place_after x.place r) same),
      );
      records = append-nil (page_records Two (page_with n (record_text r))) ∙ page.records;
    }

last-page : (p q : From) (page : List ℕ) (r : Record) → Leads Two p (page ∷ []) q → IsWritable r
    → fault_at q.place r ≡ None
    → Grown p (page ∷ []) ((page ++ record_text r) ∷ []) (further q r) (r ∷ [])
last-page p q page r l good none =
    let rs : List Record = page_records Two page in
    let stands : fault_at (place_behind p.place rs) r ≡ None = ap (λ (x : From). fault_at x.place r) l.1 ∙ none in
    let own : fault_at (place_behind PageStart rs) r ≡ None =
    less-fault (place_behind PageStart rs) (place_behind p.place rs) r
    (less-behind PageStart p.place rs tt l.0.order) stands in
    let more = page-more page r l.0.whole good own in
    let number : page_number (page ++ record_text r) ≡ page_number page =
    number-kept page (record_text r) (page-parts Two page l.0.whole).long in
    record {
      leads = (
        record {
          whole = more.none;
          number = has-number p.number (page ++ record_text r) (number ∙ number-is p.number page l.0.number);
          order = ap (order_fault p.place) more.records ∙ order-both p.place rs (r ∷ []) l.0.order
              ∙ order-one (place_behind p.place rs) r stands;
        },
        same-from _ _ _ _ (one-further page (page ++ record_text r) r number more.records
            ∙ ap (λ (x : From). (x.number + 1) % 2 ^ 64) l.1)
            (ap (place_behind p.place) more.records ∙ behind-both p.place rs (r ∷ [])
            ∙ ap (λ (x : From). place_after x.place r) l.1),
      );
      records = append-nil (page_records Two (page ++ record_text r)) ∙ more.records
          ∙ ap (λ (l : List Record). l ++ r ∷ []) (sym (append-nil rs));
    }

new-last : (p q : From) (page : List ℕ) (r : Record) → Leads Two p (page ∷ []) q → IsWritable r
    → fault_at q.place r ≡ None
    → Grown p (page ∷ []) (page ∷ page_with (number_behind page) (record_text r) ∷ []) (further q r) (r ∷ [])
new-last p q page r l good none =
    let rs : List Record = page_records Two page in
    let new = first-page (behind Two p page) q (number_behind page) r l.1 (ap (λ (x : From). x.number) l.1)
    (small-number page) good none in
    record {
      leads = (l.0, new.leads);
      records = ap (λ (l : List Record). rs ++ l) new.records
          ∙ ap (λ (l : List Record). l ++ r ∷ []) (sym (append-nil rs));
    }

one-more : (p : From) (pages : List (List ℕ)) (q : From) (r : Record) → p.number ≡ 0 ⊎ (1 ≤ length pages)
    → Leads Two p pages q → IsWritable r → fault_at q.place r ≡ None
    → Grown p pages (with_text pages (record_text r)) (further q r) (r ∷ [])
one-more p [] q r (inl zero) l good none =
    first-page p q 0 r l (sym zero ∙ ap (λ (x : From). x.number) l) (omega arith) good none
one-more p [] q r (inr some) l good none = absurd (omega (arith, some))
one-more p (page ∷ []) q r from l good none = by_room (has_room page (length (record_text r)))
  where
    by_room : (b : Bool) → Grown p (page ∷ [])
        (if b then (page ++ record_text r) ∷ [] else page ∷ page_with (number_behind page) (record_text r) ∷ [])
        (further q r) (r ∷ [])
    by_room true = last-page p q page r l good none
    by_room false = new-last p q page r l good none
one-more p (page ∷ next ∷ pages) q r from l good none =
    let later = one-more (behind Two p page) (next ∷ pages) q r (inr (omega arith)) l.1 good none in
    record {
      leads = (l.0, later.leads);
      records = ap (λ (rs : List Record). page_records Two page ++ rs) later.records
          ∙ sym (append_assoc (page_records Two page) (day_records Two (next ∷ pages)) (r ∷ []));
    }

pub some-text : (pages : List (List ℕ)) (text : List ℕ) → 1 ≤ length (with_text pages text)
some-text [] text = omega arith
some-text (page ∷ []) text = by_room (has_room page (length text))
  where
    by_room : (b : Bool) → 1 ≤ length (if b then (page ++ text) ∷ [] else page ∷ page_with
        (number_behind page) text ∷ [])
    by_room true = omega arith
    by_room false = omega arith
some-text (page ∷ next ∷ pages) text = omega arith

-- where records lead to
abbrev all_further : From → List Record → From
all_further q [] = q
all_further q (r ∷ rs) = all_further (further q r) rs

all-place : (q : From) (rs : List Record) → (all_further q rs).place ≡ place_behind q.place rs
all-place q [] = refl
all-place q (r ∷ rs) = all-place (further q r) rs

all-more : (p : From) (pages : List (List ℕ)) (q : From) (rs : List Record) → p.number ≡ 0 ⊎ (1 ≤ length pages)
    → Leads Two p pages q → AreWritable rs → order_fault q.place rs ≡ None
    → Grown p pages (with_records pages rs) (all_further q rs) rs
all-more p pages q [] from l good none = record { leads = l; records = sym (append-nil (day_records Two pages)) }
all-more p pages q (r ∷ rs) from l good none =
    let both = both-none (fault_at q.place r) (order_fault (place_after q.place r) rs) none in
    let first = one-more p pages q r from l good.0 both.0 in
    let later = all-more p (with_text pages (record_text r)) (further q r) rs
    (inr (some-text pages (record_text r))) first.leads good.1 both.1 in
    record {
      leads = later.leads;
      records = later.records ∙ ap (λ (l : List Record). l ++ rs) first.records
          ∙ append_assoc (day_records Two pages) (r ∷ []) rs;
    }

-- ---- a day of either version

pub none-is : (n : ℕ) (o : Option PageFault) (later : Option (ℕ × PageFault)) → at_page n o later ≡ None
    → (o ≡ None) × (later ≡ None)
none-is n None later e = (refl, e)
none-is n (Some fault) later e = let no : ⊥ = cc in absurd no

ends : (p : Place) → end_fault true p ≡ None → p ≡ BetweenBatches
ends PageStart e = let no : ⊥ = cc in absurd no
ends BetweenBatches e = refl
ends (InBatch b) e = let no : ⊥ = cc in absurd no

record InDay (version : Version) (last : Bool) (p : From) (page : List ℕ) : Type 0 where
  goes : Goes version p page
  end : end_fault last (place_behind p.place (page_records version page)) ≡ None

in-parts : (version : Version) (last : Bool) (p : From) (page : List ℕ)
    → page_fault_in_day version last p.number p.place page ≡ None → InDay version last p page
in-parts version last p page e =
    let own = both-none (page_fault version page) _ e in
    let number = both-none (number_fault version p.number page) _ own.1 in
    let rest = both-none (order_fault p.place (page_records version page)) _ number.1 in
    record { goes = record { whole = own.0; number = number.0; order = rest.0 }; end = rest.1 }

-- pages lead to where no batch is open
pub record LeadsOn (version : Version) (p : From) (pages : List (List ℕ)) : Type 0 where
  pub to : From
  pub leads : Leads version p pages to
  pub closed : to.place ≡ BetweenBatches

day-leads : (version : Version) (n : ℕ) (p : From) (page : List ℕ) (pages : List (List ℕ))
    → fault_from version n p.number p.place (page ∷ pages) ≡ None → LeadsOn version p (page ∷ pages)
day-leads version n p page [] e =
    let both = none-is n (page_fault_in_day version true p.number p.place page) _ e in
    let parts = in-parts version true p page both.0 in
    record {
      to = behind version p page;
      leads = (parts.goes, refl);
      closed =
          ends (place_behind p.place (page_records version page)) parts.end;
    }
day-leads version n p page (next ∷ pages) e =
    let both = none-is n (page_fault_in_day version false p.number p.place page) _ e in
    let parts = in-parts version false p page both.0 in
    let later = day-leads version (page_behind n) (behind version p page) next pages both.1 in
    record { to = later.to; leads = (parts.goes, later.leads); closed = later.closed }

whole-in : (version : Version) (last : Bool) (p : From) (page : List ℕ) → Goes version p page
    → end_fault last (place_behind p.place (page_records version page)) ≡ None
    → page_fault_in_day version last p.number p.place page ≡ None
whole-in version last p page goes end = rw (goes.whole, goes.number, goes.order) end

leads-day : (version : Version) (n : ℕ) (p q : From) (pages : List (List ℕ)) → Leads version p pages q
    → q.place ≡ BetweenBatches → fault_from version n p.number p.place pages ≡ None
leads-day version n p q [] l closed = refl
leads-day version n p q (page ∷ []) l closed =
    let end : place_behind p.place (page_records version page) ≡ BetweenBatches = ap (λ (x : From). x.place) l.1
    ∙ closed in
    ap (λ (f : Option PageFault). at_page n f None) (whole-in version true p page l.0 (ap (end_fault true) end))
leads-day version n p q (page ∷ next ∷ pages) l closed =
    ap (λ (f : Option PageFault). at_page n f
    (fault_from version (page_behind n) (number_behind page) (place_behind p.place (page_records version page))
    (next ∷ pages)))
    (whole-in version false p page l.0 refl)
    ∙ leads-day version (page_behind n) (behind version p page) q (next ∷ pages) l.1 closed

abbrev pub start : From
start = record { number = 0; place = BetweenBatches }

pub leads-of : (version : Version) (pages : List (List ℕ)) → day_fault version pages ≡ None
    → LeadsOn version start pages
leads-of version [] e = record { to = start; leads = refl; closed = refl }
leads-of version (page ∷ pages) e = day-leads version 0 start page pages e

-- whole batches behind a day are the day with them
pub day-more : (pages : List (List ℕ)) (rs : List Record) → day_fault Two pages ≡ None → AreWritable rs
    → order_fault BetweenBatches rs ≡ None → place_behind BetweenBatches rs ≡ BetweenBatches
    → day_fault Two (with_records pages rs) ≡ None
day-more pages rs day good order ends =
    let on = leads-of Two pages day in
    let none : order_fault on.to.place rs ≡ None = ap (λ (x : Place). order_fault x rs) on.closed ∙ order in
    let more = all-more start pages on.to rs (inl refl) on.leads good none in
    leads-day Two 0 start (all_further on.to rs) (with_records pages rs) more.leads
    (all-place on.to rs ∙ ap (λ (x : Place). place_behind x rs) on.closed ∙ ends)

pub day-listed : (pages : List (List ℕ)) (rs : List Record) → day_fault Two pages ≡ None → AreWritable rs
    → order_fault BetweenBatches rs ≡ None
    → day_records Two (with_records pages rs) ≡ day_records Two pages ++ rs
day-listed pages rs day good order =
    let on = leads-of Two pages day in
    (all-more start pages on.to rs (inl refl) on.leads good
    (ap (λ (x : Place). order_fault x rs) on.closed ∙ order)).records

-- the number of a page is that of the records before it, as a number of 64 bits
number-led : (p q : From) (pages : List (List ℕ)) → Leads Two p pages q → p.number < 2 ^ 64
    → q.number ≡ (p.number + length (day_records Two pages)) % 2 ^ 64
number-led p q [] l few =
    let same : p.number ≡ q.number = ap (λ (x : From). x.number) l in
    omega (arith, same, few)
number-led p q (page ∷ pages) l few =
    let later = number-led (behind Two p page) q pages l.1 (small-number page) in
    let is = number-is p.number page l.0.number in
    let many = length-append (page_records Two page) (day_records Two pages) in
    omega (arith, later, is, many)

leads-parts : (version : Version) (p q : From) (before after : List (List ℕ)) → Leads version p (before ++ after) q
    → (m : From) × (Leads version p before m × Leads version m after q)
leads-parts version p q [] after l = (p, (refl, l))
leads-parts version p q (page ∷ before) after l =
    let later = leads-parts version (behind version p page) q before after l.1 in
    (later.0, ((l.0, later.1.0), later.1.1))

pub page-numbered : (before after : List (List ℕ)) (page : List ℕ) → day_fault Two (before ++ page ∷ after) ≡ None
    → page_number page ≡ length (day_records Two before) % 2 ^ 64
page-numbered before after page day =
    let on = leads-of Two (before ++ page ∷ after) day in
    let parts = leads-parts Two start on.to before (page ∷ after) on.leads in
    let is = number-is parts.0.number page parts.1.1.0.number in
    let led = number-led start parts.0 before parts.1.0 (omega arith) in
    omega (arith, is, led)

-- ---- a day of version 1 in version 2

pub order-led : (version : Version) (p q : From) (pages : List (List ℕ)) → Leads version p pages q
    → (order_fault p.place (day_records version pages) ≡ None)
    × (place_behind p.place (day_records version pages) ≡ q.place)
order-led version p q [] l = (refl, ap (λ (x : From). x.place) l)
order-led version p q (page ∷ pages) l =
    let rs : List Record = page_records version page in
    let later = order-led version (behind version p page) q pages l.1 in (
      order-both p.place rs (day_records version pages) l.0.order ∙ later.0,
      behind-both p.place rs (day_records version pages) ∙ later.1,
    )

pub day-rewritten : (pages : List (List ℕ)) → AreWritable (day_records One pages) → day_fault One pages ≡ None
    → day_fault Two (with_records [] (day_records One pages)) ≡ None
day-rewritten pages good day =
    let on = leads-of One pages day in
    let order = order-led One start on.to pages on.leads in
    day-more [] (day_records One pages) refl good order.0 (order.1 ∙ on.closed)

pub records-rewritten : (pages : List (List ℕ)) → AreWritable (day_records One pages) → day_fault One pages ≡ None
    → day_records Two (with_records [] (day_records One pages)) ≡ day_records One pages
records-rewritten pages good day =
    let on = leads-of One pages day in
    day-listed [] (day_records One pages) refl good (order-led One start on.to pages on.leads).0

-- ---- a day in two parts

-- what stands behind a day, where both are one, begins between batches
pub part-order : (before after : List (List ℕ)) → day_fault Two before ≡ None → day_fault Two (before ++ after) ≡ None
    → order_fault BetweenBatches (day_records Two after) ≡ None
part-order before after first both =
    let on = leads-of Two before first in
    let all = leads-of Two (before ++ after) both in
    let parts = leads-parts Two start all.to before after all.leads in
    let here : place_behind BetweenBatches (day_records Two before) ≡ BetweenBatches =
    (order-led Two start on.to before on.leads).1 ∙ on.closed in
    let there : place_behind BetweenBatches (day_records Two before) ≡ parts.0.place =
    (order-led Two start parts.0 before parts.1.0).1 in
    ap (λ (p : Place). order_fault p (day_records Two after)) (sym here ∙ there)
    ∙ (order-led Two parts.0 all.to after parts.1.1).0
