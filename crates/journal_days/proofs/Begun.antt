-- Pages with which a day begins, a page at a time.
use Rattle.std.proofs.Common.{◌≡◌, ◌≤◌, ℕ, suc, ◌+◌, Bool, true, false, Option, Some, None, List, [], ◌∷◌, ◌++◌, length, refl}
use Rattle.std.proofs.Common.{sym, ap, ◌∙◌, arith}
use Rattle.std.specs.Prelude.{min, nat_lt, not, is_none, ◌&&◌, if◌then◌else◌}
use Rattle.std.proofs.lemmas.Bool.Decides.{nat_tests}
use Rattle.journal_pages.specs.declared.fault.PageFault.{PageFault}
use Rattle.journal_pages.specs.declared.fault.PageFault.TheVariants as faults
use Rattle.journal_pages.specs.declared.place.Place.{Place}
use Rattle.journal_pages.specs.declared.place.Place.TheVariants.{BetweenBatches}
use Rattle.journal_pages.specs.declared.version.Version.{Version}
use Rattle.journal_pages.specs.Ordered.{order_fault, place_behind}
use Rattle.journal_pages.specs.Page.{page_fault, page_records, version_named}
use Rattle.journal_pages.proofs.Listed.{both-none}
use Rattle.journal_days.specs.Begun.{begun_fault, begun_from, number_of_next, place_of_last, place_of_next}
use Rattle.journal_days.specs.Begun.{place_of_records, version_seen}
use Rattle.journal_days.specs.Cut.{number_behind}
use Rattle.journal_days.specs.Day.{at_page, day_fault, end_fault, fault_from, has_no_batch, is_last, number_fault}
use Rattle.journal_days.specs.Day.{page_behind, page_fault_in_day, version_of}
use Rattle.journal_days.specs.Judged.{HasJudged}
use Rattle.journal_days.proofs.Leading.{none-is}

-- ---- one page more

pub next-more : (n : ℕ) (pages : List (List ℕ)) (page : List ℕ)
    → place_of_next n (pages ++ page ∷ []) ≡ page_behind (place_of_next n pages)
next-more n [] page = refl
next-more n (p ∷ pages) page = next-more (page_behind n) pages page

pub last-more : (n : ℕ) (pages : List (List ℕ)) (page : List ℕ)
    → place_of_last n (pages ++ page ∷ []) ≡ place_of_next n pages
last-more n [] page = refl
last-more n (p ∷ []) page = refl
last-more n (p ∷ q ∷ pages) page = last-more (page_behind n) (q ∷ pages) page

pub number-more : (number : ℕ) (pages : List (List ℕ)) (page : List ℕ)
    → number_of_next number (pages ++ page ∷ []) ≡ number_behind page
number-more number [] page = refl
number-more number (p ∷ pages) page = number-more (number_behind p) pages page

pub records-more : (version : Version) (place : Place) (pages : List (List ℕ)) (page : List ℕ)
    → place_of_records version place (pages ++ page ∷ [])
    ≡ place_behind (place_of_records version place pages) (page_records version page)
records-more version place [] page = refl
records-more version place (p ∷ pages) page =
    records-more version (place_behind place (page_records version p)) pages page

pub begun-more : (version : Version) (n number : ℕ) (place : Place) (pages : List (List ℕ)) (page : List ℕ)
    → begun_from version n number place pages ≡ None
    → begun_from version n number place (pages ++ page ∷ [])
    ≡ at_page (place_of_next n pages)
    (page_fault_in_day version false (number_of_next number pages) (place_of_records version place pages) page) None
begun-more version n number place [] page e = refl
begun-more version n number place (p ∷ pages) page e =
    let both = none-is n (page_fault_in_day version false number place p) _ e in
    ap (λ (f : Option PageFault). at_page n f
    (begun_from version (page_behind n) (number_behind p) (place_behind place (page_records version p))
    (pages ++ page ∷ []))) both.0
    ∙ begun-more version (page_behind n) (number_behind p) (place_behind place (page_records version p)) pages page
    both.1

pub version-more : (pages : List (List ℕ)) (page : List ℕ) (version : Version) → version_seen pages ≡ Some version
    → version ≡ version_of (pages ++ page ∷ [])
version-more [] page version e = let no : ⊥ = cc in absurd no
version-more (p ∷ pages) page version e = cc

pub version-first : (pages : List (List ℕ)) (page : List ℕ) → version_seen pages ≡ None
    → version_named page ≡ version_of (pages ++ page ∷ [])
version-first [] page e = refl
version-first (p ∷ pages) page e = let no : ⊥ = cc in absurd no

pub version-seen : (pages : List (List ℕ)) (page : List ℕ)
    → Some (version_of (pages ++ page ∷ [])) ≡ version_seen (pages ++ page ∷ [])
version-seen [] page = refl
version-seen (p ∷ pages) page = refl

-- ---- how many

behind-few : (n : ℕ) → n ≤ 4_294_967_295 → page_behind n ≤ 4_294_967_295
behind-few n few = by_test (nat_lt n 4_294_967_295) refl
  where
    by_test : (b : Bool) → nat_lt n 4_294_967_295 ≡ b → (if b then n + 1 else n) ≤ 4_294_967_295
    by_test true is = grind (arith, nat_tests, is)
    by_test false is = few

behind-counted : (n k : ℕ) → n ≤ 4_294_967_295
    → min (page_behind n + k) 4_294_967_295 ≡ min (n + suc k) 4_294_967_295
behind-counted n k few = by_test (nat_lt n 4_294_967_295) refl
  where
    by_test : (b : Bool) → nat_lt n 4_294_967_295 ≡ b
        → min ((if b then n + 1 else n) + k) 4_294_967_295 ≡ min (n + suc k) 4_294_967_295
    by_test true is = omega arith
    by_test false is =
        let high : 4_294_967_295 ≤ n = grind (arith, nat_tests, is) in
        omega (arith, high)

next-counted : (n : ℕ) (pages : List (List ℕ)) → n ≤ 4_294_967_295
    → place_of_next n pages ≡ min (n + length pages) 4_294_967_295
next-counted n [] few = omega (arith, few)
next-counted n (p ∷ pages) few =
    next-counted (page_behind n) pages (behind-few n few) ∙ behind-counted n (length pages) few

pub next-count : (pages : List (List ℕ)) → place_of_next 0 pages ≡ min (length pages) 4_294_967_295
next-count pages = let all = next-counted 0 pages (omega arith) in omega (arith, all)

-- ---- the last page

last-fault : (version : Version) (number : ℕ) (place : Place) (page : List ℕ)
    → page_fault_in_day version false number place page ≡ None
    → page_fault_in_day version true number place page
    ≡ end_fault true (place_behind place (page_records version page))
last-fault version number place page e =
    let own = both-none (page_fault version page) _ e in
    let numbered = both-none (number_fault version number page) _ own.1 in
    let rest = both-none (order_fault place (page_records version page)) _ numbered.1 in
    rw (own.0, numbered.0, rest.0) refl

-- what is wrong with pages as a day is that the last one ends inside a batch
last-wrong : (version : Version) (n number : ℕ) (place : Place) (page : List ℕ) (pages : List (List ℕ))
    → begun_from version n number place (page ∷ pages) ≡ None
    → fault_from version n number place (page ∷ pages)
    ≡ at_page (place_of_last n (page ∷ pages)) (end_fault true (place_of_records version place (page ∷ pages))) None
last-wrong version n number place page [] e =
    let both = none-is n (page_fault_in_day version false number place page) _ e in
    ap (λ (f : Option PageFault). at_page n f None) (last-fault version number place page both.0)
last-wrong version n number place page (next ∷ pages) e =
    let both = none-is n (page_fault_in_day version false number place page) _ e in
    ap (λ (f : Option PageFault). at_page n f
    (fault_from version (page_behind n) (number_behind page) (place_behind place (page_records version page))
    (next ∷ pages))) both.0
    ∙ last-wrong version (page_behind n) (number_behind page) (place_behind place (page_records version page)) next pages
    both.1

pub end-wrong : (version : Version) (pages : List (List ℕ)) → begun_fault version pages ≡ None
    → day_fault version pages
    ≡ at_page (place_of_last 0 pages) (end_fault true (place_of_records version BetweenBatches pages)) None
end-wrong version [] e = refl
end-wrong version (page ∷ pages) e = last-wrong version 0 0 BetweenBatches page pages e

open-fault : (n : ℕ) (b : Bool) → b ≡ false
    → at_page n (if true && not b then Some faults.Order else None) None ≡ Some (n, faults.Order)
open-fault n b e = rw e refl

pub is-open : (version : Version) (n : ℕ) (place : Place) (pages : List (List ℕ)) → begun_fault version pages ≡ None
    → n ≡ place_of_last 0 pages → place ≡ place_of_records version BetweenBatches pages → has_no_batch place ≡ false
    → day_fault version pages ≡ Some (n, faults.Order)
is-open version n place pages e last behind isnt =
    end-wrong version pages e
    ∙ ap (λ (p : Place). at_page (place_of_last 0 pages) (end_fault true p) None) (sym behind)
    ∙ open-fault (place_of_last 0 pages) (has_no_batch place) isnt
    ∙ ap (λ (m : ℕ). Some (m, faults.Order)) (sym last)

closed : (n : ℕ) (b : Bool) → b ≡ true → at_page n (if true && not b then Some faults.Order else None) None ≡ None
closed n b e = rw e refl

pub is-closed : (version : Version) (place : Place) (pages : List (List ℕ)) → begun_fault version pages ≡ None
    → place ≡ place_of_records version BetweenBatches pages → has_no_batch place ≡ true
    → day_fault version pages ≡ None
is-closed version place pages e behind is =
    end-wrong version pages e
    ∙ ap (λ (p : Place). at_page (place_of_last 0 pages) (end_fault true p) None) (sym behind)
    ∙ closed (place_of_last 0 pages) (has_no_batch place) is

tested : (n : ℕ) (b : Bool) → b ≡ is_none (at_page n (if true && not b then Some faults.Order else None) None)
tested n true = refl
tested n false = refl

pub closed-is : (version : Version) (place : Place) (pages : List (List ℕ)) → begun_fault version pages ≡ None
    → place ≡ place_of_records version BetweenBatches pages
    → has_no_batch place ≡ is_none (day_fault version pages)
closed-is version place pages e behind =
    tested (place_of_last 0 pages) (has_no_batch place)
    ∙ ap (λ (p : Place). is_none (at_page (place_of_last 0 pages) (end_fault true p) None)) behind
    ∙ ap is_none (sym (end-wrong version pages e))

-- ---- the first pages of a day

not-last : (version : Version) (last : Bool) (number : ℕ) (place : Place) (page : List ℕ)
    → page_fault_in_day version last number place page ≡ None → page_fault_in_day version false number place page ≡ None
not-last version last number place page e =
    let own = both-none (page_fault version page) _ e in
    let numbered = both-none (number_fault version number page) _ own.1 in
    let rest = both-none (order_fault place (page_records version page)) _ numbered.1 in
    rw (own.0, numbered.0, rest.0) refl

front-begins : (version : Version) (n number : ℕ) (place : Place) (pages more : List (List ℕ))
    → fault_from version n number place (pages ++ more) ≡ None → begun_from version n number place pages ≡ None
front-begins version n number place [] more e = refl
front-begins version n number place (page ∷ pages) more e =
    let both = none-is n (page_fault_in_day version (is_last (pages ++ more)) number place page) _ e in
    ap (λ (f : Option PageFault). at_page n f
    (begun_from version (page_behind n) (number_behind page) (place_behind place (page_records version page)) pages))
    (not-last version (is_last (pages ++ more)) number place page both.0)
    ∙ front-begins version (page_behind n) (number_behind page) (place_behind place (page_records version page)) pages
    more both.1

-- pages in front of those of a day begin it
pub front-begun : (version : Version) (pages more : List (List ℕ)) → day_fault version (pages ++ more) ≡ None
    → begun_fault version pages ≡ None
front-begun version pages more e = front-begins version 0 0 BetweenBatches pages more e

-- ---- a judge

-- what a judge finds wrong with a page is what is wrong with the pages with it behind them
pub judged : (seen : Option Version) (last next number : ℕ) (place : Place) (pages : List (List ℕ)) (page : List ℕ)
    (version : Version) (o : Option PageFault) → HasJudged seen last next number place pages
    → version ≡ version_of (pages ++ page ∷ []) → page_fault_in_day version false number place page ≡ o
    → begun_fault (version_of (pages ++ page ∷ [])) (pages ++ page ∷ []) ≡ at_page next o None
judged seen last next number place pages page version o has is found =
    ap (λ (v : Version). begun_fault v (pages ++ page ∷ [])) (sym is)
    ∙ begun-more version 0 0 BetweenBatches pages page (none-by pages has.none is)
    ∙ ap (λ (n : ℕ). at_page n (page_fault_in_day version false (number_of_next 0 pages)
    (place_of_records version BetweenBatches pages) page) None) (sym has.at_next)
    ∙ ap (λ (m : ℕ). at_page next (page_fault_in_day version false m
    (place_of_records version BetweenBatches pages) page) None) (sym has.counted)
    ∙ ap (λ (p : Place). at_page next (page_fault_in_day version false number p page) None)
    (sym (has.behind ∙ place-by pages is))
    ∙ ap (λ (f : Option PageFault). at_page next f None) found
  where
    none-by : (ps : List (List ℕ)) → begun_fault (version_of ps) ps ≡ None → version ≡ version_of (ps ++ page ∷ [])
        → begun_fault version ps ≡ None
    none-by [] e v = refl
    none-by (p ∷ ps) e v = ap (λ (w : Version). begun_fault w (p ∷ ps)) v ∙ e

    place-by : (ps : List (List ℕ)) → version ≡ version_of (ps ++ page ∷ [])
        → place_of_records (version_of ps) BetweenBatches ps ≡ place_of_records version BetweenBatches ps
    place-by [] v = refl
    place-by (p ∷ ps) v = ap (λ (w : Version). place_of_records w BetweenBatches (p ∷ ps)) (sym v)

-- and what it knows with that page
pub taken : (seen : Option Version) (last next number : ℕ) (place later : Place) (pages : List (List ℕ))
    (page : List ℕ) (version : Version) → HasJudged seen last next number place pages
    → version ≡ version_of (pages ++ page ∷ []) → page_fault_in_day version false number place page ≡ None
    → later ≡ place_behind place (page_records version page)
    → HasJudged (Some version) next (page_behind next) (number_behind page) later (pages ++ page ∷ [])
taken seen last next number place later pages page version has is found behind = record {
  named = ap Some is ∙ version-seen pages page;
  at_last = has.at_next ∙ sym (last-more 0 pages page);
  at_next = ap page_behind has.at_next ∙ sym (next-more 0 pages page);
  counted = sym (number-more 0 pages page);
  behind = behind ∙ ap (λ (p : Place). place_behind p (page_records version page)) (has.behind ∙ place-by pages is)
      ∙ sym (records-more version BetweenBatches pages page)
      ∙ ap (λ (v : Version). place_of_records v BetweenBatches (pages ++ page ∷ [])) is;
  none = judged seen last next number place pages page version None has is found;
}
  where
    place-by : (ps : List (List ℕ)) → version ≡ version_of (ps ++ page ∷ [])
        → place_of_records (version_of ps) BetweenBatches ps ≡ place_of_records version BetweenBatches ps
    place-by [] v = refl
    place-by (p ∷ ps) v = ap (λ (w : Version). place_of_records w BetweenBatches (p ∷ ps)) (sym v)
