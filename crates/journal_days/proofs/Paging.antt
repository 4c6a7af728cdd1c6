-- The pages of a day are pages each.
use Rattle.std.proofs.Common.{◌≡◌, ℕ, true, Option, None, List, [], ◌∷◌, Vec, refl, ap, sym, ◌∙◌}
use Rattle.std.specs.Prelude.{◌&&◌, is_none}
use Rattle.std.proofs.lemmas.Bool.{and_parts}
use Rattle.std.specs.declared.alloc.Global.{Global}
use Rattle.journal_pages.specs.declared.fault.PageFault.{PageFault}
use Rattle.journal_pages.specs.declared.place.Place.{Place}
use Rattle.journal_pages.specs.declared.place.Place.TheVariants.{BetweenBatches}
use Rattle.journal_pages.specs.declared.version.Version.{Version}
use Rattle.journal_pages.specs.Ordered.{place_behind}
use Rattle.journal_pages.specs.Page.{page_fault, page_records}
use Rattle.journal_pages.proofs.Listed.{both-none, none-of}
use Rattle.journal_days.specs.Cut.{number_behind, texts}
use Rattle.journal_days.specs.Day.{are_pages, day_fault, fault_from, is_last, page_behind, page_fault_in_day}
use Rattle.journal_days.proofs.Leading.{none-is}

each-page : (version : Version) (n number : ℕ) (place : Place) (pages : List (List ℕ))
    → fault_from version n number place pages ≡ None → are_pages version pages ≡ true
each-page version n number place [] e = refl
each-page version n number place (page ∷ pages) e =
    let both = none-is n (page_fault_in_day version (is_last pages) number place page) _ e in
    ap (λ (f : Option PageFault). is_none f && are_pages version pages) (both-none (page_fault version page) _ both.0).0
    ∙ each-page version (page_behind n) (number_behind page)
    (place_behind place (page_records version page)) pages both.1

pub day-pages : (version : Version) (pages : List (List ℕ)) → day_fault version pages ≡ None
    → are_pages version pages ≡ true
day-pages version pages e = each-page version 0 0 BetweenBatches pages e

module _ (version : Version) (page : Vec ℕ Global) (behind pages : List (Vec ℕ Global)) where
  both-pages : pages ≡ page ∷ behind → are_pages version (texts pages) ≡ true
      → (is_none (page_fault version page.items) ≡ true) × (are_pages version (texts behind) ≡ true)
  both-pages is e = and_parts (is_none (page_fault version page.items)) (are_pages version (texts behind))
      (sym (ap (λ (ps : List (Vec ℕ Global)). are_pages version (texts ps)) is) ∙ e)

  pub first_page : pages ≡ page ∷ behind → are_pages version (texts pages) ≡ true → page_fault version page.items ≡ None
  first_page is e = none-of (page_fault version page.items) (both-pages is e).0

  pub pages_behind : pages ≡ page ∷ behind → are_pages version (texts pages) ≡ true
      → are_pages version (texts behind) ≡ true
  pages_behind is e = (both-pages is e).1
