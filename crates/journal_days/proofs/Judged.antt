-- What is wrong with pages, a page at a time.
use Rattle.std.proofs.Common.{◌≡◌, ℕ, Bool, false, Option, Some, None, List, [], ◌∷◌, Vec, length, refl, sym, ap}
use Rattle.std.proofs.Common.{◌∙◌, arith}
use Rattle.std.proofs.lemmas.Bool.Decides.{nat_tests}
use Rattle.std.specs.Prelude.{◌==◌}
use Rattle.std.specs.declared.alloc.Global.{Global}
use Rattle.journal_pages.specs.declared.fault.PageFault.{PageFault}
use Rattle.journal_pages.specs.declared.place.Place.{Place}
use Rattle.journal_pages.specs.declared.version.Version.{Version}
use Rattle.journal_pages.specs.Ordered.{place_behind}
use Rattle.journal_pages.specs.Page.{page_records}
use Rattle.journal_days.specs.Cut.{number_behind, texts}
use Rattle.journal_days.specs.Day.{at_page, fault_from, is_last, page_behind, page_fault_in_day}

some-more : (p : Vec ℕ Global) (pages : List (Vec ℕ Global)) → (length (p ∷ pages) == 0) ≡ false
some-more p pages = grind (arith, nat_tests)

last-is : (pages : List (Vec ℕ Global)) → is_last (texts pages) ≡ (length pages == 0)
last-is [] = refl
last-is (p ∷ pages) = sym (some-more p pages)

module _ (version : Version) (n number : ℕ) (place : Place) (page : Vec ℕ Global) (behind : List (Vec ℕ Global)) (text : List ℕ) (same : text ≡ page.items) where
  abbrev later : Option (ℕ × PageFault)
  later = fault_from version (page_behind n) (number_behind page.items)
      (place_behind place (page_records version page.items)) (texts behind)

  first : (o : Option PageFault) → page_fault_in_day version (length behind == 0) number place text ≡ o
      → fault_from version n number place (texts (page ∷ behind)) ≡ at_page n o later
  first o e =
      ap (λ (last : Bool). at_page n (page_fault_in_day version last number place page.items) later) (last-is behind)
      ∙ ap (λ (l : List ℕ). at_page n (page_fault_in_day version (length behind == 0) number place l) later) (sym same)
      ∙ ap (λ (f : Option PageFault). at_page n f later) e

  pub first-wrong : (pages : List (Vec ℕ Global)) (fault : PageFault) → pages ≡ page ∷ behind
      → page_fault_in_day version (length behind == 0) number place text ≡ Some fault
      → fault_from version n number place (texts pages) ≡ Some (n, fault)
  first-wrong pages fault is e = ap (λ (ps : List (Vec ℕ Global)). fault_from version n number place (texts ps)) is
      ∙ first (Some fault) e

  pub first-right : (pages : List (Vec ℕ Global)) → pages ≡ page ∷ behind
      → page_fault_in_day version (length behind == 0) number place text ≡ None
      → fault_from version n number place (texts pages)
      ≡ fault_from version (page_behind n) (number_behind text) (place_behind place (page_records version text))
      (texts behind)
  first-right pages is e =
      ap (λ (ps : List (Vec ℕ Global)). fault_from version n number place (texts ps)) is ∙ first None e
      ∙ ap (λ (l : List ℕ). fault_from version (page_behind n) (number_behind l)
      (place_behind place (page_records version l)) (texts behind)) (sym same)
