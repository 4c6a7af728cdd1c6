-- What a writer has, with one page more.
use Rattle.std.proofs.Common.{◌≡◌, ◌<◌, ℕ, ◌+◌, Option, List, [], ◌∷◌, ◌++◌, Vec, length, take, get_or, sym, subst, ap}
use Rattle.std.proofs.Common.{◌∙◌}
use Rattle.std.proofs.KnownBytes.{Appends-trans}
use Rattle.std.proofs.lemmas.List.{map-append, take_more}
use Rattle.std.specs.Int.{w64, to_be_bytes}
use Rattle.std.specs.Io.KnownBytes.{Appends}
use Rattle.std.specs.declared.alloc.Global.{Global}
use Rattle.journal_pages.specs.declared.version.Version.TheVariants.{Two}
use Rattle.journal_days.specs.Cut.{texts}
use Rattle.journal_file.specs.Sum.{sum_of}
use Rattle.journal_file.specs.File.{sized_page, sized_pages}
use Rattle.journal_file.proofs.Files.{sized-more}

-- its length, its sum, and itself
pub page-written : (old mid more new : Option (List ℕ)) (size sum page : List ℕ) → size ≡ to_be_bytes w64 (length page)
    → sum ≡ to_be_bytes w64 (sum_of page)
    → Appends old mid size → Appends mid more sum → Appends more new page → Appends old new (sized_page Two page)
page-written old mid more new size sum page is summed first second third =
    subst (λ (l : List ℕ). Appends old new (l ++ (to_be_bytes w64 (sum_of page) ++ page))) is
    (subst (λ (l : List ℕ). Appends old new (size ++ (l ++ page))) summed
    (Appends-trans old mid new size (sum ++ page) first (Appends-trans mid more new sum page second third)))

pub pages-written : (old mid new : Option (List ℕ)) (pages : List (Vec ℕ Global)) (i : ℕ) (page : Vec ℕ Global)
    → i < length pages → page ≡ get_or pages i page
    → Appends old mid (sized_pages Two (texts (take i pages))) → Appends mid new (sized_page Two page.items)
    → Appends old new (sized_pages Two (texts (take (i + 1) pages)))
pages-written old mid new pages i page few is first second =
    let one : texts (take (i + 1) pages) ≡ texts (take i pages) ++ page.items ∷ [] =
    ap (λ (ps : List (Vec ℕ Global)). texts ps) (take_more pages i page few)
    ∙ map-append (λ (v : Vec ℕ Global). v.items) (take i pages) (get_or pages i page ∷ [])
    ∙ ap (λ (v : Vec ℕ Global). texts (take i pages) ++ v.items ∷ []) (sym is) in
    subst (λ (l : List ℕ). Appends old new l)
    (sym (ap (sized_pages Two) one ∙ sized-more Two (texts (take i pages)) page.items))
    (Appends-trans old mid new (sized_pages Two (texts (take i pages))) (sized_page Two page.items) first second)
