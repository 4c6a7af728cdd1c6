-- Ends of files that are written down, by computing them: which bytes let a day go on.
use Rattle.std.specs.Prelude.{◌≡◌, ℕ, true, false, List, [], ◌∷◌, ◌++◌, take, replicate, refl, Some, None}
use Rattle.journal_pages.specs.declared.fault.PageFault.TheVariants as pages
use Rattle.journal_pages.specs.declared.version.Version.TheVariants.{One, Two}
use Rattle.journal_file.specs.declared.fault.FileFault.TheVariants as faults
use Rattle.journal_file.specs.Endings.{is_unfinished}
use Rattle.journal_file.specs.File.{file_of, form_of, front_fault, sized_page}

-- a page of nine bytes, a word and one more: what a page says is of no matter here
abbrev page : List ℕ
page = 71 ∷ 74 ∷ 48 ∷ 50 ∷ 0 ∷ 0 ∷ 0 ∷ 0 ∷ 255 ∷ []

abbrev sized : List ℕ
sized = sized_page Two page

abbrev end : List ℕ
end = sized_page Two []

fronts : (front_fault Two sized ≡ None) × (front_fault Two (sized ++ 7 ∷ []) ≡ None) × (front_fault Two end ≡ None)
    × (front_fault Two (take 24 sized) ≡ Some (faults.Page pages.CutShort))  -- a byte less
    × (front_fault Two (take 24 sized ++ 254 ∷ []) ≡ Some faults.Sum)  -- another byte
    × (front_fault Two (replicate 16 0) ≡ Some faults.Sum)  -- zeros are no end
    × (front_fault Two [] ≡ Some (faults.Page pages.CutShort))
fronts = (refl, refl, refl, refl, refl, refl, refl)

unfinished : (is_unfinished Two [] ≡ true)
    × (is_unfinished Two (take 1 sized) ≡ true)
    × (is_unfinished Two (take 24 sized) ≡ true)
    × (is_unfinished Two (take 24 sized ++ 254 ∷ []) ≡ true)  -- the last page, with another byte
    × (is_unfinished Two (take 15 end) ≡ true)  -- a part of an end
    × (is_unfinished Two (replicate 40 0) ≡ true)  -- zeros, which some file systems leave
unfinished = (refl, refl, refl, refl, refl, refl)

lasting : (is_unfinished Two sized ≡ false)
    × (is_unfinished Two end ≡ false)
    × (is_unfinished Two (7 ∷ sized) ≡ false)  -- a page behind a byte
    × (is_unfinished Two (take 24 sized ++ 254 ∷ sized) ≡ false)  -- a page behind a damaged one
    × (is_unfinished Two (take 24 sized ++ 254 ∷ end) ≡ false)  -- an end behind a damaged one
    × (is_unfinished One [] ≡ false)
    × (is_unfinished One (replicate 7 0) ≡ false)
lasting = (refl, refl, refl, refl, refl, refl, refl)

forms : (form_of [] ≡ Two)
    × (form_of (replicate 8 0) ≡ One)  -- an end of the first form
    × (form_of (replicate 7 0) ≡ Two)
    × (form_of (replicate 9 0) ≡ Two)
    × (form_of (take 8 sized) ≡ Two)  -- the length of a page
    × (form_of (take 19 sized) ≡ Two)
    × (form_of (file_of Two (page ∷ [])) ≡ Two)
    × (form_of (sized_page One (71 ∷ 74 ∷ 48 ∷ 49 ∷ [])) ≡ One)
forms = (refl, refl, refl, refl, refl, refl, refl, refl)
