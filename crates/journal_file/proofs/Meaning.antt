-- What a file says is refused for nothing, and it is the beginning of what was written.
use Rattle.std.proofs.Common.{◌≡◌, ◌≤◌, ◌<◌, ◌^◌, ℕ, ◌+◌, Bool, true, false, Option, Some, None, List, [], ◌∷◌, ◌++◌}
use Rattle.std.proofs.Common.{length, take, drop, inl, inr, refl, sym, ap, subst, ◌∙◌, arith, append_assoc, append-nil}
use Rattle.std.proofs.Common.{length-append, length-drop}
use Rattle.std.proofs.lemmas.Bool.{true≢false}
use Rattle.std.proofs.lemmas.List.{drop-append-le, take-append-le}
use Rattle.std.proofs.lemmas.Nat.{from_be_bytes-to_be_bytes_8}
use Rattle.std.proofs.lemmas.Slice.Eq.{bytes_eq-Decides}
use Rattle.std.specs.Int.{w64, from_be_bytes, to_be_bytes}
use Rattle.std.specs.Prelude.{◌||◌, bytes_eq, if◌then◌else◌}
use mathlib.Core.List.{IsPrefix}
use Rattle.journal_pages.specs.declared.fault.PageFault.{PageFault}
use Rattle.journal_pages.specs.declared.place.Place.{Place}
use Rattle.journal_pages.specs.declared.version.Version.{Version}
use Rattle.journal_pages.specs.declared.version.Version.TheVariants.{One, Two}
use Rattle.journal_pages.specs.Ordered.{place_behind}
use Rattle.journal_pages.specs.Page.{page_name, page_records}
use Rattle.journal_pages.proofs.Listed.{page-parts}
use Rattle.journal_days.specs.Cut.{number_behind}
use Rattle.journal_days.specs.Day.{at_page, day_fault, fault_from, is_last, kept_as, page_behind, page_fault_in_day}
use Rattle.journal_days.specs.Day.{version_of}
use Rattle.journal_days.specs.Begun.{begun_fault}
use Rattle.journal_days.proofs.Begun.{front-begun}
use Rattle.journal_days.proofs.Leading.{leads-of}
use Rattle.gate_journal.specs.Kept.{IsRead, Kept, kept_in}
use Rattle.journal_file.specs.declared.ending.Ending.{Ending}
use Rattle.journal_file.specs.declared.ending.Ending.TheVariants.{GoesOn, Over, Torn}
use Rattle.journal_file.specs.declared.fault.FileFault.{FileFault}
use Rattle.journal_file.specs.Sum.{sum_of}
use Rattle.journal_file.specs.Endings.{EndsBy, is_unfinished}
use Rattle.journal_file.specs.File.{AreNotEmpty, file_of, form_of, front_fault, is_end_of_one, sized_page, sized_pages}
use Rattle.journal_file.specs.File.{stands_at}
use Rattle.journal_file.specs.Said.{IsBehindLast, IsNoFile, IsParted, ReadsInFront, ReadsNothingElse}
use Rattle.journal_file.specs.Said.{Says}
use Rattle.journal_file.proofs.One.{few-front, long, whole-front}
use Rattle.journal_file.proofs.Parted.{NoPage, along, no-fault, no-page-broken, no-page-by, no-page-over, no-page-unfinished}
use Rattle.journal_file.proofs.Parted.{pages-in-front, pages-once, parted-once, whole-lasts}

-- ---- refused for nothing

broken-not : (form : Version) (x : List ℕ) (ending : Ending) (fault : FileFault) → EndsBy form x ending
    → front_fault form x ≡ Some fault → is_unfinished form x ≡ false → ⊥
broken-not form x GoesOn fault end why lasting = true≢false (sym end.1 ∙ lasting)
broken-not form x Over fault end why lasting =
    no-fault fault (sym why ∙ ap (front_fault form) (end ∙ sym (append-nil (sized_page form [])))
    ∙ whole-front form [] [] (omega arith))
broken-not form x (Torn n) fault end why lasting = true≢false (sym end.2 ∙ lasting)

more-not : (form : Version) (x r : List ℕ) (ending : Ending) → EndsBy form x ending → x ≡ sized_page form [] ++ r
    → 1 ≤ length r → ⊥
more-not form x r GoesOn end is more =
    let none : length x ≡ 0 = ap length end.0 in
    let all : length x ≡ length (sized_page form [] ++ r) = ap length is in
    let parts = length-append (sized_page form []) r in
    omega (arith, none, all, parts, more)
more-not form x r Over end is more =
    let all : length (sized_page form []) ≡ length (sized_page form [] ++ r) = ap length (sym end ∙ is) in
    let parts = length-append (sized_page form []) r in
    omega (arith, all, parts, more)
more-not form x r (Torn n) end is more = whole-lasts form r (ap (is_unfinished form) (sym is) ∙ end.2)

day-not : (pages others : List (List ℕ)) (n : ℕ) (fault : PageFault) → pages ≡ others
    → day_fault (version_of pages) pages ≡ None
    → day_fault (version_of others) others ≡ Some (n, fault) → ⊥
day-not pages others n fault same day why =
    let e : None ≡ Some (n, fault) = sym day ∙ ap (λ (ps : List (List ℕ)). day_fault (version_of ps) ps) same ∙ why in
    cc

-- a day begins with the pages in front of those of a day
front-not : (front pages : List (List ℕ)) → IsPrefix front pages → (n : ℕ) (fault : PageFault)
    → day_fault (version_of pages) pages ≡ None → begun_fault (version_of front) front ≡ Some (n, fault) → ⊥
front-not [] pages is n fault day why = let no : ⊥ = cc in absurd no
front-not (a ∷ front) pages is n fault day why =
    let same : version_of pages ≡ version_of (a ∷ front) = ap version_of (sym is.1) in
    let none : begun_fault (version_of (a ∷ front)) (a ∷ front) ≡ None =
    front-begun (version_of (a ∷ front)) (a ∷ front) is.0
    (ap (λ (ps : List (List ℕ)). day_fault (version_of (a ∷ front)) ps) is.1
    ∙ ap (λ (v : Version). day_fault v pages) (sym same) ∙ day) in
    let e : None ≡ Some (n, fault) = sym none ∙ why in
    cc

no-page-behind : (form : Version) (rest : List ℕ) → IsBehindLast form rest → NoPage form rest
no-page-behind form rest (inl end) page behind e one few = no-page-over form end.0 page behind (sym end.1 ∙ e) one few
no-page-behind form rest (inr un) page behind e one few = no-page-unfinished form rest un page behind e one few

pub refused-not : (file : List ℕ) (pages : List (List ℕ)) (ending : Ending) (n : ℕ) (fault : FileFault)
    → length file < 2 ^ 64
    → IsParted (form_of file) file pages ending → day_fault (version_of pages) pages ≡ None → IsNoFile file n fault → ⊥
refused-not file pages ending n fault few parted day (inl (inl broken)) =
    let form : Version = form_of file in
    let one : (pages ≡ broken.pages) × (parted.rest ≡ broken.rest) =
    pages-once form pages broken.pages parted.rest broken.rest parted.full broken.full
    (along file (sized_pages form pages ++ parted.rest) parted.same few)
    (no-page-by form parted.rest ending parted.end) (no-page-broken form broken.rest fault broken.why)
    (sym parted.same ∙ broken.same) in
    broken-not form broken.rest ending fault (subst (λ (x : List ℕ). EndsBy form x ending) one.1 parted.end) broken.why
    broken.lasting
refused-not file pages ending n fault few parted day (inl (inr more)) =
    let form : Version = form_of file in
    let behind : List ℕ = sized_page form [] ++ more.0.rest in
    let same : file ≡ sized_pages form more.0.pages ++ behind = more.0.same
    ∙ append_assoc (sized_pages form more.0.pages) (sized_page form []) more.0.rest in
    let one : (pages ≡ more.0.pages) × (parted.rest ≡ behind) =
    pages-once form pages more.0.pages parted.rest behind parted.full more.0.full
    (along file (sized_pages form pages ++ parted.rest) parted.same few)
    (no-page-by form parted.rest ending parted.end) (no-page-over form more.0.rest) (sym parted.same ∙ same) in
    more-not form parted.rest more.0.rest ending parted.end one.1 more.0.more
refused-not file pages ending n fault few parted day (inr (inl wrong)) =
    let form : Version = form_of file in
    let front : IsPrefix wrong.pages pages =
    pages-in-front form wrong.pages pages wrong.rest parted.rest wrong.full parted.full
    (along file (sized_pages form wrong.pages ++ wrong.rest) wrong.same few)
    (no-page-by form parted.rest ending parted.end) (sym wrong.same ∙ parted.same) in
    front-not wrong.pages pages front n wrong.page_fault day wrong.why
refused-not file pages ending n fault few parted day (inr (inr within)) =
    let form : Version = form_of file in
    let one : (pages ≡ within.pages) × (parted.rest ≡ within.rest) =
    pages-once form pages within.pages parted.rest within.rest parted.full within.full
    (along file (sized_pages form pages ++ parted.rest) parted.same few)
    (no-page-by form parted.rest ending parted.end) (no-page-behind form within.rest within.behind)
    (sym parted.same ∙ within.same) in
    day-not pages within.pages n within.page_fault one.0 day within.why

-- ---- one answer

same-day : (pages others : List (List ℕ)) (day other : Kept) → pages ≡ others → IsRead pages day → IsRead others other
    → day ≡ other
same-day pages others day other same a b =
    a.same ∙ ap (λ (ps : List (List ℕ)). kept_in (kept_as (version_of ps) ps)) same ∙ sym b.same

pub said-once : (file : List ℕ) (day other : Kept) (e f : Ending) → length file < 2 ^ 64 → Says file day e
    → Says file other f → (day ≡ other) × (e ≡ f)
said-once file day other e f few a b =
    let one : (a.pages ≡ b.pages) × (e ≡ f) = parted-once (form_of file) file a.pages b.pages e f few a.parted b.parted
    in
    (same-day a.pages b.pages day other one.0 a.read b.read, one.1)

-- ---- a day's pages

later-none : (n : ℕ) (fault : Option PageFault) (later : Option (ℕ × PageFault)) → at_page n fault later ≡ None
    → later ≡ None
later-none n (Some fault) later e = absurd (cc e)
later-none n None later e = e

full-day : (n number : ℕ) (place : Place) (pages : List (List ℕ)) → fault_from Two n number place pages ≡ None
    → AreNotEmpty pages
full-day n number place [] e = tt
full-day n number place ([] ∷ pages) e = absurd (cc e)
full-day n number place ((b ∷ page) ∷ pages) e = (
  omega arith,
  full-day (page_behind n) (number_behind (b ∷ page)) (place_behind place (page_records Two (b ∷ page))) pages
      (later-none n (page_fault_in_day Two (is_last pages) number place (b ∷ page))
      (fault_from Two (page_behind n) (number_behind (b ∷ page))
      (place_behind place (page_records Two (b ∷ page))) pages) e),
)

pub day-full : (pages : List (List ℕ)) → day_fault Two pages ≡ None → AreNotEmpty pages
day-full pages day = full-day 0 0 _ pages day

same-name : (a b : List ℕ) → a ≡ b → bytes_eq a b ≡ true
same-name a b e = grind (arith, bytes_eq-Decides, e)

-- a file that begins with a page of a day is of the second form
front-form : (page : List ℕ) (pages : List (List ℕ)) (more : List ℕ) → day_fault Two (page ∷ pages) ≡ None
    → form_of (sized_pages Two (page ∷ pages) ++ more) ≡ Two
front-form page pages more e =
    let first = page-parts Two page (leads-of Two (page ∷ pages) e).leads.0.whole in
    let all : List ℕ = sized_pages Two (page ∷ pages) ++ more in
    let name : take 4 (drop 16 all) ≡ page_name Two =
    ap (λ (t : List ℕ). take 4 (drop 16 t)) (append_assoc (sized_page Two page) (sized_pages Two pages) more)
    ∙ take-append-le 4 page (sized_pages Two pages ++ more) (omega (arith, first.long)) ∙ first.name in
    let stands : stands_at 16 (page_name Two) all ≡ true = same-name _ _ name in
    ap (λ (b : Bool). if b then Two else if stands_at 8 (page_name One) all || is_end_of_one all then One else Two)
    stands

-- the form of a day's file is seen by its first page's name
pub form-seen : (pages : List (List ℕ)) → day_fault Two pages ≡ None → form_of (file_of Two pages) ≡ Two
form-seen [] e = refl
form-seen (page ∷ pages) e = front-form page pages (sized_page Two []) e

two-named : (pages : List (List ℕ)) → day_fault Two pages ≡ None → version_of pages ≡ Two
two-named [] e = refl
two-named (page ∷ pages) e =
    let first = page-parts Two page (leads-of Two (page ∷ pages) e).leads.0.whole in
    let other : bytes_eq (take 4 page) (page_name One) ≡ false =
    ap (λ (t : List ℕ). bytes_eq t (page_name One)) first.name in
    ap (λ (b : Bool). if b then One else Two) other

-- ---- the beginning of what was written

-- a history that was read of pages of the second version keeps them
keeps-them : (pages : List (List ℕ)) (day : Kept) → IsRead pages day → version_of pages ≡ Two → day.pages ≡ pages
keeps-them pages day read two = ap (λ (k : Kept). k.pages) read.same ∙ ap (λ (v : Version). kept_as v pages) two

-- pages in front of others have the version of all
front-version : (p q : List (List ℕ)) → IsPrefix p q → version_of q ≡ Two → version_of p ≡ Two
front-version [] q front two = refl
front-version (a ∷ p) q front two = ap version_of front.1 ∙ two

behind-version : (a : List ℕ) (p q : List (List ℕ)) → IsPrefix (a ∷ p) q → version_of (a ∷ p) ≡ Two → version_of q ≡ Two
behind-version a p q front two = sym (ap version_of front.1) ∙ two

pub reads-in-front : (file : List ℕ) (day : Kept) (ending : Ending) → length file < 2 ^ 64 → Says file day ending
    → ReadsInFront file day
reads-in-front file day ending few says [] more good same = (day.pages, refl)
reads-in-front file day ending few says (a ∷ yielded) more good same =
    let form : form_of file ≡ Two = ap form_of same ∙ front-form a yielded more good in
    let written : file ≡ sized_pages Two says.pages ++ says.parted.rest = says.parted.same
    ∙ ap (λ (v : Version). sized_pages v says.pages ++ says.parted.rest) form in
    let end : EndsBy Two says.parted.rest ending =
    subst (λ (v : Version). EndsBy v says.parted.rest ending) form says.parted.end in
    let front : IsPrefix (a ∷ yielded) says.pages =
    pages-in-front Two (a ∷ yielded) says.pages more says.parted.rest (day-full (a ∷ yielded) good) says.parted.full
    (along file (sized_pages Two (a ∷ yielded) ++ more) same few) (no-page-by Two says.parted.rest ending end)
    (sym same ∙ written) in
    let kept : day.pages ≡ says.pages = keeps-them says.pages day says.read
    (behind-version a yielded says.pages front (two-named (a ∷ yielded) good)) in
    subst (λ (ps : List (List ℕ)). IsPrefix (a ∷ yielded) ps) (sym kept) front

nothing-else-two : (file : List ℕ) (day : Kept) (ending : Ending) → Says file day ending
    → (written : List (List ℕ)) (more : List ℕ) → day_fault Two written ≡ None
    → length (file_of Two written) < 2 ^ 64 → file ++ more ≡ file_of Two written → form_of file ≡ Two
    → IsPrefix day.pages written
nothing-else-two file day ending says written more good few same form =
    let rest : List ℕ = says.parted.rest in
    let front : file ≡ sized_pages Two says.pages ++ rest = says.parted.same
    ∙ ap (λ (v : Version). sized_pages v says.pages ++ rest) form in
    let all : sized_pages Two says.pages ++ (rest ++ more) ≡ sized_pages Two written ++ sized_page Two [] =
    sym (append_assoc (sized_pages Two says.pages) rest more) ∙ ap (λ (t : List ℕ). t ++ more) (sym front) ∙ same in
    let first : IsPrefix says.pages written =
    pages-in-front Two says.pages written (rest ++ more) (sized_page Two []) says.parted.full (day-full written good)
    (along (file_of Two written) (sized_pages Two says.pages ++ (rest ++ more)) (sym all) few)
    (no-page-by Two (sized_page Two []) Over refl) all in
    let kept : day.pages ≡ says.pages = keeps-them says.pages day says.read
    (front-version says.pages written first (two-named written good)) in
    subst (λ (ps : List (List ℕ)). IsPrefix ps written) (sym kept) first

-- ---- a beginning that looks like a file of the first form

-- with twenty bytes the form is seen
early-form : (page : List ℕ) (pages : List (List ℕ)) (file more : List ℕ) → day_fault Two (page ∷ pages) ≡ None
    → file ++ more ≡ file_of Two (page ∷ pages)
    → 20 ≤ length file → form_of file ≡ Two
early-form page pages file more e same long =
    let first = page-parts Two page (leads-of Two (page ∷ pages) e).leads.0.whole in
    let left = length-drop 16 file in
    let name : take 4 (drop 16 file) ≡ page_name Two =
    sym (take-append-le 4 (drop 16 file) more (omega (arith, left, long)))
    ∙ ap (λ (t : List ℕ). take 4 t) (sym (drop-append-le 16 file more (omega (arith, long))))
    ∙ ap (λ (t : List ℕ). take 4 (drop 16 t))
    (same ∙ append_assoc (sized_page Two page) (sized_pages Two pages) (sized_page Two []))
    ∙ take-append-le 4 page (sized_pages Two pages ++ sized_page Two []) (omega (arith, first.long)) ∙ first.name in
    let stands : stands_at 16 (page_name Two) file ≡ true = same-name _ _ name in
    ap (λ (b : Bool). if b then Two else if stands_at 8 (page_name One) file || is_end_of_one file then One else Two)
    stands

over-one : (rest : List ℕ) (ending : Ending) → EndsBy One rest ending → rest ≡ sized_page One []
over-one rest GoesOn end = absurd (true≢false (sym end.1))
over-one rest Over end = end
over-one rest (Torn n) end = absurd (true≢false (sym end.2))

same-length : (a : List ℕ) (n : ℕ) (x y : List ℕ) → length a < 2 ^ 64 → n < 2 ^ 64
    → sized_page One a ++ x ≡ to_be_bytes w64 n ++ y → length a ≡ n
same-length a n x y la ln e =
    sym (from_be_bytes-to_be_bytes_8 (length a) la) ∙ ap (λ (t : List ℕ). from_be_bytes w64 (take 8 t)) e
    ∙ from_be_bytes-to_be_bytes_8 n ln

-- none has a page
no-first-form : (file : List ℕ) (a : List ℕ) (p : List (List ℕ)) (rest : List ℕ) (written : List (List ℕ))
    (more : List ℕ) → day_fault Two written ≡ None
    → length (file_of Two written) < 2 ^ 64 → file ++ more ≡ file_of Two written → form_of file ≡ One
    → file ≡ sized_pages One (a ∷ p) ++ rest
    → rest ≡ sized_page One [] → 1 ≤ length a → ⊥
no-first-form file a p rest [] more good few same form parts end one =
    let ahead : file ++ more ≡ sized_page One a ++ ((sized_pages One p ++ rest) ++ more) =
    ap (λ (t : List ℕ). t ++ more) (parts ∙ append_assoc (sized_page One a) (sized_pages One p) rest)
    ∙ append_assoc (sized_page One a) (sized_pages One p ++ rest) more in
    let la : length a < 2 ^ 64 = few-front One a ((sized_pages One p ++ rest) ++ more) (file_of Two [])
    (sym same ∙ ahead) few in
    let none : length a ≡ 0 = same-length a 0 ((sized_pages One p ++ rest) ++ more) (to_be_bytes w64 (sum_of [])) la
    (omega arith) (sym ahead ∙ same) in
    omega (arith, none, one)
no-first-form file a p rest (b ∷ written) more good few same form parts end one =
    let behind : List ℕ = sized_pages One p ++ rest in
    let front : file ≡ sized_page One a ++ behind = parts ∙ append_assoc (sized_page One a) (sized_pages One p) rest in
    let ahead : file ++ more ≡ sized_page One a ++ (behind ++ more) =
    ap (λ (t : List ℕ). t ++ more) front ∙ append_assoc (sized_page One a) behind more in
    let all : file_of Two (b ∷ written) ≡ sized_page Two b ++ (sized_pages Two written ++ sized_page Two []) =
    append_assoc (sized_page Two b) (sized_pages Two written) (sized_page Two []) in
    let la : length a < 2 ^ 64 = few-front One a (behind ++ more) (file_of Two (b ∷ written)) (sym same ∙ ahead) few in
    let lb : length b < 2 ^ 64 = few-front Two b (sized_pages Two written ++ sized_page Two [])
    (file_of Two (b ∷ written)) all few in
    let size : length a ≡ length b =
    same-length a (length b) (behind ++ more)
    (to_be_bytes w64 (sum_of b) ++ (b ++ (sized_pages Two written ++ sized_page Two []))) la lb
    (sym ahead ∙ same ∙ all) in
    let first = page-parts Two b (leads-of Two (b ∷ written) good).leads.0.whole in
    let count : length file ≡ length (sized_page One a ++ behind) = ap length front in
    let counted = long One a behind in
    let eight : length behind ≡ length (sized_pages One p) + length rest = length-append (sized_pages One p) rest in
    let last : length rest ≡ 8 = ap length end in
    let two : form_of file ≡ Two = early-form b written file more good same
    (omega (arith, size, first.long, count, counted, eight, last)) in
    not-both (sym form ∙ two)
  where
    not-both : One ≡ Two → ⊥
    not-both e = cc

nothing-else-one : (file : List ℕ) (day : Kept) (pages : List (List ℕ)) (rest : List ℕ) (written : List (List ℕ))
    (more : List ℕ) → day_fault Two written ≡ None
    → length (file_of Two written) < 2 ^ 64 → file ++ more ≡ file_of Two written → form_of file ≡ One
    → file ≡ sized_pages One pages ++ rest
    → rest ≡ sized_page One [] → AreNotEmpty pages → IsRead pages day → IsPrefix day.pages written
nothing-else-one file day [] rest written more good few same form parts end full read =
    subst (λ (ps : List (List ℕ)). IsPrefix ps written) (sym (keeps-them [] day read refl)) (written, refl)
nothing-else-one file day (a ∷ p) rest written more good few same form parts end full read =
    absurd (no-first-form file a p rest written more good few same form parts end full.0)

pub reads-nothing-else : (file : List ℕ) (day : Kept) (ending : Ending) → Says file day ending
    → ReadsNothingElse file day
reads-nothing-else file day ending says written more good few same = by-form (form_of file) refl
  where
    by-form : (form : Version) → form_of file ≡ form → IsPrefix day.pages written
    by-form Two e = nothing-else-two file day ending says written more good few same e
    by-form One e =
        nothing-else-one file day says.pages says.parted.rest written more good few same e
        (says.parted.same ∙ ap (λ (v : Version). sized_pages v says.pages ++ says.parted.rest) e)
        (over-one says.parted.rest ending (subst (λ (v : Version). EndsBy v says.parted.rest ending) e says.parted.end))
        says.parted.full says.read
