-- A day that is stepped again has what its file has.
use Rattle.std.proofs.Common.{◌≡◌, ◌⊎◌, ◌<◌, ℕ, ◌+◌, Bool, true, false, None, List, [], ◌∷◌, ◌++◌, length, take, drop}
use Rattle.std.proofs.Common.{refl, sym, ap, subst, ◌∙◌, arith, inl, inr, append_assoc, length-append}
use Rattle.std.specs.Prelude.{bytes_eq, if◌then◌else◌}
use Rattle.std.proofs.lemmas.List.{length-take, take-append-le, take_at}
use Rattle.std.proofs.lemmas.Slice.Eq.{bytes_eq-Decides}
use Rattle.std.proofs.lemmas.Grind.{flat_map-append}
use Rattle.journal_pages.specs.declared.version.Version.TheVariants.{Two}
use Rattle.journal_pages.specs.declared.version.Version.{Version}
use Rattle.journal_pages.specs.declared.version.Version.TheVariants.{One}
use Rattle.journal_pages.specs.Page.{page_name, page_records, version_named}
use Rattle.journal_pages.specs.Record.{Record}
use Rattle.desk_steps.specs.gate_journal.Day.{day_fault, day_records, kept_as, version_of}
use Rattle.desk_steps.specs.gate_journal.Kept.{Kept, kept_in}
use Rattle.journal_file.specs.declared.ending.Ending.{Ending}
use Rattle.journal_file.specs.Said.{Says}
use Rattle.journal_log.specs.Seen.{host_may_leave, host_seen}
use Rattle.journal_log.specs.Left.{IsLeft}
use Rattle.journal_log.specs.Whole.{HasJust, IsSameFile}
use Rattle.journal_log.specs.declared.host_file.HostFile.{HostFile}
use Rattle.journal_file.specs.File.{before_page, form_of, sized_page, sized_pages, stands_at}
use Rattle.journal_log.specs.Kept.{AreOf, HasAll}

-- with a part more on both sides they are the same still
pub part-more : (before now told all part : List (List ℕ)) → day_records Two before ≡ day_records Two told
    → day_records Two now ≡ day_records Two before ++ day_records Two part → all ≡ told ++ part
    → day_records Two now ≡ day_records Two all
part-more before now told all part same more is =
    more ∙ ap (λ (l : List Record). l ++ day_records Two part) same
    ∙ sym (flat_map-append (page_records Two) told part) ∙ ap (day_records Two) (sym is)

-- all that a file has which was opened so is durable
all-durable : (bytes : List ℕ) (f : HostFile) → HasJust bytes f → (c : List ℕ) → host_may_leave f c → c ≡ host_seen f
all-durable bytes f has c (inl same) = same
all-durable bytes f has c (inr left) = let size = ap length has.noted in
    absurd (omega (arith, left.0, has.durable, size))

-- a file that has just the pages of a day, which has these records
pub file-has : (pages history : List (List ℕ)) (f : HostFile) → HasJust (sized_pages Two pages) f
    → day_fault Two pages ≡ None → day_records Two pages ≡ day_records Two history
    → HasAll host_seen host_may_leave history f
file-has pages history f has day same = record {
  pages = pages;
  of = record { day = day; same = same };
  settled = record { written = has.noted; durable = all-durable (sized_pages Two pages) f has };
}

-- a file that is synced later has the same
pub same-just : (bytes : List ℕ) (f g : HostFile) → IsSameFile f g → HasJust bytes f → HasJust bytes g
same-just bytes f g same has = record { noted = same.noted ∙ has.noted; durable = same.durable ∙ has.durable }

-- ---- what was read of the file

same-bytes : (a b : List ℕ) → bytes_eq a b ≡ true → a ≡ b
same-bytes a b e = grind (arith, bytes_eq-Decides)

-- ---- the version of its pages

not-one : (page more : List ℕ) (b : Bool) → bytes_eq (take 4 page) (page_name One) ≡ b
    → version_named (page ++ more) ≡ Two → (if b then One else Two) ≡ Two
not-one page more false is named = refl
not-one page more true is named =
    let one : take 4 page ≡ page_name One = same-bytes (take 4 page) (page_name One) is in
    let size = ap length one in
    let long = length-take 4 page in
    let front : take 4 (page ++ more) ≡ take 4 page = take-append-le 4 page more (omega (arith, size, long)) in
    let said : bytes_eq (take 4 (page ++ more)) (page_name One) ≡ true =
    ap (λ (l : List ℕ). bytes_eq l (page_name One)) front ∙ is in
    let clash : One ≡ Two = sym (ap (λ (v : Bool). if v then One else Two) said) ∙ named in
    let no : ⊥ = cc clash in
    absurd no

name-said : (file : List ℕ) → stands_at 16 (page_name Two) file ≡ true → version_named (drop 16 file) ≡ Two
name-said file is =
    let name : take 4 (drop 16 file) ≡ page_name Two = same-bytes (take 4 (drop 16 file)) (page_name Two) is in
    ap (λ (l : List ℕ). if bytes_eq l (page_name One) then One else Two) name

of-two : (pages : List (List ℕ)) (rest file : List ℕ) → file ≡ sized_pages Two pages ++ rest
    → version_named (drop 16 file) ≡ Two → version_of pages ≡ Two
of-two [] rest file same named = refl
of-two (page ∷ pages) rest file same named =
    let behind : List ℕ = sized_pages Two pages ++ rest in
    let is : file ≡ before_page Two page ++ (page ++ behind) =
    same ∙ append_assoc (sized_page Two page) (sized_pages Two pages) rest
    ∙ append_assoc (before_page Two page) page behind in
    let name : version_named (page ++ behind) ≡ Two = ap (λ (l : List ℕ). version_named (drop 16 l)) (sym is) ∙ named in
    not-one page behind (bytes_eq (take 4 page) (page_name One)) refl name

two-form : (file : List ℕ) → stands_at 16 (page_name Two) file ≡ true → form_of file ≡ Two
two-form file is = rw is refl

-- the pages that were given stand in front of a file that begins as a log writes it, and are a day
pub record IsFront (file : List ℕ) (told : List (List ℕ)) : Type 0 where
  pub front : take (length (sized_pages Two told)) file ≡ sized_pages Two told
  pub day : day_fault Two told ≡ None

pub named-front : (file : List ℕ) (told : List (List ℕ)) (ending : Ending) → Says file (kept_in told) ending
    → stands_at 16 (page_name Two) file ≡ true → IsFront file told
named-front file told ending says named =
    let pages : List (List ℕ) = says.pages in
    let rest : List ℕ = says.parted.rest in
    let same : file ≡ sized_pages Two pages ++ rest =
    subst (λ (v : Version). file ≡ sized_pages v pages ++ rest) (two-form file named) says.parted.same in
    let version = of-two pages rest file same (name-said file named) in
    let good : day_fault Two pages ≡ None = subst (λ (v : Version). day_fault v pages ≡ None) version says.read.day in
    let said : kept_in told ≡ kept_in pages =
    subst (λ (v : Version). kept_in told ≡ kept_in (kept_as v pages)) version says.read.same in
    let is : told ≡ pages = ap (λ (k : Kept). k.pages) said in
    record {
      front = rw is (ap (take (length (sized_pages Two pages))) same
          ∙ take_at (sized_pages Two pages) rest (length (sized_pages Two pages)) refl);
      day = ap (day_fault Two) is ∙ good;
    }

none-given : (told : List (List ℕ)) → length (sized_pages Two told) ≡ 0 → told ≡ []
none-given [] none = refl
none-given (page ∷ told) none =
    let more = length-append (sized_page Two page) (sized_pages Two told) in
    let front = length-append (before_page Two page) page in
    absurd (omega (arith, none, more, front))

pub empty-front : (file : List ℕ) (told : List (List ℕ)) → length (sized_pages Two told) ≡ 0 → IsFront file told
empty-front file told none =
    let is = none-given told none in record { front = rw is refl; day = rw is refl }
