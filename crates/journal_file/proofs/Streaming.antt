-- What a reader of a file keeps, and what its steps say.
use Rattle.std.proofs.Common.{◌≡◌, ◌≤◌, ℕ, ◌+◌, Bool, true, false, Option, Some, None, List, [], ◌∷◌, ◌++◌}
use Rattle.std.proofs.Common.{inl, inr, refl, sym, ap, subst, ◌∙◌, arith, append_assoc, append-nil, take, drop, length}
use Rattle.std.proofs.Common.{length-append, length-drop, length-take}
use Rattle.std.proofs.lemmas.Bool.{and_parts, true≢false, le-ltb}
use Rattle.std.proofs.lemmas.Bool.Decides.{nat_tests}
use Rattle.std.proofs.lemmas.List.{drop-append-le, take-append-le, drop_at, take_at}
use Rattle.std.proofs.lemmas.Slice.Eq.{bytes_eq-Decides}
use Rattle.std.specs.Int.{w64, from_be_bytes}
use Rattle.std.proofs.KnownBytes.{Consumes-kept, Consumes-nil, Consumes-trans}
use Rattle.std.specs.Io.KnownBytes.{Consumes, IsAtEnd, Keeps}
use Rattle.std.specs.Prelude.{Ok, Err, is_none, Result, MatchResult, ◌||◌, ◌&&◌, ◌==◌, not, nat_lt, bytes_eq, min, if◌then◌else◌}
use Rattle.journal_pages.specs.declared.fault.PageFault.{PageFault}
use Rattle.journal_pages.specs.declared.fault.PageFault.TheVariants as pages
use Rattle.journal_pages.specs.declared.version.Version.{Version}
use Rattle.journal_pages.specs.declared.version.Version.TheVariants.{One, Two}
use Rattle.journal_pages.specs.Page.{page_fault, page_name, version_named}
use Rattle.journal_days.specs.Begun.{begun_fault}
use Rattle.journal_days.specs.Day.{are_pages, day_fault, day_records, kept_as, version_of}
use Rattle.journal_days.proofs.Paging.{day-pages}
use Rattle.gate_journal.specs.Kept.{GoOnBy, Kept, kept_in}
use Rattle.gate_journal.proofs.Parted.{go-on}
use Rattle.journal_file.specs.declared.ending.Ending.{Ending}
use Rattle.journal_file.specs.declared.ending.Ending.TheVariants.{Over}
use Rattle.journal_file.specs.declared.fault.FileFault.{FileFault}
use Rattle.journal_file.specs.declared.fault.FileFault.TheVariants as whys
use Rattle.journal_file.specs.Endings.{EndsBy, is_unfinished, stands_somewhere, torn_limit}
use Rattle.journal_file.specs.File.{AreNotEmpty, form_of, front_fault, has_its_sum, is_cut_short, is_end_of_one}
use Rattle.journal_file.specs.File.{page_in, size_in, sized_page, sized_pages, stands_at}
use Rattle.journal_file.specs.Sum.{sum_of}
use Rattle.journal_file.specs.declared.reader.Mode.{Mode}
use Rattle.journal_file.specs.declared.reader.Mode.TheVariants.{Grown, Pages, Unseen, Whole}
use Rattle.journal_file.specs.declared.read_fault.ReadFault.{ReadFault}
use Rattle.journal_file.specs.declared.read_fault.ReadFault.TheVariants.{NoFile, NoMemory, Read}
use Rattle.journal_file.specs.declared.reader.NextTurns.TheVariants.{End}
use Rattle.journal_file.specs.Reader.{Advances, GrewBy, GrowsStill, HasFailed, IsInPages, IsNoFileBy, IsNoneBy, IsReading, IsRefused}
use Rattle.journal_file.specs.Reader.{IsUnseen}
use Rattle.journal_file.specs.Reader.{IsWrongPage, Reading, ReadsOn, StandsInFront}
use Rattle.journal_file.specs.Window.{Bytes, HasGrown, IsEnded}
use Rattle.journal_file.specs.Said.{IsNoFile, Says}
use Rattle.journal_file.proofs.Files.{full-more, read-more}

-- ---- the form

same-bytes : (a b : List ℕ) → bytes_eq a b ≡ true → a ≡ b
same-bytes a b e = grind (arith, bytes_eq-Decides, e)

-- a file in which that name stands has twenty bytes
long-named : (file : List ℕ) → stands_at 16 (page_name Two) file ≡ true → 20 ≤ length file
long-named file is =
    let four : length (take 4 (drop 16 file)) ≡ 4 = ap length (same-bytes (take 4 (drop 16 file)) (page_name Two) is) in
    let some = length-take 4 (drop 16 file) in
    let left = length-drop 16 file in
    omega (arith, four, some, left)

-- it stands there with more behind
pub stands-more : (file more : List ℕ) → stands_at 16 (page_name Two) file ≡ true
    → stands_at 16 (page_name Two) (file ++ more) ≡ true
stands-more file more is =
    let long = long-named file is in
    let left = length-drop 16 file in
    ap (λ (t : List ℕ). bytes_eq (take 4 t) (page_name Two)) (drop-append-le 16 file more (omega (arith, long)))
    ∙ ap (λ (t : List ℕ). bytes_eq t (page_name Two))
    (take-append-le 4 (drop 16 file) more (omega (arith, long, left)))
    ∙ is

pub named-two : (file : List ℕ) → stands_at 16 (page_name Two) file ≡ true → form_of file ≡ Two
named-two file is =
    ap (λ (b : Bool). if b then Two else if stands_at 8 (page_name One) file || is_end_of_one file then One else Two) is

-- a page in front of a file in which that name stands isn't of the first version
first-two : (page rest : List ℕ) → stands_at 16 (page_name Two) (sized_page Two page ++ rest) ≡ true
    → version_named page ≡ Two
first-two page rest is = by_test (bytes_eq (take 4 page) (page_name One)) refl
  where
    by_test : (b : Bool) → bytes_eq (take 4 page) (page_name One) ≡ b → (if b then One else Two) ≡ Two
    by_test false e = refl
    by_test true e =
        let one : take 4 page ≡ page_name One = same-bytes (take 4 page) (page_name One) e in
        let four : length (take 4 page) ≡ 4 = ap length one in
        let some = length-take 4 page in
        let front : take 4 (page ++ rest) ≡ take 4 page = take-append-le 4 page rest (omega (arith, four, some)) in
        absurd (true≢false (sym is ∙ ap (λ (t : List ℕ). bytes_eq t (page_name Two)) (front ∙ one)))

pub version-two : (ps : List (List ℕ)) (rest : List ℕ)
    → stands_at 16 (page_name Two) (sized_pages Two ps ++ rest) ≡ true → version_of ps ≡ Two
version-two [] rest is = refl
version-two (page ∷ ps) rest is =
    first-two page (sized_pages Two ps ++ rest)
    (ap (stands_at 16 (page_name Two)) (sym (append_assoc (sized_page Two page) (sized_pages Two ps) rest)) ∙ is)

-- the pages behind some are pages, where all are
pages-after : (before after : List (List ℕ)) → are_pages Two (before ++ after) ≡ true → are_pages Two after ≡ true
pages-after [] after e = e
pages-after (page ∷ before) after e = pages-after before after
    (and_parts (is_none (page_fault Two page)) (are_pages Two (before ++ after)) e).1

-- ---- page by page

module _ (read left : List ℕ) (taken held yielded : List (List ℕ)) (in-pages : IsInPages read left taken held yielded) where
  named-by : (ps : List (List ℕ)) (rest : List ℕ) → read ≡ sized_pages Two ps ++ rest → version_of ps ≡ Two
  named-by ps rest same = version-two ps rest (ap (stands_at 16 (page_name Two)) (sym same) ∙ in-pages.named)

  day-two : day_fault (version_of taken) taken ≡ None → day_fault Two (yielded ++ held) ≡ None
  day-two day =
      ap (λ (v : Version). day_fault v (yielded ++ held)) (sym (named-by taken left in-pages.same))
      ∙ ap (λ (ps : List (List ℕ)). day_fault (version_of taken) ps) (sym in-pages.parts) ∙ day

  -- pages that are given
  pub given : day_fault (version_of taken) taken ≡ None → GoOnBy yielded (kept_in held) (yielded ++ held)
  given day = go-on yielded held in-pages.day (day-two day)

  -- those that are held are pages each
  pub held-pages : day_fault (version_of taken) taken ≡ None → are_pages Two held ≡ true
  held-pages day = pages-after yielded held (day-pages Two (yielded ++ held) (day-two day))

  pub gave : day_fault (version_of taken) taken ≡ None → IsInPages read left taken [] (yielded ++ held)
  gave day = record {
    same = in-pages.same;
    full = in-pages.full;
    parts = in-pages.parts ∙ sym (append-nil (yielded ++ held));
    begun = in-pages.begun;
    named = in-pages.named;
    day = day-two day;
  }

  -- a page that is taken
  pub took : (page behind : List ℕ) → left ≡ sized_page Two page ++ behind → 1 ≤ length page
      → begun_fault (version_of (taken ++ page ∷ [])) (taken ++ page ∷ []) ≡ None
      → IsInPages read behind (taken ++ page ∷ []) (held ++ page ∷ []) yielded
  took page behind front some none = record {
    same = read-more Two read left behind taken (taken ++ page ∷ []) page in-pages.same front refl;
    full = full-more taken page in-pages.full some;
    parts = ap (λ (ps : List (List ℕ)). ps ++ page ∷ []) in-pages.parts ∙ append_assoc yielded held (page ∷ []);
    begun = none;
    named = in-pages.named;
    day = in-pages.day;
  }

  -- more that is read
  pub grew : (piece : List ℕ) → IsInPages (read ++ piece) (left ++ piece) taken held yielded
  grew piece = record {
    same = ap (λ (t : List ℕ). t ++ piece) in-pages.same ∙ append_assoc (sized_pages Two taken) left piece;
    full = in-pages.full;
    parts = in-pages.parts;
    begun = in-pages.begun;
    named = stands-more read piece in-pages.named;
    day = in-pages.day;
  }

  -- ---- why the file is none

  form-more : (more : List ℕ) → form_of (read ++ more) ≡ Two
  form-more more = named-two (read ++ more) (stands-more read more in-pages.named)

  parts-more : (more : List ℕ) → read ++ more ≡ sized_pages (form_of (read ++ more)) taken ++ (left ++ more)
  parts-more more =
      (grew more).same ∙ ap (λ (v : Version). sized_pages v taken ++ (left ++ more)) (sym (form-more more))

  front-more : (page behind more : List ℕ) → left ≡ sized_page Two page ++ behind
      → left ++ more ≡ sized_page Two page ++ (behind ++ more)
  front-more page behind more front = ap (λ (t : List ℕ). t ++ more) front
      ∙ append_assoc (sized_page Two page) behind more

  pub wrong-page : (page behind : List ℕ) (n : ℕ) (fault : PageFault) → left ≡ sized_page Two page ++ behind
      → 1 ≤ length page
      → begun_fault (version_of (taken ++ page ∷ [])) (taken ++ page ∷ []) ≡ Some (n, fault)
      → (more : List ℕ) → IsNoFile (read ++ more) n (whys.Page fault)
  wrong-page page behind n fault front some why more = inr (inl (record {
    pages = taken ++ page ∷ [];
    rest = behind ++ more;
    same = read-more Two (read ++ more) (left ++ more) (behind ++ more) taken (taken ++ page ∷ []) page
        (grew more).same (front-more page behind more front) refl
        ∙ ap (λ (v : Version). sized_pages v (taken ++ page ∷ []) ++ (behind ++ more)) (sym (form-more more));
    full = full-more taken page in-pages.full some;
    page_fault = fault;
    why = why;
    is = refl;
  }))

  pub open-before-end : (behind : List ℕ) (n : ℕ) (fault : PageFault) → left ≡ sized_page Two [] ++ behind
      → day_fault (version_of taken) taken ≡ Some (n, fault)
      → (more : List ℕ) → IsNoFile (read ++ more) n (whys.Page fault)
  open-before-end behind n fault front why more = inr (inr (record {
    pages = taken;
    rest = left ++ more;
    same = parts-more more;
    full = in-pages.full;
    behind = inl (
      behind ++ more,
      front-more [] behind more front
          ∙ ap (λ (v : Version). sized_page v [] ++ (behind ++ more)) (sym (form-more more)),
    );
    begun = in-pages.begun;
    page_fault = fault;
    why = why;
    is = refl;
  }))

  pub more-behind-end : (behind : List ℕ) → left ≡ sized_page Two [] ++ behind → 1 ≤ length behind
      → day_fault (version_of taken) taken ≡ None
      → (more : List ℕ) → IsNoFile (read ++ more) (min (length taken) 4_294_967_295) (whys.Page pages.Head)
  more-behind-end behind front some day more =
      let long = length-append behind more in
      inl (inr (
        record {
          pages = taken;
          rest = behind ++ more;
          same = parts-more more
              ∙ ap (λ (t : List ℕ). sized_pages (form_of (read ++ more)) taken ++ t)
              (front-more [] behind more front
              ∙ ap (λ (v : Version). sized_page v [] ++ (behind ++ more)) (sym (form-more more)))
              ∙ sym (append_assoc (sized_pages (form_of (read ++ more)) taken)
              (sized_page (form_of (read ++ more)) []) (behind ++ more));
          full = in-pages.full;
          day = day;
          more = omega (arith, long, some);
          number = refl;
        },
        refl,
      ))

  -- ---- how it ends

  told-all : day_fault (version_of taken) taken ≡ None → (day_fault (version_of taken) taken ≡ None → held ≡ [])
      → taken ≡ yielded
  told-all day whole = in-pages.parts ∙ ap (λ (ps : List (List ℕ)). yielded ++ ps) (whole day) ∙ append-nil yielded

  pub says : (ending : Ending) → day_fault (version_of taken) taken ≡ None
      → (day_fault (version_of taken) taken ≡ None → held ≡ []) → EndsBy Two left ending
      → Says read (kept_in yielded) ending
  says ending day whole end =
      let all : taken ≡ yielded = told-all day whole in
      let form : form_of read ≡ Two = named-two read in-pages.named in
      let version : version_of yielded ≡ Two = ap version_of (sym all) ∙ named-by taken left in-pages.same in
      record {
        pages = yielded;
        parted = record {
          rest = left;
          same = in-pages.same ∙ ap (λ (ps : List (List ℕ)). sized_pages Two ps ++ left) all
              ∙ ap (λ (v : Version). sized_pages v yielded ++ left) (sym form);
          full = subst AreNotEmpty all in-pages.full;
          end = subst (λ (v : Version). EndsBy v left ending) (sym form) end;
        };
        read = record {
          day = ap (λ (v : Version). day_fault v yielded) version ∙ in-pages.day;
          same = ap (λ (v : Version). kept_in (kept_as v yielded)) (sym version);
          records = ap (λ (v : Version). day_records Two (kept_as v yielded)) version
              ∙ ap (λ (v : Version). day_records v yielded) (sym version);
        };
      }

  pub broken : (fault : FileFault) → front_fault Two left ≡ Some fault → is_unfinished Two left ≡ false
      → IsNoFile read (min (length taken) 4_294_967_295) fault
  broken fault why lasting =
      let form : form_of read ≡ Two = named-two read in-pages.named in
      inl (inl (record {
        pages = taken;
        rest = left;
        same = in-pages.same ∙ ap (λ (v : Version). sized_pages v taken ++ left) (sym form);
        full = in-pages.full;
        begun = in-pages.begun;
        why = ap (λ (v : Version). front_fault v left) form ∙ why;
        lasting = ap (λ (v : Version). is_unfinished v left) form ∙ lasting;
        number = refl;
      }))

  pub open-at-end : (n : ℕ) (fault : PageFault) → is_unfinished Two left ≡ true
      → day_fault (version_of taken) taken ≡ Some (n, fault) → IsNoFile read n (whys.Page fault)
  open-at-end n fault un why =
      let form : form_of read ≡ Two = named-two read in-pages.named in
      inr (inr (record {
        pages = taken;
        rest = left;
        same = in-pages.same ∙ ap (λ (v : Version). sized_pages v taken ++ left) (sym form);
        full = in-pages.full;
        behind = inr (ap (λ (v : Version). is_unfinished v left) form ∙ un);
        begun = in-pages.begun;
        page_fault = fault;
        why = why;
        is = refl;
      }))

  pub damaged : (fault : FileFault)
      → ((more : List ℕ) → front_fault Two (left ++ more) ≡ Some fault)
      → torn_limit ≤ length left
      → (more : List ℕ) → IsNoFile (read ++ more) (min (length taken) 4_294_967_295) fault
  damaged fault why long more =
      let both = length-append left more in
      let few : nat_lt (length (left ++ more)) torn_limit ≡ false = le-ltb (length (left ++ more)) torn_limit
      (omega (arith, both, long)) in
      inl (inl (record {
        pages = taken;
        rest = left ++ more;
        same = parts-more more;
        full = in-pages.full;
        begun = in-pages.begun;
        why = ap (λ (v : Version). front_fault v (left ++ more)) (form-more more) ∙ why more;
        lasting = ap (λ (v : Version). is_unfinished v (left ++ more)) (form-more more)
            ∙ ap (λ (b : Bool). b && not (stands_somewhere (left ++ more))) few;
        number = refl;
      }))

-- ---- a sum that isn't the page's stays so, whatever stands behind

record Summed (bytes : List ℕ) : Type 0 where
  uncut : is_cut_short Two bytes ≡ false
  wrong : has_its_sum Two bytes ≡ false

summed : (bytes : List ℕ) → front_fault Two bytes ≡ Some whys.Sum → Summed bytes
summed bytes e = by_cut (is_cut_short Two bytes) (has_its_sum Two bytes) refl refl e
  where
    by_cut : (cut sum : Bool) → is_cut_short Two bytes ≡ cut → has_its_sum Two bytes ≡ sum
        → (if cut then Some (whys.Page pages.CutShort) else if sum then None else Some whys.Sum) ≡ Some whys.Sum
        → Summed bytes
    by_cut true sum c s why = let no : ⊥ = cc in absurd no
    by_cut false true c s why = let no : ⊥ = cc in absurd no
    by_cut false false c s why = record { uncut = c; wrong = s }

uncut-long : (m n : ℕ) → nat_lt m n ≡ false → n ≤ m
uncut-long m n e = grind (arith, nat_tests, e)

pub sum-stays : (bytes more : List ℕ) → front_fault Two bytes ≡ Some whys.Sum
    → front_fault Two (bytes ++ more) ≡ Some whys.Sum
sum-stays bytes more e =
    let is = summed bytes e in
    let long : 16 + size_in bytes ≤ length bytes = uncut-long (length bytes) (16 + size_in bytes) is.uncut in
    let both = length-append bytes more in
    let eight = length-drop 8 bytes in
    let sixteen = length-drop 16 bytes in
    let size : size_in (bytes ++ more) ≡ size_in bytes =
    ap (λ (t : List ℕ). from_be_bytes w64 t) (take-append-le 8 bytes more (omega (arith, long))) in
    let uncut : is_cut_short Two (bytes ++ more) ≡ false =
    le-ltb (length (bytes ++ more)) (16 + size_in (bytes ++ more)) (omega (arith, size, long, both)) in
    let sum : take 8 (drop 8 (bytes ++ more)) ≡ take 8 (drop 8 bytes) =
    ap (λ (t : List ℕ). take 8 t) (drop-append-le 8 bytes more (omega (arith, long)))
    ∙ take-append-le 8 (drop 8 bytes) more (omega (arith, long, eight)) in
    let page : page_in Two (bytes ++ more) ≡ page_in Two bytes =
    ap (λ (n : ℕ). take n (drop 16 (bytes ++ more))) size
    ∙ ap (λ (t : List ℕ). take (size_in bytes) t) (drop-append-le 16 bytes more (omega (arith, long)))
    ∙ take-append-le (size_in bytes) (drop 16 bytes) more (omega (arith, long, sixteen)) in
    let wrong : has_its_sum Two (bytes ++ more) ≡ false =
    ap (λ (t : List ℕ). from_be_bytes w64 t == sum_of (page_in Two (bytes ++ more))) sum
    ∙ ap (λ (t : List ℕ). from_be_bytes w64 (take 8 (drop 8 bytes)) == sum_of t) page ∙ is.wrong in
    rw (uncut, wrong) refl

-- ---- along equations

pub in-mode : (m : Mode) (read left : List ℕ) (taken held yielded : List (List ℕ)) → m ≡ Pages
    → IsReading m read left taken held yielded → IsInPages read left taken held yielded
in-mode m read left taken held yielded e is = subst (λ (x : Mode). IsReading x read left taken held yielded) e is

pub whole-along : (a b : List (List ℕ)) → a ≡ b → day_fault (version_of b) b ≡ None → day_fault (version_of a) a ≡ None
whole-along a b e day = ap (λ (ps : List (List ℕ)). day_fault (version_of ps) ps) e ∙ day

pub go-along : (a b c d : List (List ℕ)) (p q : Kept) → a ≡ b → p ≡ q → c ≡ d → GoOnBy a p c → GoOnBy b q d
go-along a b c d p q ea ep ec goes =
    subst (λ (x : List (List ℕ)). GoOnBy x q d) ea
    (subst (λ (x : Kept). GoOnBy a x d) ep (subst (λ (x : List (List ℕ)). GoOnBy a p x) ec goes))

pub pages-along : (read r left l : List ℕ) (taken t held h yielded o : List (List ℕ)) → read ≡ r → left ≡ l → taken ≡ t
    → held ≡ h → yielded ≡ o → IsInPages read left taken held yielded → IsInPages r l t h o
pages-along read r left l taken t held h yielded o er el et eh eo is =
    subst (λ (x : List ℕ). IsInPages x l t h o) er
    (subst (λ (x : List ℕ). IsInPages read x t h o) el
    (subst (λ (x : List (List ℕ)). IsInPages read left x h o) et
    (subst (λ (x : List (List ℕ)). IsInPages read left taken x o) eh
    (subst (λ (x : List (List ℕ)). IsInPages read left taken held x) eo is))))

-- ---- what steps answer

pub seen-pages : (r : Reading) (m : Mode) (read left : List ℕ) (taken held yielded : List (List ℕ))
    → record { mode = m; read = read; left = left; taken = taken; held = held; yielded = yielded } ≡ r → r.mode ≡ Pages
    → IsReading m read left taken held yielded → IsInPages r.read r.left r.taken r.held r.yielded
seen-pages r m read left taken held yielded e pages is =
    subst (λ (x : Reading). x.mode ≡ Pages → IsInPages x.read x.left x.taken x.held x.yielded) e
    (λ (p : m ≡ Pages). in-mode m read left taken held yielded p is) pages

none-read : (known : Option (List ℕ)) (bytes : List ℕ) → ReadsOn known known bytes bytes
none-read known bytes = ([], Consumes-nil known, sym (append-nil bytes))

pub kept-read : (known later : Option (List ℕ)) (old new : Reading) → new ≡ old → Keeps known later
    → ReadsOn known later old.read new.read
kept-read known later old new same keeps = (
  [],
  Consumes-kept known known later [] (Consumes-nil known) keeps,
  ap (λ (r : Reading). r.read) same ∙ sym (append-nil old.read),
)

pub end-read : (known later : Option (List ℕ)) (old new : Reading) → new ≡ old → Consumes known later []
    → ReadsOn known later old.read new.read
end-read known later old new same none =
    ([], none, ap (λ (r : Reading). r.read) same ∙ sym (append-nil old.read))

-- nothing is said of a file by these
pub ended : (left : Option (List ℕ)) (read : List ℕ) (fault : ReadFault) → IsEnded fault → IsRefused left read fault
ended left read (NoFile n fault) is = absurd is
ended left read NoMemory is = inl (λ more. tt)
ended left read (Read error) is = inl (λ more. tt)

pub failed : (known later : Option (List ℕ)) (old new : Reading) (fault : ReadFault)
    → HasFailed known later old new fault → Advances known later old new (Err fault)
failed known later old new fault is = record {
  read = kept-read known later old new is.0 is.1;
  comes = (ap (λ (r : Reading). r.yielded) is.0, ended later new.read fault is.2);
}

pub grown : (known later : Option (List ℕ)) (old new : Reading) → GrewBy known later old new
    → Advances known later old new (Ok None)
grown known later old new is = record {
  read = (is.piece, is.consumed, ap (λ (r : Reading). r.read) is.grown);
  comes = ap (λ (r : Reading). r.yielded) is.grown;
}

-- a refusal before anything was read
pub refused-here : (known : Option (List ℕ)) (old : Reading) (fault : ReadFault) → IsNoneBy old.read fault
    → Advances known known old old (Err fault)
refused-here known old fault none = record { read = none-read known old.read; comes = (refl, inl none) }

-- or at the end of the input
pub refused-end : (known later : Option (List ℕ)) (old new : Reading) (fault : ReadFault) → new ≡ old
    → Consumes known later [] → IsAtEnd later → IsNoFileBy new.read fault → Advances known later old new (Err fault)
refused-end known later old new fault same none end why = record {
  read = end-read known later old new same none;
  comes = (ap (λ (r : Reading). r.yielded) same, inr (end, why));
}

pub ends : (known later : Option (List ℕ)) (old new : Reading) (ending : Ending) → new ≡ old
    → Consumes known later [] → IsAtEnd later → Says new.read (kept_in new.yielded) ending
    → Advances known later old new (Ok (Some (End ending)))
ends known later old new ending same none end says = record {
  read = end-read known later old new same none;
  comes = (says, ap (λ (r : Reading). r.yielded) same, end);
}

-- a fault of a page, as a reader tells it
pub told-by : (read : List ℕ) (n : ℕ) (why : FileFault) (fault : ReadFault) → fault ≡ NoFile n why
    → ((more : List ℕ) → IsNoFile (read ++ more) n why) → IsNoneBy read fault
told-by read n why fault e none = subst (λ (f : ReadFault). IsNoneBy read f) (sym e) none

pub told-at-end : (read : List ℕ) (n : ℕ) (why : FileFault) (fault : ReadFault) → fault ≡ NoFile n why
    → IsNoFile read n why → IsNoFileBy read fault
told-at-end read n why fault e none = subst (λ (f : ReadFault). IsNoFileBy read f) (sym e) none

-- ---- the page in front

pub front-page : (left page behind : List ℕ) (size : ℕ) → left ≡ sized_page Two page ++ behind → length page ≡ size
    → take size (drop 16 left) ≡ page
front-page left page behind size same sized =
    ap (λ (t : List ℕ). take size (drop 16 t)) same ∙ take_at page behind size sized

pub front-behind : (left page behind : List ℕ) (size : ℕ) → left ≡ sized_page Two page ++ behind → length page ≡ size
    → drop (16 + size) left ≡ behind
front-behind left page behind size same sized =
    let long : length (sized_page Two page) ≡ 16 + size = omega (arith, sized) in
    ap (λ (t : List ℕ). drop (16 + size) t) same ∙ drop_at (sized_page Two page) behind (16 + size) long

pub wrong-by : (read : List ℕ) (taken : List (List ℕ)) (page : List ℕ) (fault : ReadFault) → IsWrongPage taken page fault
    → ((n : ℕ) (why : PageFault) → begun_fault (version_of (taken ++ page ∷ [])) (taken ++ page ∷ []) ≡ Some (n, why)
    → (more : List ℕ) → IsNoFile (read ++ more) n (whys.Page why))
    → IsNoneBy read fault
wrong-by read taken page (NoFile n why) wrong all =
    λ more. subst (λ (w : FileFault). IsNoFile (read ++ more) n w) (sym wrong.1) (all n wrong.0 wrong.2 more)
wrong-by read taken page NoMemory wrong all = λ more. tt
wrong-by read taken page (Read error) wrong all = λ more. tt

pub wrong-along : (a b : List (List ℕ)) (p q : List ℕ) (fault : ReadFault) → a ≡ b → p ≡ q → IsWrongPage a p fault
    → IsWrongPage b q fault
wrong-along a b p q fault ea ep wrong =
    subst (λ (x : List (List ℕ)). IsWrongPage x q fault) ea (subst (λ (x : List ℕ). IsWrongPage a x fault) ep wrong)

pub is-none : (bytes : List ℕ) → (length bytes == 0) ≡ true → bytes ≡ []
is-none [] e = refl
is-none (b ∷ bytes) e = absurd (let zero : length (b ∷ bytes) ≡ 0 = grind (arith, nat_tests, e) in omega (arith, zero))

pub is-some : (n : ℕ) → (n == 0) ≡ false → 1 ≤ n
is-some n e = grind (arith, nat_tests, e)

-- ---- an end in front

no-bytes : (page : List ℕ) → length page ≡ 0 → page ≡ []
no-bytes [] e = refl
no-bytes (b ∷ page) e = absurd (omega (arith, e))

pub front-end : (left : List ℕ) (front : StandsInFront 0 left) → left ≡ sized_page Two [] ++ front.behind
front-end left front =
    front.same ∙ ap (λ (p : List ℕ). sized_page Two p ++ front.behind) (no-bytes front.page front.sized)

pub behind-long : (left behind : List ℕ) → left ≡ sized_page Two [] ++ behind → length left ≡ 16 + length behind
behind-long left behind e =
    let all : length left ≡ length (sized_page Two [] ++ behind) = ap length e in
    let parts = length-append (sized_page Two []) behind in
    omega (arith, all, parts)

pub over-says : (r : Reading) (behind : List ℕ) → IsInPages r.read r.left r.taken r.held r.yielded
    → r.left ≡ sized_page Two [] ++ behind → length r.left ≤ 16 → day_fault (version_of r.taken) r.taken ≡ None
    → (day_fault (version_of r.taken) r.taken ≡ None → r.held ≡ []) → Says r.read (kept_in r.yielded) Over
over-says r behind is front few day whole =
    let all = behind-long r.left behind front in
    says r.read r.left r.taken r.held r.yielded is Over day whole
    (front ∙ ap (λ (b : List ℕ). sized_page Two [] ++ b) (no-bytes behind (omega (arith, all, few)))
    ∙ append-nil (sized_page Two []))

pub grows-still : (m : Mode) → m ≡ Pages → GrowsStill m
grows-still m e = subst GrowsStill (sym e) tt

-- ---- more that is read

grow-mode : (m : Mode) (read left : List ℕ) (taken held yielded : List (List ℕ)) (piece : List ℕ) → GrowsStill m
    → IsReading m read left taken held yielded → IsReading m (read ++ piece) (left ++ piece) taken held yielded
grow-mode Unseen read left taken held yielded piece still is = record {
  same = ap (λ (t : List ℕ). t ++ piece) is.same;
  none_taken = is.none_taken;
  none_held = is.none_held;
  none_yielded = is.none_yielded;
}
grow-mode Pages read left taken held yielded piece still is = grew read left taken held yielded is piece
grow-mode (Whole ending) read left taken held yielded piece still is = absurd still
grow-mode Grown read left taken held yielded piece still is = tt

pub read-keeps : (m : Mode) (known later : Option (List ℕ)) (old new : Bytes) (taken held yielded : List (List ℕ))
    (r : Result Bool ReadFault) → GrowsStill m
    → MatchResult r (λ more. HasGrown known later old new more)
    (λ fault. (new ≡ old) × Keeps known later × IsEnded fault)
    → IsReading m old.read old.left taken held yielded → IsReading m new.read new.left taken held yielded
read-keeps m known later old new taken held yielded (Ok more) still has is =
    subst (λ (t : List ℕ). IsReading m t new.left taken held yielded) (sym has.read)
    (subst (λ (t : List ℕ). IsReading m (old.read ++ has.piece) t taken held yielded) (sym has.left)
    (grow-mode m old.read old.left taken held yielded has.piece still is))
read-keeps m known later old new taken held yielded (Err fault) still has is =
    subst (λ (b : Bytes). IsReading m b.read b.left taken held yielded) (sym has.0) is

-- ---- a file that was read whole

pub seen-unseen : (r : Reading) (m : Mode) (read left : List ℕ) (taken held yielded : List (List ℕ))
    → record { mode = m; read = read; left = left; taken = taken; held = held; yielded = yielded } ≡ r → r.mode ≡ Unseen
    → IsReading m read left taken held yielded → IsUnseen r.read r.left r.taken r.held r.yielded
seen-unseen r m read left taken held yielded e unseen is =
    subst (λ (x : Reading). x.mode ≡ Unseen → IsUnseen x.read x.left x.taken x.held x.yielded) e
    (λ (p : m ≡ Unseen). subst (λ (x : Mode). IsReading x read left taken held yielded) p is) unseen

pub whole-given : (before after : List (List ℕ)) (part : Kept) → before ≡ [] → part ≡ kept_in part.pages
    → after ≡ before ++ part.pages → day_fault Two part.pages ≡ None → GoOnBy before part after
whole-given before after part none same grown day =
    go-along [] before ([] ++ part.pages) after (kept_in part.pages) part (sym none) (sym same)
    (sym (grown ∙ ap (λ (ps : List (List ℕ)). ps ++ part.pages) none)) (go-on [] part.pages refl day)

pub none-by : (o : Option (ℕ × PageFault)) → is_none o ≡ true → o ≡ None
none-by None e = refl
none-by (Some x) e = absurd (true≢false (sym e))

pub reads-both : (a b c : Option (List ℕ)) (x y z : List ℕ) → ReadsOn a b x y → ReadsOn b c y z → ReadsOn a c x z
reads-both a b c x y z first later = (
  first.0 ++ later.0,
  Consumes-trans a b c first.0 later.0 first.1 later.1,
  later.2 ∙ ap (λ (t : List ℕ). t ++ later.0) first.2 ∙ append_assoc x first.0 later.0,
)
