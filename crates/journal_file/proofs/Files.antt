-- Pages that stand one behind another in a file.
use Rattle.std.proofs.Common.{◌≡◌, ◌≤◌, ◌<◌, ℕ, true, false, List, [], ◌∷◌, ◌++◌, Vec, Some, None, length, inl, inr, refl}
use Rattle.std.proofs.Common.{sym, ap, subst, ◌∙◌, arith, append_assoc, length-append}
use Rattle.std.proofs.lemmas.Bool.Decides.{nat_tests}
use Rattle.std.proofs.lemmas.List.{append-nil}
use Rattle.std.proofs.lemmas.Bool.{true≢false}
use Rattle.std.specs.Prelude.{◌⊎◌, ◌==◌, min, Result, Ok, Err, MatchResult, OnOk, is_err}
use Rattle.std.specs.declared.alloc.Global.{Global}
use Rattle.journal_pages.specs.declared.fault.PageFault.TheVariants as faults
use Rattle.journal_pages.specs.declared.fault.PageFault.{PageFault}
use Rattle.journal_days.specs.Begun.{begun_fault}
use Rattle.journal_days.specs.Cut.{texts}
use Rattle.journal_days.specs.Day.{day_fault, version_of}
use Rattle.journal_pages.specs.declared.version.Version.{Version}
use Rattle.journal_pages.specs.declared.version.Version.TheVariants.{One, Two}
use Rattle.journal_file.specs.declared.fault.FileFault.{FileFault}
use Rattle.journal_file.specs.declared.fault.FileFault.TheVariants as whys
use Rattle.journal_file.specs.declared.ending.Ending.{Ending}
use Rattle.journal_file.specs.declared.ending.Ending.TheVariants.{Over}
use Rattle.journal_file.specs.Endings.{EndsBy, is_unfinished}
use Rattle.journal_file.specs.File.{AreNotEmpty, file_of, form_of, front_fault, sized_page, sized_pages}
use Rattle.journal_file.specs.Said.{EndsInBatch, IsBehindLast, IsNoFile, IsNoMemory, IsOpenAt, IsPartedDay}

pub full-more : (pages : List (List ℕ)) (page : List ℕ) → AreNotEmpty pages → 1 ≤ length page
    → AreNotEmpty (pages ++ page ∷ [])
full-more [] page full one = (one, tt)
full-more (p ∷ pages) page full one = (full.0, full-more pages page full.1 one)

-- one page more
pub sized-more : (form : Version) (pages : List (List ℕ)) (page : List ℕ)
    → sized_pages form (pages ++ page ∷ []) ≡ sized_pages form pages ++ sized_page form page
sized-more form [] page = append-nil (sized_page form page)
sized-more form (p ∷ pages) page =
    ap (λ (t : List ℕ). sized_page form p ++ t) (sized-more form pages page)
    ∙ sym (append_assoc (sized_page form p) (sized_pages form pages) (sized_page form page))

-- the bytes of a file, with one page more of them read
pub read-more : (form : Version) (file rest behind : List ℕ) (before after : List (List ℕ)) (page : List ℕ)
    → file ≡ sized_pages form before ++ rest → rest ≡ sized_page form page ++ behind → after ≡ before ++ page ∷ []
    → file ≡ sized_pages form after ++ behind
read-more form file rest behind before after page same first more =
    same ∙ ap (λ (t : List ℕ). sized_pages form before ++ t) first
    ∙ sym (append_assoc (sized_pages form before) (sized_page form page) behind)
    ∙ ap (λ (t : List ℕ). t ++ behind) (sym (sized-more form before page) ∙ ap (sized_pages form) (sym more))

-- a page takes bytes
pub fewer : (form : Version) (rest behind page : List ℕ) → rest ≡ sized_page form page ++ behind
    → length behind < length rest
fewer One rest behind page e =
    let all : length rest ≡ length (sized_page One page ++ behind) = ap length e in
    let parts = length-append page behind in
    omega (arith, all, parts)
fewer Two rest behind page e =
    let all : length rest ≡ length (sized_page Two page ++ behind) = ap length e in
    let parts = length-append page behind in
    omega (arith, all, parts)

is-zero : (n : ℕ) → (n == 0) ≡ true → n ≡ 0
is-zero n e = grind (arith, nat_tests)

empty-page : (page : List ℕ) → (length page == 0) ≡ true → page ≡ []
empty-page [] e = refl
empty-page (b ∷ page) e = absurd (let zero = is-zero (length (b ∷ page)) e in omega (arith, zero))

pub some-bytes : (n : ℕ) → (n == 0) ≡ false → 1 ≤ n
some-bytes n e = grind (arith, nat_tests)

abbrev Answered : Type 0
Answered = Result (Vec (Vec ℕ Global) Global × Ending) (ℕ × FileFault)

-- the pages so far of a file, as a judge has them
pub record HasRead (form : Version) (file : List ℕ) (pages : Vec (Vec ℕ Global) Global) (judged : List (List ℕ))
    (rest : List ℕ) : Type 0 where
  pub same : file ≡ sized_pages form (texts pages.items) ++ rest
  pub full : AreNotEmpty (texts pages.items)
  pub taken : judged ≡ texts pages.items
  pub begun : begun_fault (version_of judged) judged ≡ None

module _ (form : Version) (pages : Vec (Vec ℕ Global) Global) (file rest : List ℕ) (judged : List (List ℕ)) (is : form ≡ form_of file) (has : HasRead form file pages judged rest) where
  abbrev yielded : List (List ℕ)
  yielded = texts pages.items

  parts : file ≡ sized_pages (form_of file) yielded ++ rest
  parts = has.same ∙ ap (λ (v : Version). sized_pages v yielded ++ rest) is

  begun : begun_fault (version_of yielded) yielded ≡ None
  begun = ap (λ (ps : List (List ℕ)). begun_fault (version_of ps) ps) (sym has.taken) ∙ has.begun

  counted : min (length judged) 4_294_967_295 ≡ min (length yielded) 4_294_967_295
  counted = ap (λ (ps : List (List ℕ)). min (length ps) 4_294_967_295) has.taken

  day-of : (others : Vec (Vec ℕ Global) Global) → others ≡ pages → day_fault (version_of judged) judged ≡ None
      → day_fault (version_of (texts others.items)) (texts others.items) ≡ None
  day-of others same day =
      ap (λ (v : Vec (Vec ℕ Global) Global). day_fault (version_of (texts v.items)) (texts v.items)) same
      ∙ ap (λ (ps : List (List ℕ)). day_fault (version_of ps) ps) (sym has.taken) ∙ day

  inside : (n : ℕ) (fault : FileFault) → IsOpenAt judged n fault → IsBehindLast (form_of file) rest
      → EndsInBatch n fault file
  inside n fault at behind = record {
    pages = yielded;
    rest = rest;
    same = parts;
    full = has.full;
    behind = behind;
    begun = begun;
    page_fault = at.page_fault;
    why = ap (λ (ps : List (List ℕ)). day_fault (version_of ps) ps) (sym has.taken) ∙ at.why;
    is = at.is;
  }

  -- a page that can't stand there
  pub wrong-page : (page behind : List ℕ) (n : ℕ) (fault : PageFault) → rest ≡ sized_page form page ++ behind
      → (length page == 0) ≡ false
      → begun_fault (version_of (judged ++ page ∷ [])) (judged ++ page ∷ []) ≡ Some (n, fault)
      → IsNoFile file n (whys.Page fault)
  wrong-page page behind n fault first some why =
      inr (inl (record {
        pages = yielded ++ page ∷ [];
        rest = behind;
        same = read-more form file rest behind yielded (yielded ++ page ∷ []) page has.same first refl
            ∙ ap (λ (v : Version). sized_pages v (yielded ++ page ∷ []) ++ behind) is;
        full = full-more yielded page has.full (some-bytes (length page) some);
        page_fault = fault;
        why = ap (λ (ps : List (List ℕ)). begun_fault (version_of (ps ++ page ∷ [])) (ps ++ page ∷ [])) (sym has.taken)
            ∙ why;
        is = refl;
      }))

  -- what is answered behind an end
  pub whole-file : (r : Answered) (behind page : List ℕ) → rest ≡ sized_page form page ++ behind
      → (length page == 0) ≡ true
      → MatchResult r (λ read. (read.0 ≡ pages) × (read.1 ≡ Over) × (behind ≡ [])
      × (day_fault (version_of judged) judged ≡ None))
      (λ f. IsOpenAt judged f.0 f.1 ⊎ ((f.0 ≡ min (length judged) 4_294_967_295) × (f.1 ≡ whys.Page faults.Head)
      × (1 ≤ length behind) × (day_fault (version_of judged) judged ≡ None)))
      → MatchResult r (λ read. IsPartedDay form file (texts read.0.items) read.1)
      (λ f. IsNoMemory f.0 f.1 ⊎ IsNoFile file f.0 f.1)
  whole-file (Ok read) behind page first end e = record {
    parted = record {
      rest = rest;
      same = has.same ∙ sym (ap (λ (v : Vec (Vec ℕ Global) Global). sized_pages form (texts v.items) ++ rest) e.0);
      full = subst (λ (v : Vec (Vec ℕ Global) Global). AreNotEmpty (texts v.items)) (sym e.0) has.full;
      end = subst (λ (x : Ending). EndsBy form rest x) (sym e.1)
          (first ∙ ap (λ (p : List ℕ). sized_page form p ++ behind) (empty-page page end)
          ∙ ap (λ (b : List ℕ). sized_page form [] ++ b) e.2 ∙ append-nil (sized_page form []));
    };
    day = day-of read.0 e.0 e.3;
  }
  whole-file (Err f) behind page first end (inl at) =
      inr (inr (inr (inside f.0 f.1 at (inl (
        behind,
        first
            ∙ ap (λ (p : List ℕ). sized_page form p ++ behind) (empty-page page end)
            ∙ ap (λ (v : Version). sized_page v [] ++ behind) is,
      )))))
  whole-file (Err f) behind page first end (inr e) =
      inr (inl (inr (
        record {
          pages = yielded;
          rest = behind;
          same = has.same ∙ ap (λ (t : List ℕ). sized_pages form yielded ++ t)
              (first ∙ ap (λ (p : List ℕ). sized_page form p ++ behind) (empty-page page end))
              ∙ sym (append_assoc (sized_pages form yielded) (sized_page form []) behind)
              ∙ ap (λ (v : Version). file_of v yielded ++ behind) is;
          full = has.full;
          day = day-of pages refl e.3;
          more = e.2;
          number = e.0 ∙ counted;
        },
        e.1,
      )))

  -- what is answered where no page stands in front
  pub unfinished-file : (r : Answered) (fault : FileFault) → front_fault form rest ≡ Some fault
      → MatchResult r (λ read. (read.0 ≡ pages) × EndsBy form rest read.1
      × (day_fault (version_of judged) judged ≡ None))
      (λ f. (IsOpenAt judged f.0 f.1 × (is_unfinished form rest ≡ true))
      ⊎ ((f.0 ≡ min (length judged) 4_294_967_295) × (f.1 ≡ fault) × (is_unfinished form rest ≡ false)))
      → MatchResult r (λ read. IsPartedDay form file (texts read.0.items) read.1)
      (λ f. IsNoMemory f.0 f.1 ⊎ IsNoFile file f.0 f.1)
  unfinished-file (Ok read) fault why e = record {
    parted = record {
      rest = rest;
      same = has.same ∙ sym (ap (λ (v : Vec (Vec ℕ Global) Global). sized_pages form (texts v.items) ++ rest) e.0);
      full = subst (λ (v : Vec (Vec ℕ Global) Global). AreNotEmpty (texts v.items)) (sym e.0) has.full;
      end = e.1;
    };
    day = day-of read.0 e.0 e.2;
  }
  unfinished-file (Err f) fault why (inl at) =
      inr (inr (inr (inside f.0 f.1 at.0 (inr (ap (λ (v : Version). is_unfinished v rest) (sym is) ∙ at.1)))))
  unfinished-file (Err f) fault why (inr e) =
      inr (inl (inl (record {
        pages = yielded;
        rest = rest;
        same = parts;
        full = has.full;
        begun = begun;
        why = ap (λ (v : Version). front_fault v rest) (sym is) ∙ why ∙ ap Some (sym e.1);
        lasting = ap (λ (v : Version). is_unfinished v rest) (sym is) ∙ e.2;
        number = e.0 ∙ counted;
      })))

-- what holds where a call went well, of a call that did
pub went-well : {T E P : Type 0} (r : Result T E) → is_err r ≡ false → OnOk r P → P
went-well (Ok x) went is = is
went-well (Err e) went is = absurd (true≢false went)

-- the same of a call that didn't fail
pub no-error : {T E P : Type 0} (Q : E → Type 0) (r : Result T E) → ((x : E) → r ≡ Err x → ⊥)
    → MatchResult r (λ _. P) Q → P
no-error Q (Ok x) none is = is
no-error Q (Err e) none is = absurd (none e refl)

-- a page more
pub has-more : (form : Version) (pages others : Vec (Vec ℕ Global) Global) (file rest behind page : List ℕ)
    (judged after : List (List ℕ)) → HasRead form file pages judged rest → rest ≡ sized_page form page ++ behind
    → (length page == 0) ≡ false → texts others.items ≡ texts pages.items ++ page ∷ [] → after ≡ judged ++ page ∷ []
    → begun_fault (version_of after) after ≡ None → HasRead form file others after behind
has-more form pages others file rest behind page judged after has first some more grown none = record {
  same = read-more form file rest behind (texts pages.items) (texts others.items) page has.same first more;
  full = subst (λ (ps : List (List ℕ)). AreNotEmpty ps) (sym more)
      (full-more (texts pages.items) page has.full (some-bytes (length page) some));
  taken = grown ∙ ap (λ (ps : List (List ℕ)). ps ++ page ∷ []) has.taken ∙ sym more;
  begun = none;
}
