-- What a log has of a history, before and after a page.
use Rattle.std.proofs.Common.{◌≡◌, ◌<◌, ◌≤◌, ◌%◌, ◌^◌, ℕ, ◌+◌, Option, Some, None, Result, Ok, Err, OnErr, true, List}
use Rattle.std.proofs.Common.{[], ◌∷◌, ◌++◌, length, refl, sym, ap, subst, ◌∙◌, arith, append-nil, length-append}
use Rattle.std.specs.Prelude.{◌==◌, ◌&&◌, IsErrOf, OnOk}
use Rattle.std.proofs.lemmas.Bool.{and_parts}
use Rattle.std.proofs.lemmas.Bool.Decides.{nat_tests}
use Rattle.journal_pages.specs.declared.place.Place.TheVariants.{BetweenBatches}
use Rattle.journal_pages.specs.declared.version.Version.TheVariants.{Two}
use Rattle.journal_pages.specs.Record.{Record, records_in}
use Rattle.journal_pages.specs.Page.{page_front, page_records}
use Rattle.journal_days.specs.Cut.{IsMoreOf, last_size}
use Rattle.journal_days.specs.Day.{day_fault, day_records}
use Rattle.journal_file.specs.File.{sized_pages}
use Rattle.journal_log.specs.Log.{IsSettled, LeavesAtLeast}
use Rattle.journal_log.specs.State.{LogState}
use Rattle.journal_log.specs.declared.fault.LogFault.{LogFault}
use Rattle.journal_log.specs.declared.fault.LogFault.TheVariants.{Ended, Failed, NoMemory}
use Rattle.journal_log.specs.Since.{bytes_since}
use Rattle.journal_log.specs.Kept.{AreOf, HasAll, HasDay, HasPages, StandsAt, TurnLogState}
use Rattle.journal_log.proofs.GoesOn.{more-goes-on, same-end}
use Rattle.journal_log.proofs.Read.{More}
use Rattle.journal_log.proofs.Behind.{history-more, page-behind}

same-number : (n m : ℕ) → (n == m) ≡ true → n ≡ m
same-number n m e = grind (arith, nat_tests)

pub same-marks : (a b c d e f : ℕ) → ((a == b) && ((c == d) && (e == f))) ≡ true → (a ≡ b) × (c ≡ d)
same-marks a b c d e f is =
    let pages = and_parts (a == b) ((c == d) && (e == f)) is in
    let bytes = and_parts (c == d) (e == f) pages.1 in
    (same-number a b pages.0, same-number c d bytes.0)

module _ {F : Type 0} (seen : F → List ℕ) (may_leave : F → List ℕ → Type 0) where
  settled-left : (pages : List (List ℕ)) (file : F) → IsSettled seen may_leave pages file
      → LeavesAtLeast may_leave pages file
  settled-left pages file settled c left = record
      { torn = []; same = settled.durable c left ∙ settled.written ∙ sym (append-nil (sized_pages Two pages)) }

  pub all-has : (history : List (List ℕ)) (file : F) (shut : Option LogFault) → HasAll seen may_leave history file
      → HasPages seen may_leave history file shut
  all-has history file shut all = record {
    left = record { pages = all.pages; of = all.of; left = settled-left all.pages file all.settled };
    all = λ none. all;
  }

  -- ---- where a call of the log failed

  same-has : (before : List (List ℕ)) (old new : LogState F) → new ≡ old
      → HasPages seen may_leave before old.file old.shut → HasPages seen may_leave before new.file new.shut
  same-has before old new same has = subst (λ (l : LogState F). HasPages seen may_leave before l.file l.shut)
      (sym same) has

  shut-has : (before : List (List ℕ)) (old new : LogState F) (fault : LogFault) → old.shut ≡ None
      → new.shut ≡ Some fault
      → ((pages : List (List ℕ)) → IsSettled seen may_leave pages old.file → LeavesAtLeast may_leave pages new.file)
      → HasPages seen may_leave before old.file old.shut → HasPages seen may_leave before new.file new.shut
  shut-has before old new fault none shut kept has =
      let all = has.all none in
      record {
        left = record { pages = all.pages; of = all.of; left = kept all.pages all.settled };
        all = λ empty. let no : ⊥ = cc in absurd no;
      }

  module _ {T : Type 0} (before : List (List ℕ)) (old new : LogState F)
      (kept : (pages : List (List ℕ)) → IsSettled seen may_leave pages old.file → LeavesAtLeast may_leave pages new.file) where
    failed-has : (r : Result T LogFault) → new.shut ≡ Some Failed
        → ((fault : LogFault) → old.shut ≡ Some fault → (r ≡ Err fault) × (new ≡ old))
        → (o : Option LogFault) → old.shut ≡ o → HasPages seen may_leave before old.file old.shut
        → HasPages seen may_leave before new.file new.shut
    failed-has r shut last None is has = shut-has before old new Failed is shut kept has
    failed-has r shut last (Some fault) is has = same-has before old new (last fault is).1 has

    pub refused-has : (r : Result T LogFault) → (IsErrOf r Failed → new.shut ≡ Some Failed)
        → (IsErrOf r Ended → old.shut ≡ Some Ended) → (IsErrOf r NoMemory → new ≡ old)
        → ((fault : LogFault) → old.shut ≡ Some fault → (r ≡ Err fault) × (new ≡ old))
        → OnErr r (HasPages seen may_leave before old.file old.shut → HasPages seen may_leave before new.file new.shut)
    refused-has (Ok x) failed ended no_memory last = tt
    refused-has (Err NoMemory) failed ended no_memory last = same-has before old new (no_memory refl)
    refused-has (Err Ended) failed ended no_memory last = same-has before old new (last Ended (ended refl)).1
    refused-has (Err Failed) failed ended no_memory last = failed-has (Err Failed) (failed refl) last old.shut refl

    -- and where it ended
    open-ended : (r : Result T LogFault) (t : T) → r ≡ Ok t
        → ((fault : LogFault) → old.shut ≡ Some fault → (r ≡ Err fault) × (new ≡ old)) → (o : Option LogFault)
        → old.shut ≡ o → old.shut ≡ None
    open-ended r t is last None none = none
    open-ended r t is last (Some fault) some = let wrong = (last fault some).0 in let no : ⊥ = cc in absurd no

    pub ended-has : (r : Result T LogFault) → OnOk r (new.shut ≡ Some Ended)
        → (IsErrOf r Failed → new.shut ≡ Some Failed) → (IsErrOf r Ended → old.shut ≡ Some Ended)
        → (IsErrOf r NoMemory → new ≡ old)
        → ((fault : LogFault) → old.shut ≡ Some fault → (r ≡ Err fault) × (new ≡ old))
        → HasPages seen may_leave before old.file old.shut → HasPages seen may_leave before new.file new.shut
    ended-has (Ok t) over failed ended no_memory last =
        shut-has before old new Ended (open-ended (Ok t) t refl last old.shut refl) over kept
    ended-has (Err e) over failed ended no_memory last = refused-has (Err e) failed ended no_memory last

  -- ---- where a page was added

  -- nothing came since
  pub same-day : (before now : List (List ℕ)) (log : TurnLogState F) → IsMoreOf before now → length now ≡ log.pages
      → last_size now ≡ log.bytes
      → HasDay seen may_leave before log → HasDay seen may_leave now log
  same-day before now log more count size has =
      let same : now ≡ before = same-end before now (more-goes-on before now more) (count ∙ has.mark.pages)
      (size ∙ has.mark.bytes) in
      subst (λ (pages : List (List ℕ)). HasDay seen may_leave pages log) (sym same) has

  of-same : (before now pages : List (List ℕ)) → day_records Two now ≡ day_records Two before → AreOf before pages
      → AreOf now pages
  of-same before now pages same of = record { day = of.day; same = of.same ∙ sym same }

  same-pages : (before now : List (List ℕ)) (file : F) (shut : Option LogFault)
      → day_records Two now ≡ day_records Two before → HasPages seen may_leave before file shut
      → HasPages seen may_leave now file shut
  same-pages before now file shut same has = record {
    left = record {
      pages = has.left.pages;
      of = of-same before now has.left.pages same has.left.of;
      left =
          has.left.left;
    };
    all = λ none.
        let all = has.all none in
        record { pages = all.pages; of = of-same before now all.pages same all.of; settled = all.settled };
  }

  pub same-all : (before now : List (List ℕ)) (file : F) → day_records Two now ≡ day_records Two before
      → HasAll seen may_leave before file → HasAll seen may_leave now file
  same-all before now file same all = record
      { pages = all.pages; of = of-same before now all.pages same all.of; settled = all.settled }

  module _ (before now : List (List ℕ)) (page : List ℕ) (old : TurnLogState F) (file : F) (shut : Option LogFault)
      (has : HasDay seen may_leave before old) (more : IsMoreOf before now) (day : day_fault Two now ≡ None)
      (is : page ≡ page_front old.records ++ bytes_since old.pages old.bytes now)
      (none : length page ≤ 12 → (file ≡ old.file) × (shut ≡ old.shut))
      (some : 12 < length page → (ps : List (List ℕ)) → IsSettled seen may_leave ps old.file
      → IsSettled seen may_leave (ps ++ page ∷ []) file)
      (goes_on : 12 < length page → (old.shut ≡ None) × (shut ≡ None)) where
    abbrev bytes : List ℕ
    bytes = bytes_since (length before) (last_size before) now

    found : More BetweenBatches bytes (day_records Two before) (day_records Two now) BetweenBatches
    found = history-more before now has.mark.day day (more-goes-on before now more)

    page-is : page ≡ page_front old.records ++ bytes
    page-is =
        is ∙ ap (λ n. page_front old.records ++ bytes_since n old.bytes now) has.mark.pages
        ∙ ap (λ n. page_front old.records ++ bytes_since (length before) n now) has.mark.bytes

    -- what is added, and how many records it has
    record Added : Type 0 where
      kept : HasPages seen may_leave now file shut
      count : length (page_records Two page) ≡ length found.records

    own : page_records Two page ≡ found.records
    own = ap (page_records Two) page-is ∙ found.reads.records

    size : length page ≡ 12 + length bytes
    size = let all = ap length page-is in let many = length-append (page_front old.records) bytes in
        omega (arith, all, many)

    of-none : bytes ≡ [] → Added
    of-none empty =
        let count : length bytes ≡ 0 = ap length empty in
        let same = none (omega (arith, size, count)) in
        let nothing : found.records ≡ [] = sym found.reads.records ∙ ap records_in empty in
        let records : day_records Two now ≡ day_records Two before =
        found.all ∙ ap (λ (l : List Record). day_records Two before ++ l) nothing ∙ append-nil (day_records Two before)
        in
        record {
          kept = rw (same.0, same.1) (same-pages before now old.file old.shut records has.has);
          count =
              ap length own;
        }

    of-some : 1 ≤ length bytes → Added
    of-some few =
        let long : 12 < length page = omega (arith, size, few) in
        let all = has.has.all (goes_on long).0 in
        let number : old.records ≡ length (day_records Two all.pages) % 2 ^ 64 = has.mark.records
        ∙ ap (λ (l : List Record). length l % 2 ^ 64) (sym all.of.same) in
        let made = page-behind all.pages old.records bytes found.records all.of.day number few found.reads in
        let of : AreOf now (all.pages ++ page ∷ []) = record {
          day = ap (λ (l : List ℕ). day_fault Two (all.pages ++ l ∷ [])) page-is ∙ made.day;
          same = ap (λ (l : List ℕ). day_records Two (all.pages ++ l ∷ [])) page-is ∙ made.records
              ∙ ap (λ (l : List Record). l ++ found.records) all.of.same ∙ sym found.all;
        } in
        let held : HasAll seen may_leave now file =
        record { pages = all.pages ++ page ∷ []; of = of; settled = some long all.pages all.settled } in
        record { kept = all-has now file shut held; count = ap length own }

    added : (l : List ℕ) → bytes ≡ l → Added
    added [] e = of-none e
    added (b ∷ l) e = of-some (let many = ap length e in omega (arith, many))

    pub put-day : (new : TurnLogState F) → new.file ≡ file → new.shut ≡ shut → new.pages ≡ length now
        → new.bytes ≡ last_size now
        → new.records ≡ (old.records + length (page_records Two page) % 2 ^ 64) % 2 ^ 64
        → HasDay seen may_leave now new
    put-day new the-file the-shut the-pages the-bytes the-records =
        let it = added bytes refl in
        let all = ap length found.all in
        let many = length-append (day_records Two before) found.records in
        record {
          mark = record {
            day = day;
            pages = the-pages;
            bytes = the-bytes;
            records = omega (arith, the-records, has.mark.records, it.count, all, many);
          };
          has = rw (the-file, the-shut) it.kept;
        }

    -- the same where the mark is taken of the history
    pub put-marked : (new : TurnLogState F) → new.file ≡ file → new.shut ≡ shut → StandsAt now new
        → HasDay seen may_leave now new
    put-marked new the-file the-shut stands = record {
      mark = stands;
      has = rw (the-file, the-shut) (added bytes refl).kept;
    }
