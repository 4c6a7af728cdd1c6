use Rattle.std.proofs.Common.{List, ℕ, sym, refl, ap, []}
use Rattle.std.proofs.KnownBytes.{Appends-kept, Appends-trans}
use Rattle.journal_days.specs.Cut.{texts}
use Rattle.gate_journal.specs.Kept.{turns}
use Rattle.journal_pages.specs.declared.version.Version.TheVariants.{Two}
use Rattle.journal_file.specs.File.{file_of, sized_page, sized_pages}
use Rattle.journal_file.proofs.writing.write_day.Goals as goal

pub returns : goal.returns
returns g c =
    let pages : List (List ℕ) = texts c.pages.result.now in (
      file_of Two pages,
      record {
        pages = pages;
        says = record { same = refl; day = c.pages.ensures.day };
        same = ap turns (sym c.pages.ensures.same);
      },
      Appends-kept _ _ _ (file_of Two pages) (Appends-trans _ _ _ (sized_pages Two pages)
          (sized_page Two []) c.in_ok-write_pages.ensures c.in_ok-write_sized.ensures) c.flush.ensures.bytes,
    )
