use Rattle.std.proofs.Common.{List, ℕ, subst}
use Rattle.std.specs.Io.KnownBytes.{Appends}
use Rattle.journal_pages.specs.declared.version.Version.TheVariants.{Two}
use Rattle.journal_file.specs.File.{sized_page}
use Rattle.journal_file.proofs.Grown.{pages-written}
use Rattle.journal_file.proofs.writing.write_pages.Goals as goal

pub loop-page-preserved : goal.loop-page-preserved
loop-page-preserved g c =
    pages-written _ _ _ c.args.pages.now c.loop-page.page-index c.page-item.result c.loop-page-test.true c.page-item.is
    c.loop-page.invariant
    (subst (λ (l : List ℕ). Appends (g.W.Write.contents c.loop-page.output)
    (g.W.Write.contents c.write_sized.new.output) (sized_page Two l)) c.as_slice.ensures.value
    c.in_ok-write_sized.ensures)
