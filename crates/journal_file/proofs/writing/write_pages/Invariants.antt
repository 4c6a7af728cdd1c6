-- The pages so far are written.
use Rattle.std.proofs.Common.{take}
use Rattle.std.specs.Io.KnownBytes.{Appends}
use Rattle.journal_days.specs.Cut.{texts}
use Rattle.journal_pages.specs.declared.version.Version.TheVariants.{Two}
use Rattle.journal_file.specs.File.{sized_pages}
use Rattle.journal_file.proofs.writing.write_pages.Given as goal

abbrev pub invariant-loop-page : goal.invariant-loop-page
invariant-loop-page g l = Appends (g.W.Write.contents l.initial.output) (g.W.Write.contents l.output)
    (sized_pages Two (texts (take l.page-index l.pages)))
