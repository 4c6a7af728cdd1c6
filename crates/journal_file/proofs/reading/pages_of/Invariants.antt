-- The pages so far and the bytes that are left are the file, none of these pages is an end, and a day begins with them.
use Rattle.std.proofs.Common.{length}
use Rattle.journal_file.proofs.Files.{HasRead}
use Rattle.journal_file.proofs.reading.pages_of.Given as goal

abbrev pub invariant-pages : goal.invariant-pages
invariant-pages l = HasRead l.form l.file l.pages l.judge l.rest

abbrev pub decreases-pages : goal.decreases-pages
decreases-pages l = length l.rest
