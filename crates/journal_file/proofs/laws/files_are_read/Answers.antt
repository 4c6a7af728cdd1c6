use Rattle.journal_file.proofs.Meaning.{refused-not, said-once}
use Rattle.journal_file.proofs.laws.files_are_read.Goals as goal

pub returns-clause-once : goal.returns-clause-once
returns-clause-once c = said-once

pub returns-clause-read : goal.returns-clause-read
returns-clause-read c = refused-not
