use Rattle.journal_file.proofs.One.{one-file}
use Rattle.journal_file.proofs.Meaning.{form-seen}
use Rattle.journal_file.proofs.laws.files_are_one.Goals as goal

pub returns-clause-one : goal.returns-clause-one
returns-clause-one c = one-file

pub returns-clause-form : goal.returns-clause-form
returns-clause-form c = form-seen
