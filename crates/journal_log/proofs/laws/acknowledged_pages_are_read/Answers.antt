use Rattle.journal_file.proofs.Meaning.{reads-in-front}
use Rattle.journal_log.proofs.laws.acknowledged_pages_are_read.Goals as goal

pub returns : goal.returns
returns c = λ told left day ending good few stands says. reads-in-front left day ending few says told stands.torn good
    stands.same
