use Rattle.journal_file.specs.declared.read_fault.ReadFault.TheVariants.{Read}
use Rattle.journal_file.proofs.Streaming.{refused-here}
use Rattle.journal_file.proofs.reader.DayReader.step.Goals as goal

pub returns-in-Grown : goal.returns-in-Grown
returns-in-Grown g c = refused-here _ c.args.self.now (Read c.from.result) (λ more. tt)
