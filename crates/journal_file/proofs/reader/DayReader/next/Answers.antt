use Rattle.std.proofs.Common.{inl}
use Rattle.journal_file.proofs.Streaming.{reads-both}
use Rattle.journal_file.proofs.reader.DayReader.next.Goals as goal

pub returns-in-Ok-Some-clause-read : goal.returns-in-Ok-Some-clause-read
returns-in-Ok-Some-clause-read g c = reads-both _ _ _ _ _ _ c.loop.invariant.read c.step.ensures.read

pub returns-clause-refused : goal.returns-clause-refused
returns-clause-refused g c = (c.loop.invariant.yielded, inl (λ more. tt))
