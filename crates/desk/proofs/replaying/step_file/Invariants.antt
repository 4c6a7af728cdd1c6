use Rattle.std.proofs.Common.{◌≡◌, length}
use Rattle.journal_pages.specs.declared.version.Version.TheVariants.{Two}
use Rattle.desk_steps.specs.gate_journal.Day.{day_records}
use Rattle.journal_file.specs.File.{sized_pages}
use Rattle.desk.proofs.replaying.step_file.Given as goal

-- the history has what was read so far, and there are as many inlets
abbrev pub invariant-loop : goal.invariant-loop
invariant-loop g l = record {
  same : day_records Two l.desk.recorded.kept.pages ≡ day_records Two l.reader.yielded;
  written : l.written ≡ sized_pages Two l.reader.yielded;
  count : length l.inlets.items ≡ length l.initial.inlets.items;
}
