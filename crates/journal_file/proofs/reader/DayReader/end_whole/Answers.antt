use Rattle.std.proofs.Common.{ap, ◌∙◌}
use Rattle.journal_days.specs.Cut.{texts}
use Rattle.journal_file.specs.Reader.{Reading}
use Rattle.journal_file.specs.Window.{Bytes}
use Rattle.journal_file.proofs.Streaming.{failed}
use Rattle.journal_file.proofs.reader.DayReader.end_whole.Goals as goal

pub returns-in-Err : goal.returns-in-Err
returns-in-Err g c =
    failed _ _ c.args.self.now _ c.in-Err.fault (
      ap {A = Bytes} {B = Reading} (λ (w : Bytes). record {
        mode = c.self.inside.mode;
        read = w.read;
        left = w.left;
        taken = c.self.inside.judge;
        held = texts c.self.inside.held.items;
        yielded = c.self.inside.yielded.pages;
      }) c.in-Err.ensures.0 ∙ c.self.view_is,
      c.in-Err.ensures.1,
      c.in-Err.ensures.2,
    )
