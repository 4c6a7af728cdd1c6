use Rattle.std.proofs.Common.{sym, subst}
use Rattle.journal_file.specs.Reader.{GrowsStill, Reading}
use Rattle.journal_file.proofs.Streaming.{read-keeps}
use Rattle.journal_file.proofs.reader.DayReader.read_more.Goals as goal

pub invariant_of-self : goal.invariant_of-self
invariant_of-self g c =
    read-keeps c.self.inside.mode _ _ c.self.inside.window c.read.new.self _ _ _ c.read.result
    (subst (λ (r : Reading). GrowsStill r.mode) (sym c.self.view_is) c.requires) c.read.ensures c.self.invariant
