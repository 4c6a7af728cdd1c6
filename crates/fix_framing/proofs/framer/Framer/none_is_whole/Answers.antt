use Rattle.std.proofs.Common.{ap}
use Rattle.fix_framing.specs.Stream.{ReaderStanding}
use Rattle.fix_framing.proofs.Passing.{open_end, none_framed}
use Rattle.fix_framing.proofs.framer.Framer.none_is_whole.Goals as goal

pub returns-else-self : goal.returns-else-self
returns-else-self c = λ old sought.
    let f = c.self.inside in
    none_framed old c.args.self.now f.buffer.kept.held
    (open_end f.is_over f.buffer.kept.held c.args.self.now.end
    (ap (λ (s : ReaderStanding). s.end) c.self.view_is) c.if-self.false)
    c.requires sought
