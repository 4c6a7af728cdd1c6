use Rattle.std.proofs.Common.{ap, subst}
use Rattle.wire_streams.specs.Buffer.{BytesHeld, LetsGo}
use Rattle.fix_framing.specs.Stream.{ReaderStanding, end_of}
use Rattle.fix_framing.proofs.Passing.{none_passed, size_there, passes}
use Rattle.fix_framing.proofs.framer.Framer.pass.Goals as goal

pub returns-in_default : goal.returns-in_default
returns-in_default c = none_passed c.args.self.now c.seek.new.self c.in_default.ensures.sought c.in_default.ensures.seen

pub pass-requires-clause-held : goal.pass-requires-clause-held
pass-requires-clause-held c =
    let f = c.self.inside in
    size_there c.in-Some.size f.is_over f.buffer.kept.held c.seek.new.self.end
    (ap (λ (s : ReaderStanding). s.end) c.self.view_is) c.in-Some.ensures.seen

pub returns : goal.returns
returns c =
    let f = c.self.inside in
    passes c.args.self.now c.seek.new.self _ c.in-Some.size f.is_over f.buffer.kept.held c.in-Some.ensures.sought
    (ap (λ (s : ReaderStanding). s.end) c.self.view_is) c.in-Some.ensures.seen
    (ap (end_of f.is_over) c.pass.ensures.passes.held)
    (ap (λ (s : ReaderStanding). s.skipped) c.self.view_is)
    (subst (λ (k : BytesHeld). LetsGo c.in-Some.size k c.pass.new.self.kept)
    (ap (λ (s : ReaderStanding). s.kept) c.self.view_is) c.pass.ensures.passes)
