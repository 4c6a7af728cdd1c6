use Rattle.std.proofs.Common.{ap, subst}
use Rattle.std.specs.Prelude.{Option}
use Rattle.wire_streams.specs.Buffer.{BytesHeld, LetsGo}
use Rattle.fix_framing.specs.declared.place.Framed.{Framed}
use Rattle.fix_framing.specs.Front.{IsFramed}
use Rattle.fix_framing.specs.Stream.{ReaderStanding, end_of}
use Rattle.fix_framing.proofs.Passing.{framed_there, gives}
use Rattle.fix_framing.proofs.framer.Framer.next.Goals as goal

pub pass-requires-clause-held : goal.pass-requires-clause-held
pass-requires-clause-held c =
    let f = c.self.inside in
    framed_there c.in-Some.framed f.is_over f.buffer.kept.held c.seek_frame.new.self.end
    (ap (λ (s : ReaderStanding). s.end) c.self.view_is)
    (subst (λ (o : Option Framed). IsFramed o c.seek_frame.new.self.end) c.in-Some.is c.in_ok-framed.ensures.framed)

pub returns : goal.returns
returns c =
    let f = c.self.inside in
    gives c.args.self.now c.seek_frame.new.self _ c.in-Some.framed f.is_over f.buffer.kept.held
    c.in_ok-framed.ensures.sought (ap (λ (s : ReaderStanding). s.end) c.self.view_is)
    (subst (λ (o : Option Framed). IsFramed o c.seek_frame.new.self.end) c.in-Some.is c.in_ok-framed.ensures.framed)
    (ap (end_of f.is_over) c.pass.ensures.passes.held)
    (ap (λ (s : ReaderStanding). s.skipped) c.self.view_is)
    (subst (λ (k : BytesHeld). LetsGo c.in-Some.framed.size k c.pass.new.self.kept)
    (ap (λ (s : ReaderStanding). s.kept) c.self.view_is) c.pass.ensures.passes)
