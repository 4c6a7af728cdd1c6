use Rattle.std.proofs.Common.{◌≡◌, ◌∙◌, ap, sym, subst, drop, List, ℕ, arith}
use Rattle.wire_streams.specs.Buffer.{BytesHeld, LetsGo}
use Rattle.fix_framing.specs.Stream.{ReaderStanding, Rest, end_of}
use Rattle.fix_framing.proofs.Passing.{open_end, sought_frame}
use Rattle.fix_framing.proofs.framer.Framer.seek_frame.Goals as goal

pub returns-clause-sought : goal.returns-clause-sought
returns-clause-sought c =
    let f = c.self.inside in
    let next = c.in_ok-next.next in
    let held = c.held.result.now in
    let same : held ≡ f.buffer.kept.held = c.held.ensures in
    let was : c.args.self.now.end ≡ Rest held =
    open_end f.is_over f.buffer.kept.held c.args.self.now.end
    (ap (λ (s : ReaderStanding). s.end) c.self.view_is) c.if-self.false ∙ ap (λ (s : List ℕ). Rest s) (sym same) in
    sought_frame c.args.self.now _ held next.skipped next.frame next.is_over was c.in_ok-next.ensures.0
    c.in_ok-next.ensures.1
    (ap (end_of next.is_over) (c.let_go.ensures.passes.held ∙ ap (drop next.skipped) (sym same)))
    (omega (arith, c.saturating_add-self-inside.ensures, ap (λ (s : ReaderStanding). s.skipped) c.self.view_is))
    (subst (λ (k : BytesHeld). LetsGo next.skipped k c.let_go.new.buffer.kept)
    (ap (λ (s : ReaderStanding). s.kept) c.self.view_is) c.let_go.ensures.passes)
