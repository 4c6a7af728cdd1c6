use Rattle.std.proofs.Common.{◌∙◌, refl, ap, rules}
use Rattle.std.proofs.lemmas.Result.{on_ok_weaker}
use Rattle.fix_framing.specs.Stream.{ReaderStanding, end_of}
use Rattle.fix_framing.proofs.Passing.{over_end, over_longer, longer_end, passed_more, put_remembered}
use Rattle.fix_framing.proofs.framer.Framer.put.Goals as goal

pub returns-then-self-clause-passed : goal.returns-then-self-clause-passed
returns-then-self-clause-passed c = λ taken passed before.
    let over = over_end c.self.inside.is_over c.self.inside.buffer.kept.held c.args.self.now.end
    (ap (λ (s : ReaderStanding). s.end) c.self.view_is) c.if-self.true in
    passed_more taken c.args.piece.now passed c.args.self.now c.args.self.now
    (over_longer c.args.self.now.end c.args.piece.now over) refl before

pub invariant_of-self : goal.invariant_of-self
invariant_of-self c = (
  search rules,
  put_remembered c.self.inside.seen c.put.result c.args.piece.now c.self.inside.buffer c.put.new.self
      c.put.ensures.takes c.put.ensures.err c.self.invariant.1,
)

pub returns-clause-passed : goal.returns-clause-passed
returns-clause-passed c =
    let f = c.self.inside in
    on_ok_weaker c.put.result (λ t taken passed before.
    passed_more taken c.args.piece.now passed c.args.self.now _
    (ap (end_of f.is_over) t.held ∙ longer_end f.is_over f.buffer.kept.held c.args.piece.now c.args.self.now.end
    (ap (λ (s : ReaderStanding). s.end) c.self.view_is) c.if-self.false)
    (ap (λ (s : ReaderStanding). s.skipped) c.self.view_is) before) c.put.ensures.takes
