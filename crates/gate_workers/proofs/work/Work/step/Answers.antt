use Rattle.std.proofs.Common.{Option, subst, refl, sym, ap, ◌∙◌}
use Rattle.std.proofs.Math.Logic.{∥∥₁_map}
use Rattle.gate_workers.specs.declared.link.Link.{Link}
use Rattle.gate_workers.specs.SharedWriters.{Ends, WriterKept}
use Rattle.gate_workers.proofs.SoFar.{none_of, stepped_on, stepped_over}
use Rattle.gate_workers.proofs.Keeping.{kept_on, kept_over, kept_written, same_link}
use Rattle.gate_workers.proofs.work.Work.step.Goals as goal

pub invariant_of-self-in-Some-ended : goal.invariant_of-self-in-Some-ended
invariant_of-self-in-Some-ended g c = record {
  kept =
      subst (λ (o : Option (Link _ _)). ∥ WriterKept g.W.Write.contents g.G.Gate.was_taken c.args.self.now.links o
      c.step-wrote.new.gate ∥₁) (sym c.take.ensures.after)
      (∥∥₁_map (subst (λ (o : Option (Link _ _)). ∥ WriterKept g.W.Write.contents g.G.Gate.was_taken
      c.args.self.now.links
      o c.args.self.now.gate ∥₁) (sym c.take.ensures.value ∙ c.in-Some.is) c.args.self.now.kept)
      (kept_over g.W.Write.contents g.G.Gate.was_taken c.args.self.now.links c.in-Some.link c.step-wrote.new.stream
      c.in-Some-ended.end c.args.self.now.gate c.step-wrote.new.gate
      (λ x l h. stepped_over c.args.self.now.links c.in-Some.link.writer c.step-wrote.new.self x _ _ l _ _ h
      c.step-wrote.result c.args.is_stopped c.step-wrote.ensures.writes
      (λ f q. let same = c.step-wrote.ensures.refused f q in
      (same.0, ap g.W.Write.contents same.1, ap g.G.Gate.was_taken same.2)) c.in-Some-ended.end
      (sym c.ended.ensures ∙ c.in-Some-ended.is))));
}

pub returns-in-Some-ended-clause-steps : goal.returns-in-Some-ended-clause-steps
returns-in-Some-ended-clause-steps g c =
    subst (λ (o : Option (Link _ _)). Ends g.W.Write.contents g.G.Gate.was_taken c.args.self.now.links
    c.in-Some-ended.end c.step-wrote.new.stream o c.take.new.self c.step-wrote.new.gate)
    (sym (sym c.take.ensures.value ∙ c.in-Some.is)) (
      c.take.ensures.after,
      ∥∥₁_map (subst (λ (o : Option (Link _ _)). ∥ WriterKept g.W.Write.contents g.G.Gate.was_taken
          c.args.self.now.links o
          c.args.self.now.gate ∥₁) (sym c.take.ensures.value ∙ c.in-Some.is) c.args.self.now.kept)
          (kept_written g.W.Write.contents g.G.Gate.was_taken c.args.self.now.links c.in-Some.link
          c.step-wrote.new.stream c.in-Some-ended.end c.args.self.now.gate c.step-wrote.new.gate
          (λ x l h. stepped_over c.args.self.now.links c.in-Some.link.writer c.step-wrote.new.self x _ _ l _ _ h
          c.step-wrote.result c.args.is_stopped c.step-wrote.ensures.writes
          (λ f q. let same = c.step-wrote.ensures.refused f q in
          (same.0, ap g.W.Write.contents same.1, ap g.G.Gate.was_taken same.2)) c.in-Some-ended.end
          (sym c.ended.ensures ∙ c.in-Some-ended.is))),
    )

pub invariant_of-self-2 : goal.invariant_of-self-2
invariant_of-self-2 g c = record {
  kept =
      ∥∥₁_map (subst (λ (o : Option (Link _ _)). ∥ WriterKept g.W.Write.contents g.G.Gate.was_taken
      c.args.self.now.links o
      c.args.self.now.gate ∥₁) (sym c.take.ensures.value ∙ c.in-Some.is) c.args.self.now.kept)
      (kept_on g.W.Write.contents g.G.Gate.was_taken c.args.self.now.links c.in-Some.link _ c.args.self.now.gate
      c.step-wrote.new.gate refl refl
      (λ x l h. stepped_on c.args.self.now.links c.in-Some.link.writer c.step-wrote.new.self x _ _ l _ _ h
      c.step-wrote.result c.args.is_stopped c.step-wrote.ensures.writes
      (λ f q. let same = c.step-wrote.ensures.refused f q in
      (same.0, ap g.W.Write.contents same.1, ap g.G.Gate.was_taken same.2))
      (sym c.ended.ensures ∙ none_of c.ended.result c.in_default-ended.not-Some) c.step-wrote.ensures.limit));
}

pub returns-then-has_taken-clause-steps : goal.returns-then-has_taken-clause-steps
returns-then-has_taken-clause-steps g c =
    same_link c.args.self.now.link c.in-Some.link
    (record {
      writer = c.step-wrote.new.self;
      stream = c.step-wrote.new.stream;
      gate_then =
          c.in-Some.link.gate_then;
      stream_then = c.in-Some.link.stream_then;
    })
    (sym c.take.ensures.value ∙ c.in-Some.is) refl refl

pub returns-else-has_taken-clause-steps : goal.returns-else-has_taken-clause-steps
returns-else-has_taken-clause-steps g c =
    same_link c.args.self.now.link c.in-Some.link
    (record {
      writer = c.step-wrote.new.self;
      stream = c.step-wrote.new.stream;
      gate_then =
          c.in-Some.link.gate_then;
      stream_then = c.in-Some.link.stream_then;
    })
    (sym c.take.ensures.value ∙ c.in-Some.is) refl refl
