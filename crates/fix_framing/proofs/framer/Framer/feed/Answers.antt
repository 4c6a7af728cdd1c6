use Rattle.std.proofs.Common.{◌≡◌, List, [], length, subst, arith, rules}
use Rattle.std.proofs.lemmas.List.{nil_from_length}
use Rattle.std.proofs.lemmas.Bool.Decides.{nat_tests}
use Rattle.fix_fields.specs.Field.{Field}
use Rattle.fix_framing.specs.Stream.{Over, Feeds}
use Rattle.fix_framing.proofs.Parts.{feeds_over}
use Rattle.fix_framing.proofs.Passing.{feeds_taken}
use Rattle.fix_framing.proofs.framer.Framer.feed.Goals as goal

pub returns-then-is_over-clause-too_long : goal.returns-then-is_over-clause-too_long
returns-then-is_over-clause-too_long c = λ _ fed left.
    let over : c.args.self.now.end ≡ Over = search rules in
    feeds_over fed c.args.piece.now c.args.self.now left over

pub returns-then-is_empty-clause-too_long : goal.returns-then-is_empty-clause-too_long
returns-then-is_empty-clause-too_long c = λ _ fed left.
    let open_ : c.args.self.now.end ≡ Over → ⊥ = search rules in
    let given = c.in_ok-frames.frames.items in
    let len : length given ≡ 0 = grind (
      arith,
      nat_tests,
      c.is_empty.ensures,
      c.if-is_empty.true,
      c.in_ok-frames.frames.ok,
    ) in
    let none : given ≡ [] = nil_from_length given len in
    subst (λ (g : List (List Field)). Feeds fed c.args.piece.now g c.take.new.self) none
    (feeds_taken fed c.args.piece.now given c.args.self.now c.take.new.self open_ c.in_ok-frames.ensures.taken left)

pub returns-clause-frames : goal.returns-clause-frames
returns-clause-frames c = λ fed left.
    let open_ : c.args.self.now.end ≡ Over → ⊥ = search rules in
    feeds_taken fed c.args.piece.now c.in_ok-frames.frames.items c.args.self.now c.take.new.self open_
    c.in_ok-frames.ensures.taken left
