use Rattle.std.proofs.Common.{Bool, true, false, rules, refl, sym, subst, ◌∙◌}
use Rattle.std.proofs.KnownBytes.{Consumes-nil}
use Rattle.std.specs.Io.KnownBytes.{Consumes, prepend_known}
use Rattle.wire_streams.specs.Pieces.{HasNoNewline, TakesLine, ReadsPiece}
use Rattle.wire_streams.proofs.Cutting.{longer-none, read-more, gives-whole, gives-last, emptied}
use Rattle.wire_streams.proofs.lines.Lines.line.Goals as goal

pub loop-init : goal.loop-init
loop-init g c = record {
  going = c.requires;
  none = subst HasNoNewline (sym c.new-line.ensures.items) (search rules);
  taken = subst (λ line. Consumes (prepend_known c.args.self.now.piece (g.R.Read.remaining c.args.input.now))
      (prepend_known c.args.self.now.piece (g.R.Read.remaining c.args.input.now)) line)
      (sym c.new-line.ensures.items)
      (Consumes-nil (prepend_known c.args.self.now.piece (g.R.Read.remaining c.args.input.now)));
}

pub loop-preserved : goal.loop-preserved
loop-preserved g c =
    let was = c.loop.invariant in
    let takes = subst (λ (b : Bool). TakesLine c.loop.self.piece c.loop.line.items c.take_line.new.self
    c.take_line.new.line.items b) c.if-branch.false c.in_ok-take_line.ensures in
    let reads = subst (λ (b : Bool). ReadsPiece (g.R.Read.remaining c.loop.input)
    (g.R.Read.remaining c.read.new.input) c.read.new.self.piece b) c.if-not-branch.false c.in_ok-read.ensures.piece
    in
    record {
      going = c.read.ensures.end ∙ was.going;
      none = longer-none _ _ _ _ false was.none takes;
      taken = read-more _ _ _ _ _ (emptied _ _ _ _ _ _ was.taken takes) reads;
    }

pub returns-then-branch : goal.returns-then-branch
returns-then-branch g c =
    let was = c.loop.invariant in
    let takes = subst (λ (b : Bool). TakesLine c.loop.self.piece c.loop.line.items c.take_line.new.self
    c.take_line.new.line.items b) c.if-branch.true c.in_ok-take_line.ensures in
    gives-whole _ _ _ _ _ _ _ _ c.requires was.going was.taken was.none takes

pub returns-then-not-branch : goal.returns-then-not-branch
returns-then-not-branch g c =
    let was = c.loop.invariant in
    let takes = subst (λ (b : Bool). TakesLine c.loop.self.piece c.loop.line.items c.take_line.new.self
    c.take_line.new.line.items b) c.if-branch.false c.in_ok-take_line.ensures in
    let reads = subst (λ (b : Bool). ReadsPiece (g.R.Read.remaining c.loop.input)
    (g.R.Read.remaining c.read.new.input) c.read.new.self.piece b) c.if-not-branch.true c.in_ok-read.ensures.piece
    in
    gives-last c.args.self.now.is_over true _ _ _ _ _ c.requires refl (emptied _ _ _ _ _ _ was.taken takes)
    (longer-none _ _ _ _ false was.none takes) reads
