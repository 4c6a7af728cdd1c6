use Rattle.std.proofs.Common.{◌≡◌, length, take, sym, arith}
use Rattle.std.proofs.lemmas.List.{length-take-le, take_all}
use Rattle.undo_index.proofs.text_key.head.Goals as goal

pub returns-then-text-le64-clause-head : goal.returns-then-text-le64-clause-head
returns-then-text-le64-clause-head c = sym (take_all 64 c.args.text.now c.if-text-le64.true)

pub slice_bounds-result-end : goal.slice_bounds-result-end
slice_bounds-result-end c = sym (length-take-le 64 c.args.text.now (omega (arith, c.if-text-le64.false)))

pub returns-else-text-le64-clause-short : goal.returns-else-text-le64-clause-short
returns-else-text-le64-clause-short c =
    let whole : length (take 64 c.args.text.now) ≡ 64 =
    length-take-le 64 c.args.text.now (omega (arith, c.if-text-le64.false)) in
    omega (arith, whole)
