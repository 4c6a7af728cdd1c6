use Rattle.std.proofs.Common.{◌≤◌, ◌+◌, ◌%◌, ℕ, List, length, ap, arith}
use Rattle.journal_file.proofs.Summed.{filled-up}
use Rattle.journal_file.proofs.running_sum.RunningSum.fill.Goals as goal

-- the word is filled
pub invariant_of-self : goal.invariant_of-self
invariant_of-self c =
    let r = c.self.invariant in
    let few : c.self.inside.size % 8 + length c.args.piece.now ≤ 8 =
    omega (arith, c.requires.room, ap (λ (l : List ℕ). length l) c.self.view_is, r.sized) in
    rw (c.note.ensures, c.mixed-self-inside.ensures, c.first_word.ensures)
    (filled-up c.self.inside.noted.bytes c.args.piece.now c.self.inside.word c.put.new.word c.self.inside.sum
    c.self.inside.size r (omega (arith, few, c.requires.some, c.if-self-eq0.true)) c.put.ensures.length
    c.put.ensures.written)
