use Rattle.std.proofs.Common.{Result, sym, subst}
use Rattle.link_io.specs.declared.writer.Wrote.{Wrote}
use Rattle.link_io.specs.declared.link_fault.LinkFault.{LinkFault}
use Rattle.link_io.specs.Writing.{Writes}
use Rattle.link_io.proofs.Refilling.{is_refused, writes_refused}
use Rattle.link_io.proofs.writer.BatchWriter.write_lists.Goals as goal

pub returns-in_err-refill-clause-writes : goal.returns-in_err-refill-clause-writes
returns-in_err-refill-clause-writes g c =
    let t = g.G.Gate.was_taken c.args.gate.now in
    let u = g.G.Gate.was_taken c.refill.new.gate in
    let s = g.W.Write.contents c.args.stream.now in
    subst (λ (r : Result Wrote LinkFault). Writes r c.args.self.now c.refill.new.self t u s s)
    (sym (is_refused c.from_residual.result c.from_residual.ensures.1))
    (writes_refused c.args.self.now c.refill.new.self t u s c.in_err-refill.ensures.refills)

pub returns-in_err-bytes-clause-writes : goal.returns-in_err-bytes-clause-writes
returns-in_err-bytes-clause-writes g c =
    let t = g.G.Gate.was_taken c.args.gate.now in
    let u = g.G.Gate.was_taken c.refill.new.gate in
    let s = g.W.Write.contents c.args.stream.now in
    subst (λ (r : Result Wrote LinkFault). Writes r c.args.self.now c.refill.new.self t u s s)
    (sym (is_refused c.from_residual-in_err-bytes.result c.from_residual-in_err-bytes.ensures.1))
    (writes_refused c.args.self.now c.refill.new.self t u s c.in_ok-refill.ensures.refills)
