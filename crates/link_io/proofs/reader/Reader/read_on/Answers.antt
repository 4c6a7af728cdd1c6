use Rattle.std.proofs.Common.{◌≡◌, ◌≤◌, ap, true, false, Result, refl, sym, subst, inl, inr, rules, arith}
use Rattle.link_io.specs.declared.link_fault.LinkFault.{LinkFault}
use Rattle.link_io.specs.declared.progress.Progress.{Progress}
use Rattle.link_io.specs.Reading.{Reading, Reads}
use Rattle.link_io.proofs.Going.{read_err, reads_refused, reads_err, reads_held, reads_failed, reads_end, reads_on_err}
use Rattle.link_io.proofs.Going.{reads_on_held, reads_on_all}
use Rattle.link_io.proofs.Answering.{by_making, by_failing, by_ending}
use Rattle.link_io.proofs.reader.Reader.read_on.Goals as goal

pub returns-in_err-put_rest-clause-reads : goal.returns-in_err-put_rest-clause-reads
returns-in_err-put_rest-clause-reads g c =
    subst (λ (r : Result Progress LinkFault). Reads g.D.Decoder.made g.D.Decoder.are_all c.args.at r c.args.self.now
    c.put_rest.new.self (g.G.Gate.was_put c.args.gate.now) (g.G.Gate.was_put c.put_rest.new.gate)
    (g.R.Read.remaining c.args.stream.now) (g.R.Read.remaining c.args.stream.now))
    (sym (read_err c.from_residual.result c.in_err-put_rest.field-0.0 c.from_residual.ensures.1))
    (reads_err g.D.Decoder.made g.D.Decoder.are_all c.args.at c.in_err-put_rest.field-0.0 c.args.self.now
    c.put_rest.new.self
    (g.G.Gate.was_put c.args.gate.now) (g.G.Gate.was_put c.put_rest.new.gate)
    (g.R.Read.remaining c.args.stream.now) c.in_err-put_rest.ensures.puts)

pub returns-then-not-branch-clause-reads : goal.returns-then-not-branch-clause-reads
returns-then-not-branch-clause-reads g c =
    let held : c.in_ok-put_rest.field-0 ≡ false = search rules in
    reads_held g.D.Decoder.made g.D.Decoder.are_all c.args.at c.args.self.now c.put_rest.new.self
    (g.G.Gate.was_put c.args.gate.now) (g.G.Gate.was_put c.put_rest.new.gate)
    (g.R.Read.remaining c.args.stream.now) (rw held at c.in_ok-put_rest.ensures.puts)

pub returns-in_err-count-clause-reads : goal.returns-in_err-count-clause-reads
returns-in_err-count-clause-reads g c =
    let all : c.in_ok-put_rest.field-0 ≡ true = search rules in
    reads_refused g.D.Decoder.made g.D.Decoder.are_all c.args.at c.from_residual-in_err-count.result
    c.in_err-count.field-0.0 c.args.self.now _ (g.G.Gate.was_put c.args.gate.now)
    (g.G.Gate.was_put c.put_rest.new.gate) (g.R.Read.remaining c.args.stream.now) (g.R.Read.remaining c.fill.new.stream)
    (read_err c.from_residual-in_err-count.result c.in_err-count.field-0.0 c.from_residual-in_err-count.ensures.1)
    (reads_failed g.D.Decoder.made g.D.Decoder.are_all c.args.at c.in_err-count.field-0.0 c.args.self.now
    c.put_rest.new.self _ c.fill.new.self
    (g.G.Gate.was_put c.args.gate.now) (g.G.Gate.was_put c.put_rest.new.gate) (g.R.Read.remaining c.args.stream.now)
    (g.R.Read.remaining c.fill.new.stream)
    (rw all at c.in_ok-put_rest.ensures.puts) (ap
    (λ (r : Reading g.row.D.Denot). record r { piece = c.fill.new.self }) c.self.view_is)
    c.in_err-count.ensures.fills)

pub returns-then-count-eq0-clause-reads : goal.returns-then-count-eq0-clause-reads
returns-then-count-eq0-clause-reads g c =
    let all : c.in_ok-put_rest.field-0 ≡ true = search rules in
    reads_end g.D.Decoder.made g.D.Decoder.are_all c.args.at c.in_ok-count.count c.args.self.now c.put_rest.new.self _
    c.fill.new.self
    (g.G.Gate.was_put c.args.gate.now) (g.G.Gate.was_put c.put_rest.new.gate) (g.R.Read.remaining c.args.stream.now)
    (g.R.Read.remaining c.fill.new.stream)
    (rw all at c.in_ok-put_rest.ensures.puts) (ap
    (λ (r : Reading g.row.D.Denot). record r { piece = c.fill.new.self }) c.self.view_is)
    c.in_ok-count.ensures.fills c.if-count-eq0.true

pub returns-in_err-put_all-clause-reads : goal.returns-in_err-put_all-clause-reads
returns-in_err-put_all-clause-reads g c =
    let all : c.in_ok-put_rest.field-0 ≡ true = search rules in
    subst (λ (r : Result Progress LinkFault). Reads g.D.Decoder.made g.D.Decoder.are_all c.args.at r c.args.self.now
    c.put_all.new.self (g.G.Gate.was_put c.args.gate.now) (g.G.Gate.was_put c.put_all.new.gate)
    (g.R.Read.remaining c.args.stream.now) (g.R.Read.remaining c.fill.new.stream))
    (sym (read_err c.from_residual-in_err-put_all.result c.in_err-put_all.field-0.0
    c.from_residual-in_err-put_all.ensures.1))
    (reads_on_err g.D.Decoder.made g.D.Decoder.are_all c.args.at c.in_err-put_all.field-0.0 c.in_ok-count.count
    c.args.self.now c.put_rest.new.self _
    c.put_all.new.self c.fill.new.self (g.G.Gate.was_put c.args.gate.now) (g.G.Gate.was_put c.put_rest.new.gate)
    (g.G.Gate.was_put c.put_all.new.gate)
    (g.R.Read.remaining c.args.stream.now) (g.R.Read.remaining c.fill.new.stream)
    (rw all at c.in_ok-put_rest.ensures.puts)
    (ap (λ (r : Reading g.row.D.Denot). record r { piece = c.fill.new.self }) c.self.view_is)
    c.in_ok-count.ensures.fills c.in_err-put_all.ensures.puts)

pub returns-then-not-branch-2-clause-reads : goal.returns-then-not-branch-2-clause-reads
returns-then-not-branch-2-clause-reads g c =
    let all : c.in_ok-put_rest.field-0 ≡ true = search rules in
    let held : c.in_ok-put_all.field-0 ≡ false = search rules in
    reads_on_held g.D.Decoder.made g.D.Decoder.are_all c.args.at c.in_ok-count.count c.args.self.now c.put_rest.new.self
    _
    c.put_all.new.self c.fill.new.self (g.G.Gate.was_put c.args.gate.now) (g.G.Gate.was_put c.put_rest.new.gate)
    (g.G.Gate.was_put c.put_all.new.gate)
    (g.R.Read.remaining c.args.stream.now) (g.R.Read.remaining c.fill.new.stream)
    (rw all at c.in_ok-put_rest.ensures.puts)
    (ap (λ (r : Reading g.row.D.Denot). record r { piece = c.fill.new.self }) c.self.view_is)
    c.in_ok-count.ensures.fills (rw held at c.in_ok-put_all.ensures.puts)

pub returns-clause-reads : goal.returns-clause-reads
returns-clause-reads g c =
    let all : c.in_ok-put_rest.field-0 ≡ true = search rules in
    let rest : c.in_ok-put_all.field-0 ≡ true = search rules in
    let some : 1 ≤ c.in_ok-count.count = omega (arith, c.if-count-eq0.false) in
    reads_on_all g.D.Decoder.made g.D.Decoder.are_all c.args.at c.in_ok-count.count c.args.self.now c.put_rest.new.self
    _
    c.put_all.new.self c.fill.new.self (g.G.Gate.was_put c.args.gate.now) (g.G.Gate.was_put c.put_rest.new.gate)
    (g.G.Gate.was_put c.put_all.new.gate)
    (g.R.Read.remaining c.args.stream.now) (g.R.Read.remaining c.fill.new.stream)
    (rw all at c.in_ok-put_rest.ensures.puts)
    (ap (λ (r : Reading g.row.D.Denot). record r { piece = c.fill.new.self }) c.self.view_is)
    c.in_ok-count.ensures.fills some (rw rest at c.in_ok-put_all.ensures.puts)

pub returns-in_err-put_rest-clause-answered : goal.returns-in_err-put_rest-clause-answered
returns-in_err-put_rest-clause-answered g c =
    by_making g.R.Source.did_read c.args.stream.now c.args.stream.now g.D.Decoder.made g.D.Decoder.are_all c.args.at
    c.from_residual.result c.in_err-put_rest.field-0.0
    c.args.self.now c.put_rest.new.self (g.G.Gate.was_put c.args.gate.now) (g.G.Gate.was_put c.put_rest.new.gate)
    (read_err c.from_residual.result c.in_err-put_rest.field-0.0 c.from_residual.ensures.1)
    c.in_err-put_rest.ensures.puts
    (inl refl)

pub returns-in_err-count-clause-answered : goal.returns-in_err-count-clause-answered
returns-in_err-count-clause-answered g c =
    by_failing g.R.Source.did_read c.args.stream.now c.fill.new.stream c.from_residual-in_err-count.result
    c.in_err-count.field-0.0 c.fill.new.self
    (g.R.Read.remaining c.args.stream.now) (g.R.Read.remaining c.fill.new.stream)
    (read_err c.from_residual-in_err-count.result c.in_err-count.field-0.0 c.from_residual-in_err-count.ensures.1)
    c.in_err-count.ensures.fills c.in_err-count.ensures.answered

pub returns-then-count-eq0-clause-answered : goal.returns-then-count-eq0-clause-answered
returns-then-count-eq0-clause-answered g c =
    by_ending g.R.Source.did_read c.args.stream.now c.fill.new.stream c.in_ok-count.count c.if-count-eq0.true
    c.in_ok-count.ensures.answered

pub returns-in_err-put_all-clause-answered : goal.returns-in_err-put_all-clause-answered
returns-in_err-put_all-clause-answered g c =
    by_making g.R.Source.did_read c.args.stream.now c.fill.new.stream g.D.Decoder.made g.D.Decoder.are_all c.args.at
    c.from_residual-in_err-put_all.result c.in_err-put_all.field-0.0
    _ c.put_all.new.self (g.G.Gate.was_put c.put_rest.new.gate) (g.G.Gate.was_put c.put_all.new.gate)
    (read_err c.from_residual-in_err-put_all.result c.in_err-put_all.field-0.0
    c.from_residual-in_err-put_all.ensures.1) c.in_err-put_all.ensures.puts
    (inr (c.in_ok-count.count, c.in_ok-count.ensures.answered))

pub returns-then-not-branch-2-clause-answered : goal.returns-then-not-branch-2-clause-answered
returns-then-not-branch-2-clause-answered g c = inr (c.in_ok-count.count, c.in_ok-count.ensures.answered)
