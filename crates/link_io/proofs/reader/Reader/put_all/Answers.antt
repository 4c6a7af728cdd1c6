use Rattle.std.proofs.Common.{◌∙◌, ◌<◌, ap, Bool, Result, sym, subst}
use Rattle.link_io.specs.declared.link_fault.LinkFault.{LinkFault}
use Rattle.link_io.specs.Reading.{Reading, Puts}
use Rattle.link_io.proofs.Going.{loop_start, put_err, put_none, put_on, puts_back, puts_fault, puts_given_back}
use Rattle.link_io.proofs.Going.{puts_nothing}
use Rattle.link_io.proofs.reader.Reader.put_all.Goals as goal

pub loop-next-init : goal.loop-next-init
loop-next-init g c =
    let offers = c.if-not-offer.ensures.offers in
    let start = loop_start g.D.Decoder.made g.D.Decoder.are_all c.args.at c.args.self.now c.offer.new.self
    c.feed.new.self (g.G.Gate.was_put c.args.gate.now)
    (g.G.Gate.was_put c.offer.new.gate) offers c.in_ok-feed.ensures.ok in
    record {
      put = start.0;
      offered = start.1;
      piece = c.in_ok-feed.ensures.ok.piece;
      limit = c.in_ok-feed.ensures.limit ∙ ap (λ (r : Reading g.row.D.Denot). r.limit) offers.0;
      source = c.in_ok-feed.ensures.source ∙ ap (λ (r : Reading g.row.D.Denot). g.D.Decoder.source r.decoder) offers.0;
      none_taken = c.if-not-offer.ensures.none_taken;
    }

pub returns-then-not-offer-clause-puts : goal.returns-then-not-offer-clause-puts
returns-then-not-offer-clause-puts g c =
    let x = g.G.Gate.was_put c.args.gate.now in
    puts_back g.D.Decoder.made g.D.Decoder.are_all c.args.at c.args.self.now c.args.self.now c.offer.new.self x x
    (g.G.Gate.was_put c.offer.new.gate)
    (put_none g.D.Decoder.made g.D.Decoder.are_all c.args.at c.args.self.now x) c.if-not-offer.ensures.offers

pub returns-in_err-next-clause-puts : goal.returns-in_err-next-clause-puts
returns-in_err-next-clause-puts g c =
    subst (λ (r : Result Bool LinkFault). Puts g.D.Decoder.made g.D.Decoder.are_all c.args.at r c.args.self.now
    c.put_next.new.self (g.G.Gate.was_put c.args.gate.now) (g.G.Gate.was_put c.put_next.new.gate))
    (sym (put_err c.from_residual-in_err-next.result c.in_err-next.field-0.0 c.from_residual-in_err-next.ensures.1))
    (puts_fault g.D.Decoder.made g.D.Decoder.are_all c.args.at g.D.Decoder.to_make c.in_err-next.field-0.0
    c.args.self.now c.loop-next.self c.put_next.new.self (g.G.Gate.was_put c.args.gate.now)
    (g.G.Gate.was_put c.loop-next.gate) (g.G.Gate.was_put c.put_next.new.gate) c.loop-next.invariant.put
    c.loop-next.invariant.offered c.in_err-next.ensures.puts)

pub returns-in-GivenBack-clause-puts : goal.returns-in-GivenBack-clause-puts
returns-in-GivenBack-clause-puts g c =
    puts_given_back g.D.Decoder.made g.D.Decoder.are_all c.args.at g.D.Decoder.to_make c.args.self.now
    c.loop-next.self c.put_next.new.self (g.G.Gate.was_put c.args.gate.now) (g.G.Gate.was_put c.loop-next.gate)
    (g.G.Gate.was_put c.put_next.new.gate) c.loop-next.invariant.put c.loop-next.invariant.offered
    (rw c.in-GivenBack.is at c.in_ok-next.ensures.puts)

pub returns-in-Nothing-clause-puts : goal.returns-in-Nothing-clause-puts
returns-in-Nothing-clause-puts g c =
    puts_nothing g.D.Decoder.made g.D.Decoder.are_all c.args.at g.D.Decoder.to_make c.args.self.now
    c.loop-next.self c.put_next.new.self (g.G.Gate.was_put c.args.gate.now) (g.G.Gate.was_put c.loop-next.gate)
    (g.G.Gate.was_put c.put_next.new.gate) c.loop-next.invariant.put c.loop-next.invariant.offered
    (rw c.in-Nothing.is at c.in_ok-next.ensures.puts)

pub loop-next-smaller : goal.loop-next-smaller
loop-next-smaller g c =
    let one = rw c.in-Put.is at c.in_ok-next.ensures.puts in
    subst (λ (r : Reading g.row.D.Denot). g.D.Decoder.to_make r.decoder < g.D.Decoder.to_make c.loop-next.self.decoder)
    (sym one.offers.0) one.makes.2

pub loop-next-preserved : goal.loop-next-preserved
loop-next-preserved g c =
    let one = rw c.in-Put.is at c.in_ok-next.ensures.puts in
    record {
      put = put_on g.D.Decoder.made g.D.Decoder.are_all c.args.at g.D.Decoder.to_make c.args.self.now c.loop-next.self
          c.put_next.new.self (g.G.Gate.was_put c.args.gate.now) (g.G.Gate.was_put c.loop-next.gate)
          (g.G.Gate.was_put c.put_next.new.gate) c.loop-next.invariant.put c.loop-next.invariant.offered one;
      offered = ap (λ (r : Reading g.row.D.Denot). r.offered) one.offers.0;
      piece = ap (λ (r : Reading g.row.D.Denot). r.piece) one.offers.0 ∙ one.makes.1;
      limit = c.in_ok-next.ensures.limit ∙ c.loop-next.invariant.limit;
      source = c.in_ok-next.ensures.source ∙ c.loop-next.invariant.source;
      none_taken = c.in_ok-next.ensures.none_taken ∙ c.loop-next.invariant.none_taken;
    }
