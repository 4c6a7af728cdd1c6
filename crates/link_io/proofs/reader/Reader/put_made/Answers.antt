use Rattle.std.proofs.Common.{true, false}
use Rattle.gate_events.specs.Seen.{event_seen}
use Rattle.link_io.proofs.Going.{puts_made}
use Rattle.link_io.proofs.reader.Reader.put_made.Goals as goal

pub returns-then-put_event-clause-puts : goal.returns-then-put_event-clause-puts
returns-then-put_event-clause-puts g c =
    let makes = rw c.in-Some.is at c.in-Ok.ensures.makes in
    puts_made g.D.Decoder.made g.D.Decoder.are_all c.args.at g.D.Decoder.to_make true c.args.self.now _
    c.put_event.new.self c.make.new.self (event_seen c.in-Some.event) (g.G.Gate.was_put c.args.gate.now)
    (g.G.Gate.was_put c.put_event.new.gate) c.self.view_is c.requires.put c.requires.fed makes.0 makes.1
    (rw c.in-Some.is at c.in-Ok.ensures.moment) c.if-put_event.ensures.offers

pub returns-else-put_event-clause-puts : goal.returns-else-put_event-clause-puts
returns-else-put_event-clause-puts g c =
    let makes = rw c.in-Some.is at c.in-Ok.ensures.makes in
    puts_made g.D.Decoder.made g.D.Decoder.are_all c.args.at g.D.Decoder.to_make false c.args.self.now _
    c.put_event.new.self c.make.new.self (event_seen c.in-Some.event) (g.G.Gate.was_put c.args.gate.now)
    (g.G.Gate.was_put c.put_event.new.gate) c.self.view_is c.requires.put c.requires.fed makes.0 makes.1
    (rw c.in-Some.is at c.in-Ok.ensures.moment) c.if-put_event.ensures.offers
