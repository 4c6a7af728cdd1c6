use Rattle.std.proofs.Common.{◌+◌, ◌∙◌, ap, refl, sym, map}
use Rattle.std.proofs.lemmas.Option.{slice_get_read}
use Rattle.gate_events.specs.Seen.{link_out_seen}
use Rattle.gate_events.specs.Closing.{is_link_closed}
use Rattle.gate_sessions.proofs.Closing.{client-closed, client-kept}
use Rattle.gate_sessions.proofs.links.close_client.Goals as goal

pub returns-then-closes_link-clause-links : goal.returns-then-closes_link-clause-links
returns-then-closes_link-clause-links c links are =
    let outs = map link_out_seen c.args.outs.now in
    client-closed (c.args.place + 1) outs links c.close.new.self.lines.items
    (ap (λ link. is_link_closed link outs) (sym
    (are c.args.place c.index.result.now (slice_get_read c.args.clients.now.lines.items _ c.args.place
    c.index.result.now refl c.requires.place c.index.ensures))) ∙ sym c.closes_link.ensures ∙ c.if-closes_link.true)
    (c.close.ensures.links links are)

pub returns-else-closes_link-clause-links : goal.returns-else-closes_link-clause-links
returns-else-closes_link-clause-links c links are =
    let outs = map link_out_seen c.args.outs.now in
    client-kept (c.args.place + 1) outs links c.args.clients.now.lines.items
    (ap (λ link. is_link_closed link outs) (sym
    (are c.args.place c.index.result.now (slice_get_read c.args.clients.now.lines.items _ c.args.place
    c.index.result.now refl c.requires.place c.index.ensures))) ∙ sym c.closes_link.ensures
    ∙ c.if-closes_link.false)
    are
