use Rattle.std.proofs.Common.{◌+◌, map, refl, ap, sym, ◌∙◌}
use Rattle.std.proofs.lemmas.Option.{slice_get_read}
use Rattle.soup_session.specs.States.{is_up}
use Rattle.gate_law.specs.Sessions.{sends}
use Rattle.gate_events.specs.Seen.{link_out_seen}
use Rattle.ouch_codec.specs.Inbound.{inbound_bytes}
use Rattle.gate_core.proofs.Growing.{ports-grow}
use Rattle.gate_core.proofs.Parted.{ports-parts, unsent, not-up}
use Rattle.gate_core.proofs.parts.Parts.send.Goals as goal

pub returns-in_err-outs-in-Up-clause-grows : goal.returns-in_err-outs-in-Up-clause-grows
returns-in_err-outs-in-Up-clause-grows g c =
    ports-grow c.args.self.now _ c.port_send_all.ensures.length c.port_send_all.ensures.next
    c.port_send_all.ensures.settled refl refl refl

pub returns-in_ok-outs-in-Up-clause-sent : goal.returns-in_ok-outs-in-Up-clause-sent
returns-in_ok-outs-in-Up-clause-sent g c s v parts only =
    record {
      parts = ports-parts s (c.args.place + 1) (sends c.args.at (map inbound_bytes c.args.messages.now)) v
          c.args.self.now _ parts
          (c.in_ok-outs-in-Up.ensures.leave s v.port_calls parts.ports)
          (c.port_send_all.ensures.links v.port_link parts.port_links)
          c.port_send_all.ensures.length refl refl refl;
      outs_are = c.in_ok-outs-in-Up.ensures.outs s v.port_calls v.port_link parts.ports parts.port_links;
    }

pub returns-in_ok-outs-in-Up-clause-grows : goal.returns-in_ok-outs-in-Up-clause-grows
returns-in_ok-outs-in-Up-clause-grows g c =
    ports-grow c.args.self.now _ c.port_send_all.ensures.length c.port_send_all.ensures.next
    c.port_send_all.ensures.settled refl refl refl

pub returns-in_default : goal.returns-in_default
returns-in_default g c = record {
  sent = λ s v parts only.
      let leaves = parts.ports c.args.place c.index.result.now
      (slice_get_read c.args.self.now.ports.lines.items _ c.args.place c.index.result.now refl c.requires.place
      c.index.ensures) in
      let stands = c.state.ensures.state s (c.args.place + 1) (v.port_calls (c.args.place + 1)) leaves in
      unsent s (c.args.place + 1) c.args.at (map inbound_bytes c.args.messages.now)
      (map link_out_seen c.new.result.items) v c.args.self.now parts
      (only (ap is_up (sym stands) ∙ not-up c.state.result c.in_default.not-Up))
      (ap (map link_out_seen) c.new.ensures.items);
  grows = ports-grow c.args.self.now c.args.self.now refl (λ n within. within) (λ was kept. kept) refl refl refl;
}
