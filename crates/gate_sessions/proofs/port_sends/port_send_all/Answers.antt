use Rattle.std.proofs.Common.{◌≡◌, ◌+◌, ◌++◌, ◌∷◌, [], ℕ, List, Option, ap, ◌∙◌, map, refl, subst, sym, take}
use Rattle.std.proofs.lemmas.List.{take_all}
use Rattle.std.proofs.lemmas.Option.{slice_get_read}
use Rattle.gate_law.specs.order_law.ouch_codec.Inbound.{inbound_bytes}
use Rattle.gate_law.specs.Sessions.{port_outs, sends, to_port}
use Rattle.gate_sessions.specs.Lines.{PortsLeave, called_all}
use Rattle.gate_sessions.proofs.Several.{called-all-more}
use Rattle.gate_law.specs.soup_session.Table.{PortCall, Send}
use Rattle.gate_events.specs.Seen.{link_out_seen}
use Rattle.gate_sessions.proofs.PortSends.{outs-more, sends-more}
use Rattle.gate_sessions.proofs.port_sends.port_send_all.Goals as goal

pub loop-message-preserved : goal.loop-message-preserved
loop-message-preserved c =
    let n = c.args.place + 1 in
    let at = c.args.at in
    let messages = c.args.messages.now in
    let i = c.loop-message.message-index in
    let before = sends at (map inbound_bytes (take i messages)) in
    let call = Send (inbound_bytes c.message-item.result) at in
    let more : sends at (map inbound_bytes (take (i + 1) messages)) ≡ before ++ call ∷ [] =
    sends-more at messages i c.message-item.result c.loop-message-test.true c.message-item.is in
    let so_far = c.loop-message.invariant in
    let this = c.in_ok-send_one.ensures in
    record {
      leave = λ s calls k. subst (λ (made : ℕ → List PortCall). PortsLeave s made c.send_one.new.ports.lines.items)
          (sym (ap (λ (cs : List PortCall). called_all n cs calls) more ∙ called-all-more n before call calls))
          (this.leave s (called_all n before calls) (so_far.leave s calls k));
      outs = λ s calls k. outs-more s n c.index.result.now.link calls before call
          (map link_out_seen c.loop-message.outs.items) (map link_out_seen c.send_one.new.outs.items)
          (so_far.outs s calls k) (this.outs s (called_all n before calls) (so_far.leave s calls k))
          ∙ ap (λ (cs : List PortCall). to_port c.index.result.now.link (port_outs s n (calls n) cs)) (sym more);
      links = λ links k. c.send_one.ensures.links links (so_far.links links k);
      next = λ m k. c.send_one.ensures.next m (so_far.next m k);
      settled = λ was k. c.send_one.ensures.settled was (so_far.settled was k);
      up = this.up;
      length = c.send_one.ensures.length ∙ so_far.length;
    }

pub returns-in_err-send_one-clause-links : goal.returns-in_err-send_one-clause-links
returns-in_err-send_one-clause-links c = λ links k. c.send_one.ensures.links links
    (c.loop-message.invariant.links links k)

pub returns-in_err-send_one-clause-next : goal.returns-in_err-send_one-clause-next
returns-in_err-send_one-clause-next c = λ m k. c.send_one.ensures.next m (c.loop-message.invariant.next m k)

pub returns-in_err-send_one-clause-settled : goal.returns-in_err-send_one-clause-settled
returns-in_err-send_one-clause-settled c =
    λ was k. c.send_one.ensures.settled was (c.loop-message.invariant.settled was k)

pub returns-clause-outs : goal.returns-clause-outs
returns-clause-outs c =
    let n = c.args.place + 1 in
    let messages = c.args.messages.now in
    let i = c.loop-message.message-index in
    λ s calls links k are. c.loop-message.invariant.outs s calls k
    ∙ ap (λ (ms : List _). to_port c.index.result.now.link
    (port_outs s n (calls n) (sends c.args.at (map inbound_bytes ms))))
    (take_all i messages c.loop-message-test.false)
    ∙ ap (λ (link : Option ℕ). to_port link (port_outs s n (calls n) (sends c.args.at (map inbound_bytes messages))))
    (are c.args.place c.index.result.now (slice_get_read c.args.ports.now.lines.items _ c.args.place c.index.result.now
    refl c.requires.place c.index.ensures))
