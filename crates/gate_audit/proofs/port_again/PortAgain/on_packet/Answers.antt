use Rattle.std.proofs.lemmas.Result.{IfOk-weaker}
use Rattle.gate_audit.proofs.Heard.{heard-more}
use Rattle.gate_audit.proofs.port_again.PortAgain.on_packet.Goals as goal

pub returns-clause-again : goal.returns-clause-again
returns-clause-again c =
    IfOk-weaker c.push_message.result _ _
    (λ u handled terms r again. record {
      link = again.link;
      session = c.on_packet-turn.ensures.leaves terms r.calls again.session;
      handled = heard-more terms r.calls c.args.packet.now _ c.on_packet-turn.result c.message_of-message.result
          r.handled c.args.self.now.handled.items _
          (c.on_packet-turn.ensures.answers terms r.calls again.session) c.message_of-message.ensures again.handled
          handled;
    })
    c.push_message.ensures
