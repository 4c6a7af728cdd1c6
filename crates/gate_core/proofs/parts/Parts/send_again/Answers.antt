use Rattle.std.proofs.Common.{◌≡◌, ◌+◌, List, map, true, false, sym, ap, ◌∙◌, subst}
use Rattle.std.proofs.lemmas.Result.{IfOk-weaker}
use Rattle.ouch_codec.specs.Inbound.{inbound_bytes}
use Rattle.ouch_codec.specs.declared.inbound.Inbound.{Inbound}
use Rattle.soup_session.specs.States.{is_up}
use Rattle.gate_law.specs.Sessions.{port_state}
use Rattle.gate_sessions.specs.order_law.Headline.{EachWith, SaysIn}
use Rattle.gate_sessions.specs.order_law.History.{outstanding}
use Rattle.gate_law.specs.Settings.{terms}
use Rattle.gate_core.specs.Hearing.{AreDue}
use Rattle.gate_core.proofs.PortPackets.{comes-up}
use Rattle.gate_core.proofs.parts.Parts.send_again.Goals as goal

pub returns-clause-sent : goal.returns-clause-sent
returns-clause-sent g c =
    let p = c.args.place + 1 in
    let ms = map inbound_bytes c.deref.result.now in
    IfOk-weaker c.send.result _ _
    (λ outs sent s v parts few.
    let up : is_up (port_state s p (v.port_calls p)) ≡ true = ap is_up (sym (c.port_state.ensures.state s v parts))
    ∙ sym c.is_up-else-is_up.ensures ∙ c.if-not-is_up.false in
    record {
      messages = ms;
      due = subst (λ b. AreDue b s p v ms) (sym
          (comes-up c.args.stood (port_state s p (v.port_calls p)) (sym c.is_up.ensures ∙ c.if-is_up.false) up))
          (subst (λ (xs : List Inbound). EachWith (SaysIn (terms s) v.turns p) (outstanding (terms s) p v.turns)
          (map inbound_bytes xs)) (sym c.deref.ensures.value)
          (c.in_ok-messages.ensures (terms s) v.turns few parts.orders));
      sent = sent s v parts (λ down. absurd (let clash : true ≡ false = sym up ∙ down in cc));
    })
    c.send.ensures.sent
