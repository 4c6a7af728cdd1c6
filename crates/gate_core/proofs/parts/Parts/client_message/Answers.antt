use Rattle.std.proofs.Common.{◌≡◌, ◌+◌, ◌∷◌, [], ℕ, Option, Some, None, true, false, refl, sym, ap, ◌∙◌, subst, arith}
use Rattle.std.specs.Prelude.{◌&&◌, is_some}
use Rattle.std.proofs.lemmas.Result.{IfOk-weaker}
use Rattle.session_law.specs.Runs.{OnMessage}
use Rattle.fix_fields.specs.Field.{Message}
use Rattle.fix_types.specs.declared.application.AppMsg.{AppMsg}
use Rattle.gate_law.specs.Settings.{has_client}
use Rattle.gate_law.specs.Sessions.{client_answer}
use Rattle.gate_law.specs.Events.{ClientMessage, is_the_number}
use Rattle.gate_core.specs.declared.parts.Parts.{Parts}
use Rattle.gate_events.specs.Seen.{batch_seen}
use Rattle.gate_core.specs.Steps.{AfterFrame, Stepped}
use Rattle.gate_core.proofs.Growing.{clients-grow, grows-then, grows-within}
use Rattle.gate_core.proofs.Parted.{clients-parts}
use Rattle.gate_core.proofs.parts.Parts.client_message.Goals as goal

none-is : (app : Option AppMsg) → is_some app ≡ false → app ≡ None
none-is None is = refl
none-is (Some message) is = absurd (let wrong : true ≡ false = is in cc)

pub returns-in_ok-message-clause-step : goal.returns-in_ok-message-clause-step
returns-in_ok-message-clause-step g c =
    IfOk-weaker c.message_delivered.result _ _
    (λ b step s v ready.
    let n = c.in-Some.place + 1 in
    let is = c.in-Some.ensures.place.0 in
    let answer = c.in_ok-outs.ensures.answers s v.client_calls ready.parts.clients in
    let mid : Parts _ _ = record {
      clients = c.frame.new.self;
      ports = c.args.self.now.ports;
      client_ports =
          c.args.self.now.client_ports;
      orders = c.args.self.now.orders;
    } in
    let heard : AfterFrame s n c.args.link c.args.at c.fields-fields.result.now
    (Some c.in_ok-message.message) c.in_ok-outs.field-0.outs.items v mid = record {
      on = subst (λ (k : ℕ). (has_client s k && is_the_number c.args.link (v.client_link k)) ≡ true) is
          (sym (c.in-Some.ensures.on s v ready.parts));
      app_is = c.in_ok-outs.ensures.delivered s v.client_calls ready.parts.clients c.if-is_delivered.true
          ∙ ap Some (sym c.in_ok-message.ensures);
      said_is = answer.outs;
      linked = ready.linked;
      few = ready.few;
      parts = clients-parts s n ((c.args.at, OnMessage c.fields-fields.result.now) ∷ []) v c.args.self.now mid
          ready.parts
          (c.in_ok-outs.ensures.leave s v.client_calls ready.parts.clients)
          (c.frame.ensures.links v.client_link ready.parts.client_links) c.frame.ensures.length refl refl refl;
    } in
    subst (λ (k : ℕ). Stepped s (ClientMessage k c.args.link c.args.at c.args.frame.now)
    (batch_seen b) v c.message_delivered.new.self) (sym is)
    (subst (λ (m : Message). Stepped s (ClientMessage n c.args.link c.args.at m)
    (batch_seen b) v c.message_delivered.new.self) c.fields-fields.ensures.fields
    (step s v c.args.link c.fields-fields.result.now heard)))
    c.message_delivered.ensures.step

pub returns-else-is_delivered-clause-step : goal.returns-else-is_delivered-clause-step
returns-else-is_delivered-clause-step g c =
    IfOk-weaker c.no_message_delivered.result _ _
    (λ b step s v ready.
    let n = c.in-Some.place + 1 in
    let is = c.in-Some.ensures.place.0 in
    let answer = c.in_ok-outs.ensures.answers s v.client_calls ready.parts.clients in
    let mid : Parts _ _ = record {
      clients = c.frame.new.self;
      ports = c.args.self.now.ports;
      client_ports =
          c.args.self.now.client_ports;
      orders = c.args.self.now.orders;
    } in
    let heard : AfterFrame s n c.args.link c.args.at c.fields-fields.result.now None c.in_ok-outs.field-0.outs.items v
    mid = record {
      on = subst (λ (k : ℕ). (has_client s k && is_the_number c.args.link (v.client_link k)) ≡ true) is
          (sym (c.in-Some.ensures.on s v ready.parts));
      app_is = none-is (client_answer s n (v.client_calls n) (c.args.at, OnMessage c.fields-fields.result.now)).app
          (sym answer.app ∙ c.if-is_delivered.false);
      said_is = answer.outs;
      linked = ready.linked;
      few = ready.few;
      parts = clients-parts s n ((c.args.at, OnMessage c.fields-fields.result.now) ∷ []) v c.args.self.now mid
          ready.parts
          (c.in_ok-outs.ensures.leave s v.client_calls ready.parts.clients)
          (c.frame.ensures.links v.client_link ready.parts.client_links) c.frame.ensures.length refl refl refl;
    } in
    subst (λ (k : ℕ). Stepped s (ClientMessage k c.args.link c.args.at c.args.frame.now)
    (batch_seen b) v c.no_message_delivered.new.self) (sym is)
    (subst (λ (m : Message). Stepped s (ClientMessage n c.args.link c.args.at m)
    (batch_seen b) v c.no_message_delivered.new.self) c.fields-fields.ensures.fields
    (step s v c.args.link c.args.at c.fields-fields.result.now heard)))
    c.no_message_delivered.ensures.step

pub returns-in_ok-message-clause-grows : goal.returns-in_ok-message-clause-grows
returns-in_ok-message-clause-grows g c =
    let mid : Parts _ _ = record {
      clients = c.frame.new.self;
      ports = c.args.self.now.ports;
      client_ports =
          c.args.self.now.client_ports;
      orders = c.args.self.now.orders;
    } in
    grows-then 0 0 3 0 c.args.self.now mid _ (clients-grow c.args.self.now mid c.frame.ensures.length
    c.frame.ensures.settled refl refl refl) c.message_delivered.ensures.grows

pub returns-else-is_delivered-clause-grows : goal.returns-else-is_delivered-clause-grows
returns-else-is_delivered-clause-grows g c =
    let mid : Parts _ _ = record {
      clients = c.frame.new.self;
      ports = c.args.self.now.ports;
      client_ports =
          c.args.self.now.client_ports;
      orders = c.args.self.now.orders;
    } in
    grows-within 0 3 0 c.args.self.now _ (omega arith)
    (grows-then 0 0 0 0 c.args.self.now mid _
    (clients-grow c.args.self.now mid c.frame.ensures.length c.frame.ensures.settled refl refl refl)
    c.no_message_delivered.ensures.grows)
