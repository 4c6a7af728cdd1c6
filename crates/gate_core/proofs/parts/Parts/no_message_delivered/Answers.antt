use Rattle.std.proofs.Common.{◌+◌, ℕ, List, [], None, map, sym, ap, ◌∙◌, subst}
use Rattle.gate_events.specs.declared.batch.LinkOut.{LinkOut}
use Rattle.gate_sessions.specs.session_writing.Written.{told_bytes}
use Rattle.session_law.specs.Runs.{OnMessage}
use Rattle.gate_law.specs.Events.{ClientMessage, Batch}
use Rattle.gate_law.specs.Lists.{Lists, client_called}
use Rattle.gate_law.specs.Sessions.{client_answer}
use Rattle.gate_core.specs.declared.parts.Parts.{Parts}
use Rattle.gate_events.specs.Seen.{link_out_seen}
use Rattle.gate_core.specs.Steps.{Stepped}
use Rattle.gate_events.specs.Batches.{batch_of}
use Rattle.gate_core.proofs.ClientLinks.{client-frame}
use Rattle.gate_core.proofs.Told.{client-told, nothing-on}
use Rattle.gate_core.proofs.parts.Parts.no_message_delivered.Goals as goal

pub returns-clause-step : goal.returns-clause-step
returns-clause-step g c s v link at frame heard =
    let n = c.args.place + 1 in
    let w : Lists = client_called n (at, OnMessage frame) v in
    let new : Parts _ _ = record {
      clients = c.told_client.new.clients;
      ports = c.args.self.now.ports;
      client_ports =
          c.args.self.now.client_ports;
      orders = c.args.self.now.orders;
    } in
    let outs = map link_out_seen c.in_ok-outs.outs.items in
    subst (λ (b : Batch). Stepped s (ClientMessage n link at frame) b v new)
    (sym (c.for_client.ensures ∙ ap (λ (k : ℕ). batch_of k c.new-2.result.items outs 0 [] None) c.at_place.ensures
    ∙ ap (λ reports. batch_of n reports outs 0 [] None) c.new-2.ensures.items))
    (client-frame s v c.args.self.now new n link at frame c.args.said.items outs heard
    (client-told s n (v.client_link n) outs (map told_bytes c.args.said.items) (map link_out_seen c.new.result.items)
    (client_answer s n (v.client_calls n) (at, OnMessage frame)).outs []
    (c.in_ok-outs.ensures.outs v.client_link heard.parts.client_links) heard.said_is
    (ap (λ (xs : List LinkOut). map link_out_seen xs) c.new.ensures.items ∙ nothing-on (v.client_link n)))
    (c.told_client.ensures.leave s w.client_calls heard.parts.clients)
    (c.in_ok-outs.ensures.links v.client_link heard.parts.client_links)
    c.told_client.ensures.length)
