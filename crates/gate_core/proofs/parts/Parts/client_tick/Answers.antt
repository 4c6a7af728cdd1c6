use Rattle.gate_sessions.specs.session_writing.declared.output.SessionOut.{SessionOut}
use Rattle.gate_events.specs.declared.batch.LinkOut.{LinkOut}
use Rattle.std.proofs.Common.{Vec, Global, ◌≡◌, ◌+◌, ℕ, List, map, true, None, [], refl, sym, ap, ◌∙◌, subst}
use Rattle.session_law.specs.Runs.{OnTick}
use Rattle.gate_sessions.specs.session_writing.Written.{told_bytes}
use Rattle.gate_law.specs.Settings.{has_client}
use Rattle.gate_law.specs.Sessions.{client_answer}
use Rattle.gate_law.specs.Events.{ClientTick, Batch}
use Rattle.gate_sessions.specs.Lines.{called}
use Rattle.gate_core.specs.declared.parts.Parts.{Parts}
use Rattle.gate_events.specs.Seen.{link_out_seen}
use Rattle.gate_core.specs.Steps.{Stepped}
use Rattle.gate_events.specs.Batches.{batch_of}
use Rattle.gate_core.proofs.Told.{client-told, nothing-on}
use Rattle.gate_core.proofs.ClientLinks.{client-tick}
use Rattle.gate_core.proofs.Growing.{clients-grow}
use Rattle.gate_core.proofs.parts.Parts.client_tick.Goals as goal

pub returns-clause-step : goal.returns-clause-step
returns-clause-step g c s v ready =
    let place = c.in-Some.place in
    let n = place + 1 in
    let new : Parts _ _ = record {
      clients = c.told_client.new.clients;
      ports = c.args.self.now.ports;
      client_ports =
          c.args.self.now.client_ports;
      orders = c.args.self.now.orders;
    } in
    let is = c.in-Some.ensures.place.0 in
    let outs = map link_out_seen c.in_ok-outs.outs.items in
    let links = c.in_ok-tick.ensures.links v.client_link ready.parts.client_links in
    let answer = c.in_ok-tick.ensures.answers s v.client_calls ready.parts.clients in
    let said = c.in_ok-outs.ensures.outs v.client_link links in
    subst (λ (b : Batch). Stepped s (ClientTick c.args.client c.args.at) b v new)
    (sym (c.for_client.ensures ∙ ap (λ reports. batch_of c.args.client reports outs 0 [] None) c.new-2.ensures.items))
    (subst (λ (m : ℕ). Stepped s (ClientTick m c.args.at) (batch_of m [] outs 0 [] None) v new) (sym is)
    (client-tick s v c.args.self.now new n c.args.at outs
    (subst (λ (m : ℕ). has_client s m ≡ true) is (sym (c.in-Some.ensures.known s v ready.parts)))
    ready
    (client-told s n (v.client_link n) outs (map told_bytes c.only_outs-said.result.items)
    (map link_out_seen c.new.result.items)
    (client_answer s n (v.client_calls n) (c.args.at, OnTick)).outs [] said
    (ap (λ (x : Vec SessionOut Global). map told_bytes x.items) c.only_outs-said.ensures ∙ answer.outs)
    (ap (λ (xs : List LinkOut). map link_out_seen xs) c.new.ensures.items ∙ nothing-on (v.client_link n)))
    (c.told_client.ensures.leave s (called n (c.args.at, OnTick) v.client_calls)
    (c.in_ok-tick.ensures.leave s v.client_calls ready.parts.clients))
    (c.in_ok-outs.ensures.links v.client_link links)
    (c.told_client.ensures.length ∙ c.tick.ensures.length) refl refl refl))

pub returns-in_err-outs-clause-grows : goal.returns-in_err-outs-clause-grows
returns-in_err-outs-clause-grows g c =
    clients-grow c.args.self.now _ (c.told_client.ensures.length ∙ c.tick.ensures.length)
    (λ was kept. c.told_client.ensures.settled was (c.tick.ensures.settled was kept)) refl refl refl

pub returns-clause-grows : goal.returns-clause-grows
returns-clause-grows g c =
    clients-grow c.args.self.now _ (c.told_client.ensures.length ∙ c.tick.ensures.length)
    (λ was kept. c.told_client.ensures.settled was (c.tick.ensures.settled was kept)) refl refl refl
