use Rattle.std.proofs.Common.{◌≡◌, ℕ, ◌+◌, ◌++◌, ◌∷◌, [], List, Option, Some, map, true, false, refl, sym, ap, ◌∙◌}
use Rattle.std.proofs.Common.{subst}
use Rattle.std.proofs.lemmas.Option.{slice_get_read}
use Rattle.soup_session.specs.Faults.{fault_number}
use Rattle.soup_session.specs.States.{is_up}
use Rattle.soup_session.specs.Table.{OnPacket, Fail}
use Rattle.std.specs.Prelude.{option_to_list}
use Rattle.gate_law.specs.Events.{Batch, LinkOut, PortPacket}
use Rattle.gate_law.specs.Lists.{Lists, port_called, turned}
use Rattle.gate_law.specs.Sessions.{port_state, to_port}
use Rattle.gate_core.specs.declared.parts.Parts.{Parts}
use Rattle.gate_events.specs.Seen.{link_out_seen}
use Rattle.gate_events.specs.Batches.{batch_of}
use Rattle.gate_core.specs.Steps.{Stepped, heard_turn}
use Rattle.gate_core.proofs.Growing.{ports-grow}
use Rattle.gate_core.proofs.Parted.{not-up, ports-parts}
use Rattle.gate_core.proofs.Payloads.{faulty-step, up-after}
use Rattle.gate_law.proofs.Messages.{reads-after}
use Rattle.gate_core.proofs.parts.Parts.fault.Goals as goal

pub returns-in_err-rest-in-Up-clause-grows : goal.returns-in_err-rest-in-Up-clause-grows
returns-in_err-rest-in-Up-clause-grows g c =
    ports-grow c.args.self.now _ c.fail-turn.ensures.length c.fail-turn.ensures.next c.fail-turn.ensures.settled refl
    refl refl

pub returns-in_err-port_out-in-Up-clause-grows : goal.returns-in_err-port_out-in-Up-clause-grows
returns-in_err-port_out-in-Up-clause-grows g c =
    ports-grow c.args.self.now _ (c.told_port.ensures.length ∙ c.fail-turn.ensures.length)
    (λ n within. c.told_port.ensures.next n (c.fail-turn.ensures.next n within))
    (λ was kept. c.told_port.ensures.settled was (c.fail-turn.ensures.settled was kept)) refl refl refl

pub returns-in_ok-port_out-in-Up-clause-grows : goal.returns-in_ok-port_out-in-Up-clause-grows
returns-in_ok-port_out-in-Up-clause-grows g c =
    ports-grow c.args.self.now _ (c.told_port.ensures.length ∙ c.fail-turn.ensures.length)
    (λ n within. c.told_port.ensures.next n (c.fail-turn.ensures.next n within))
    (λ was kept. c.told_port.ensures.settled was (c.fail-turn.ensures.settled was kept)) refl refl refl

pub returns-in_ok-port_out-in-Up-clause-step : goal.returns-in_ok-port_out-in-Up-clause-step
returns-in_ok-port_out-in-Up-clause-step it c s v link at packet payload g given faulty =
    let p = c.args.place + 1 in
    let k = c.args.fault in
    let t = heard_turn p payload 0 [] (Some (fault_number k)) in
    let w : Lists = turned (Some t) (port_called p (OnPacket packet at) v) in
    let mid : Parts _ _ = record {
      clients = c.args.self.now.clients;
      ports = c.fail-turn.new.self;
      client_ports =
          c.args.self.now.client_ports;
      orders = c.args.self.now.orders;
    } in
    let new : Parts _ _ = record {
      clients = c.args.self.now.clients;
      ports = c.told_port.new.ports;
      client_ports =
          c.args.self.now.client_ports;
      orders = c.args.self.now.orders;
    } in
    let answer = c.fail-turn.ensures.answers s w.port_calls faulty.parts.ports in
    let parts = ports-parts s p (Fail k ∷ []) w c.args.self.now mid faulty.parts
    (c.fail-turn.ensures.leave s w.port_calls faulty.parts.ports)
    (c.fail-turn.ensures.links w.port_link faulty.parts.port_links) c.fail-turn.ensures.length refl refl refl in
    let failed = option_to_list c.fail-turn.result.out in
    let link_is = c.port_link-link.ensures.link s w faulty.parts in
    let packets = c.in_ok-port_out-in-Up.ensures.outs v.port_link parts.port_links
    ∙ ap (λ (xs : List LinkOut). to_port (v.port_link p) (option_to_list c.args.said) ++ xs)
    (c.in_ok-rest-in-Up.ensures ∙ ap (λ (l : Option ℕ). to_port l failed) link_is) in
    let outs = map link_out_seen c.in_ok-port_out-in-Up.port_out.items in
    subst (λ (b : Batch). Stepped s (PortPacket p link at packet) b v new)
    (sym (c.for_port.ensures ∙ ap (λ (n : ℕ). batch_of 0 [] [] n outs (Some k)) c.at_place.ensures))
    (faulty-step s p link at packet payload (option_to_list c.args.said) v g given k failed mid new
    (map link_out_seen c.in_ok-port_out-in-Up.port_out.items)
    reads-after faulty.headline answer.outs parts packets
    (c.told_port.ensures.leave s (port_called p (Fail k) w).port_calls parts.ports)
    (c.in_ok-port_out-in-Up.ensures.links v.port_link parts.port_links) c.told_port.ensures.length refl refl refl)

-- the payload was given only while the port was up, and it still is
pub returns-in_default : goal.returns-in_default
returns-in_default g c = record {
  step = λ s v link at packet payload g given faulty.
      let p = c.args.place + 1 in
      let calls = (port_called p (OnPacket packet at) v).port_calls p in
      let leaves = faulty.parts.ports c.args.place c.index.result.now
      (slice_get_read c.args.self.now.ports.lines.items _ c.args.place c.index.result.now refl c.requires.place
      c.index.ensures) in
      let down : is_up (port_state s p calls) ≡ false = ap is_up (sym (c.state.ensures.state s p calls leaves))
      ∙ not-up c.state.result c.in_default.not-Up in
      let up : is_up (port_state s p calls) ≡ true =
      up-after s p link at packet payload (option_to_list c.args.said) v g given in
      absurd (let clash : true ≡ false = sym up ∙ down in cc);
  grows = ports-grow c.args.self.now c.args.self.now refl (λ n within. within) (λ was kept. kept) refl refl refl;
}
