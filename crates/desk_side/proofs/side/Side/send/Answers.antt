use Rattle.std.proofs.Common.{◌≡◌, ◌∙◌, ap, subst}
use Rattle.desk_side.specs.Places.{client_place, port_place}
use Rattle.desk_side.specs.Side.{SideState, OutputSent}
use Rattle.desk_side.proofs.Arranging.{producers-arranged}
use Rattle.desk_side.proofs.Roomy.{output-room}
use Rattle.desk_side.proofs.Telling.{tells}
use Rattle.desk_side.proofs.side.Side.send.Goals as goal

pub invariant_of-self : goal.invariant_of-self
invariant_of-self c =
    let client : c.place_of_client-client.result ≡ client_place c.self.inside.clients c.args.output.client =
    c.place_of_client-client.ensures ∙ ap (client_place c.self.inside.clients) c.client_number.ensures in
    let port : c.place_of_port-port.result ≡ port_place c.self.inside.clients c.self.inside.ports c.args.output.port =
    c.place_of_port-port.ensures ∙ ap (port_place c.self.inside.clients c.self.inside.ports) c.port_number.ensures
    in
    let went = tells c.self.inside.clients c.self.inside.ports c.args.output c.self.inside.producers.items
    c.send_at.new.producers.items c.send_at-2.new.producers.items c.self.invariant.0.recipients
    (λ d place. c.send_at.ensures.at d (client ∙ place)) (λ place. c.send_at.ensures.nowhere (client ∙ place))
    (λ d place. c.send_at-2.ensures.at d (port ∙ place))
    (λ place. c.send_at-2.ensures.nowhere (port ∙ place)) c.self.invariant.0.producer_count in (
      producers-arranged c.self.inside.clients c.self.inside.ports c.self.inside.consumers.items
          c.self.inside.producers.items
          c.send_at-2.new.producers.items c.self.invariant.0
          went.count (λ d w at. let r = went.each d w at in (r.0, r.1, r.2.name)),
      output-room c.roomy_behind-roomy.result c.self.inside.roomy c.args.output c.self.inside.producers.items
          c.send_at-2.new.producers.items went
          c.roomy_behind-roomy.ensures.client c.roomy_behind-roomy.ensures.port c.self.invariant.1,
    )

pub returns-clause-producers : goal.returns-clause-producers
returns-clause-producers c =
    let client : c.place_of_client-client.result ≡ client_place c.self.inside.clients c.args.output.client =
    c.place_of_client-client.ensures ∙ ap (client_place c.self.inside.clients) c.client_number.ensures in
    let port : c.place_of_port-port.result ≡ port_place c.self.inside.clients c.self.inside.ports c.args.output.port =
    c.place_of_port-port.ensures ∙ ap (port_place c.self.inside.clients c.self.inside.ports) c.port_number.ensures
    in
    let went = tells c.self.inside.clients c.self.inside.ports c.args.output c.self.inside.producers.items
    c.send_at.new.producers.items c.send_at-2.new.producers.items c.self.invariant.0.recipients
    (λ d place. c.send_at.ensures.at d (client ∙ place)) (λ place. c.send_at.ensures.nowhere (client ∙ place))
    (λ d place. c.send_at-2.ensures.at d (port ∙ place))
    (λ place. c.send_at-2.ensures.nowhere (port ∙ place)) c.self.invariant.0.producer_count in
    subst (λ (s : SideState). OutputSent c.args.output s.producers c.send_at-2.new.producers.items) c.self.view_is went
