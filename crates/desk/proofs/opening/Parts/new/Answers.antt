use Rattle.std.proofs.Common.{◌≡◌, ◌<◌, ◌+◌, ℕ, length, ap, subst, refl, arith}
use Rattle.std.specs.Prelude.{map}
use Rattle.desk_rings.specs.Made.{inlet_name, outlet_name}
use Rattle.desk.specs.Offered.{AreFor, Offered}
use Rattle.desk.proofs.Starting.{agrees-start, are-for}
use Rattle.desk.proofs.opening.Parts.new.Goals as goal

pub open_side-requires : goal.open_side-requires
open_side-requires c = record {
  few = (
    omega (arith, c.clients-clients.ensures.count),
    omega
        (arith, c.ports-ports.ensures.count),
  );
}

pub invariant_of-result : goal.invariant_of-result
invariant_of-result c =
    let few : length c.clients-clients.result.now + length c.ports-ports.result.now < 65_535 =
    omega (arith, c.clients-clients.ensures.count, c.ports-ports.ensures.count) in
    record {
      agrees = agrees-start (length c.clients-clients.result.now)
          (length c.ports-ports.result.now) c.in_ok-recorded.recorded c.in_ok-side.side c.in_ok-side.inlets.items
          c.in_ok-side.outlets.items c.in_ok-side.ensures c.in_ok-recorded.ensures.kept few;
      inlets_fresh = c.in_ok-side.ensures.inlets_fresh;
      outlets_fresh = c.in_ok-side.ensures.outlets_fresh;
    }

pub returns-clause-rings : goal.returns-clause-rings
returns-clause-rings c =
    let few : length c.clients-clients.result.now + length c.ports-ports.result.now < 65_535 =
    omega (arith, c.clients-clients.ensures.count, c.ports-ports.ensures.count) in
    let offered : Offered = record {
      settings = c.in_ok-recorded.recorded.settings;
      inlets =
          map inlet_name c.in_ok-side.inlets.items;
      outlets = map outlet_name c.in_ok-side.outlets.items;
    } in
    let fits : AreFor (length c.clients-clients.result.now) (length c.ports-ports.result.now) offered =
    are-for (length c.clients-clients.result.now)
    (length c.ports-ports.result.now) c.in_ok-recorded.recorded c.in_ok-side.side c.in_ok-side.inlets.items
    c.in_ok-side.outlets.items c.in_ok-side.ensures c.in_ok-recorded.ensures.kept few offered refl refl in
    let clients : length c.clients-clients.result.now ≡ length c.args.settings.clients =
    ap length c.clients-clients.ensures.clients in
    let ports : length c.ports-ports.result.now ≡ length c.args.settings.ports = ap length c.ports-ports.ensures.ports
    in
    subst (λ (n : ℕ). AreFor n (length c.args.settings.ports) offered) clients
    (subst (λ (n : ℕ). AreFor (length c.clients-clients.result.now) n offered) ports fits)
