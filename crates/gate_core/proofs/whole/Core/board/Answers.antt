use Rattle.std.proofs.Common.{◌≡◌, List, refl, ap, subst, ◌∙◌, arith, length}
use Rattle.std.specs.Prelude.{map}
use Rattle.gate_law.specs.After.{lists}
use Rattle.gate_law.proofs.Counted.{turns-few as no-more-turns}
use Rattle.gate_sessions.specs.declared.client_line.ClientLine.{ClientLine}
use Rattle.order_core.specs.order_machine.Runs.{NumbersLeft}
use Rattle.gate_core.specs.Board.{AreRowsOf, port_row_of}
use Rattle.gate_core.proofs.Fields.{CoreFields, fields-of}
use Rattle.gate_core.proofs.Naming.{turns-few}
use Rattle.gate_core.proofs.Shown.{board-is}
use Rattle.gate_core.proofs.Standing.{sound-shaped}
use Rattle.gate_core.proofs.whole.Core.board.Goals as goal

pub client_rows-requires : goal.client_rows-requires
client_rows-requires g c =
    omega (
      arith,
      ap (λ (l : List ClientLine). length l) c.as_slice.ensures.value,
      (sound-shaped c.self.inside.events c.self.inside.parts c.self.invariant.0.parts).few_clients,
    )

pub returns : goal.returns
returns g c s before is =
    let fields : CoreFields _ _ = record { parts = c.self.inside.parts; events = c.self.inside.events } in
    let after = fields-of s before fields _ c.args.self.now c.self.view_is is in
    let few : NumbersLeft (lists s before).turns = omega (arith, turns-few no-more-turns s before) in
    board-is s before fields after
    _ refl
    (c.in_ok-clients.ensures.count ∙ ap (λ (l : List ClientLine). length l) c.as_slice.ensures.value)
    (subst (λ (l : List ClientLine). AreRowsOf (lists s before).turns l c.in_ok-clients.clients.items)
    c.as_slice.ensures.value
    (c.in_ok-clients.ensures.rows _ (lists s before).turns few after.parts.orders))
    (c.in_ok-ports.ensures ∙ ap (map port_row_of) c.as_slice-2.ensures.value)
