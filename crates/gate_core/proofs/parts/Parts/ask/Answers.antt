use Rattle.std.proofs.Common.{◌+◌, map, Some}
use Rattle.fix_types.specs.Application.{body_fields}
use Rattle.gate_law.specs.Lists.{turned, client_called_all}
use Rattle.gate_law.specs.Sessions.{issues}
use Rattle.gate_core.specs.Steps.{orders_turn_of}
use Rattle.gate_core.proofs.Asking.{is-asked}
use Rattle.gate_core.proofs.Growing.{grows-then}
use Rattle.gate_core.proofs.parts.Parts.ask.Goals as goal

pub returns-in_err-issues-clause-grows : goal.returns-in_err-issues-clause-grows
returns-in_err-issues-clause-grows g c = grows-then 3 0 0 0 _ _ _ c.take.ensures.grows c.issue.ensures.grows

pub returns-in_err-port_outs-clause-grows : goal.returns-in_err-port_outs-clause-grows
returns-in_err-port_outs-clause-grows g c =
    grows-then 3 0 0 0 _ _ _ (grows-then 3 0 0 0 _ _ _ c.take.ensures.grows c.issue.ensures.grows) c.send.ensures.grows

pub returns-clause-asked : goal.returns-clause-asked
returns-clause-asked g c s v ready is =
    let n = c.args.place + 1 in
    let turn = c.in_ok-out.ensures.turn s v ready in
    let t = orders_turn_of s n c.args.message.now c.in_ok-out.out v in
    let issued = c.in_ok-issues.ensures.issued s (turned (Some t) v) turn.parts in
    is-asked s n c.args.at c.args.port c.args.message.now c.in_ok-out.out c.deref.result.now c.deref-2.result.now _ v _
    _ _ is
    c.deref.ensures.value c.deref-2.ensures.value turn issued
    (c.in_ok-port_outs.ensures.sent s (client_called_all n (issues c.args.at (map body_fields c.deref.result.now))
    (turned (Some t) v)) issued.parts)

pub returns-clause-grows : goal.returns-clause-grows
returns-clause-grows g c = grows-then 3 0 0 0 _ _ _
    (grows-then 3 0 0 0 _ _ _ c.take.ensures.grows c.issue.ensures.grows) c.send.ensures.grows
