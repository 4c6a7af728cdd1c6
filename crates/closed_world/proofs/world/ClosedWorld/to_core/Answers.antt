use Rattle.std.proofs.Common.{◌≡◌, ℕ, ◌+◌, ◌<◌, ◌∙◌, length, refl, sym, ap, subst, arith, Option, Some}
use Rattle.std.proofs.lemmas.Result.{IfOk-weaker}
use Rattle.soup_packets.specs.declared.packet.Packet.{Packet}
use Rattle.gate_law.specs.Events.{PortPacket}
use Rattle.world_law.specs.World.{with_connection}
use Rattle.closed_world.specs.Lines.{Line, NothingToCore, TakesToCore, line_seen, with_way}
use Rattle.closed_world.specs.Worlds.{line_at}
use Rattle.closed_world.proofs.Going.{LeftToCore, core-none, core-some, gets-same, is-port, left-to-core, line-there}
use Rattle.closed_world.proofs.Going.{none-taken, port-changed, port-same}
use Rattle.closed_world.proofs.world.ClosedWorld.to_core.Goals as goal

pub returns-in_default-taken : goal.returns-in_default-taken
returns-in_default-taken c =
    let counted : c.len.result ≡ length c.args.self.now.ports.items = c.len.ensures ∙ c.args.self.now.ports.ok.0 in
    let inside : c.in-Some.place < length c.args.self.now.ports.items =
    omega (arith, c.in-Some.ensures.place.1, counted) in
    let number : c.args.port ≡ c.in-Some.place + 1 = c.in-Some.ensures.place.0 in
    let none : NothingToCore (line_seen c.index_mut.result.now).connection
    × (line_seen c.next_to_core-taken.new.self ≡ line_seen c.index_mut.result.now) =
    none-taken (line_seen c.index_mut.result.now)
    (line_seen c.next_to_core-taken.new.self) c.next_to_core-taken.result c.next_to_core-taken.ensures
    c.in_default-taken.not-Some in
    λ s x same.
    core-none s x c.args.port _ (is-port s c.args.port c.len.result (counted ∙ same.count) c.in-Some.ensures.known)
    (subst (λ (l : Line). NothingToCore l.connection)
    (line-there s x c.args.port c.args.self.now c.in-Some.place c.index_mut.result.now number inside
    c.index_mut.ensures.value same) none.0)
    (port-same s x c.args.port c.args.self.now _ c.in-Some.place c.next_to_core-taken.new.self c.index_mut.result.now
    number inside c.index_mut.ensures.value none.1 refl refl refl refl same)

pub returns : goal.returns
returns c =
    let counted : c.len.result ≡ length c.args.self.now.ports.items = c.len.ensures ∙ c.args.self.now.ports.ok.0 in
    let inside : c.in-Some.place < length c.args.self.now.ports.items =
    omega (arith, c.in-Some.ensures.place.1, counted) in
    let number : c.args.port ≡ c.in-Some.place + 1 = c.in-Some.ensures.place.0 in
    let taken : TakesToCore (line_seen c.index_mut.result.now) (line_seen c.next_to_core-taken.new.self)
    (Some c.in-Some-taken.taken) = c.in-Some-taken.ensures in
    IfOk-weaker c.core_gets.result _ _
    (λ u got s x same.
    let there : line_seen c.index_mut.result.now ≡ line_at x c.args.port =
    line-there s x c.args.port c.args.self.now c.in-Some.place c.index_mut.result.now number inside
    c.index_mut.ensures.value same in
    let left : LeftToCore s x c.args.port c.in-Some-taken.taken.1 taken.1 c.in-Some-taken.taken.0 taken.0 =
    left-to-core s x c.args.port c.in-Some-taken.taken.1 taken.1 c.in-Some-taken.taken.0 taken.0
    (sym (ap (λ (l : Line). l.connection) there) ∙ taken.2) taken.3 taken.4 in
    core-some s x c.args.port _ c.in-Some-taken.taken.1 taken.1 c.in-Some-taken.taken.0 taken.0 left
    (is-port s c.args.port c.len.result (counted ∙ same.count) c.in-Some.ensures.known)
    (gets-same s (with_connection c.args.port left.conn x) _
    (λ q l at. PortPacket q l at c.in-Some-taken.taken.1) c.at_place.result c.args.port c.in-Some-taken.taken.0
    c.in-Some-taken.taken.0 c.args.self.now.moment x.now
    (c.at_place.ensures ∙ sym number) refl same.moment
    (got s (with_connection c.args.port left.conn x)
    (port-changed s x (with_connection c.args.port left.conn x) c.args.port
    (with_way (Some (record taken.0 { to_core = taken.1 })) (line_at x c.args.port)) c.args.self.now _
    c.in-Some.place c.next_to_core-taken.new.self c.index_mut.result.now
    left.rests refl refl number inside c.index_mut.ensures.value
    (λ was. taken.5 ∙ ap (with_way (Some (record taken.0 { to_core = taken.1 }))) was) refl refl refl refl same))))
    c.core_gets.ensures
