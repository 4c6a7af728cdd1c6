use Rattle.std.proofs.Common.{◌≡◌, ◌<◌, length, subst}
use Rattle.desk_rings.specs.CoreEnds.{ConsumerLooked, InletConsumerState}
use Rattle.desk_side.proofs.Moves.{changes-set, set-here}
use Rattle.desk_side.proofs.Telling.{knows-some}
use Rattle.desk_side.proofs.slots.is_empty_at.Goals as goal

pub returns-clause-looked : goal.returns-clause-looked
returns-clause-looked c =
    let looked = subst (λ (z : InletConsumerState). ConsumerLooked z c.is_empty.new.self) c.index_mut.ensures.value
    c.is_empty.ensures.looked in
    changes-set ConsumerLooked c.args.consumers.now.items c.args.place c.index_mut.result.now c.is_empty.new.self
    c.requires.inside looked

pub returns-clause-none : goal.returns-clause-none
returns-clause-none c so a at =
    set-here (λ (z : InletConsumerState). length z.known ≡ 0) c.args.consumers.now.items c.args.place
    c.is_empty.new.self a
    c.requires.inside at (c.is_empty.ensures.value.0 so)

pub returns-clause-some : goal.returns-clause-some
returns-clause-some c isnt a at =
    set-here (λ (z : InletConsumerState). 0 < length z.known) c.args.consumers.now.items c.args.place
    c.is_empty.new.self a
    c.requires.inside at
    (knows-some c.is_empty.new.self c.is_empty.result c.is_empty.ensures.value.1 isnt)
