use Rattle.std.proofs.Common.{◌≡◌, ◌++◌, Some, sym, ap, subst}
use Rattle.rtrb.specs.Ring.{all_sent}
use Rattle.desk_rings.specs.CoreEnds.{InletConsumerState, ConsumerLooked}
use Rattle.desk_rings.proofs.Places.{each-set, get-same, get-set-other, get-set-same, length-set}
use Rattle.desk_rings.proofs.Naming.{consumer-stays}
use Rattle.desk_rings.proofs.finished.look_after.Goals as goal

pub returns-clause-looked : goal.returns-clause-looked
returns-clause-looked c =
    let looked = subst (λ (z : InletConsumerState). ConsumerLooked z c.look_after.new.self) c.index_mut.ensures.value
    c.look_after.ensures.looked in
    record {
      count = length-set c.args.consumers.now.items c.args.at c.look_after.new.self;
      each = each-set ConsumerLooked c.args.consumers.now.items c.args.at c.index_mut.result.now c.look_after.new.self
          c.requires.inside consumer-stays looked;
    }

pub returns-clause-others : goal.returns-clause-others
returns-clause-others c = λ k ne. get-set-other c.args.consumers.now.items c.args.at k c.look_after.new.self
    (λ e. ne (ap Some (sym e)))

pub returns-clause-all : goal.returns-clause-all
returns-clause-all c = λ a at.
    let same : c.look_after.new.self ≡ a = get-same _ c.args.at c.look_after.new.self a
    (get-set-same c.args.consumers.now.items c.args.at c.look_after.new.self c.requires.inside) at in
    subst (λ (z : InletConsumerState). z.gave ++ z.known ≡ all_sent c.args.put.now) same c.look_after.ensures.all
