use Rattle.std.proofs.Common.{◌≡◌, ◌∙◌, ◌+◌, ◌∷◌, length, map, drop, sym, ap, arith, length-append, suc, []}
use Rattle.std.specs.Prelude.{All}
use Rattle.desk_rings.specs.Rings.{Taking}
use Rattle.desk_rings.specs.Made.{IsFreshLists, outlet_name}
use Rattle.desk_rings.proofs.Rows.{first-behind, each-and-one}
use Rattle.desk_rings.proofs.handing.outlets_of.Goals as goal

pub outlet_at-requires-clause-named : goal.outlet_at-requires-clause-named
outlet_at-requires-clause-named g c =
    let e : map outlet_name (c.in-Some.ring ∷ c.pop_front.new.self.items)
    ≡ drop (length c.loop-ring.outlets.items) g.K.DeskName.outlets =
    ap (map outlet_name) (sym c.in-Some.ensures.items) ∙ c.loop-ring.invariant.named in
    let len : c.len-at.result ≡ length c.loop-ring.outlets.items =
    omega (arith, c.loop-ring.outlets.ok.0, c.len-at.ensures) in
    rw len (first-behind g.K.DeskName.outlets (length c.loop-ring.outlets.items) (outlet_name c.in-Some.ring)
    (map outlet_name c.pop_front.new.self.items) e).0

pub outlet_at-requires-clause-fresh : goal.outlet_at-requires-clause-fresh
outlet_at-requires-clause-fresh g c =
    let fresh : All IsFreshLists (c.in-Some.ring ∷ c.pop_front.new.self.items) =
    rw c.in-Some.ensures.items at c.loop-ring.invariant.fresh in
    fresh 0 c.in-Some.ring (omega (arith))

pub loop-ring-preserved : goal.loop-ring-preserved
loop-ring-preserved g c =
    let e : map outlet_name (c.in-Some.ring ∷ c.pop_front.new.self.items)
    ≡ drop (length c.loop-ring.outlets.items) g.K.DeskName.outlets =
    ap (map outlet_name) (sym c.in-Some.ensures.items) ∙ c.loop-ring.invariant.named in
    let size : length c.push.new.self.items ≡ length c.loop-ring.outlets.items + 1 =
    ap length c.in_ok-push.ensures.items ∙ omega
    (arith, length-append c.loop-ring.outlets.items (c.outlet_at.result ∷ [])) in
    let lens : length c.loop-ring.rings.items ≡ suc (length c.pop_front.new.self.items) =
    ap length c.in-Some.ensures.items in
    let fresh : All IsFreshLists (c.in-Some.ring ∷ c.pop_front.new.self.items) =
    rw c.in-Some.ensures.items at c.loop-ring.invariant.fresh in
    let len : c.len-at.result ≡ length c.loop-ring.outlets.items =
    omega (arith, c.loop-ring.outlets.ok.0, c.len-at.ensures) in
    record {
      named = rw size (first-behind g.K.DeskName.outlets (length c.loop-ring.outlets.items) (outlet_name c.in-Some.ring)
          (map outlet_name c.pop_front.new.self.items) e).1;
      fresh = λ k d h. fresh (suc k) d (omega arith);
      size = omega (arith, size, lens, c.loop-ring.invariant.size);
      made = rw c.in_ok-push.ensures.items (each-and-one
          (λ k (x : Taking). (x.at ≡ k) × (x.took ≡ [])) c.loop-ring.outlets.items c.outlet_at.result
          c.loop-ring.invariant.made (c.outlet_at.ensures.0 ∙ len, c.outlet_at.ensures.1));
    }
