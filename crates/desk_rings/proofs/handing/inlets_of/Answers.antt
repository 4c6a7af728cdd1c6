use Rattle.std.proofs.Common.{◌≡◌, ◌∙◌, ◌+◌, ◌∷◌, length, map, drop, sym, ap, arith, length-append, suc, []}
use Rattle.std.specs.Prelude.{All}
use Rattle.desk_rings.specs.Rings.{Putting}
use Rattle.desk_rings.specs.Made.{IsFreshEvents, inlet_name}
use Rattle.desk_rings.proofs.Rows.{first-behind, each-and-one}
use Rattle.desk_rings.proofs.handing.inlets_of.Goals as goal

pub inlet_at-requires-clause-named : goal.inlet_at-requires-clause-named
inlet_at-requires-clause-named g c =
    let e : map inlet_name (c.in-Some.ring ∷ c.pop_front.new.self.items)
    ≡ drop (length c.loop-ring.inlets.items) g.K.DeskName.inlets = ap (map inlet_name) (sym c.in-Some.ensures.items)
    ∙ c.loop-ring.invariant.named in
    let len : c.len-at.result ≡ length c.loop-ring.inlets.items =
    omega (arith, c.loop-ring.inlets.ok.0, c.len-at.ensures) in
    rw len (first-behind g.K.DeskName.inlets (length c.loop-ring.inlets.items) (inlet_name c.in-Some.ring)
    (map inlet_name c.pop_front.new.self.items) e).0

pub inlet_at-requires-clause-fresh : goal.inlet_at-requires-clause-fresh
inlet_at-requires-clause-fresh g c =
    let fresh : All IsFreshEvents (c.in-Some.ring ∷ c.pop_front.new.self.items) =
    rw c.in-Some.ensures.items at c.loop-ring.invariant.fresh in
    fresh 0 c.in-Some.ring (omega (arith))

pub loop-ring-preserved : goal.loop-ring-preserved
loop-ring-preserved g c =
    let e : map inlet_name (c.in-Some.ring ∷ c.pop_front.new.self.items)
    ≡ drop (length c.loop-ring.inlets.items) g.K.DeskName.inlets = ap (map inlet_name) (sym c.in-Some.ensures.items)
    ∙ c.loop-ring.invariant.named in
    let size : length c.push.new.self.items ≡ length c.loop-ring.inlets.items + 1 = ap length c.in_ok-push.ensures.items
    ∙ omega (arith, length-append c.loop-ring.inlets.items (c.inlet_at.result ∷ [])) in
    let lens : length c.loop-ring.rings.items ≡ suc (length c.pop_front.new.self.items) =
    ap length c.in-Some.ensures.items in
    let fresh : All IsFreshEvents (c.in-Some.ring ∷ c.pop_front.new.self.items) =
    rw c.in-Some.ensures.items at c.loop-ring.invariant.fresh in
    let len : c.len-at.result ≡ length c.loop-ring.inlets.items =
    omega (arith, c.loop-ring.inlets.ok.0, c.len-at.ensures) in
    record {
      named = rw size (first-behind g.K.DeskName.inlets (length c.loop-ring.inlets.items) (inlet_name c.in-Some.ring)
          (map inlet_name c.pop_front.new.self.items) e).1;
      fresh = λ k d h. fresh (suc k) d (omega arith);
      size = omega (arith, size, lens, c.loop-ring.invariant.size);
      made = rw c.in_ok-push.ensures.items (each-and-one
          (λ k (x : Putting). (x.at ≡ k) × (x.put ≡ []) × (x.free ≡ 1_024)) c.loop-ring.inlets.items c.inlet_at.result
          c.loop-ring.invariant.made (c.inlet_at.ensures.0 ∙ len, c.inlet_at.ensures.1, c.inlet_at.ensures.2));
    }
