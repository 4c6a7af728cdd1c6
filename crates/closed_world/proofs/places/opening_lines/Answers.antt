use Rattle.std.proofs.Common.{◌≡◌, ◌++◌, ◌∷◌, [], List, length, ap, subst, arith, length-append, Some}
use Rattle.std.specs.Prelude.{slice_get}
use Rattle.closed_world.specs.Lines.{line_seen, opening_line}
use Rattle.closed_world.specs.declared.port_line.PortLine.{PortLine}
use Rattle.closed_world.proofs.LinePlaces.{each-pushed}
use Rattle.closed_world.proofs.places.opening_lines.Goals as goal

pub loop-preserved : goal.loop-preserved
loop-preserved c =
    let more : c.push.new.self.items ≡ c.loop.ports.items ++ c.new.result ∷ [] = c.in_ok-push.ensures.items in
    record {
      count = omega (
        arith,
        ap length more,
        length-append c.loop.ports.items
            (c.new.result ∷ []),
        c.loop.invariant.count,
      );
      lines = λ i line e.
          each-pushed (λ (l : PortLine). line_seen l ≡ opening_line) c.loop.ports.items c.new.result
          c.loop.invariant.lines c.new.ensures i line
          (subst (λ (ls : List PortLine). slice_get ls i ≡ Some line) more e);
    }
