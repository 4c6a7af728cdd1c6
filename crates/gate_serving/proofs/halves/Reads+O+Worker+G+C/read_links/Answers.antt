use Rattle.std.proofs.Common.{◌≡◌, ◌∙◌, arith, ap, refl, subst, ◌+◌}
use Rattle.gate_events.specs.declared.source.Recipient.{Recipient}
use Rattle.gate_workers.specs.WritersWork.{OfAStream}
use Rattle.gate_serving.specs.Lines.{log_of, reads_of}
use Rattle.gate_serving.proofs.Served.{as_many, one_more}
use Rattle.gate_serving.proofs.halves.Reads+O+Worker+G+C.read_links.Goals.{in-Err, in-Ok+in-Some-read}
use Rattle.gate_serving.proofs.halves.Reads+O+Worker+G+C.read_links.Goals as goal

pub loop-preserved : goal.loop-preserved
loop-preserved g c = elim c.match-tried.branch [
  | in-Err w ↦
      let same = rw w.in-Err.is at c.in-Some.ensures.counts in
      record {
        so_far = rw (w.link-is, w.self-is) (as_many
            (reads_of c.args.self.now.peer) c.loop.link _ _ _ _ _ _ w.in-Err.found _ _ c.loop.invariant.so_far same
            w.first_of-self.ensures);
        few = omega (arith, w.link-is, c.loop.invariant.few);
        none_taken = rw w.self-is c.loop.invariant.none_taken;
        peer = rw w.self-is c.loop.invariant.peer;
        steps = rw w.self-is c.loop.invariant.steps;
      }
  | in-Ok+in-Some-read w ↦
      let more = rw w.in-Ok.is at c.in-Some.ensures.counts in
      let same = w.read_link-read.ensures.same in
      let log = log_of g.G.Gate.was_put g.C.Clock.reported in
      let some = subst (λ (p : Recipient). OfAStream (reads_of p (c.loop.link + 1) w.in-Some-read.end.reader
      (log c.loop.self.worker) (log w.read_link-read.new.self.worker)))
      c.loop.invariant.peer w.in-Some-read.ensures.some in
      record {
        so_far = rw (w.link-is, w.self-is) (one_more
            (reads_of c.args.self.now.peer) c.loop.link _ _ _ _ _ _ w.in-Some-read.end _ _ _ c.loop.invariant.so_far
            (w.ended-in-Ok.ensures.same ∙ (ap g.O.Opener.opened same.2 ∙ more)) w.in-Some-read.ensures.number
            (w.first_of-self-in-Ok.ensures ∙ rw (same.3, w.fault.ensures) refl) some);
        few = omega (arith, w.link-is, c.loop.invariant.few);
        none_taken = rw w.self-is (w.read_link-read.ensures.none_taken ∙ c.loop.invariant.none_taken);
        peer = rw w.self-is (same.0 ∙ c.loop.invariant.peer);
        steps = rw w.self-is (same.1 ∙ c.loop.invariant.steps);
      }
]
