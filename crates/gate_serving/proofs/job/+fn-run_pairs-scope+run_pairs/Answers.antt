use Rattle.std.proofs.Common.{rules, arith}
use Rattle.std.proofs.lemmas.Slice.Zip.{all_zipped_more}
use Rattle.gate_serving.specs.Lines.{MayBeDone}
use Rattle.gate_serving.proofs.job.+fn-run_pairs-scope+run_pairs.Goals.{scope-in-Ok, scope-in-Err, scope-in-Ok-other}
use Rattle.gate_serving.proofs.job.+fn-run_pairs-scope+run_pairs.Goals.{scope-in-Err-other}
use Rattle.gate_serving.proofs.job.+fn-run_pairs-scope+run_pairs.Goals as goal

pub scope-returns : goal.scope-returns
scope-returns g t c =
    let one = elim c.match-one.branch as (λ x. MayBeDone g.A.Job.did c.captures.first c.match-one.first) [
      | scope-in-Ok w ↦ rw w.first-is (search rules)
      | scope-in-Err w ↦ rw w.first-is (search rules)
    ] in
    let other = elim c.match-other.branch as (λ x. MayBeDone g.B.Job.did c.captures.second c.match-other.second) [
      | scope-in-Ok-other w ↦ rw w.second-is (search rules)
      | scope-in-Err-other w ↦ rw w.second-is (search rules)
    ] in
    record {
      did = rw c.in-Ok-push.ensures.items (all_zipped_more
          (λ old new. MayBeDone g.A.Job.did old.0 new.0 × MayBeDone g.B.Job.did old.1 new.1) _ _
          (c.captures.first, c.captures.second) _ c.run_pairs-back.ensures.did (one, other));
      meanwhile = c.run_pairs-back.ensures.meanwhile;
      capacity = omega (arith, c.in-Ok-push.ensures.capacity, c.run_pairs-back.ensures.capacity);
    }
