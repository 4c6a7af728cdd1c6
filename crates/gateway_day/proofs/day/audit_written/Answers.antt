use Rattle.std.proofs.Common.{◌≡◌, ◌==◌, ◌∙◌, arith, List, ℕ, true, refl, sym, subst}
use Rattle.std.proofs.lemmas.Bool.Decides.{nat_tests}
use Rattle.gate_journal.specs.Kept.{Kept, kept_in, turns}
use Rattle.gate_audit.specs.Auditing.{IsAuditing}
use Rattle.journal_file.specs.Said.{Says}
use Rattle.journal_file.specs.declared.ending.Ending.{Ending}
use Rattle.journal_file.specs.declared.ending.Ending.TheVariants.{Over}
use Rattle.journal_file.proofs.Meaning.{reads-in-front, reads-nothing-else}
use Rattle.gateway_day.specs.Audits.{IsFoundOf}
use Rattle.gateway_day.proofs.Back.{found-same, given-back}
use Rattle.gateway_day.proofs.day.audit_written.Goals.{then-is_all, else-is_all}
use Rattle.gateway_day.proofs.day.audit_written.Goals as goal

same-number : (n m : ℕ) → (n == m) ≡ true → n ≡ m
same-number n m e = grind (arith, nat_tests)

pub returns-clause-read : goal.returns-clause-read
returns-clause-read g c =
    let day : Kept = kept_in c.take_file.new.reader.yielded in
    let file : List ℕ = c.into_read.result.bytes in
    let ending : Ending = c.in_ok-ending.ending in
    let says : Says file day ending =
    subst (λ (l : List ℕ). Says l day ending) (sym c.into_read.ensures) c.in_ok-ending.ensures.says in
    let told : IsAuditing c.args.settings (turns day) c.take_file.new.audit =
    c.in_ok-ending.ensures.audit c.args.settings c.in_ok-audit.ensures in
    let found : IsFoundOf c.args.settings day c.in_ok-pairs.pairs.items c.take_file.new.links.items = record {
      audit = record {
        read = c.in_ok-pairs.ensures.read (turns day) told;
        run = c.in_ok-pairs.ensures.run (turns day) told;
      };
      links = c.in_ok-ending.ensures.links;
    } in
    let over : c.if-is_all.has_file ≡ true → ending ≡ Over = λ is. elim c.if-is_all.branch [
      | then-is_all w ↦ w.is_over-has_file.ensures (sym w.has_file-is ∙ is)
      | else-is_all w ↦ absurd (w.if-is_all.false (same-number c.in_ok-ending.number c.next_number.result
          (sym w.has_file-is ∙ is)))
    ] in
    record {
      has_day = λ is. record {
        day = day;
        says = subst (λ (e : Ending). Says file day e) (over (c.is_kept.ensures is).0) says;
        found = found;
      };
      same = λ f end few seen.
          found-same c.args.settings day c.args.history c.in_ok-pairs.pairs.items c.take_file.new.links.items
          (given-back file day c.args.history f few (reads-in-front file day ending few says)
          (reads-nothing-else file day ending says) refl c.recent.ensures.same end seen) found;
    }
