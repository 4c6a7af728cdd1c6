use Rattle.std.proofs.Common.{◌≡◌, ◌∙◌, ◌++◌, ℕ, List, true, sym, ap, subst}
use Rattle.gateway_day.specs.Audits.{IsFileSaying}
use Rattle.gateway_day.proofs.day.audit_whole.Goals.{then-is_read+in_ok-has_file, else-is_read}
use Rattle.gateway_day.proofs.day.audit_whole.Goals as goal

pub returns-clause-has : goal.returns-clause-has
returns-clause-has g c = λ is. elim c.if-is_read.branch [
  | then-is_read+in_ok-has_file w ↦
      let noted : c.note.new.self.bytes ≡ c.deref.result.now =
      c.note.ensures ∙ ap (λ (l : List ℕ). l ++ c.deref.result.now) c.new-read.ensures in
      let file : w.deref-then-is_read.result.now ≡ c.note.new.self.bytes =
      w.deref-then-is_read.ensures.value ∙ sym c.deref.ensures.value ∙ sym noted in
      subst (λ (f : List ℕ). IsFileSaying c.args.history f) file
      (w.in_ok-has_file.ensures (sym w.has_file-is ∙ (c.is_kept.ensures is).0))
  | else-is_read w ↦
      let has : c.if-is_read.has_file ≡ true = (c.is_kept.ensures is).0 in
      let none : ⊥ = cc in
      absurd none
]
