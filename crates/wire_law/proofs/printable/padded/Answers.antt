use Rattle.std.proofs.Common.{◌≡◌, ◌-◌, ◌++◌, true, ℕ, List, zero, suc, length, drop, replicate, refl, ap, ◌∙◌}
use Rattle.std.specs.List.{list_all}
use Rattle.std.proofs.lemmas.List.{drop-replicate}
use Rattle.std.proofs.lemmas.List.Folds.{list_all-append}
use Rattle.wire_law.specs.Printable.{is_printable}
use Rattle.wire_law.proofs.printable.padded.Goals as goal

spaces : (n : ℕ) → list_all is_printable (replicate n 32) ≡ true
spaces zero = refl
spaces (suc n) = spaces n

padding : (text copy : List ℕ) (n : ℕ) → copy ≡ text
    → copy ++ drop (length text) (replicate n 32) ≡ text ++ replicate (n - length text) 32
padding text copy n e = ap (λ (t : List ℕ). t ++ drop (length text) (replicate n 32)) e
    ∙ ap (λ (t : List ℕ). text ++ t) (drop-replicate (length text) n 32)

pub returns-clause-bytes : goal.returns-clause-bytes
returns-clause-bytes g c = padding c.args.text.now c.copy_from_slice.new.self g.row.N c.copy_from_slice.ensures.after

pub returns-clause-printable : goal.returns-clause-printable
returns-clause-printable g c = λ h. ap (list_all is_printable)
    (padding c.args.text.now c.copy_from_slice.new.self g.row.N c.copy_from_slice.ensures.after)
    ∙ list_all-append is_printable c.args.text.now (replicate (g.row.N - length c.args.text.now) 32)
    ∙ rw (h, spaces (g.row.N - length c.args.text.now)) refl
