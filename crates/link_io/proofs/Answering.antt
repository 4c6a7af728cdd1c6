-- What a step tells of the calls of its stream.
use Rattle.std.proofs.Common.{◌≡◌, ℕ, Bool, List, Option, Some, Result, Ok, Err, sym, subst}
use Rattle.gate_law.specs.Events as law
use Rattle.link_io.specs.declared.link_fault.LinkFault.{LinkFault}
use Rattle.link_io.specs.declared.link_fault.LinkFault.TheVariants.{ReadFailed, WriteFailed, Malformed, StepLimit}
use Rattle.link_io.specs.declared.link_fault.LinkFault.TheVariants.{NoMemory}
use Rattle.link_io.specs.declared.progress.Progress.{Progress}
use Rattle.link_io.specs.declared.progress.Progress.TheVariants.{Ended}
use Rattle.link_io.specs.Reading.{Reading, Puts, Fills}
use Rattle.link_io.specs.Answered.{FillsBy, NoneFailed, ReadsBy}

module _ {S : Type 0} (did_read : S → Option ℕ → S → Type 0) (old new : S) where
  -- a fault in what was made: no read failed
  pub by_making : {D : Type 0} (made : D → List ℕ → List law.Event → Type 0)
      (are_all : D → Bool → List ℕ → List law.Event → Type 0) (at : ℕ)
      (r : Result Progress LinkFault) (fault : LinkFault) (a b : Reading D) (x y : List law.Event) → r ≡ Err fault
      → Puts made are_all at (Err fault) a b x y → NoneFailed did_read old new → ReadsBy did_read r old new
  by_making made are_all at r fault a b x y e p none =
      subst (λ (q : Result Progress LinkFault). ReadsBy did_read q old new) (sym e) (by_fault fault p)
    where
      by_fault : (f : LinkFault) → Puts made are_all at (Err f) a b x y → ReadsBy did_read (Err f) old new
      by_fault Malformed p = none
      by_fault NoMemory p = none
      by_fault ReadFailed p = absurd p.says
      by_fault WriteFailed p = absurd p.says
      by_fault StepLimit p = absurd p.says

  -- a read that failed
  pub by_failing : (r : Result Progress LinkFault) (fault : LinkFault) (piece : List ℕ) (s t : Option (List ℕ))
      → r ≡ Err fault
      → Fills (Err fault) piece s t → FillsBy did_read (Err fault) old new → ReadsBy did_read r old new
  by_failing r fault piece s t e fills failed =
      subst (λ (q : Result Progress LinkFault). ReadsBy did_read q old new) (sym e) (by_fault fault fills)
    where
      by_fault : (f : LinkFault) → Fills (Err f) piece s t → ReadsBy did_read (Err f) old new
      by_fault ReadFailed h = failed
      by_fault WriteFailed h = absurd h
      by_fault Malformed h = absurd h
      by_fault StepLimit h = absurd h
      by_fault NoMemory h = absurd h

  -- a read that gave none
  pub by_ending : (count : ℕ) → count ≡ 0 → FillsBy did_read (Ok count) old new → ReadsBy did_read (Ok Ended) old new
  by_ending count e h = subst (λ (n : ℕ). did_read old (Some n) new) e h
