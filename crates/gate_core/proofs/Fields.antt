-- The core by its fields, for the proofs: its parts themselves, and how many events were stepped.
use Rattle.std.proofs.Common.{◌≡◌, ℕ, Result, Ok, Err, IfOk, subst, sym}
use Rattle.gate_law.specs.Settings.{Settings}
use Rattle.gate_law.specs.Events.{History}
use Rattle.gate_law.specs.After.{lists}
use Rattle.gate_law.specs.Holds.{Holds}
use Rattle.gate_core.specs.declared.parts.Parts.{Parts}
use Rattle.gate_core.specs.Core.{After, CoreStands, CoreState, IsAfter, stepped}
use Rattle.gate_core.specs.State.{ArePartsOf, parts_now}
use Rattle.gate_core.proofs.Standing.{parts-stand, stand-parts}

pub record CoreFields (S H : Type 0) : Type 0 where
  pub parts : Parts S H
  pub events : ℕ

-- the fields are what these turns leave
pub record FieldsAfter {S H : Type 0} (s : Settings) (h : History) (c : CoreFields S H) : Type 0 where
  pub holds : Holds s h
  pub parts : ArePartsOf s (lists s h) c.parts
  pub count : c.events ≡ stepped h

-- how they stand
abbrev pub stands : {S H : Type 0} → CoreFields S H → CoreStands
stands c = record { parts = parts_now c.parts; events = c.events }

pub fields-stand : {S H : Type 0} (s : Settings) (h : History) (c : CoreFields S H) → FieldsAfter s h c
    → After s h (stands c)
fields-stand s h c after = record {
  holds = after.holds;
  parts = parts-stand s (lists s h) c.parts after.parts;
  count =
      after.count;
}

pub stand-fields : {S H : Type 0} (s : Settings) (h : History) (c : CoreFields S H) → After s h (stands c)
    → FieldsAfter s h c
stand-fields s h c after = record {
  holds = after.holds;
  parts = stand-parts s (lists s h) c.parts after.parts;
  count =
      after.count;
}

-- which turns a core is after is seen of how it stands now
pub after-now : (s : Settings) (h : History) (c : CoreState) → IsAfter s h c → After s h c.now
unfolding IsAfter
after-now s h c after = after

pub now-after : (s : Settings) (h : History) (c : CoreState) → After s h c.now → IsAfter s h c
unfolding IsAfter
now-after s h c after = after

-- so it is the same of another that stands as it does
pub after-same : (s : Settings) (h : History) (c d : CoreState) → d.now ≡ c.now → IsAfter s h c → IsAfter s h d
after-same s h c d same after = now-after s h d (subst (After s h) (sym same) (after-now s h c after))

-- what an answer says of all turns that a core is after, it says of those that a core is after which stands the same
pub answered-same : {B E : Type 0} (r : Result B E) (Q : B → Settings → History → Type 0) (c d : CoreState)
    → d.now ≡ c.now
    → IfOk r (λ b. (s : Settings) (h : History) → IsAfter s h d → Q b s h)
    → IfOk r (λ b. (s : Settings) (h : History) → IsAfter s h c → Q b s h)
answered-same (Ok b) Q c d same says = λ s h is. says s h (after-same s h c d same is)
answered-same (Err e) Q c d same says = tt

-- the fields of a core that is seen so
pub fields-of : {S H : Type 0} (s : Settings) (h : History) (f : CoreFields S H) (settled : CoreStands) (c : CoreState)
    → record { now = stands f; settled = settled } ≡ c → IsAfter s h c → FieldsAfter s h f
fields-of s h f settled c seen after = stand-fields s h f
    (after-now s h (record { now = stands f; settled = settled }) (subst (IsAfter s h) (sym seen) after))
