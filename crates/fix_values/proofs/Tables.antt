-- Fields that pass a table.
use Rattle.std.proofs.Common.{◌≡◌, Bool, true, false, ℕ, List, [], ◌∷◌, refl}
use Rattle.std.specs.Prelude.{Option, Some, None, is_some, is_none, if◌then◌else◌}
use Rattle.std.specs.Option.{option_or}
use Rattle.fix_fields.specs.Field.{Field, first_value}
use Rattle.fix_values.specs.declared.format.Row.{Row}
use Rattle.fix_fields.specs.declared.session_refusal.SessionRefusal.{SessionRefusal}
use Rattle.fix_fields.specs.Fault.{refusal}
use Rattle.fix_values.specs.Formats.{first_missing, first_misfit, first_refusal, passes, misfit_reason}

-- each tag is there
abbrev pub AreThere : List ℕ → List Field → Type 0
AreThere [] fs = Unit {0}
AreThere (tag ∷ tags) fs = (is_some (first_value tag fs) ≡ true) × AreThere tags fs

-- each row's value has its format
abbrev pub AllPass : List Row → List Field → Type 0
AllPass [] fs = Unit {0}
AllPass (row ∷ rows) fs = (passes row.format (first_value row.tag fs) ≡ true) × AllPass rows fs

none_missing : (value : Option (List ℕ)) (r : SessionRefusal) (rest : Option SessionRefusal)
    → (if is_none value then Some r else rest) ≡ None → (is_some value ≡ true) × (rest ≡ None)
none_missing None r rest e = absurd cc
none_missing (Some v) r rest e = (refl, e)

none_misfit : (test : Bool) (r : SessionRefusal) (rest : Option SessionRefusal) → (if test then rest else Some r) ≡ None
    → (test ≡ true) × (rest ≡ None)
none_misfit true r rest e = (refl, e)
none_misfit false r rest e = absurd cc

pub are_there : (tags : List ℕ) (fs : List Field) → first_missing tags fs ≡ None → AreThere tags fs
are_there [] fs e = tt
are_there (tag ∷ tags) fs e =
    let p = none_missing (first_value tag fs) (refusal tag 1) (first_missing tags fs) e in
    (p.0, are_there tags fs p.1)

pub all_pass : (rows : List Row) (fs : List Field) → first_misfit rows fs ≡ None → AllPass rows fs
all_pass [] fs e = tt
all_pass (row ∷ rows) fs e =
    let p = none_misfit (passes row.format (first_value row.tag fs)) (refusal row.tag (misfit_reason row.format))
    (first_misfit rows fs) e in
    (p.0, all_pass rows fs p.1)

neither : (a b : Option SessionRefusal) → option_or a b ≡ None → (a ≡ None) × (b ≡ None)
neither None b e = (refl, e)
neither (Some r) b e = absurd cc

-- what no refusal says
pub passed : (tags : List ℕ) (rows : List Row) (fs : List Field) → first_refusal tags rows fs ≡ None
    → AreThere tags fs × AllPass rows fs
passed tags rows fs e =
    let p = neither (first_missing tags fs) (first_misfit rows fs) e in
    (are_there tags fs p.0, all_pass rows fs p.1)

-- and the other way
pub none_refused : (tags : List ℕ) (rows : List Row) (fs : List Field) → AreThere tags fs → AllPass rows fs
    → first_refusal tags rows fs ≡ None
none_refused tags rows fs there pass = rw (nothing_missing tags fs there, nothing_misfit rows fs pass) refl
  where
    both : (value : Option (List ℕ)) (r : SessionRefusal) (rest : Option SessionRefusal) → is_some value ≡ true
        → rest ≡ None → (if is_none value then Some r else rest) ≡ None
    both None r rest h e = absurd cc
    both (Some v) r rest h e = e

    nothing_missing : (tags : List ℕ) (fs : List Field) → AreThere tags fs → first_missing tags fs ≡ None
    nothing_missing [] fs h = refl
    nothing_missing (tag ∷ tags) fs h = both (first_value tag fs) (refusal tag 1) (first_missing tags fs) h.0
        (nothing_missing tags fs h.1)

    nothing_misfit : (rows : List Row) (fs : List Field) → AllPass rows fs → first_misfit rows fs ≡ None
    nothing_misfit [] fs h = refl
    nothing_misfit (row ∷ rows) fs h = rw (h.0, nothing_misfit rows fs h.1) refl
