-- Parts of a batch, one at a time.
use Rattle.std.proofs.Common.{◌≡◌, ◌<◌, ℕ, true, false, Bool, Some, None, List, [], ◌∷◌, length, refl, sym, ap, subst}
use Rattle.std.proofs.Common.{◌∙◌}
use Rattle.std.specs.Prelude.{if◌then◌else◌}
use Rattle.journal_pages.specs.fix_fields.Field.{fields_text}
use Rattle.journal_pages.specs.fix_fields.Reading.{fields_of}
use Rattle.std.specs.Option.{is_some}
use Rattle.journal_pages.specs.fix_fields.Printed.{PrintsFields, fields_in, prints_fields}
use Rattle.journal_pages.specs.declared.kind.RecordKind.{RecordKind}
use Rattle.journal_pages.specs.declared.kind.RecordKind.TheVariants as kinds
use Rattle.journal_pages.specs.Record.{Record, is_sound, payload_fits}
use Rattle.journal_records.specs.Events.{payload_fields}
use Rattle.journal_records.specs.Reading.{BatchSaid, behind_parts, first_part, is_part, parts_said, said_more}
use Rattle.journal_records.proofs.Rows.{has, text-kept}

-- nothing more is said where no part stands in front
pub no-part-said : (s : BatchSaid) (rs : List Record) → first_part rs ≡ None → parts_said s rs ≡ s
no-part-said s [] e = refl
no-part-said s (r ∷ rs) e = by_test (is_part r.kind) e
  where
    by_test : (b : Bool) → (if b then Some r else None) ≡ None
        → (if b then parts_said (said_more r.kind r s) rs else s) ≡ s
    by_test true e = let no : ⊥ = cc in absurd no
    by_test false e = refl

pub no-part-behind : (rs : List Record) → first_part rs ≡ None → behind_parts rs ≡ rs
no-part-behind [] e = refl
no-part-behind (r ∷ rs) e = by_test (is_part r.kind) e
  where
    by_test : (b : Bool) → (if b then Some r else None) ≡ None → (if b then behind_parts rs else r ∷ rs) ≡ r ∷ rs
    by_test true e = let no : ⊥ = cc in absurd no
    by_test false e = refl

is-first : (b : Bool) (r x : Record) → (if b then Some r else None) ≡ Some x → b ≡ true
is-first true r x e = refl
is-first false r x e = let no : ⊥ = cc in absurd no

pub part-said : (s : BatchSaid) (all : List Record) (r : Record) (rs : List Record) → first_part all ≡ Some r
    → all ≡ r ∷ rs → parts_said s all ≡ parts_said (said_more r.kind r s) rs
part-said s all r rs first is =
    let front : first_part (r ∷ rs) ≡ Some r = ap first_part (sym is) ∙ first in
    let part : is_part r.kind ≡ true = is-first (is_part r.kind) r r front in
    ap (parts_said s) is ∙ rw part refl

pub part-behind : (all : List Record) (r : Record) (rs : List Record) → first_part all ≡ Some r → all ≡ r ∷ rs
    → behind_parts all ≡ behind_parts rs
part-behind all r rs first is =
    let front : first_part (r ∷ rs) ≡ Some r = ap first_part (sym is) ∙ first in
    let part : is_part r.kind ≡ true = is-first (is_part r.kind) r r front in
    ap behind_parts is ∙ rw part refl

-- ---- the text of a report

pub record IsReport (payload : List ℕ) : Type 0 where
  pub fields : is_some (fields_of payload) ≡ true
  pub few : length payload < 1_048_576

report-payload : (k : RecordKind) (payload : List ℕ) → k ≡ kinds.Report → payload_fits k payload ≡ true
    → is_some (fields_of payload) ≡ true
report-payload k payload is fits = subst (λ (x : RecordKind). payload_fits x payload ≡ true) is fits

pub report-of : (r : Record) → is_sound r ≡ true → r.kind ≡ kinds.Report → IsReport r.payload
report-of r sound is =
    let h = has r sound in
    record { fields = report-payload r.kind r.payload is h.payload; few = h.few }

pub prints : (payload : List ℕ) → is_some (fields_of payload) ≡ true → PrintsFields payload
unfolding prints_fields
prints payload e = e

pub same-fields : (payload : List ℕ) → fields_in payload ≡ payload_fields payload
unfolding fields_in
same-fields payload = refl

pub same-size : (payload : List ℕ) → is_some (fields_of payload) ≡ true
    → length (fields_text (payload_fields payload)) ≡ length payload
same-size payload e = ap length (text-kept payload (fields_of payload) refl e)
