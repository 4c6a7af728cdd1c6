-- Texts that are fields, one behind another.
use Rattle.std.proofs.Common.{◌≡◌, ℕ, true, List, [], ◌∷◌, ◌++◌, refl, ap, ◌∙◌, append-nil, decimal}
use Rattle.std.specs.Prelude.{Option, is_some, unwrap_or, ◌≤◌}
use Rattle.std.specs.List.{list_all}
use Rattle.std.proofs.lemmas.List.Folds.{list_all-append}
use Rattle.std.proofs.lemmas.Grind.{flat_map-append}
use Rattle.fix_fields.specs.Field.{Field, AreFields, is_field, is_inside, field_text, fields_text}
use Rattle.fix_fields.proofs.Reading.{AreFieldsOf, fields_of-is, fields_of-known}
use Rattle.fix_fields.proofs.Tags.{le_test}
use Rattle.fix_fields.specs.Printed.{PrintsFields, prints_fields, fields_in}

-- a text that is fields is what its fields print as
pub spelled-in : (text : List ℕ) → PrintsFields text → AreFieldsOf text (fields_in text)
unfolding prints_fields fields_in
spelled-in text is = fields_of-known text is

-- and what prints as a text is its fields
pub record IsPrinted (text : List ℕ) (fs : List Field) : Type 0 where
  pub prints : PrintsFields text
  pub same : fields_in text ≡ fs

pub printed-is : (text : List ℕ) (fs : List Field) → AreFields fs → fields_text fs ≡ text → IsPrinted text fs
unfolding prints_fields fields_in
printed-is text fs good e =
    let found = fields_of-is text fs good e in
    record {
      prints = ap (λ (o : Option (List Field)). is_some o) found;
      same =
          ap (λ (o : Option (List Field)). unwrap_or o []) found;
    }

pub printed-none : IsPrinted [] []
printed-none = printed-is [] [] refl refl

-- texts one behind another are the fields of both
pub printed-both : (text more : List ℕ) → PrintsFields text → PrintsFields more
    → IsPrinted (text ++ more) (fields_in text ++ fields_in more)
printed-both text more is also =
    let a = spelled-in text is in
    let b = spelled-in more also in
    printed-is (text ++ more) (fields_in text ++ fields_in more)
    (list_all-append is_field (fields_in text) (fields_in more) ∙ rw (a.fields, b.fields) refl)
    (flat_map-append field_text (fields_in text) (fields_in more) ∙ rw (a.spelled, b.spelled) refl)

-- a field behind a text
pub printed-field : (text digits value : List ℕ) (tag : ℕ) → PrintsFields text → digits ≡ decimal tag → 1 ≤ tag
    → tag ≤ 999_999_999 → list_all is_inside value ≡ true
    → IsPrinted (text ++ (digits ++ 61 ∷ (value ++ 1 ∷ [])))
    (fields_in text ++ record { tag = tag; value = value } ∷ [])
printed-field text digits value tag is d low high inside =
    let f : Field = record { tag = tag; value = value } in
    let one = printed-is (field_text f) (f ∷ []) (rw (le_test 1 tag low, le_test tag 999_999_999 high, inside) refl)
    (append-nil (field_text f)) in
    let both = printed-both text (field_text f) is one.prints in
    rw d (record { prints = both.prints; same = both.same ∙ ap (λ (fs : List Field). fields_in text ++ fs) one.same })
