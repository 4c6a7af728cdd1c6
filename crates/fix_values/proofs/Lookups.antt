-- The first value of a tag in fields that are written slot by slot.
use Rattle.std.proofs.Common.{◌≡◌, Bool, true, false, ℕ, List, [], ◌∷◌, ◌++◌, refl, ap, ◌∙◌, sym, append-nil}
use Rattle.std.proofs.Common.{append_assoc}
use Rattle.std.specs.Prelude.{Option, Some, None, ◌==◌, if◌then◌else◌, unwrap_or}
use Rattle.std.specs.Option.{option_or}
use Rattle.std.proofs.lemmas.List.Sums.{fold-append}
use Rattle.fix_fields.specs.Field.{Field, first_value}
use Rattle.fix_values.specs.Slots.{FieldSlot, value_fields, slot_fields, appended, fields_of_slots, text_of}

-- the first value that a slot of this tag has
abbrev pub lookup : ℕ → List FieldSlot → Option (List ℕ)
lookup tag [] = None
lookup tag (s ∷ slots) = if s.tag == tag then option_or s.value (lookup tag slots) else lookup tag slots

pub option_or-none : (o : Option (List ℕ)) → option_or o None ≡ o
option_or-none None = refl
option_or-none (Some v) = refl

option_or_assoc : (a b c : Option (List ℕ)) → option_or (option_or a b) c ≡ option_or a (option_or b c)
option_or_assoc None b c = refl
option_or_assoc (Some v) b c = refl

first_value-append : (tag : ℕ) (fs gs : List Field)
    → first_value tag (fs ++ gs) ≡ option_or (first_value tag fs) (first_value tag gs)
first_value-append tag [] gs = refl
first_value-append tag (f ∷ fs) gs = by_test (f.tag == tag) (first_value-append tag fs gs)
  where
    by_test : (test : Bool) → first_value tag (fs ++ gs) ≡ option_or (first_value tag fs) (first_value tag gs)
        → (if test then Some f.value else first_value tag (fs ++ gs))
        ≡ option_or (if test then Some f.value else first_value tag fs) (first_value tag gs)
    by_test true e = refl
    by_test false e = e

same_either_way : (test : Bool) (rest : Option (List ℕ)) → rest ≡ (if test then rest else rest)
same_either_way true rest = refl
same_either_way false rest = refl

chosen : (test : Bool) (v : List ℕ) (rest : Option (List ℕ))
    → option_or (if test then Some v else None) rest ≡ (if test then Some v else rest)
chosen true v rest = refl
chosen false v rest = refl

slot_value : (tag other : ℕ) (value rest : Option (List ℕ))
    → option_or (first_value tag (value_fields other value)) rest
    ≡ (if other == tag then option_or value rest else rest)
slot_value tag other None rest = same_either_way (other == tag) rest
slot_value tag other (Some v) rest = chosen (other == tag) v rest

first_value-appended : (tag : ℕ) (slots : List FieldSlot) (fs : List Field)
    → first_value tag (appended fs slots) ≡ option_or (first_value tag fs) (lookup tag slots)
first_value-appended tag [] fs = sym (option_or-none (first_value tag fs))
first_value-appended tag (s ∷ slots) fs =
    first_value-appended tag slots (fs ++ slot_fields s)
    ∙ ap (λ (o : Option (List ℕ)). option_or o (lookup tag slots)) (first_value-append tag fs (slot_fields s))
    ∙ option_or_assoc (first_value tag fs) (first_value tag (slot_fields s)) (lookup tag slots)
    ∙ ap (λ (o : Option (List ℕ)). option_or (first_value tag fs) o) (slot_value tag s.tag s.value (lookup tag slots))

pub first_value-fields_of : (tag : ℕ) (slots : List FieldSlot)
    → first_value tag (fields_of_slots slots) ≡ lookup tag slots
first_value-fields_of tag slots = first_value-appended tag slots []

-- the value of a tag that one slot alone has
pub value_in : (tag : ℕ) (slots : List FieldSlot) (value : Option (List ℕ)) → lookup tag slots ≡ option_or value None
    → first_value tag (fields_of_slots slots) ≡ value
value_in tag slots value e = first_value-fields_of tag slots ∙ e ∙ option_or-none value

-- the text of a tag that is there
pub text_in : (tag : ℕ) (fs : List Field) (value : List ℕ) → first_value tag fs ≡ Some value → text_of tag fs ≡ value
text_in tag fs value e = ap (λ (v : Option (List ℕ)). unwrap_or v []) e

-- slots that are added stand behind what was there
pub appended-fields : (fs : List Field) (slots : List FieldSlot) → appended fs slots ≡ fs ++ fields_of_slots slots
appended-fields fs [] = sym (append-nil fs)
appended-fields fs (s ∷ slots) =
    appended-fields (fs ++ slot_fields s) slots ∙ append_assoc fs (slot_fields s) (fields_of_slots slots)
    ∙ ap (λ (more : List Field). fs ++ more) (sym (appended-fields (slot_fields s) slots))

-- slots that are added in two steps
pub appended-both : (fs : List Field) (first more : List FieldSlot)
    → appended (appended fs first) more ≡ fs ++ fields_of_slots (first ++ more)
appended-both fs first more =
    sym (fold-append (λ (before : List Field) (s : FieldSlot). before ++ slot_fields s) fs first more)
    ∙ appended-fields fs (first ++ more)
