-- Bodies one after another.
use Rattle.std.proofs.Common.{◌≡◌, List, [], ◌∷◌, ◌++◌, map, ap, ◌∙◌}
use Rattle.orders.specs.fix_types.declared.application.AppBody.{AppBody}
use Rattle.orders.specs.fix_types.Application.{body_fields}
use Rattle.order_machine.specs.fix_fields.Field.{Message}

-- the first
pub first-told : (old new : List AppBody) (m x : Message) → old ≡ []
    → map body_fields new ≡ map body_fields old ++ m ∷ [] → m ≡ x → map body_fields new ≡ x ∷ []
first-told old new m x none told is = told ∙ ap (λ (bs : List AppBody). map body_fields bs ++ m ∷ []) none
    ∙ ap (λ (f : Message). f ∷ []) is

-- those that come first, all of them
pub only-told : (old new : List AppBody) (xs ys : List Message) → old ≡ []
    → map body_fields new ≡ map body_fields old ++ xs → xs ≡ ys → map body_fields new ≡ ys
only-told old new xs ys none told is = told ∙ ap (λ (bs : List AppBody). map body_fields bs ++ xs) none ∙ is

-- and those behind the first
pub more-told : (old new : List AppBody) (x : Message) (xs ys : List Message) → map body_fields old ≡ x ∷ []
    → map body_fields new ≡ map body_fields old ++ xs → xs ≡ ys → map body_fields new ≡ x ∷ ys
more-told old new x xs ys first told is = told ∙ ap (λ (ms : List Message). ms ++ xs) first
    ∙ ap (λ (ms : List Message). x ∷ ms) is
