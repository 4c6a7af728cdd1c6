-- Pages with records more, some of the first of which have left memory.
use Rattle.std.proofs.Common.{◌≡◌, ℕ, Bool, true, false, List, [], ◌∷◌, ◌++◌, length, refl, sym, ap, ◌∙◌}
use Rattle.std.specs.Prelude.{if◌then◌else◌}
use Rattle.journal_pages.specs.Record.{Record}
use Rattle.journal_records.specs.journal_days.Cut.{has_room, number_behind, page_with, record_text, with_records, with_text}

-- pages of which there is one at least
record Some (pages : List (List ℕ)) : Type 0 where
  first : List ℕ
  rest : List (List ℕ)
  are : pages ≡ first ∷ rest

text-some : (p : List ℕ) (ps : List (List ℕ)) (text : List ℕ) → Some (with_text (p ∷ ps) text)
text-some p [] text = by_room (has_room p (length text))
  where
    by_room : (b : Bool) → Some (if b then (p ++ text) ∷ [] else p ∷ page_with (number_behind p) text ∷ [])
    by_room true = record { first = p ++ text; rest = []; are = refl }
    by_room false = record { first = p; rest = page_with (number_behind p) text ∷ []; are = refl }
text-some p (q ∷ ps) text = record { first = p; rest = with_text (q ∷ ps) text; are = refl }

text-behind : (front : List (List ℕ)) (p : List ℕ) (ps : List (List ℕ)) (text : List ℕ)
    → with_text (front ++ p ∷ ps) text ≡ front ++ with_text (p ∷ ps) text
text-behind [] p ps text = refl
text-behind (f ∷ []) p ps text = refl
text-behind (f ∷ g ∷ front) p ps text = ap (λ (l : List (List ℕ)). f ∷ l) (text-behind (g ∷ front) p ps text)

some-behind : (front : List (List ℕ)) (p : List ℕ) (ps : List (List ℕ)) (rs : List Record)
    → with_records (front ++ p ∷ ps) rs ≡ front ++ with_records (p ∷ ps) rs
some-behind front p ps [] = refl
some-behind front p ps (r ∷ rs) =
    let s = text-some p ps (record_text r) in
    ap (λ (l : List (List ℕ)). with_records l rs)
    (text-behind front p ps (record_text r) ∙ ap (λ (l : List (List ℕ)). front ++ l) s.are)
    ∙ some-behind front s.first s.rest rs
    ∙ ap (λ (l : List (List ℕ)). front ++ with_records l rs) (sym s.are)

some-stay : (p : List ℕ) (ps : List (List ℕ)) (rs : List Record) → with_records (p ∷ ps) rs ≡ [] → ⊥
some-stay p ps [] e = let no : ⊥ = cc in absurd no
some-stay p ps (r ∷ rs) e =
    let s = text-some p ps (record_text r) in
    some-stay s.first s.rest rs (ap (λ (l : List (List ℕ)). with_records l rs) (sym s.are) ∙ e)

pub records-behind : (front pages : List (List ℕ)) (rs : List Record) → (pages ≡ [] → front ≡ [])
    → front ++ with_records pages rs ≡ with_records (front ++ pages) rs
records-behind front [] rs some =
    let none = some refl in
    ap (λ (l : List (List ℕ)). l ++ with_records [] rs) none
    ∙ ap (λ (l : List (List ℕ)). with_records (l ++ []) rs) (sym none)
records-behind front (p ∷ ps) rs some = sym (some-behind front p ps rs)

pub still-some : (front pages : List (List ℕ)) (rs : List Record) → (pages ≡ [] → front ≡ [])
    → with_records pages rs ≡ [] → front ≡ []
still-some front [] rs some e = some refl
still-some front (p ∷ ps) rs some e = absurd (some-stay p ps rs e)
