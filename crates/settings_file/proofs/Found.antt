-- The text that a function found at a key.
use Rattle.std.proofs.Common.{◌≡◌, ℕ, Bool, true, false, List, [], refl, ap, sym, ◌∙◌}
use Rattle.std.specs.Prelude.{Option, None, Some, is_some, option_map, option_and_then, unwrap_or, if◌then◌else◌}
use Rattle.std.proofs.lemmas.Bool.{false≢true}
use Rattle.toml.specs.Data.{Data}
use Rattle.settings_file.specs.Rules.{Rule, text_in, where_it_holds, kept_text}
use Rattle.settings_file.specs.File.{text_at}

-- what a test let pass is what was there, and it holds
let_by : (holds : List ℕ → Bool) (x text : List ℕ) (b : Bool) → holds x ≡ b → (if b then Some x else None) ≡ Some text
    → (x ≡ text) × (holds text ≡ true)
let_by holds x text true is h = let e : x ≡ text = ap (λ (o : Option (List ℕ)). unwrap_or o x) h in
    (e, ap holds (sym e) ∙ is)
let_by holds x text false is h = absurd (false≢true (ap is_some h))

let_through : (holds : List ℕ → Bool) (found : Option (List ℕ)) (text : List ℕ)
    → option_and_then (where_it_holds holds) found ≡ Some text
    → (unwrap_or found [] ≡ text) × (holds text ≡ true)
let_through holds None text h = absurd (false≢true (ap is_some h))
let_through holds (Some x) text h = let_by holds x text (holds x) refl h

-- it is the text of the key, and the rule holds of it
pub found-text : {S : Type 0} (now : S → List ℕ) (found : Option S) (s : S) (r : Rule) (t : Data)
    → option_map now found ≡ kept_text t r
    → found ≡ Some s → (text_at r.key t ≡ now s) × (r.holds (now s) ≡ true)
found-text now found s r t is some = let_through r.holds (text_in r.key t) (now s) (sym is ∙ ap (option_map now) some)
