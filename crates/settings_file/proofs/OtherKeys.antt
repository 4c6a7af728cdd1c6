-- The keys of a table, as its map has them.
use Rattle.std.proofs.Common.{◌≡◌, Bool, true, false, List, [], ◌∷◌, map, refl}
use Rattle.std.specs.Prelude.{ℕ, not, cond, Option, Some, option_map, find, bytes_eq, String, string_bytes}
use Rattle.std.specs.List.{list_any}
use Rattle.std.specs.declared.alloc.Global.{Global}
use Rattle.toml.specs.View.{members_view}
use Rattle.toml.proofs.Views.{Entry}
use Rattle.settings_file.specs.Rules.{member_keys}
use Rattle.settings_file.proofs.Lists.{any-seen}

-- the first that passes, or the first of the others
one : (b : Bool) (key : String Global) (found : Option (String Global)) (seen : Option (List ℕ))
    → option_map string_bytes found ≡ seen
    → option_map string_bytes (cond b (Some key) found) ≡ cond b (Some (string_bytes key)) seen
one true key found seen h = refl
one false key found seen h = h

-- the first key that isn't one of these, in the map and in what the table is seen as
pub other-seen : {K : Type 0} (now : K → List ℕ) (keys : List K) (es : List Entry)
    → option_map string_bytes (find (λ (key : String Global). not
    (list_any (λ k. bytes_eq (string_bytes key) (now k)) keys)) (map (λ (e : Entry). e.0) es))
    ≡ find (λ key. not (list_any (bytes_eq key) (map now keys))) (member_keys (members_view es))
other-seen now keys [] = refl
other-seen now keys (e ∷ es) =
    rw (any-seen now (bytes_eq (string_bytes e.0)) keys)
    (one (not (list_any (λ k. bytes_eq (string_bytes e.0) (now k)) keys)) e.0 _ _ (other-seen now keys es))
