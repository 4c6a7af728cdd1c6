-- Pages with records more behind them.
use Rattle.std.proofs.Common.{◌≡◌, ◌<◌, ℕ, ◌+◌, List, [], ◌∷◌, ◌++◌, length, get_or, take, sym, ap, ◌∙◌}
use Rattle.std.proofs.lemmas.List.{map-append, take_more}
use Rattle.std.specs.Prelude.{map}
use Rattle.journal_pages.specs.Record.{Record}
use Rattle.journal_days.specs.Cut.{IsMoreOf, with_records}
use Rattle.journal_days.proofs.Cutting.{records-both}

pub more-by : (a b : List (List ℕ)) (rs : List Record) → b ≡ with_records a rs → IsMoreOf a b
more-by a b rs e = record { records = rs; same = e }

pub more-same : (a b : List (List ℕ)) → b ≡ a → IsMoreOf a b
more-same a b e = record { records = []; same = e }

pub more-both : (a b c : List (List ℕ)) → IsMoreOf a b → IsMoreOf b c → IsMoreOf a c
more-both a b c first later = record {
  records = first.records ++ later.records;
  same = later.same ∙ ap (λ (p : List (List ℕ)). with_records p later.records) first.same
      ∙ records-both a first.records later.records;
}

-- two parts, one behind the other
pub both-parts : (a b c : List (List ℕ)) (rs more : List Record) → b ≡ with_records a rs → c ≡ with_records b more
    → c ≡ with_records a (rs ++ more)
both-parts a b c rs more first later = later ∙ ap (λ (p : List (List ℕ)). with_records p more) first
    ∙ records-both a rs more

-- one more of a list
pub one-more : {X : Type 0} (f : X → Record) (a b c : List (List ℕ)) (xs : List X) (i : ℕ) (x : X) → i < length xs
    → x ≡ get_or xs i x
    → b ≡ with_records a (map f (take i xs)) → c ≡ with_records b (f x ∷ [])
    → c ≡ with_records a (map f (take (i + 1) xs))
one-more {X = X} f a b c xs i x inside is first later =
    both-parts a b c (map f (take i xs)) (f x ∷ []) first later
    ∙ ap (with_records a) (sym (map-append f (take i xs) (x ∷ [])) ∙ ap (λ (y : X). map f (take i xs ++ y ∷ [])) is
    ∙ ap (map f) (sym (take_more xs i x inside)))
