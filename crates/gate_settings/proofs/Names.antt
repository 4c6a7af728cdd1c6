-- Names that are each its own.
use Rattle.std.proofs.Common.{◌≡◌, ◌≤◌, ◌-◌, Bool, List, [], ◌∷◌, length, refl, sym, ap, ◌∙◌, arith}
use Rattle.std.specs.Prelude.{ℕ, ◌&&◌, not, map, take, drop, get_or, bytes_eq}
use Rattle.std.specs.List.{list_any}
use Rattle.std.proofs.lemmas.List.{take_rest}
use Rattle.gate_law.specs.Settings.{ClientSettings}
use Rattle.gate_law.specs.Limits.{is_each_own}

-- the clients' names, in their order
abbrev names : List ClientSettings → List (List ℕ)
names clients = map (λ (c : ClientSettings). c.comp) clients

-- whether one of these clients has this name
abbrev has_named : List ℕ → List ClientSettings → Bool
has_named name clients = list_any (λ (c : ClientSettings). bytes_eq name c.comp) clients

-- all but the first, as a slice is cut
abbrev behind : List ClientSettings → List ClientSettings
behind clients = take (length clients - 1) (drop 1 clients)

named-among : (name : List ℕ) (clients : List ClientSettings)
    → list_any (bytes_eq name) (names clients) ≡ has_named name clients
named-among name [] = refl
named-among name (c ∷ cs) = rw (named-among name cs) refl

-- the first has a name that no other has, and the others each their own
split : (clients : List ClientSettings) (d : ClientSettings) → 1 ≤ length clients
    → is_each_own (names clients) ≡ (not (has_named (get_or clients 0 d).comp (drop 1 clients))
    && is_each_own (names (drop 1 clients)))
split [] d h = absurd (omega (arith, h))
split (c ∷ cs) d h = ap (λ (b : Bool). not b && is_each_own (names cs)) (named-among c.comp cs)

-- the same of the name that was read of the first, and of what was found of it
pub each_own-split : (clients : List ClientSettings) (first : ClientSettings) (name : List ℕ) (named : Bool)
    → 1 ≤ length clients
    → first ≡ get_or clients 0 first → name ≡ first.comp → named ≡ has_named name (behind clients)
    → is_each_own (names clients) ≡ (not named && is_each_own (names (behind clients)))
each_own-split clients first name named h is_first is_name is_named =
    split clients first h
    ∙ ap (λ (c : ClientSettings). not (has_named c.comp (drop 1 clients)) && is_each_own (names (drop 1 clients)))
    (sym is_first)
    ∙ ap (λ (n : List ℕ). not (has_named n (drop 1 clients)) && is_each_own (names (drop 1 clients))) (sym is_name)
    ∙ ap (λ (cs : List ClientSettings). not (has_named name cs) && is_each_own (names cs)) (sym (take_rest clients 1))
    ∙ ap (λ (b : Bool). not b && is_each_own (names (behind clients))) (sym is_named)
