-- No more tokens were given by the first reports than by all.
use Rattle.std.proofs.Common.{◌≡◌, ◌<◌, ◌≤◌, ◌+◌, ℕ, List, [], ◌∷◌, ◌++◌, map, reverse, length, take, drop, get_or}
use Rattle.std.proofs.Common.{sym, ap, subst, ◌∙◌, arith, append_assoc}
use Rattle.std.proofs.lemmas.List.{map-append, reverse-append, take_more, take-append-drop}
use Rattle.gate_audit.proofs.Lists.{map-reverse}
use Rattle.gate_law.specs.fix_fields.Field.{Message}
use Rattle.gate_core.proofs.order_machine.Executed.{count-more}
use Rattle.gate_audit.specs.Pairs.{HasTokenNumbers, SaidToClient, gives_token, said_to, tokens_given}

tokens-behind : (xs ys : List SaidToClient) → tokens_given ys ≤ tokens_given (xs ++ ys)
tokens-behind [] ys = omega arith
tokens-behind (x ∷ xs) ys =
    let rest = tokens-behind xs ys in
    let more = count-more (λ (y : SaidToClient). gives_token y.report) x (xs ++ ys) in omega (arith, rest, more)

-- those of the first reports are what was told before the others
pub has-behind : (xs ys : List SaidToClient) → HasTokenNumbers (xs ++ ys) → HasTokenNumbers ys
has-behind xs ys has = (let fewer = tokens-behind xs ys in omega (arith, fewer, has))

next-reversed : {X : Type 0} (xs : List X) (i : ℕ) (x : X) → i < length xs → x ≡ get_or xs i x
    → reverse xs ≡ reverse (drop (i + 1) xs) ++ x ∷ reverse (take i xs)
next-reversed {X = X} xs i x inside is =
    ap reverse (sym (take-append-drop (i + 1) xs)) ∙ reverse-append (take (i + 1) xs) (drop (i + 1) xs)
    ∙ ap (λ (ys : List X). reverse (drop (i + 1) xs) ++ reverse ys)
    (take_more xs i x inside ∙ ap (λ (y : X). take i xs ++ y ∷ []) (sym is))
    ∙ ap (λ (ys : List X). reverse (drop (i + 1) xs) ++ ys) (reverse-append (take i xs) (x ∷ []))

-- what holds of all that is told, and of each end of it, holds up to and with one report of a client
pub up-to-one : (P : List SaidToClient → Type 0) → ((xs ys : List SaidToClient) → P (xs ++ ys) → P ys)
    → (c : ℕ) (rs : List Message) (i : ℕ) (r : Message) (all : List SaidToClient) → i < length rs
    → r ≡ get_or rs i r → P (reverse (map (said_to c) rs) ++ all)
    → P (said_to c r ∷ (reverse (map (said_to c) (take i rs)) ++ all))
up-to-one P ends c rs i r all inside is has =
    let f : Message → SaidToClient = said_to c in
    let whole : reverse (map f rs) ++ all ≡ map f (reverse (drop (i + 1) rs))
    ++ (f r ∷ (reverse (map f (take i rs)) ++ all)) =
    ap (λ (xs : List SaidToClient). xs ++ all)
    (sym (map-reverse f rs) ∙ ap (map f) (next-reversed rs i r inside is)
    ∙ map-append f (reverse (drop (i + 1) rs)) (r ∷ reverse (take i rs)))
    ∙ append_assoc (map f (reverse (drop (i + 1) rs))) (f r ∷ map f (reverse (take i rs))) all
    ∙ ap (λ (xs : List SaidToClient). map f (reverse (drop (i + 1) rs)) ++ (f r ∷ (xs ++ all)))
    (map-reverse f (take i rs)) in
    ends (map f (reverse (drop (i + 1) rs))) (f r ∷ (reverse (map f (take i rs)) ++ all)) (subst P whole has)

-- the tokens up to and with one report of a client
pub has-next : (c : ℕ) (rs : List Message) (i : ℕ) (r : Message) (all : List SaidToClient) → i < length rs
    → r ≡ get_or rs i r
    → HasTokenNumbers (reverse (map (said_to c) rs) ++ all)
    → HasTokenNumbers (said_to c r ∷ (reverse (map (said_to c) (take i rs)) ++ all))
has-next = up-to-one HasTokenNumbers has-behind
