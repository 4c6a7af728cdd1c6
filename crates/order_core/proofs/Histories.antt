-- One more event of a run.
use Rattle.std.proofs.Common.{◌≡◌, ℕ, suc, zero, ◌+◌, ◌<◌, ◌≤◌, Bool, true, false, List, [], ◌∷◌, ◌++◌, length, take}
use Rattle.std.proofs.Common.{get_or, refl, sym, ap, ◌∙◌, subst, arith, length-take-le}
use Rattle.std.specs.Prelude.{◌&&◌}
use Rattle.std.specs.List.{list_all}
use Rattle.std.proofs.lemmas.List.{take_more}
use Rattle.outstanding.specs.order_law.Headline.{EachWith}
use Rattle.outstanding.specs.order_law.History.{OrderHistory}
use Rattle.order_core.specs.declared.runs.Event.{Event}
use Rattle.order_core.specs.declared.runs.Outcome.{Outcome}
use Rattle.order_core.specs.Runs.{run_history, outcomes_onto, turn_of_outcome}

onto-push : (events : List Event) (outcomes : List Outcome) (e : Event) (o : Outcome) (before : OrderHistory)
    → length events ≡ length outcomes → outcomes_onto (events ++ e ∷ []) (outcomes ++ o ∷ []) before
    ≡ turn_of_outcome e o ∷ outcomes_onto events outcomes before
onto-push [] [] e o before same = refl
onto-push [] (p ∷ outcomes) e o before same = absurd (omega arith)
onto-push (x ∷ events) [] e o before same = absurd (omega arith)
onto-push (x ∷ events) (p ∷ outcomes) e o before same =
    onto-push events outcomes e o (turn_of_outcome x p ∷ before) (omega arith)

pub history-more : (events : List Event) (outcomes : List Outcome) (i : ℕ) (e : Event) (o : Outcome) → i < length events
    → e ≡ get_or events i e → length outcomes ≡ i
    → run_history (take (i + 1) events) (outcomes ++ o ∷ [])
    ≡ turn_of_outcome e o ∷ run_history (take i events) outcomes
history-more events outcomes i e o inside is same =
    ap (λ xs. run_history xs (outcomes ++ o ∷ []))
    (take_more events i e inside ∙ ap (λ x. take i events ++ x ∷ []) (sym is))
    ∙ onto-push (take i events) outcomes e o [] (omega (arith, length-take-le i events (omega arith), same))

each-push : {X Y : Type 0} (P : X → Y → Type 0) (xs : List X) (ys : List Y) (x : X) (y : Y) → EachWith P xs ys → P x y
    → EachWith P (xs ++ x ∷ []) (ys ++ y ∷ [])
each-push P [] [] x y each more = (more, tt)
each-push P [] (z ∷ ys) x y each more = absurd each
each-push P (w ∷ xs) [] x y each more = absurd each
each-push P (w ∷ xs) (z ∷ ys) x y each more = (each.0, each-push P xs ys x y each.1 more)

-- each event so far has its outcome, and one more
pub each-more : (P : Event → Outcome → Type 0) (events : List Event) (outcomes : List Outcome) (i : ℕ) (e : Event)
    (o : Outcome) → i < length events → e ≡ get_or events i e → EachWith P (take i events) outcomes → P e o
    → EachWith P (take (i + 1) events) (outcomes ++ o ∷ [])
each-more P events outcomes i e o inside is each more =
    subst (λ (xs : List Event). EachWith P xs (outcomes ++ o ∷ []))
    (sym (take_more events i e inside ∙ ap (λ x. take i events ++ x ∷ []) (sym is)))
    (each-push P (take i events) outcomes e o each more)

pub length-onto : (events : List Event) (outcomes : List Outcome) (before : OrderHistory)
    → length (outcomes_onto events outcomes before) ≤ length events + length before
length-onto [] outcomes before = omega arith
length-onto (e ∷ events) [] before = omega arith
length-onto (e ∷ events) (o ∷ outcomes) before =
    omega (arith, length-onto events outcomes (turn_of_outcome e o ∷ before))

both : (a b : Bool) → (a && b) ≡ true → (a ≡ true) × (b ≡ true)
both true b e = (refl, e)
both false b e = absurd (cc)

-- what holds of each holds of the one at a place
pub passes-at : {X : Type 0} (p : X → Bool) (xs : List X) (i : ℕ) (x : X) → list_all p xs ≡ true → i < length xs
    → x ≡ get_or xs i x → p x ≡ true
passes-at p [] i x all inside is = absurd (omega arith)
passes-at p (y ∷ ys) zero x all inside is = ap p is ∙ (both (p y) (list_all p ys) all).0
passes-at p (y ∷ ys) (suc i) x all inside is = passes-at p ys i x (both (p y) (list_all p ys) all).1 (omega arith) is
