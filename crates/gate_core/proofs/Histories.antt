-- One more event of a run.
use Rattle.std.proofs.Common.{◌≡◌, ◌+◌, ◌<◌, ℕ, List, [], ◌∷◌, ◌++◌, length, take, get_or, refl, sym, ap, ◌∙◌, arith}
use Rattle.std.proofs.Common.{length-take-le}
use Rattle.std.proofs.lemmas.List.{take_more}
use Rattle.gate_law.specs.Events.{History}
use Rattle.gate_events.specs.declared.event.Event.{Event}
use Rattle.gate_events.specs.declared.batch.Batch.{Batch}
use Rattle.gate_core.specs.Core.{history, onto, turn_of}

pub onto-push : (events : List Event) (batches : List Batch) (e : Event) (b : Batch) (before : History)
    → length events ≡ length batches
    → onto (events ++ e ∷ []) (batches ++ b ∷ []) before ≡ turn_of e b ∷ onto events batches before
onto-push [] [] e b before same = refl
onto-push [] (x ∷ batches) e b before same = absurd (omega arith)
onto-push (x ∷ events) [] e b before same = absurd (omega arith)
onto-push (x ∷ events) (y ∷ batches) e b before same = onto-push events batches e b (turn_of x y ∷ before) (omega arith)

pub history-more : (events : List Event) (batches : List Batch) (i : ℕ) (e : Event) (b : Batch) → i < length events
    → e ≡ get_or events i e → length batches ≡ i
    → history (take (i + 1) events) (batches ++ b ∷ []) ≡ turn_of e b ∷ history (take i events) batches
history-more events batches i e b inside is same =
    ap (λ (xs : List Event). history xs (batches ++ b ∷ []))
    (take_more events i e inside ∙ ap (λ (x : Event). take i events ++ x ∷ []) (sym is))
    ∙ onto-push (take i events) batches e b [] (omega (arith, length-take-le i events (omega arith), same))
