-- The events and batches of records, a record at a time.
use Rattle.std.proofs.Common.{◌≡◌, ◌<◌, true, false, Bool, Option, Some, None, List, [], ◌∷◌, ◌++◌, length, refl, sym}
use Rattle.std.proofs.Common.{ap, ◌∙◌, arith, append_assoc, append-nil}
use Rattle.std.specs.Prelude.{if◌then◌else◌}
use Rattle.gate_law.specs.Events.{Batch}
use Rattle.gate_events.specs.declared.event.Event.{Event}
use Rattle.journal_pages.specs.Page.{is_event}
use Rattle.journal_pages.specs.Record.{Record}
use Rattle.journal_records.specs.Days.{batches_in, events_in, with_event}
use Rattle.journal_records.specs.Events.{event_in}
use Rattle.journal_records.specs.Reading.{batch_in}

one-event : (o : Option Event) (es : List Event) → with_event o [] ++ es ≡ with_event o es
one-event None es = refl
one-event (Some e) es = refl

pub event-more : (done new : List Event) (o : Option Event) (all rs : List Record) (r : Record) (every : List Event)
    → new ≡ done ++ with_event o [] → o ≡ event_in r → all ≡ r ∷ rs
    → done ++ events_in all ≡ every → new ++ events_in rs ≡ every
event-more done new o all rs r every more is listed before =
    ap (λ (l : List Event). l ++ events_in rs) more ∙ append_assoc done (with_event o []) (events_in rs)
    ∙ ap (λ (l : List Event). done ++ l) (one-event o (events_in rs)
    ∙ ap (λ (x : Option Event). with_event x (events_in rs)) is ∙ ap events_in (sym listed))
    ∙ before

one-batch : (t : Bool) (b : Batch) (bs : List Batch) → (if t then b ∷ [] else []) ++ bs ≡ (if t then b ∷ bs else bs)
one-batch true b bs = refl
one-batch false b bs = refl

pub batch-more : (done new : List Batch) (all rs : List Record) (r : Record) (every : List Batch)
    → new ≡ done ++ (if is_event r.kind then batch_in rs ∷ [] else []) → all ≡ r ∷ rs
    → done ++ batches_in all ≡ every → new ++ batches_in rs ≡ every
batch-more done new all rs r every more listed before =
    ap (λ (l : List Batch). l ++ batches_in rs) more
    ∙ append_assoc done (if is_event r.kind then batch_in rs ∷ [] else []) (batches_in rs)
    ∙ ap (λ (l : List Batch). done ++ l) (one-batch (is_event r.kind) (batch_in rs) (batches_in rs)
    ∙ ap batches_in (sym listed))
    ∙ before

pub shorter : (all rs : List Record) (r : Record) → all ≡ r ∷ rs → length rs < length all
shorter all rs r e = let longer = ap length e in omega (arith, longer)

pub all-events : (done : List Event) (all : List Record) (every : List Event) → all ≡ [] → done ++ events_in all ≡ every
    → done ≡ every
all-events done all every none e = sym (append-nil done) ∙ ap (λ (rs : List Record). done ++ events_in rs) (sym none)
    ∙ e

pub all-batches : (done : List Batch) (all : List Record) (every : List Batch) → all ≡ []
    → done ++ batches_in all ≡ every → done ≡ every
all-batches done all every none e = sym (append-nil done) ∙ ap (λ (rs : List Record). done ++ batches_in rs) (sym none)
    ∙ e
