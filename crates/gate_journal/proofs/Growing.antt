-- A day with one event more.
use Rattle.std.proofs.Common.{◌≡◌, ℕ, true, false, Bool, None, List, [], ◌∷◌, ◌++◌, length, refl, ap, ◌∙◌, arith}
use Rattle.std.proofs.lemmas.Bool.Decides.{nat_tests}
use Rattle.std.specs.Prelude.{◌==◌, not, Result, Ok, Err, OnErr, if◌then◌else◌}
use Rattle.gate_law.specs.Events.{Batch, History}
use Rattle.gate_events.specs.declared.event.Event.{Event}
use Rattle.journal_pages.specs.declared.kind.RecordKind.{RecordKind}
use Rattle.journal_pages.specs.declared.kind.RecordKind.TheVariants as kinds
use Rattle.journal_pages.specs.declared.version.Version.TheVariants.{Two}
use Rattle.journal_pages.specs.Ordered.{AreSound}
use Rattle.journal_pages.specs.Page.{is_event, page_records}
use Rattle.journal_pages.specs.Record.{Record, source_fits}
use Rattle.journal_pages.proofs.Listed.{page-sound}
use Rattle.journal_records.specs.journal_days.Cut.{with_records}
use Rattle.journal_records.specs.journal_days.Day.{day_fault, day_records}
use Rattle.journal_records.proofs.journal_days.Leading.{day-listed, day-more}
use Rattle.journal_records.specs.Days.{batches_in, events_in, with_event}
use Rattle.journal_records.specs.Events.{event_of_kind}
use Rattle.journal_records.specs.Parts.{turn_records}
use Rattle.journal_records.specs.Reading.{batch_in}
use Rattle.journal_records.specs.Whole.{IsTurn}
use Rattle.journal_records.proofs.Fits.{turn-writable}
use Rattle.journal_records.proofs.InOrder.{turn-behind, turn-order}
use Rattle.journal_records.proofs.Rows.{has}
use Rattle.journal_records.proofs.Said.{more-batches, more-events}
use Rattle.gate_journal.specs.Kept.{kept_turn, turns_onto}

pub day-pushed : (pages : List (List ℕ)) (e : Event) (b : Batch) → day_fault Two pages ≡ None → IsTurn e b
    → day_fault Two (with_records pages (turn_records e b)) ≡ None
day-pushed pages e b day is = day-more pages (turn_records e b) day (turn-writable e b is) (turn-order e b)
    (turn-behind e b)

listed : (pages : List (List ℕ)) (e : Event) (b : Batch) → day_fault Two pages ≡ None → IsTurn e b
    → day_records Two (with_records pages (turn_records e b)) ≡ day_records Two pages ++ turn_records e b
listed pages e b day is = day-listed pages (turn_records e b) day (turn-writable e b is) (turn-order e b)

pub events-pushed : (pages : List (List ℕ)) (e : Event) (b : Batch) → day_fault Two pages ≡ None → IsTurn e b
    → events_in (day_records Two (with_records pages (turn_records e b))) ≡ events_in (day_records Two pages) ++ e ∷ []
events-pushed pages e b day is = ap events_in (listed pages e b day is) ∙ more-events (day_records Two pages) e b is

pub batches-pushed : (pages : List (List ℕ)) (e : Event) (b : Batch) → day_fault Two pages ≡ None → IsTurn e b
    → batches_in (day_records Two (with_records pages (turn_records e b)))
    ≡ batches_in (day_records Two pages) ++ b ∷ []
batches-pushed pages e b day is = ap batches_in (listed pages e b day is) ∙ more-batches (day_records Two pages) e b is

-- ---- as many batches as events

pub zero-is : (n : ℕ) → not (n == 0) ≡ true → (n == 0) ≡ false
zero-is n e = grind (arith, nat_tests)

none-each : (b : Bool) (es : List Event) → length (with_event (if b then None else None) es) ≡ length es
none-each true es = refl
none-each false es = refl

one-each : (k : RecordKind) (r : Record) (rs : List Record) (es : List Event) (bs : List Batch)
    → source_fits k r.source ≡ true → length es ≡ length bs
    → length (with_event (if r.source == 0 then None else event_of_kind k r) es)
    ≡ length (if is_event k then batch_in rs ∷ bs else bs)
one-each kinds.ClientUp r rs es bs fits same = let is : (r.source == 0) ≡ false = zero-is r.source fits in
    rw is (omega (arith, same))
one-each kinds.ClientMessage r rs es bs fits same = let is : (r.source == 0) ≡ false = zero-is r.source fits in
    rw is (omega (arith, same))
one-each kinds.ClientGone r rs es bs fits same = let is : (r.source == 0) ≡ false = zero-is r.source fits in
    rw is (omega (arith, same))
one-each kinds.PortUp r rs es bs fits same = let is : (r.source == 0) ≡ false = zero-is r.source fits in
    rw is (omega (arith, same))
one-each kinds.PortPacket r rs es bs fits same = let is : (r.source == 0) ≡ false = zero-is r.source fits in
    rw is (omega (arith, same))
one-each kinds.PortGone r rs es bs fits same = let is : (r.source == 0) ≡ false = zero-is r.source fits in
    rw is (omega (arith, same))
one-each kinds.ClientTick r rs es bs fits same = let is : (r.source == 0) ≡ false = zero-is r.source fits in
    rw is (omega (arith, same))
one-each kinds.PortTick r rs es bs fits same = let is : (r.source == 0) ≡ false = zero-is r.source fits in
    rw is (omega (arith, same))
one-each kinds.Report r rs es bs fits same = none-each (r.source == 0) es ∙ same
one-each kinds.ClientWrite r rs es bs fits same = none-each (r.source == 0) es ∙ same
one-each kinds.ClientClose r rs es bs fits same = none-each (r.source == 0) es ∙ same
one-each kinds.PortWrite r rs es bs fits same = none-each (r.source == 0) es ∙ same
one-each kinds.PortClose r rs es bs fits same = none-each (r.source == 0) es ∙ same
one-each kinds.Fault r rs es bs fits same = none-each (r.source == 0) es ∙ same
one-each kinds.BatchEnd r rs es bs fits same = none-each (r.source == 0) es ∙ same

same-count : (rs : List Record) → AreSound rs → length (events_in rs) ≡ length (batches_in rs)
same-count [] sound = refl
same-count (r ∷ rs) sound = one-each r.kind r rs (events_in rs) (batches_in rs) (has r sound.0).source
    (same-count rs sound.1)

both-sound : (xs ys : List Record) → AreSound xs → AreSound ys → AreSound (xs ++ ys)
both-sound [] ys first later = later
both-sound (x ∷ xs) ys first later = (first.0, both-sound xs ys first.1 later)

all-sound : (pages : List (List ℕ)) → AreSound (day_records Two pages)
all-sound [] = tt
all-sound (page ∷ pages) = both-sound (page_records Two page) (day_records Two pages) (page-sound Two page)
    (all-sound pages)

pub as-many : (pages : List (List ℕ)) → length (events_in (day_records Two pages))
    ≡ length (batches_in (day_records Two pages))
as-many pages = same-count (day_records Two pages) (all-sound pages)

-- ---- turns

onto-push : (events : List Event) (batches : List Batch) (e : Event) (b : Batch) (before : History)
    → length events ≡ length batches
    → turns_onto (events ++ e ∷ []) (batches ++ b ∷ []) before ≡ kept_turn e b ∷ turns_onto events batches before
onto-push [] [] e b before same = refl
onto-push [] (x ∷ batches) e b before same = absurd (omega arith)
onto-push (x ∷ events) [] e b before same = absurd (omega arith)
onto-push (x ∷ events) (y ∷ batches) e b before same =
    onto-push events batches e b (kept_turn x y ∷ before) (omega arith)

pub turns-pushed : (pages : List (List ℕ)) (e : Event) (b : Batch) → day_fault Two pages ≡ None → IsTurn e b
    → turns_onto (events_in (day_records Two (with_records pages (turn_records e b))))
    (batches_in (day_records Two (with_records pages (turn_records e b)))) []
    ≡ kept_turn e b ∷ turns_onto (events_in (day_records Two pages)) (batches_in (day_records Two pages)) []
turns-pushed pages e b day is =
    ap (λ (es : List Event). turns_onto es (batches_in (day_records Two (with_records pages (turn_records e b)))) [])
    (events-pushed pages e b day is)
    ∙ ap (λ (bs : List Batch). turns_onto (events_in (day_records Two pages) ++ e ∷ []) bs [])
    (batches-pushed pages e b day is)
    ∙ onto-push (events_in (day_records Two pages)) (batches_in (day_records Two pages)) e b [] (as-many pages)

-- ---- what holds of an error holds of a result, where it holds anyway

pub on-err : {T E P : Type 0} (r : Result T E) → P → OnErr r P
on-err (Ok x) is = tt
on-err (Err e) is = is
