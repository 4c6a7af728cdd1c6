-- A day in two parts says the turns of both.
use Rattle.std.proofs.Common.{◌≡◌, ℕ, true, false, Bool, Option, Some, None, List, [], ◌∷◌, ◌++◌, length, refl, sym, ap}
use Rattle.std.proofs.Common.{◌∙◌, arith, append_assoc}
use Rattle.std.specs.Prelude.{if◌then◌else◌}
use Rattle.gate_law.specs.Events.{Batch, History}
use Rattle.gate_events.specs.declared.event.Event.{Event}
use Rattle.journal_pages.specs.declared.fault.PageFault.TheVariants as faults
use Rattle.journal_pages.specs.declared.kind.RecordKind.{RecordKind}
use Rattle.journal_pages.specs.declared.kind.RecordKind.TheVariants as kinds
use Rattle.journal_pages.specs.declared.place.Place.TheVariants.{BetweenBatches}
use Rattle.journal_pages.specs.declared.version.Version.TheVariants.{Two}
use Rattle.journal_pages.specs.Ordered.{order_fault}
use Rattle.journal_pages.specs.Page.{fault_at, is_event, page_records}
use Rattle.journal_pages.specs.Record.{Record}
use Rattle.journal_pages.proofs.Listed.{both-none}
use Rattle.journal_records.specs.journal_days.Day.{day_fault, day_records}
use Rattle.journal_records.proofs.journal_days.Leading.{part-order}
use Rattle.journal_records.specs.Days.{batches_in, events_in, with_event}
use Rattle.journal_records.specs.Events.{event_in}
use Rattle.journal_records.specs.Reading.{BatchSaid, batch_in, batch_said, first_part, is_part, nothing_said}
use Rattle.journal_records.specs.Reading.{parts_said, said_more}
use Rattle.gate_journal.specs.Kept.{GoOnBy, kept_in, kept_turn, turns_onto}
use Rattle.gate_journal.proofs.Growing.{as-many}

records-both : (before part : List (List ℕ))
    → day_records Two (before ++ part) ≡ day_records Two before ++ day_records Two part
records-both [] part = refl
records-both (page ∷ before) part =
    ap (λ (rs : List Record). page_records Two page ++ rs) (records-both before part)
    ∙ sym (append_assoc (page_records Two page) (day_records Two before) (day_records Two part))

-- ---- events

with-both : (o : Option Event) (es fs : List Event) → with_event o (es ++ fs) ≡ with_event o es ++ fs
with-both None es fs = refl
with-both (Some e) es fs = refl

events-both : (rs ss : List Record) → events_in (rs ++ ss) ≡ events_in rs ++ events_in ss
events-both [] ss = refl
events-both (r ∷ rs) ss =
    ap (with_event (event_in r)) (events-both rs ss) ∙ with-both (event_in r) (events_in rs) (events_in ss)

-- ---- batches

event-no-part : (k : RecordKind) → is_event k ≡ true → is_part k ≡ false
event-no-part kinds.ClientUp is = refl
event-no-part kinds.ClientMessage is = refl
event-no-part kinds.ClientGone is = refl
event-no-part kinds.PortUp is = refl
event-no-part kinds.PortPacket is = refl
event-no-part kinds.PortGone is = refl
event-no-part kinds.ClientTick is = refl
event-no-part kinds.PortTick is = refl
event-no-part kinds.Report is = absurd cc
event-no-part kinds.ClientWrite is = absurd cc
event-no-part kinds.ClientClose is = absurd cc
event-no-part kinds.PortWrite is = absurd cc
event-no-part kinds.PortClose is = absurd cc
event-no-part kinds.Fault is = absurd cc
event-no-part kinds.BatchEnd is = absurd cc

an-event : (b : Bool) → (if b then None else Some faults.Order) ≡ None → b ≡ true
an-event true e = refl
an-event false e = let no : ⊥ = cc in absurd no

-- records that may stand between batches begin with no part of one
no-first-part : (rs : List Record) → order_fault BetweenBatches rs ≡ None → first_part rs ≡ None
no-first-part [] e = refl
no-first-part (r ∷ rs) e =
    let both = both-none (fault_at BetweenBatches r) _ e in
    ap (λ (b : Bool). if b then Some r else None) (event-no-part r.kind (an-event (is_event r.kind) both.0))

none-said : (s : BatchSaid) (rs : List Record) → first_part rs ≡ None → parts_said s rs ≡ s
none-said s [] e = refl
none-said s (r ∷ rs) e = by_test (is_part r.kind) e
  where
    by_test : (b : Bool) → (if b then Some r else None) ≡ None
        → (if b then parts_said (said_more r.kind r s) rs else s) ≡ s
    by_test true e = let no : ⊥ = cc in absurd no
    by_test false e = refl

said-front : (s : BatchSaid) (rs ss : List Record) → first_part ss ≡ None → parts_said s (rs ++ ss) ≡ parts_said s rs
said-front s [] ss none = none-said s ss none
said-front s (r ∷ rs) ss none = by_test (is_part r.kind) (said-front (said_more r.kind r s) rs ss none)
  where
    by_test : (b : Bool)
        → parts_said (said_more r.kind r s) (rs ++ ss) ≡ parts_said (said_more r.kind r s) rs
        → (if b then parts_said (said_more r.kind r s) (rs ++ ss) else s)
        ≡ (if b then parts_said (said_more r.kind r s) rs else s)
    by_test true later = later
    by_test false later = refl

batches-both : (rs ss : List Record) → first_part ss ≡ None → batches_in (rs ++ ss) ≡ batches_in rs ++ batches_in ss
batches-both [] ss none = refl
batches-both (r ∷ rs) ss none =
    by_test (is_event r.kind) (ap batch_said (said-front nothing_said rs ss none)) (batches-both rs ss none)
  where
    by_test : (b : Bool) → batch_in (rs ++ ss) ≡ batch_in rs → batches_in (rs ++ ss) ≡ batches_in rs ++ batches_in ss
        → (if b then batch_in (rs ++ ss) ∷ batches_in (rs ++ ss) else batches_in (rs ++ ss))
        ≡ (if b then batch_in rs ∷ batches_in rs else batches_in rs) ++ batches_in ss
    by_test true first later =
        ap (λ (b : Batch). b ∷ batches_in (rs ++ ss)) first ∙ ap (λ (bs : List Batch). batch_in rs ∷ bs) later
    by_test false first later = later

-- ---- turns

onto-both : (events more : List Event) (batches others : List Batch) (before : History)
    → length events ≡ length batches
    → turns_onto (events ++ more) (batches ++ others) before
    ≡ turns_onto more others (turns_onto events batches before)
onto-both [] more [] others before same = refl
onto-both [] more (b ∷ batches) others before same = absurd (omega arith)
onto-both (e ∷ events) more [] others before same = absurd (omega arith)
onto-both (e ∷ events) more (b ∷ batches) others before same =
    onto-both events more batches others (kept_turn e b ∷ before) (omega arith)

pub go-on : (before part : List (List ℕ)) → day_fault Two before ≡ None → day_fault Two (before ++ part) ≡ None
    → GoOnBy before (kept_in part) (before ++ part)
go-on before part first both =
    let none = no-first-part (day_records Two part) (part-order before part first both) in
    let events : events_in (day_records Two (before ++ part))
    ≡ events_in (day_records Two before) ++ events_in (day_records Two part) =
    ap events_in (records-both before part) ∙ events-both (day_records Two before) (day_records Two part) in
    let batches : batches_in (day_records Two (before ++ part))
    ≡ batches_in (day_records Two before) ++ batches_in (day_records Two part) =
    ap batches_in (records-both before part) ∙ batches-both (day_records Two before) (day_records Two part) none in
    record {
      all = refl;
      told = events;
      gave = batches;
      count = as-many part;
      onto = ap (λ (es : List Event). turns_onto es (batches_in (day_records Two (before ++ part))) []) events
          ∙ ap (λ (bs : List Batch). turns_onto
          (events_in (day_records Two before) ++ events_in (day_records Two part)) bs []) batches
          ∙ onto-both (events_in (day_records Two before)) (events_in (day_records Two part))
          (batches_in (day_records Two before)) (batches_in (day_records Two part)) [] (as-many before);
    }
