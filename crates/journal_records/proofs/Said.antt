-- The records of events with their batches say these events and batches.
use Rattle.std.proofs.Common.{◌≡◌, ◌≤◌, ℕ, true, false, Bool, Option, Some, None, List, [], ◌∷◌, ◌++◌, refl, sym, ap}
use Rattle.std.proofs.Common.{◌∙◌, arith, append-nil}
use Rattle.std.proofs.lemmas.Bool.Decides.{nat_tests}
use Rattle.std.specs.Prelude.{◌==◌, not, map, if◌then◌else◌}
use Rattle.journal_pages.specs.fix_fields.Field.{Message}
use Rattle.soup_session.specs.declared.port_fault.PortFault.{PortFault}
use Rattle.gate_law.specs.Events.{Batch, LinkOut, Write, Close}
use Rattle.gate_events.specs.declared.event.Event.{Event}
use Rattle.gate_events.specs.declared.event.Event.TheVariants as events
use Rattle.journal_pages.specs.declared.kind.RecordKind.TheVariants as kinds
use Rattle.journal_pages.specs.Record.{Record, is_sound}
use Rattle.journal_pages.specs.Page.{is_event}
use Rattle.journal_records.specs.Days.{batches_in, events_in, with_event}
use Rattle.journal_records.specs.Events.{event_in, event_record}
use Rattle.journal_records.specs.Parts.{batch_records, client_records, end_record, fault_records, named_number}
use Rattle.journal_records.specs.Parts.{out_record, port_records, report_record, turn_records}
use Rattle.journal_records.specs.Reading.{BatchSaid, batch_in, batch_said, is_part, nothing_said, parts_said, said_more}
use Rattle.journal_records.specs.Whole.{IsTurn}
use Rattle.journal_records.proofs.InOrder.{event-is}
use Rattle.journal_records.proofs.Rows.{has, read-written}
use Rattle.journal_records.proofs.Told.{batch-read}

-- ---- events

none-said : (b : Bool) (o : Option Event) → o ≡ None → (if b then None else o) ≡ None
none-said true o e = refl
none-said false o e = e

with-both : (o : Option Event) (xs ys : List Event) → with_event o xs ++ ys ≡ with_event o (xs ++ ys)
with-both None xs ys = refl
with-both (Some e) xs ys = refl

pub events-both : (rs more : List Record) → events_in (rs ++ more) ≡ events_in rs ++ events_in more
events-both [] more = refl
events-both (r ∷ rs) more = ap (with_event (event_in r)) (events-both rs more)
    ∙ sym (with-both (event_in r) (events_in rs) (events_in more))

-- records that are no event
abbrev NoEvents : List Record → Type 0
NoEvents [] = Unit {0}
NoEvents (r ∷ rs) = (event_in r ≡ None) × (is_event r.kind ≡ false) × NoEvents rs

no-both : (xs ys : List Record) → NoEvents xs → NoEvents ys → NoEvents (xs ++ ys)
no-both [] ys first later = later
no-both (x ∷ xs) ys first later = (first.0, first.1, no-both xs ys first.2 later)

module _ (at : ℕ) where
  no-reports : (c : ℕ) (rs : List Message) → NoEvents (map (report_record at c) rs)
  no-reports c [] = tt
  no-reports c (r ∷ rs) = (none-said (c == 0) None refl, refl, no-reports c rs)

  no-told : (c : ℕ) (os : List LinkOut) → NoEvents (map (out_record kinds.ClientWrite kinds.ClientClose at c) os)
  no-told c [] = tt
  no-told c (Write link bytes ∷ os) = (none-said (c == 0) None refl, refl, no-told c os)
  no-told c (Close link ∷ os) = (none-said (c == 0) None refl, refl, no-told c os)

  no-sent : (p : ℕ) (os : List LinkOut) → NoEvents (map (out_record kinds.PortWrite kinds.PortClose at p) os)
  no-sent p [] = tt
  no-sent p (Write link bytes ∷ os) = (none-said (p == 0) None refl, refl, no-sent p os)
  no-sent p (Close link ∷ os) = (none-said (p == 0) None refl, refl, no-sent p os)

  no-ending : (p : ℕ) (f : Option PortFault) → NoEvents (fault_records at p f ++ end_record at ∷ [])
  no-ending p None = (refl, refl, tt)
  no-ending p (Some f) = (none-said (p == 0) None refl, refl, (refl, refl, tt))

  no-batch : (b : Batch) → NoEvents (batch_records at b)
  no-batch b =
      let c : ℕ = named_number b.client in
      let p : ℕ = named_number b.port in
      no-both (client_records at c b.reports b.client_out) (port_records at p b.port_out b.fault)
      (no-both (map (report_record at c) b.reports)
      (map (out_record kinds.ClientWrite kinds.ClientClose at c) b.client_out) (no-reports c b.reports)
      (no-told c b.client_out))
      (no-both (map (out_record kinds.PortWrite kinds.PortClose at p) b.port_out)
      (fault_records at p b.fault ++ end_record at ∷ []) (no-sent p b.port_out) (no-ending p b.fault))

no-events : (rs : List Record) → NoEvents rs → events_in rs ≡ []
no-events [] are = refl
no-events (r ∷ rs) are = ap (λ (o : Option Event). with_event o (events_in rs)) are.0 ∙ no-events rs are.2

no-batches : (rs : List Record) → NoEvents rs → batches_in rs ≡ []
no-batches [] are = refl
no-batches (r ∷ rs) are = ap (λ b. if b then batch_in rs ∷ batches_in rs else batches_in rs) are.1 ∙ no-batches rs are.2

some-of : (n : ℕ) → not (n == 0) ≡ true → 1 ≤ n
some-of n e = grind (arith, nat_tests)

of-somebody : (e : Event) → is_sound (event_record e) ≡ true → 1 ≤ (event_record e).source
of-somebody (events.ClientUp client link at) sound =
    some-of client (has (event_record (events.ClientUp client link at)) sound).source
of-somebody (events.ClientMessage client link at frame) sound =
    some-of client (has (event_record (events.ClientMessage client link at frame)) sound).source
of-somebody (events.ClientGone client link at) sound =
    some-of client (has (event_record (events.ClientGone client link at)) sound).source
of-somebody (events.ClientTick client at) sound =
    some-of client (has (event_record (events.ClientTick client at)) sound).source
of-somebody (events.PortUp port link at) sound =
    some-of port (has (event_record (events.PortUp port link at)) sound).source
of-somebody (events.PortPacket port link at packet) sound =
    some-of port (has (event_record (events.PortPacket port link at packet)) sound).source
of-somebody (events.PortGone port link at) sound =
    some-of port (has (event_record (events.PortGone port link at)) sound).source
of-somebody (events.PortTick port at) sound = some-of port (has (event_record (events.PortTick port at)) sound).source

pub turn-events : (e : Event) (b : Batch) → IsTurn e b → events_in (turn_records e b) ≡ e ∷ []
turn-events e b is =
    ap (λ (o : Option Event). with_event o (events_in (batch_records (event_record e).at b)))
    (read-written e (of-somebody e is.writable.sound) is.fields)
    ∙ ap (λ (es : List Event). e ∷ es) (no-events (batch_records (event_record e).at b)
    (no-batch (event_record e).at b))

-- ---- batches

no-part : (b : Bool) (x y : BatchSaid) → b ≡ false → (if b then x else y) ≡ y
no-part b x y e = rw e refl

both-parts-said : (b : Bool) (x y s : BatchSaid) → x ≡ y → (if b then x else s) ≡ (if b then y else s)
both-parts-said b x y s e = ap (λ (z : BatchSaid). if b then z else s) e

stops : (s : BatchSaid) (rs : List Record) (r : Record) (more : List Record) → is_part r.kind ≡ false
    → parts_said s (rs ++ r ∷ more) ≡ parts_said s rs
stops s [] r more is = no-part (is_part r.kind) (parts_said (said_more r.kind r s) more) s is
stops s (x ∷ rs) r more is =
    both-parts-said (is_part x.kind) (parts_said (said_more x.kind x s) (rs ++ r ∷ more))
    (parts_said (said_more x.kind x s) rs) s (stops (said_more x.kind x s) rs r more is)

batch-stops : (rs : List Record) (r : Record) (more : List Record) → is_part r.kind ≡ false
    → batch_in (rs ++ r ∷ more) ≡ batch_in rs
batch-stops rs r more is = ap batch_said (stops nothing_said rs r more is)

one-batch : (b : Bool) (x y : Batch) (xs ys more : List Batch) → x ≡ y → xs ≡ ys ++ more
    → (if b then x ∷ xs else xs) ≡ (if b then y ∷ ys else ys) ++ more
one-batch true x y xs ys more same all = ap (λ (b : Batch). b ∷ xs) same ∙ ap (λ (bs : List Batch). y ∷ bs) all
one-batch false x y xs ys more same all = all

pub batches-both : (rs : List Record) (r : Record) (more : List Record) → is_part r.kind ≡ false
    → batches_in (rs ++ r ∷ more) ≡ batches_in rs ++ batches_in (r ∷ more)
batches-both [] r more is = refl
batches-both (x ∷ rs) r more is =
    one-batch (is_event x.kind) (batch_in (rs ++ r ∷ more)) (batch_in rs) (batches_in (rs ++ r ∷ more)) (batches_in rs)
    (batches_in (r ∷ more)) (batch-stops rs r more is) (batches-both rs r more is)

event-no-part : (e : Event) → is_part (event_record e).kind ≡ false
event-no-part (events.ClientUp client link at) = refl
event-no-part (events.ClientMessage client link at frame) = refl
event-no-part (events.ClientGone client link at) = refl
event-no-part (events.ClientTick client at) = refl
event-no-part (events.PortUp port link at) = refl
event-no-part (events.PortPacket port link at packet) = refl
event-no-part (events.PortGone port link at) = refl
event-no-part (events.PortTick port at) = refl

pub turn-batches : (e : Event) (b : Batch) → IsTurn e b → batches_in (turn_records e b) ≡ b ∷ []
turn-batches e b is =
    let rs : List Record = batch_records (event_record e).at b in
    ap (λ t. if t then batch_in rs ∷ batches_in rs else batches_in rs) (event-is e)
    ∙ ap (λ (x : Batch). x ∷ batches_in rs) (ap batch_in (sym (append-nil rs))
    ∙ batch-read (event_record e).at b [] is.batch.whole)
    ∙ ap (λ (bs : List Batch). b ∷ bs) (no-batches rs (no-batch (event_record e).at b))

pub more-events : (rs : List Record) (e : Event) (b : Batch) → IsTurn e b
    → events_in (rs ++ turn_records e b) ≡ events_in rs ++ e ∷ []
more-events rs e b is = events-both rs (turn_records e b)
    ∙ ap (λ (es : List Event). events_in rs ++ es) (turn-events e b is)

pub more-batches : (rs : List Record) (e : Event) (b : Batch) → IsTurn e b
    → batches_in (rs ++ turn_records e b) ≡ batches_in rs ++ b ∷ []
more-batches rs e b is =
    batches-both rs (event_record e) (batch_records (event_record e).at b) (event-no-part e)
    ∙ ap (λ (bs : List Batch). batches_in rs ++ bs) (turn-batches e b is)
