-- The records of an event and its batch stand in the order of a page, whole.
use Rattle.std.proofs.Common.{◌≡◌, ◌≤◌, ℕ, true, Bool, Option, Some, None, List, [], ◌∷◌, ◌++◌, refl, ap}
use Rattle.std.proofs.Common.{◌∙◌, arith}
use Rattle.std.proofs.lemmas.Bool.Decides.{nat_tests}
use Rattle.std.specs.Prelude.{◌==◌, not, map, if◌then◌else◌}
use Rattle.journal_pages.specs.fix_fields.Field.{Message}
use Rattle.soup_session.specs.declared.port_fault.PortFault.{PortFault}
use Rattle.gate_law.specs.Events.{Batch, LinkOut, Write, Close}
use Rattle.gate_events.specs.declared.event.Event.{Event}
use Rattle.gate_events.specs.declared.event.Event.TheVariants as events
use Rattle.journal_pages.specs.declared.fault.PageFault.{PageFault}
use Rattle.journal_pages.specs.declared.fault.PageFault.TheVariants as faults
use Rattle.journal_pages.specs.declared.kind.RecordKind.TheVariants as kinds
use Rattle.journal_pages.specs.declared.place.Place.{Place}
use Rattle.journal_pages.specs.declared.place.Place.TheVariants.{BetweenBatches, InBatch}
use Rattle.journal_pages.specs.declared.place.Batch.{Batch as Within}
use Rattle.journal_pages.specs.Record.{Record}
use Rattle.journal_pages.specs.Ordered.{order_fault, place_behind}
use Rattle.journal_pages.specs.Page.{batch_at, batch_with, fault_at, is_event, is_same, may_follow, unless}
use Rattle.journal_days.proofs.Places.{behind-both, order-both}
use Rattle.soup_session.specs.Faults.{fault_number}
use Rattle.journal_records.specs.Events.{event_record, record_with}
use Rattle.journal_records.specs.Parts.{batch_records, client_records, end_record, fault_records, named_number}
use Rattle.journal_records.specs.Parts.{out_record, port_records, report_record, turn_records}

abbrev Knows : Option ℕ → ℕ → Type 0
Knows None n = Unit {0}
Knows (Some m) n = m ≡ n

-- a batch of this moment, of this client and port where it knows one, that came to this rank at most
record Is (at c p k : ℕ) (b : Within) : Type 0 where
  moment : b.at ≡ at
  client : Knows b.client c
  port : Knows b.port p
  rank : b.rank ≤ k

-- records that go on with it, and come to this rank
record Goes (at c p k : ℕ) (b : Within) (rs : List Record) : Type 0 where
  none : order_fault (InBatch b) rs ≡ None
  last : Within
  place : place_behind (InBatch b) rs ≡ InBatch last
  is : Is at c p k last

nothing-more : (at c p k : ℕ) (b : Within) → Is at c p k b → Goes at c p k b []
nothing-more at c p k b is = record { none = refl; last = b; place = refl; is = is }

further : (at c p k m : ℕ) (b : Within) → k ≤ m → Is at c p k b → Is at c p m b
further at c p k m b few is = let low = is.rank in
    record { moment = is.moment; client = is.client; port = is.port; rank = omega (arith, few, low) }

both : (at c p k m : ℕ) (b : Within) (rs more : List Record) → (first : Goes at c p k b rs)
    → Goes at c p m first.last more → Goes at c p m b (rs ++ more)
both at c p k m b rs more first later = record {
  none = order-both (InBatch b) rs more first.none ∙ ap (λ (q : Place). order_fault q more) first.place ∙ later.none;
  last = later.last;
  place = behind-both (InBatch b) rs more ∙ ap (λ (q : Place). place_behind q more) first.place ∙ later.place;
  is = later.is;
}

-- ---- one record

same-moment : (m n : ℕ) → m ≡ n → (m == n) ≡ true
same-moment m n e = grind (arith, nat_tests)

known-same : (o : Option ℕ) (n : ℕ) → Knows o n → is_same o n ≡ true
known-same None n knows = refl
known-same (Some m) n knows = same-moment m n knows

follow : (before now : ℕ) → before ≤ now → now ≤ 3 → may_follow before now ≡ true
follow before now low few = grind (arith, nat_tests)

follow-last : (before now : ℕ) → before ≤ 3 → 4 ≤ now → may_follow before now ≡ true
follow-last before now low many = grind (arith, nat_tests)

follow-end : (before : ℕ) → before ≤ 4 → may_follow before 5 ≡ true
follow-end before low = grind (arith, nat_tests)

goes : (a b c : Bool) → a ≡ true → b ≡ true → c ≡ true
    → (if not a then Some faults.Payload else if not b then Some faults.Payload else if c then None else Some
    faults.Order) ≡ None
goes a b c ea eb ec = rw (ea, eb, ec) refl

alone : (p : Place) (r : Record) → fault_at p r ≡ None → order_fault p (r ∷ []) ≡ None
alone p r none = ap (λ (f : Option PageFault). unless f None) none

record Ends (q : Place) (rs : List Record) : Type 0 where
  none : order_fault q rs ≡ None
  place : place_behind q rs ≡ BetweenBatches

module _ (at c p : ℕ) where
  report-goes : (b : Within) (report : Message) → Is at c p 1 b → Goes at c p 1 b (report_record at c report ∷ [])
  report-goes b report is = record {
    none = alone (InBatch b) (report_record at c report)
        (goes (b.at == at) (is_same b.client c) (may_follow b.rank 1) (same-moment b.at at is.moment)
        (known-same b.client c is.client) (follow b.rank 1 is.rank (omega arith)));
    last = batch_with b (report_record at c report);
    place = refl;
    is = record { moment = is.moment; client = refl; port = is.port; rank = omega arith };
  }

  told-goes : (b : Within) (out : LinkOut) → Is at c p 2 b
      → Goes at c p 2 b (out_record kinds.ClientWrite kinds.ClientClose at c out ∷ [])
  told-goes b (Write link bytes) is = record {
    none = alone (InBatch b) (out_record kinds.ClientWrite kinds.ClientClose at c (Write link bytes))
        (goes (b.at == at) (is_same b.client c) (may_follow b.rank 2) (same-moment b.at at is.moment)
        (known-same b.client c is.client) (follow b.rank 2 is.rank (omega arith)));
    last = batch_with b (out_record kinds.ClientWrite kinds.ClientClose at c (Write link bytes));
    place = refl;
    is = record { moment = is.moment; client = refl; port = is.port; rank = omega arith };
  }
  told-goes b (Close link) is = record {
    none = alone (InBatch b) (out_record kinds.ClientWrite kinds.ClientClose at c (Close link))
        (goes (b.at == at) (is_same b.client c) (may_follow b.rank 2) (same-moment b.at at is.moment)
        (known-same b.client c is.client) (follow b.rank 2 is.rank (omega arith)));
    last = batch_with b (out_record kinds.ClientWrite kinds.ClientClose at c (Close link));
    place = refl;
    is = record { moment = is.moment; client = refl; port = is.port; rank = omega arith };
  }

  sent-goes : (b : Within) (out : LinkOut) → Is at c p 3 b
      → Goes at c p 3 b (out_record kinds.PortWrite kinds.PortClose at p out ∷ [])
  sent-goes b (Write link bytes) is = record {
    none = alone (InBatch b) (out_record kinds.PortWrite kinds.PortClose at p (Write link bytes))
        (goes (b.at == at) (is_same b.port p) (may_follow b.rank 3) (same-moment b.at at is.moment)
        (known-same b.port p is.port) (follow b.rank 3 is.rank (omega arith)));
    last = batch_with b (out_record kinds.PortWrite kinds.PortClose at p (Write link bytes));
    place = refl;
    is = record { moment = is.moment; client = is.client; port = refl; rank = omega arith };
  }
  sent-goes b (Close link) is = record {
    none = alone (InBatch b) (out_record kinds.PortWrite kinds.PortClose at p (Close link))
        (goes (b.at == at) (is_same b.port p) (may_follow b.rank 3) (same-moment b.at at is.moment)
        (known-same b.port p is.port) (follow b.rank 3 is.rank (omega arith)));
    last = batch_with b (out_record kinds.PortWrite kinds.PortClose at p (Close link));
    place = refl;
    is = record { moment = is.moment; client = is.client; port = refl; rank = omega arith };
  }

  fault-goes : (b : Within) (fault : Option PortFault) → Is at c p 3 b → Goes at c p 4 b (fault_records at p fault)
  fault-goes b None is = nothing-more at c p 4 b (further at c p 3 4 b (omega arith) is)
  fault-goes b (Some fault) is = record {
    none = ap (λ (f : Option PageFault). unless f None)
        (goes (b.at == at) (is_same b.port p) (may_follow b.rank 4) (same-moment b.at at is.moment)
        (known-same b.port p is.port) (follow-last b.rank 4 is.rank (omega arith)));
    last = batch_with b (record_with kinds.Fault p 0 at (fault_number fault ∷ []));
    place = refl;
    is = record { moment = is.moment; client = is.client; port = refl; rank = omega arith };
  }

  -- ---- all of one kind

  reports-go : (b : Within) (reports : List Message) → Is at c p 1 b
      → Goes at c p 1 b (map (report_record at c) reports)
  reports-go b [] is = nothing-more at c p 1 b is
  reports-go b (r ∷ reports) is =
      let first = report-goes b r is in
      both at c p 1 1 b (report_record at c r ∷ []) (map (report_record at c) reports) first
      (reports-go first.last reports first.is)

  told-go : (b : Within) (outs : List LinkOut) → Is at c p 2 b
      → Goes at c p 2 b (map (out_record kinds.ClientWrite kinds.ClientClose at c) outs)
  told-go b [] is = nothing-more at c p 2 b is
  told-go b (o ∷ outs) is =
      let first = told-goes b o is in
      both at c p 2 2 b (out_record kinds.ClientWrite kinds.ClientClose at c o ∷ [])
      (map (out_record kinds.ClientWrite kinds.ClientClose at c) outs) first (told-go first.last outs first.is)

  sent-go : (b : Within) (outs : List LinkOut) → Is at c p 3 b
      → Goes at c p 3 b (map (out_record kinds.PortWrite kinds.PortClose at p) outs)
  sent-go b [] is = nothing-more at c p 3 b is
  sent-go b (o ∷ outs) is =
      let first = sent-goes b o is in
      both at c p 3 3 b (out_record kinds.PortWrite kinds.PortClose at p o ∷ [])
      (map (out_record kinds.PortWrite kinds.PortClose at p) outs) first (sent-go first.last outs first.is)

  client-goes : (b : Within) (reports : List Message) (outs : List LinkOut) → Is at c p 1 b
      → Goes at c p 2 b (client_records at c reports outs)
  client-goes b reports outs is =
      let first = reports-go b reports is in
      both at c p 1 2 b (map (report_record at c) reports)
      (map (out_record kinds.ClientWrite kinds.ClientClose at c) outs) first
      (told-go first.last outs (further at c p 1 2 first.last (omega arith) first.is))

  end-ends : (b : Within) → Is at c p 4 b → Ends (InBatch b) (end_record at ∷ [])
  end-ends b is = record {
    none = alone (InBatch b) (end_record at) (goes (b.at == at) true (may_follow b.rank 5)
        (same-moment b.at at is.moment) refl (follow-end b.rank is.rank));
    place = refl;
  }

  joined : (k : ℕ) (b : Within) (rs more : List Record) → (first : Goes at c p k b rs) → Ends (InBatch first.last) more
      → Ends (InBatch b) (rs ++ more)
  joined k b rs more first later = record {
    none = order-both (InBatch b) rs more first.none ∙ ap (λ (q : Place). order_fault q more) first.place ∙ later.none;
    place = behind-both (InBatch b) rs more ∙ ap (λ (q : Place). place_behind q more) first.place ∙ later.place;
  }

  port-ends : (b : Within) (outs : List LinkOut) (fault : Option PortFault) → Is at c p 2 b
      → Ends (InBatch b) (port_records at p outs fault)
  port-ends b outs fault is =
      let first = sent-go b outs (further at c p 2 3 b (omega arith) is) in
      let next = fault-goes first.last fault first.is in
      joined 3 b (map (out_record kinds.PortWrite kinds.PortClose at p) outs)
      (fault_records at p fault ++ end_record at ∷ []) first
      (joined 4 first.last (fault_records at p fault) (end_record at ∷ []) next (end-ends next.last next.is))

  batch-ends : (reports : List Message) (told : List LinkOut) (sent : List LinkOut) (fault : Option PortFault)
      → Ends (InBatch (batch_at at)) (client_records at c reports told ++ port_records at p sent fault)
  batch-ends reports told sent fault =
      let first = client-goes (batch_at at) reports told
      (record { moment = refl; client = tt; port = tt; rank = omega arith }) in
      joined 2 (batch_at at) (client_records at c reports told) (port_records at p sent fault) first
      (port-ends first.last sent fault first.is)

-- ---- an event first

pub event-is : (e : Event) → is_event (event_record e).kind ≡ true
event-is (events.ClientUp client link at) = refl
event-is (events.ClientMessage client link at frame) = refl
event-is (events.ClientGone client link at) = refl
event-is (events.ClientTick client at) = refl
event-is (events.PortUp port link at) = refl
event-is (events.PortPacket port link at packet) = refl
event-is (events.PortGone port link at) = refl
event-is (events.PortTick port at) = refl

an-event : (b : Bool) → b ≡ true → (if b then None else Some faults.Order) ≡ None
an-event b e = rw e refl

pub turn-order : (e : Event) (b : Batch) → order_fault BetweenBatches (turn_records e b) ≡ None
turn-order e b =
    let at : ℕ = (event_record e).at in
    let ends = batch-ends at (named_number b.client) (named_number b.port) b.reports b.client_out b.port_out b.fault in
    ap (λ (f : Option PageFault). unless f (order_fault (InBatch (batch_at at)) (batch_records at b)))
    (an-event (is_event (event_record e).kind) (event-is e)) ∙ ends.none

pub turn-behind : (e : Event) (b : Batch) → place_behind BetweenBatches (turn_records e b) ≡ BetweenBatches
turn-behind e b = (batch-ends (event_record e).at (named_number b.client)
    (named_number b.port) b.reports b.client_out b.port_out b.fault).place
