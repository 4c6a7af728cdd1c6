-- What goes to which producer.
use Rattle.std.proofs.Common.{◌≡◌, ◌≢◌, ℕ, suc, ◌<◌, ◌≤◌, ◌+◌, ◌-◌, Bool, true, false, nat_le, List, [], length}
use Rattle.std.proofs.Common.{Option, Some, None, slice_get, slice_set, refl, ap, sym, ◌∙◌, subst, arith, inl, inr}
use Rattle.std.proofs.Common.{◌⊎◌}
use Rattle.std.proofs.lemmas.Bool.Decides.{eqb_tells, leb_tells}
use Rattle.std.proofs.lemmas.List.{append-nil}
use Rattle.std.proofs.lemmas.Option.{slice_get_within}
use Rattle.gate_law.specs.Events.{LinkOut, is_the_number}
use Rattle.gate_events.specs.declared.source.Recipient.{Recipient}
use Rattle.gate_events.specs.declared.source.Recipient.TheVariants as recipients
use Rattle.gate_events.specs.Sources.{unless_empty}
use Rattle.desk_rings.specs.CoreEnds.{InletConsumerState, OutletProducerState, ProducerLooked, ProducerSent}
use Rattle.desk_rings.specs.CoreEnds.{ProducersLooked, producer_room}
use Rattle.desk_rings.proofs.Places.{get-same, get-set-same}
use Rattle.desk_side.specs.declared.batch_output.BatchOutput.{BatchOutput}
use Rattle.desk_side.specs.BatchOutput.{list_for}
use Rattle.desk_side.specs.Places.{client_place, is_aimed, port_place, recipient_at}
use Rattle.desk_side.specs.Side.{ChangesAt, HaveRoom, LacksRoom, OutputSent}
use Rattle.desk_side.proofs.Moves.{come-to}
use Rattle.desk_side.proofs.Roomy.{looked-grows}

-- ---- consumers and producers by themselves

pub knows-some : (a : InletConsumerState) (empty : Bool) → (length a.known ≡ 0 → empty ≡ true) → empty ≡ false
    → 0 < length a.known
knows-some a empty is isnt =
    elim (eqb_tells (length a.known) 0) [
      | inl q ↦ absurd (cc (is q.1, isnt))
      | inr q ↦ omega (arith, q.1)
    ]

-- a producer that nothing is for stays as it is
pub producer-stays : (w : OutletProducerState) → ProducerSent [] w w
producer-stays w = record {
  name = refl;
  whole = λ isnt. (isnt, sym (append-nil w.sent));
  lost = λ so. refl;
  stays = λ either. refl;
  takes = omega arith;
  most = omega arith;
  counts = λ isnt. inl (omega arith);
  stages = refl;
  waits = λ so. refl;
  places = refl;
}

-- a producer that isn't full has room, or has overflowed
room-by : (kept : ℕ) (v : OutletProducerState) (full : Bool)
    → ((v.overflowed ≡ false) × (producer_room v ≤ kept) → full ≡ true) → full ≡ false
    → (overflowed : Bool) → v.overflowed ≡ overflowed → (v.overflowed ≡ true) ⊎ (kept < producer_room v)
room-by kept v full is isnt true overflowed = inl overflowed
room-by kept v full is isnt false overflowed =
    elim (leb_tells (producer_room v) kept) [
      | inl q ↦ absurd (cc (is (overflowed, q.1), isnt))
      | inr q ↦ inr (omega (arith, q.1))
    ]

pub has-room : (kept : ℕ) (producers : List OutletProducerState) (i d : ℕ) (v w : OutletProducerState) (full : Bool)
    → i < length producers → d ≡ i
    → slice_get (slice_set producers i v) d ≡ Some w
    → ((v.overflowed ≡ false) × (producer_room v ≤ kept) → full ≡ true) → full ≡ false
    → (w.overflowed ≡ true) ⊎ (kept < producer_room w)
has-room kept producers i d v w full inside place at is isnt =
    let same : v ≡ w = get-same (slice_set producers i v) i v w (get-set-same producers i v inside) (rw place at at) in
    subst (λ (z : OutletProducerState). (z.overflowed ≡ true) ⊎ (kept < producer_room z)) same
    (room-by kept v full is isnt v.overflowed refl)

keeps-room : (kept : ℕ) (w v : OutletProducerState) → ProducerLooked w v
    → (w.overflowed ≡ true) ⊎ (kept < producer_room w)
    → (v.overflowed ≡ true) ⊎ (kept < producer_room v)
keeps-room kept w v l (inl overflowed) = inl (l.2 ∙ overflowed)
keeps-room kept w v l (inr room) = inr (omega (arith, looked-grows w v l, room))

-- ---- places

le-true : (m n : ℕ) → m ≤ n → nat_le m n ≡ true
le-true m n h = elim (leb_tells m n) [ inl q ↦ q.0 | inr q ↦ absurd (omega (arith, h, q.1)) ]

client-place-is : (clients d : ℕ) (o : Option ℕ) → d < clients → o ≡ Some (d + 1) → client_place clients o ≡ Some d
client-place-is clients d o inside is =
    let back : (d + 1) - 1 ≡ d = omega arith in
    rw (is, le-true 1 (d + 1) (omega arith), le-true (d + 1) clients (omega (arith, inside)), back) refl

port-place-is : (clients ports d : ℕ) (o : Option ℕ) → clients ≤ d → d < clients + ports → o ≡ Some ((d - clients) + 1)
    → port_place clients ports o ≡ Some d
port-place-is clients ports d o behind inside is =
    let back : clients + (((d - clients) + 1) - 1) ≡ d = omega (arith, behind) in
    rw (
      is,
      le-true 1 ((d - clients) + 1) (omega arith),
      le-true ((d - clients) + 1) ports
          (omega (arith, behind, inside)),
      back,
    ) refl

client-place-was : (clients d : ℕ) (o : Option ℕ) → client_place clients o ≡ Some d → (o ≡ Some (d + 1)) × (d < clients)
client-place-was clients d None is = absurd (cc is)
client-place-was clients d (Some n) is =
    elim (leb_tells 1 n) [
      | inl p ↦ elim (leb_tells n clients) [
        | inl q ↦ (
            let one : Some (n - 1) ≡ Some d = rw (p.0, q.0) at is in
            let place : n - 1 ≡ d = cc one in
            let number : n ≡ d + 1 = omega (arith, p.1, place) in
            (ap Some number, omega (arith, q.1, number))
            )
        | inr q ↦ (let none : None ≡ Some d = rw (p.0, q.0) at is in absurd (cc none))
      ]
      | inr p ↦ (let none : None ≡ Some d = rw (p.0) at is in absurd (cc none))
    ]

port-place-was : (clients ports d : ℕ) (o : Option ℕ) → port_place clients ports o ≡ Some d
    → (o ≡ Some ((d - clients) + 1)) × (clients ≤ d) × (d < clients + ports)
port-place-was clients ports d None is = absurd (cc is)
port-place-was clients ports d (Some n) is =
    elim (leb_tells 1 n) [
      | inl p ↦ elim (leb_tells n ports) [
        | inl q ↦ (
            let one : Some (clients + (n - 1)) ≡ Some d = rw (p.0, q.0) at is in
            let place : clients + (n - 1) ≡ d = cc one in
            let number : n ≡ (d - clients) + 1 = omega (arith, p.1, place) in
            (ap Some number, omega (arith, place), omega (arith, p.1, q.1, place))
            )
        | inr q ↦ (let none : None ≡ Some d = rw (p.0, q.0) at is in absurd (cc none))
      ]
      | inr p ↦ (let none : None ≡ Some d = rw (p.0) at is in absurd (cc none))
    ]

-- ---- whom a place is for

recipient-client : (clients d : ℕ) → d < clients → recipient_at clients d ≡ recipients.Client (d + 1)
recipient-client clients d h = rw (le-true (suc d) clients (omega (arith, h))) refl

recipient-port : (clients d : ℕ) → clients ≤ d → recipient_at clients d ≡ recipients.Port ((d - clients) + 1)
recipient-port clients d h =
    elim (leb_tells (suc d) clients) [
      | inl q ↦ absurd (omega (arith, h, q.1))
      | inr q ↦ rw (q.0) refl
    ]

number-is : (n : ℕ) (o : Option ℕ) → o ≡ Some n → is_the_number n o ≡ true
number-is n o is = rw is (elim (eqb_tells n n) [ inl q ↦ q.0 | inr q ↦ absurd (q.1 refl) ])

number-was : (n : ℕ) (o : Option ℕ) → is_the_number n o ≡ true → o ≡ Some n
number-was n None is = absurd (cc is)
number-was n (Some m) is = elim (eqb_tells m n) [ inl q ↦ ap Some q.1 | inr q ↦ absurd (cc (is, q.0)) ]

aimed-client : (clients d : ℕ) (client port : Option ℕ) (to : Recipient) → to ≡ recipient_at clients d → d < clients
    → is_aimed client port to ≡ is_the_number (d + 1) client
aimed-client clients d client port to is h = ap (is_aimed client port) (is ∙ recipient-client clients d h)

aimed-port : (clients d : ℕ) (client port : Option ℕ) (to : Recipient) → to ≡ recipient_at clients d → clients ≤ d
    → is_aimed client port to ≡ is_the_number ((d - clients) + 1) port
aimed-port clients d client port to is h = ap (is_aimed client port) (is ∙ recipient-port clients d h)

-- ---- room

module _ (kept clients ports : ℕ) (client port : Option ℕ) (new : List OutletProducerState)
    (names : (d : ℕ) (w : OutletProducerState) → slice_get new d ≡ Some w → w.name.to ≡ recipient_at clients d)
    (count : length new ≡ clients + ports) where
  pub have-room : (mid : List OutletProducerState) → ProducersLooked mid new
      → ((d : ℕ) (w : OutletProducerState) → client_place clients client ≡ Some d → slice_get mid d ≡ Some w
      → (w.overflowed ≡ true) ⊎ (kept < producer_room w))
      → ((d : ℕ) (w : OutletProducerState) → port_place clients ports port ≡ Some d → slice_get new d ≡ Some w
      → (w.overflowed ≡ true) ⊎ (kept < producer_room w))
      → HaveRoom kept client port new
  have-room mid looked first second d w at aim =
      elim (leb_tells (suc d) clients) [
        | inl q ↦ (
            let inside : d < clients = omega (arith, q.1) in
            let is : client ≡ Some (d + 1) = number-was (d + 1) client
            (sym (aimed-client clients d client port w.name.to (names d w at) inside) ∙ aim) in
            let v = come-to ProducerLooked mid new looked.count looked.each d w at in
            keeps-room kept v.0 w v.2 (first d v.0 (client-place-is clients d client inside is) v.1)
            )
        | inr q ↦ (
            let behind : clients ≤ d = omega (arith, q.1) in
            let inside : d < clients + ports = omega (arith, slice_get_within new d w at, count) in
            let is : port ≡ Some ((d - clients) + 1) =
            number-was ((d - clients) + 1) port (sym (aimed-port clients d client port w.name.to
            (names d w at) behind) ∙ aim) in
            second d w (port-place-is clients ports d port behind inside is) at
            )
      ]

  pub client-held : (d : ℕ) (w : OutletProducerState) → client_place clients client ≡ Some d → slice_get new d ≡ Some w
      → w.overflowed ≡ false → producer_room w ≤ kept → LacksRoom kept client port new
  client-held d w place at overflowed free =
      let was = client-place-was clients d client place in (
        d,
        w,
        at,
        aimed-client clients d client port w.name.to (names d w at) was.1
            ∙ number-is (d + 1) client was.0,
        overflowed,
        free,
      )

  pub port-held : (d : ℕ) (w : OutletProducerState) → port_place clients ports port ≡ Some d → slice_get new d ≡ Some w
      → w.overflowed ≡ false → producer_room w ≤ kept → LacksRoom kept client port new
  port-held d w place at overflowed free =
      let was = port-place-was clients ports d port place in (
        d,
        w,
        at,
        aimed-port clients d client port w.name.to (names d w at) was.1
            ∙ number-is ((d - clients) + 1) port was.0,
        overflowed,
        free,
      )

-- ---- lists

-- what becomes of the producer at a place, and of each other
at-place : (place : Option ℕ) (lists : List (List LinkOut)) (old new : List OutletProducerState)
    → ((d : ℕ) → place ≡ Some d → ChangesAt d (ProducerSent lists) old new) → (place ≡ None → new ≡ old)
    → (d : ℕ) (w : OutletProducerState) → slice_get old d ≡ Some w → place ≡ Some d
    → (v : OutletProducerState) × (slice_get new d ≡ Some v) × ProducerSent lists w v
at-place place lists old new there nowhere d w at is = (there d is).there w at

off-place : (place : Option ℕ) (lists : List (List LinkOut)) (old new : List OutletProducerState)
    → ((d : ℕ) → place ≡ Some d → ChangesAt d (ProducerSent lists) old new) → (place ≡ None → new ≡ old)
    → (d : ℕ) (w : OutletProducerState) → slice_get old d ≡ Some w → place ≢ Some d → slice_get new d ≡ Some w
off-place None lists old new there nowhere d w at not =
    ap (λ (z : List OutletProducerState). slice_get z d) (nowhere refl) ∙ at
off-place (Some i) lists old new there nowhere d w at not = (there i refl).others d (λ e. not (ap Some (sym e))) ∙ at

count-place : (place : Option ℕ) (lists : List (List LinkOut)) (old new : List OutletProducerState)
    → ((d : ℕ) → place ≡ Some d → ChangesAt d (ProducerSent lists) old new) → (place ≡ None → new ≡ old)
    → length new ≡ length old
count-place None lists old new there nowhere = ap length (nowhere refl)
count-place (Some i) lists old new there nowhere = (there i refl).count

-- what is said to whom
output-client : (n : ℕ) (s : BatchOutput) → s.client ≡ Some n → list_for (recipients.Client n) s ≡ s.client_output
output-client n s is = rw (number-is n s.client is) refl

output-port : (n : ℕ) (s : BatchOutput) → s.port ≡ Some n → list_for (recipients.Port n) s ≡ s.port_output
output-port n s is = rw (number-is n s.port is) refl

not-client : (n : ℕ) (s : BatchOutput) → is_the_number n s.client ≡ false → list_for (recipients.Client n) s ≡ []
not-client n s isnt = rw isnt refl

not-port : (n : ℕ) (s : BatchOutput) → is_the_number n s.port ≡ false → list_for (recipients.Port n) s ≡ []
not-port n s isnt = rw isnt refl

module _ (clients ports : ℕ) (output : BatchOutput) (old mid new : List OutletProducerState)
    (names : (d : ℕ) (w : OutletProducerState) → slice_get old d ≡ Some w → w.name.to ≡ recipient_at clients d)
    (first : (d : ℕ) → client_place clients output.client ≡ Some d
    → ChangesAt d (ProducerSent (unless_empty output.client_output)) old mid)
    (first-none : client_place clients output.client ≡ None → mid ≡ old)
    (second : (d : ℕ) → port_place clients ports output.port ≡ Some d
    → ChangesAt d (ProducerSent (unless_empty output.port_output)) mid new)
    (second-none : port_place clients ports output.port ≡ None → new ≡ mid) (count : length old ≡ clients + ports) where
  abbrev Sent : Recipient → ℕ → OutletProducerState → Type 0
  Sent to d w = (v : OutletProducerState) × (slice_get new d ≡ Some v)
      × ProducerSent (unless_empty (list_for to output)) w v

  to-client : (d : ℕ) (w : OutletProducerState) → slice_get old d ≡ Some w → d < clients → (b : Bool)
      → is_the_number (d + 1) output.client ≡ b → Sent (recipients.Client (d + 1)) d w
  to-client d w at inside true is =
      let own : output.client ≡ Some (d + 1) = number-was (d + 1) output.client is in
      let v = at-place (client_place clients output.client)
      (unless_empty output.client_output) old mid first first-none d w at
      (client-place-is clients d output.client inside own) in (
        v.0,
        off-place (port_place clients ports output.port)
            (unless_empty output.port_output) mid new second second-none d v.0 v.1
            (λ e. absurd (omega (arith, inside, (port-place-was clients ports d output.port e).1))),
        subst (λ (z : List LinkOut). ProducerSent (unless_empty z) w v.0) (sym (output-client (d + 1) output own)) v.2,
      )
  to-client d w at inside false is =
      let stays = off-place (client_place clients output.client)
      (unless_empty output.client_output) old mid first first-none d w at
      (λ e. absurd (cc (number-is (d + 1) output.client (client-place-was clients d output.client e).0, is))) in (
        w,
        off-place (port_place clients ports output.port)
            (unless_empty output.port_output) mid new second second-none d w stays
            (λ e. absurd (omega (arith, inside, (port-place-was clients ports d output.port e).1))),
        subst (λ (z : List LinkOut). ProducerSent (unless_empty z) w w) (sym (not-client (d + 1) output is))
            (producer-stays w),
      )

  to-port-by : (d : ℕ) (w : OutletProducerState) → clients ≤ d → d < clients + ports → slice_get mid d ≡ Some w
      → (b : Bool)
      → is_the_number ((d - clients) + 1) output.port ≡ b → Sent (recipients.Port ((d - clients) + 1)) d w
  to-port-by d w behind inside stays true is =
      let own : output.port ≡ Some ((d - clients) + 1) = number-was ((d - clients) + 1) output.port is in
      let v = at-place (port_place clients ports output.port)
      (unless_empty output.port_output) mid new second second-none d w stays
      (port-place-is clients ports d output.port behind inside own) in (
        v.0,
        v.1,
        subst (λ (z : List LinkOut). ProducerSent (unless_empty z) w v.0)
            (sym (output-port ((d - clients) + 1) output own)) v.2,
      )
  to-port-by d w behind inside stays false is = (
    w,
    off-place (port_place clients ports output.port)
        (unless_empty output.port_output) mid new second second-none d w stays
        (λ e. absurd (cc (
          number-is ((d - clients) + 1) output.port
              (port-place-was clients ports d output.port e).0,
          is,
        ))),
    subst (λ (z : List LinkOut). ProducerSent (unless_empty z) w w) (sym (not-port ((d - clients) + 1) output is))
        (producer-stays w),
  )

  to-port : (d : ℕ) (w : OutletProducerState) → slice_get old d ≡ Some w → clients ≤ d
      → Sent (recipients.Port ((d - clients) + 1)) d w
  to-port d w at behind =
      let inside : d < clients + ports = omega (arith, slice_get_within old d w at, count) in
      let stays = off-place (client_place clients output.client)
      (unless_empty output.client_output) old mid first first-none d w at
      (λ e. absurd (omega (arith, behind, (client-place-was clients d output.client e).1))) in
      to-port-by d w behind inside stays (is_the_number ((d - clients) + 1) output.port) refl

  pub tells : OutputSent output old new
  tells = record {
    count = count-place (port_place clients ports output.port)
        (unless_empty output.port_output) mid new second second-none
        ∙ count-place (client_place clients output.client) (unless_empty output.client_output) old mid first first-none;
    each = λ d w at.
        elim (leb_tells (suc d) clients) [
          | inl q ↦ (
              let inside : d < clients = omega (arith, q.1) in
              subst (λ (to : Recipient). Sent to d w) (sym (names d w at ∙ recipient-client clients d inside))
              (to-client d w at inside (is_the_number (d + 1) output.client) refl)
              )
          | inr q ↦ (
              let behind : clients ≤ d = omega (arith, q.1) in
              subst (λ (to : Recipient). Sent to d w) (sym (names d w at ∙ recipient-port clients d behind))
              (to-port d w at behind)
              )
        ];
  }
