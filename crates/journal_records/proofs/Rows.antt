-- An event's record is read as the event, and what is read as an event is written as it was read.
use Rattle.std.proofs.Common.{◌≡◌, ◌<◌, ◌≤◌, ◌+◌, ◌*◌, ◌/◌, ◌%◌, ℕ, true, false, Bool, Option, Some, None, List, []}
use Rattle.std.proofs.Common.{◌∷◌, length, get_or, refl, sym, ap, subst, ◌∙◌, arith}
use Rattle.std.proofs.lemmas.Bool.{and_parts}
use Rattle.std.proofs.lemmas.Bool.Decides.{nat_tests}
use Rattle.std.specs.Option.{IfSome, is_some}
use Rattle.std.specs.Prelude.{◌==◌, ◌&&◌, nat_le, nat_lt, unwrap_or, if◌then◌else◌}
use Rattle.std.specs.Int.{w16, from_be_bytes}
use Rattle.journal_pages.specs.fix_fields.Field.{Message, fields_text}
use Rattle.journal_pages.specs.fix_fields.Reading.{fields_of}
use Rattle.journal_pages.proofs.fix_fields.Reading.{fields_of-fields_text, fields_of-found}
use Rattle.soup_packets.specs.declared.packet.Packet.{Packet}
use Rattle.soup_packets.specs.Spelling.{IsWhole, packet_bytes}
use Rattle.gate_events.specs.declared.event.Event.{Event}
use Rattle.gate_events.specs.declared.event.Event.TheVariants as events
use Rattle.journal_pages.specs.declared.kind.RecordKind.{RecordKind}
use Rattle.journal_pages.specs.declared.kind.RecordKind.TheVariants as kinds
use Rattle.journal_pages.specs.Record.{Record, is_packet, is_sound, link_fits, longest_frame, payload_fits}
use Rattle.journal_pages.specs.Record.{payload_limit, source_fits}
use Rattle.journal_records.specs.Events.{AreItsFields, event_in, event_of_kind, event_record, payload_fields}
use Rattle.journal_records.specs.Events.{payload_packet, record_with}

-- ---- written, then read

not-zero : (n : ℕ) → 1 ≤ n → (n == 0) ≡ false
not-zero n some = grind (arith, nat_tests)

pub read-written : (e : Event) → 1 ≤ (event_record e).source → AreItsFields e → event_in (event_record e) ≡ Some e
read-written (events.ClientUp client link at) some good = let is : (client == 0) ≡ false = not-zero client some in
    rw is refl
read-written (events.ClientMessage client link at frame) some good =
    let is : (client == 0) ≡ false = not-zero client some in
    rw is (ap (λ (found : Option Message). Some (events.ClientMessage client link at (unwrap_or found [])))
    (fields_of-fields_text frame good))
read-written (events.ClientGone client link at) some good = let is : (client == 0) ≡ false = not-zero client some in
    rw is refl
read-written (events.ClientTick client at) some good = let is : (client == 0) ≡ false = not-zero client some in
    rw is refl
read-written (events.PortUp port link at) some good = let is : (port == 0) ≡ false = not-zero port some in rw is refl
read-written (events.PortPacket port link at packet) some good = let is : (port == 0) ≡ false = not-zero port some in
    rw is refl
read-written (events.PortGone port link at) some good = let is : (port == 0) ≡ false = not-zero port some in rw is refl
read-written (events.PortTick port at) some good = let is : (port == 0) ≡ false = not-zero port some in rw is refl

-- ---- what a sound record has

pub record Has (r : Record) : Type 0 where
  pub few : length r.payload < 1_048_576
  pub payload : payload_fits r.kind r.payload ≡ true
  pub source : source_fits r.kind r.source ≡ true
  pub link : link_fits r.kind r.link ≡ true

few-of : (n : ℕ) → nat_lt n payload_limit ≡ true → n < 1_048_576
few-of n e = grind (arith, nat_tests)

pub has : (r : Record) → is_sound r ≡ true → Has r
has r sound =
    let all = and_parts (nat_lt (length r.payload) payload_limit)
    (payload_fits r.kind r.payload && (source_fits r.kind r.source && link_fits r.kind r.link)) sound in
    let some = and_parts (payload_fits r.kind r.payload) (source_fits r.kind r.source && link_fits r.kind r.link) all.1
    in
    let last = and_parts (source_fits r.kind r.source) (link_fits r.kind r.link) some.1 in
    record { few = few-of (length r.payload) all.0; payload = some.0; source = last.0; link = last.1 }

empty : (l : List ℕ) → (length l == 0) ≡ true → l ≡ []
empty [] e = refl
empty (x ∷ l) e = let no : ⊥ = grind (arith, nat_tests) in absurd no

zero-is : (n : ℕ) → (n == 0) ≡ true → n ≡ 0
zero-is n e = grind (arith, nat_tests)

pub text-kept : (payload : List ℕ) (found : Option Message) → fields_of payload ≡ found → is_some found ≡ true
    → fields_text (unwrap_or found []) ≡ payload
text-kept payload None e is = let no : ⊥ = cc in absurd no
text-kept payload (Some fs) e is = (fields_of-found payload fs e).spelled

-- a frame's payload
pub record IsFrame (payload : List ℕ) : Type 0 where
  pub fields : is_some (fields_of payload) ≡ true
  pub few : length payload ≤ 8_192

few-bytes : (n : ℕ) → nat_le n longest_frame ≡ true → n ≤ 8_192
few-bytes n e = grind (arith, nat_tests)

frame-payload : (k : RecordKind) (payload : List ℕ) → k ≡ kinds.ClientMessage → payload_fits k payload ≡ true
    → IsFrame payload
frame-payload k payload is fits =
    let told : (is_some (fields_of payload) && nat_le (length payload) longest_frame) ≡ true =
    subst (λ (x : RecordKind). payload_fits x payload ≡ true) is fits in
    let both = and_parts (is_some (fields_of payload)) (nat_le (length payload) longest_frame) told in
    record { fields = both.0; few = few-bytes (length payload) both.1 }

pub frame-of : (r : Record) → is_sound r ≡ true → r.kind ≡ kinds.ClientMessage → IsFrame r.payload
frame-of r sound is = frame-payload r.kind r.payload is (has r sound).payload

-- a packet's
size-is : (high low n : ℕ) → (from_be_bytes w16 (high ∷ low ∷ []) + 2 == n + 3) ≡ true → high * 256 + low ≡ n + 1
size-is high low n e = let same : from_be_bytes w16 (high ∷ low ∷ []) + 2 ≡ n + 3 = grind (arith, nat_tests) in
    omega (arith, same)

three-more : (l : List ℕ) (high low kind : ℕ) → length (high ∷ low ∷ kind ∷ l) ≡ length l + 3
three-more l high low kind = omega arith

pub whole-packet : (payload : List ℕ) → is_packet payload ≡ true → IsWhole payload
whole-packet [] e = let no : ⊥ = cc in absurd no
whole-packet (high ∷ []) e = let no : ⊥ = cc in absurd no
whole-packet (high ∷ low ∷ []) e = let no : ⊥ = cc in absurd no
whole-packet (high ∷ low ∷ kind ∷ l) e =
    let size : (from_be_bytes w16 (high ∷ low ∷ []) + 2 == length (high ∷ low ∷ kind ∷ l)) ≡ true =
    (and_parts (nat_le 3 (length (high ∷ low ∷ kind ∷ l))) _ e).1 in
    size-is high low (length l) (subst (λ n. (from_be_bytes w16 (high ∷ low ∷ []) + 2 == n) ≡ true)
    (three-more l high low kind) size)

packet-kind : (k : RecordKind) (payload : List ℕ) → k ≡ kinds.PortPacket → payload_fits k payload ≡ true
    → is_packet payload ≡ true
packet-kind k payload is fits = subst (λ (x : RecordKind). payload_fits x payload ≡ true) is fits

pub packet-of : (r : Record) → is_sound r ≡ true → r.kind ≡ kinds.PortPacket → IsWhole r.payload
packet-of r sound is = whole-packet r.payload (packet-kind r.kind r.payload is (has r sound).payload)

bytes-of : (size high low : ℕ) → high < 256 → low < 256 → high * 256 + low ≡ size
    → (size / 256 ≡ high) × (size % 256 ≡ low)
bytes-of size high low a b e = (omega arith, omega arith)

packet-kept : (payload : List ℕ) → ((i : ℕ) → get_or payload i 0 < 256) → IsWhole payload
    → packet_bytes (payload_packet payload) ≡ payload
packet-kept [] below whole = absurd whole
packet-kept (high ∷ []) below whole = absurd whole
packet-kept (high ∷ low ∷ []) below whole = absurd whole
packet-kept (high ∷ low ∷ kind ∷ l) below whole =
    let both = bytes-of (length l + 1) high low (below 0) (below 1) whole in
    rw (both.0, both.1) refl

pub packet-got : (read : Option Packet) (packet : Packet) (payload : List ℕ) → read ≡ Some packet
    → IfSome read (λ p. packet_bytes p ≡ payload) → packet ≡ payload_packet payload
packet-got read packet payload is told =
    let bytes : packet_bytes packet ≡ payload =
    subst (λ (o : Option Packet). IfSome o (λ p. packet_bytes p ≡ payload)) is told in
    ap payload_packet bytes

-- ---- read, then written

known : (x y : Event) → Some x ≡ Some y → x ≡ y
known x y e = cc

none : (e : Event) → None ≡ Some e → ⊥
none e is = cc

module _ (source link at : ℕ) (payload : List ℕ) (e : Event) (below : (i : ℕ) → get_or payload i 0 < 256) where
  bare : (k : RecordKind) (x : Event) → Some x ≡ Some e → event_record x ≡ record_with k source link at []
      → (length payload == 0) ≡ true → event_record e ≡ record_with k source link at payload
  bare k x is row none = ap event_record (sym (known x e is)) ∙ row
      ∙ ap (record_with k source link at) (sym (empty payload none))

  written-read : (k : RecordKind) → Has (record_with k source link at payload)
      → event_of_kind k (record_with k source link at payload) ≡ Some e
      → event_record e ≡ record_with k source link at payload
  written-read kinds.ClientUp h is = bare kinds.ClientUp (events.ClientUp source link at) is refl h.payload
  written-read kinds.ClientMessage h is =
      let frame = frame-payload kinds.ClientMessage payload refl h.payload in
      ap event_record (sym (known (events.ClientMessage source link at (payload_fields payload)) e is))
      ∙ ap (record_with kinds.ClientMessage source link at) (text-kept payload (fields_of payload) refl frame.fields)
  written-read kinds.ClientGone h is = bare kinds.ClientGone (events.ClientGone source link at) is refl h.payload
  written-read kinds.PortUp h is = bare kinds.PortUp (events.PortUp source link at) is refl h.payload
  written-read kinds.PortPacket h is =
      ap event_record (sym (known (events.PortPacket source link at (payload_packet payload)) e is))
      ∙ ap (record_with kinds.PortPacket source link at) (packet-kept payload below (whole-packet payload h.payload))
  written-read kinds.PortGone h is = bare kinds.PortGone (events.PortGone source link at) is refl h.payload
  written-read kinds.ClientTick h is =
      bare kinds.ClientTick (events.ClientTick source at) is
      (ap (λ n. record_with kinds.ClientTick source n at []) (sym (zero-is link h.link))) h.payload
  written-read kinds.PortTick h is =
      bare kinds.PortTick (events.PortTick source at) is
      (ap (λ n. record_with kinds.PortTick source n at []) (sym (zero-is link h.link))) h.payload
  written-read kinds.Report h is = absurd (none e is)
  written-read kinds.ClientWrite h is = absurd (none e is)
  written-read kinds.ClientClose h is = absurd (none e is)
  written-read kinds.PortWrite h is = absurd (none e is)
  written-read kinds.PortClose h is = absurd (none e is)
  written-read kinds.Fault h is = absurd (none e is)
  written-read kinds.BatchEnd h is = absurd (none e is)

of-somebody : (b : Bool) (found : Option Event) (e : Event) → (if b then None else found) ≡ Some e → found ≡ Some e
of-somebody true found e is = absurd (none e is)
of-somebody false found e is = is

pub read-is-written : (r : Record) (e : Event) → is_sound r ≡ true → ((i : ℕ) → get_or r.payload i 0 < 256)
    → event_in r ≡ Some e → event_record e ≡ r
read-is-written r e sound below is =
    written-read r.source r.link r.at r.payload e below r.kind (has r sound)
    (of-somebody (r.source == 0) (event_of_kind r.kind r) e is)
