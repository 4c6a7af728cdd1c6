-- What an event and its batch keep is what their records need.
use Rattle.std.proofs.Common.{◌≡◌, ◌<◌, ◌≤◌, ◌^◌, ℕ, zero, suc, ◌+◌, ◌/◌, ◌%◌, true, false, Bool, Option, Some, None}
use Rattle.std.proofs.Common.{List, [], ◌∷◌, ◌++◌, length, get_or, take, refl, sym, ap, subst, ◌∙◌, arith}
use Rattle.std.proofs.lemmas.Bool.Decides.{nat_tests}
use Rattle.std.proofs.lemmas.List.{take_all, take_more}
use Rattle.std.specs.Option.{is_some}
use Rattle.std.specs.Int.{w16, from_be_bytes}
use Rattle.std.specs.Prelude.{◌==◌, ◌&&◌, nat_le, nat_lt, not, map}
use Rattle.journal_pages.specs.fix_fields.Field.{AreFields, Message, fields_text}
use Rattle.journal_pages.specs.fix_fields.Reading.{fields_of}
use Rattle.journal_pages.proofs.fix_fields.Reading.{fields_of-fields_text}
use Rattle.soup_session.specs.declared.port_fault.PortFault.{PortFault}
use Rattle.soup_session.specs.declared.port_fault.PortFault.TheVariants as port_faults
use Rattle.soup_session.specs.Faults.{fault_number}
use Rattle.soup_packets.specs.declared.packet.Packet.{Packet}
use Rattle.soup_packets.specs.Spelling.{packet_bytes}
use Rattle.gate_law.specs.Events.{Batch, LinkOut, Write, Close}
use Rattle.gate_events.specs.declared.event.Event.{Event}
use Rattle.gate_events.specs.declared.event.Event.TheVariants as events
use Rattle.journal_pages.specs.declared.kind.RecordKind.{RecordKind}
use Rattle.journal_pages.specs.declared.kind.RecordKind.TheVariants as kinds
use Rattle.journal_pages.specs.Ordered.{AreWritable, IsWritable}
use Rattle.journal_pages.specs.Record.{Record, is_fault_number, is_packet, is_sound, longest_frame, payload_limit}
use Rattle.journal_records.specs.Events.{event_record, record_with}
use Rattle.journal_records.specs.Parts.{batch_records, client_records, end_record, fault_records, named_number}
use Rattle.journal_records.specs.Parts.{out_record, port_records, report_record, turn_records}
use Rattle.journal_records.specs.Whole.{AreReports, Each, IsFitBatch, IsFrame, IsFromOne, IsShortOut, IsShortReport}
use Rattle.journal_records.specs.Whole.{IsTurn}

-- ---- tests

not-zero : (n : ℕ) → 1 ≤ n → (n == 0) ≡ false
not-zero n some = grind (arith, nat_tests)

few-is : (n : ℕ) → n < payload_limit → nat_lt n payload_limit ≡ true
few-is n few = grind (arith, nat_tests)

frame-is : (n : ℕ) → n ≤ longest_frame → nat_le n longest_frame ≡ true
frame-is n few = grind (arith, nat_tests)

fields-are : (fs : Message) → AreFields fs → is_some (fields_of (fields_text fs)) ≡ true
fields-are fs good = ap is_some (fields_of-fields_text fs good)

numbers : (r : Record) → r.source < 2 ^ 16 → r.link < 2 ^ 64 → r.at < 2 ^ 64 → is_sound r ≡ true → IsWritable r
numbers r source link at sound = record { source = source; link = link; at = at; sound = sound }

-- ---- events

module _ (source link at : ℕ) (some : 1 ≤ source) (few : source < 2 ^ 16) (l : link < 2 ^ 64) (a : at < 2 ^ 64) where
  is-not : (source == 0) ≡ false
  is-not = not-zero source some

  -- of a kind without a payload, on a link
  pub linked : (k : RecordKind) → is_sound (record_with k source link at []) ≡ (not (source == 0) && true)
      → IsWritable (record_with k source link at [])
  linked k sound = numbers (record_with k source link at []) few l a (sound ∙ ap (λ b. not b && true) is-not)

  pub unlinked : (k : RecordKind) → is_sound (record_with k source 0 at []) ≡ (not (source == 0) && true)
      → IsWritable (record_with k source 0 at [])
  unlinked k sound = numbers (record_with k source 0 at []) few (omega arith) a (sound ∙ ap (λ b. not b && true) is-not)

  pub up-fits : IsWritable (event_record (events.ClientUp source link at))
  up-fits = linked kinds.ClientUp refl

  pub gone-fits : IsWritable (event_record (events.ClientGone source link at))
  gone-fits = linked kinds.ClientGone refl

  pub tick-fits : IsWritable (event_record (events.ClientTick source at))
  tick-fits = unlinked kinds.ClientTick refl

  pub port-up-fits : IsWritable (event_record (events.PortUp source link at))
  port-up-fits = linked kinds.PortUp refl

  pub port-gone-fits : IsWritable (event_record (events.PortGone source link at))
  port-gone-fits = linked kinds.PortGone refl

  pub port-tick-fits : IsWritable (event_record (events.PortTick source at))
  port-tick-fits = unlinked kinds.PortTick refl

  four : (x y z : Bool) → x ≡ true → y ≡ true → z ≡ false → (x && (y && (not z && true))) ≡ true
  four x y z ex ey ez = rw (ex, ey, ez) refl

  frame-size : (n : ℕ) → n ≤ longest_frame → n < payload_limit
  frame-size n few = omega (arith, few)

  both-true : (x y : Bool) → x ≡ true → y ≡ true → (x && y) ≡ true
  both-true x y ex ey = rw (ex, ey) refl

  pub frame-fits : (frame : Message) → IsFrame frame
      → IsWritable (event_record (events.ClientMessage source link at frame))
  frame-fits frame is = numbers (record_with kinds.ClientMessage source link at (fields_text frame)) few l a
      (four (nat_lt (length (fields_text frame)) payload_limit)
      (is_some (fields_of (fields_text frame)) && nat_le (length (fields_text frame)) longest_frame) (source == 0)
      (few-is (length (fields_text frame)) (frame-size (length (fields_text frame)) is.few))
      (both-true (is_some (fields_of (fields_text frame))) (nat_le (length (fields_text frame)) longest_frame)
      (fields-are frame is.fields) (frame-is (length (fields_text frame)) is.few))
      is-not)

  high-low : (n : ℕ) → n < 65_536 → from_be_bytes w16 (n / 256 ∷ n % 256 ∷ []) ≡ n
  high-low n few = omega (arith, few)

  whole-size : (n m : ℕ) → n ≡ m + 1 → (n + 2 == m + 3) ≡ true
  whole-size n m e = grind (arith, nat_tests)

  three : (n : ℕ) → nat_le 3 (n + 3) ≡ true
  three n = grind (arith, nat_tests)

  pub packet-is : (packet : Packet) → length packet.payload ≤ 65_534 → is_packet (packet_bytes packet) ≡ true
  packet-is packet few = both-true (nat_le 3 (length (packet_bytes packet)))
      (from_be_bytes w16 (take 2 (packet_bytes packet)) + 2 == length (packet_bytes packet))
      (ap (nat_le 3) (size packet.payload) ∙ three (length packet.payload))
      (ap (λ n. n + 2 == length (packet_bytes packet)) (high-low (length packet.payload + 1) (omega (arith, few)))
      ∙ ap (λ n. length packet.payload + 1 + 2 == n) (size packet.payload)
      ∙ whole-size (length packet.payload + 1) (length packet.payload) refl)
    where
      size : (payload : List ℕ) → length (packet_bytes (record packet { payload = payload })) ≡ length payload + 3
      size payload = omega arith

  pub packet-fits : (packet : Packet) → length packet.payload ≤ 65_534
      → IsWritable (event_record (events.PortPacket source link at packet))
  packet-fits packet most = numbers (record_with kinds.PortPacket source link at (packet_bytes packet)) few l a
      (four (nat_lt (length (packet_bytes packet)) payload_limit) (is_packet (packet_bytes packet)) (source == 0)
      (few-is (length (packet_bytes packet)) (omega (arith, most))) (packet-is packet most) is-not)

-- ---- batches

module _ (at : ℕ) (a : at < 2 ^ 64) where
  three-true : (x y z : Bool) → x ≡ true → y ≡ true → z ≡ false → (x && (y && (not z && true))) ≡ true
  three-true x y z ex ey ez = rw (ex, ey, ez) refl

  report-fits : (c : ℕ) (r : Message) → 1 ≤ c → c < 2 ^ 16 → IsShortReport r → IsWritable (report_record at c r)
  report-fits c r some few is = numbers (report_record at c r) few (omega arith) a
      (three-true (nat_lt (length (fields_text r)) payload_limit) (is_some (fields_of (fields_text r))) (c == 0)
      (few-is (length (fields_text r)) is.few) (fields-are r is.fields) (not-zero c some))

  write-fits : (k : RecordKind) (n link : ℕ) (bytes : List ℕ) → n < 2 ^ 16 → 1 ≤ n → link < 2 ^ 64
      → length bytes < payload_limit
      → is_sound (record_with k n link at bytes) ≡ (nat_lt (length bytes) payload_limit && (not (n == 0) && true))
      → IsWritable (record_with k n link at bytes)
  write-fits k n link bytes few some l short sound =
      numbers (record_with k n link at bytes) few l a
      (sound ∙ both-are (nat_lt (length bytes) payload_limit) (n == 0) (few-is (length bytes) short) (not-zero n some))
    where
      both-are : (x z : Bool) → x ≡ true → z ≡ false → (x && (not z && true)) ≡ true
      both-are x z ex ez = rw (ex, ez) refl

  told-fits : (c : ℕ) (o : LinkOut) → 1 ≤ c → c < 2 ^ 16 → IsShortOut o
      → IsWritable (out_record kinds.ClientWrite kinds.ClientClose at c o)
  told-fits c (Write link bytes) some few is = write-fits kinds.ClientWrite c link bytes few some is.0 is.1 refl
  told-fits c (Close link) some few is = write-fits kinds.ClientClose c link [] few some is (omega arith) refl

  sent-fits : (p : ℕ) (o : LinkOut) → 1 ≤ p → p < 2 ^ 16 → IsShortOut o
      → IsWritable (out_record kinds.PortWrite kinds.PortClose at p o)
  sent-fits p (Write link bytes) some few is = write-fits kinds.PortWrite p link bytes few some is.0 is.1 refl
  sent-fits p (Close link) some few is = write-fits kinds.PortClose p link [] few some is (omega arith) refl

  fault-is : (f : PortFault) → is_fault_number (fault_number f ∷ []) ≡ true
  fault-is port_faults.StrangePacket = refl
  fault-is port_faults.UnknownToken = refl
  fault-is port_faults.NotLawful = refl
  fault-is port_faults.OutsideProfile = refl
  fault-is port_faults.SequenceGap = refl
  fault-is port_faults.OtherSession = refl

  fault-fits : (p : ℕ) (f : PortFault) → 1 ≤ p → p < 2 ^ 16
      → IsWritable (record_with kinds.Fault p 0 at (fault_number f ∷ []))
  fault-fits p f some few = numbers (record_with kinds.Fault p 0 at (fault_number f ∷ [])) few (omega arith) a
      (three-true true (is_fault_number (fault_number f ∷ [])) (p == 0) refl (fault-is f) (not-zero p some))

  end-fits : IsWritable (end_record at)
  end-fits = numbers (end_record at) (omega arith) (omega arith) a refl

  both-fit : (xs ys : List Record) → AreWritable xs → AreWritable ys → AreWritable (xs ++ ys)
  both-fit [] ys first later = later
  both-fit (x ∷ xs) ys first later = (first.0, both-fit xs ys first.1 later)

  reports-fit : (c : ℕ) (rs : List Message) → 1 ≤ c → c < 2 ^ 16 → Each IsShortReport rs
      → AreWritable (map (report_record at c) rs)
  reports-fit c [] some few is = tt
  reports-fit c (r ∷ rs) some few is = (report-fits c r some few is.0, reports-fit c rs some few is.1)

  told-fit : (c : ℕ) (os : List LinkOut) → 1 ≤ c → c < 2 ^ 16 → Each IsShortOut os
      → AreWritable (map (out_record kinds.ClientWrite kinds.ClientClose at c) os)
  told-fit c [] some few is = tt
  told-fit c (o ∷ os) some few is = (told-fits c o some few is.0, told-fit c os some few is.1)

  sent-fit : (p : ℕ) (os : List LinkOut) → 1 ≤ p → p < 2 ^ 16 → Each IsShortOut os
      → AreWritable (map (out_record kinds.PortWrite kinds.PortClose at p) os)
  sent-fit p [] some few is = tt
  sent-fit p (o ∷ os) some few is = (sent-fits p o some few is.0, sent-fit p os some few is.1)

  client-fit : (client : Option ℕ) (rs : List Message) (os : List LinkOut)
      → is_some client ≡ not ((length rs == 0) && (length os == 0)) → IsFromOne client → named_number client < 2 ^ 16
      → Each IsShortReport rs → Each IsShortOut os → AreWritable (client_records at (named_number client) rs os)
  client-fit None [] [] is one few r o = tt
  client-fit None [] (x ∷ os) is one few r o =
      let some : not (true && (length (x ∷ os) == 0)) ≡ true =
      ap (λ b. not (true && b)) (not-zero (length (x ∷ os)) (omega arith)) in
      let no : ⊥ = cc in absurd no
  client-fit None (x ∷ rs) os is one few r o =
      let some : not ((length (x ∷ rs) == 0) && (length os == 0)) ≡ true =
      ap (λ b. not (b && (length os == 0))) (not-zero (length (x ∷ rs)) (omega arith)) in
      let no : ⊥ = cc in absurd no
  client-fit (Some n) rs os is one few r o =
      both-fit (map (report_record at n) rs) (map (out_record kinds.ClientWrite kinds.ClientClose at n) os)
      (reports-fit n rs one few r) (told-fit n os one few o)

  faults-fit : (p : ℕ) (f : Option PortFault) → 1 ≤ p → p < 2 ^ 16 → AreWritable (fault_records at p f)
  faults-fit p None some few = tt
  faults-fit p (Some f) some few = (fault-fits p f some few, tt)

  port-fit : (port : Option ℕ) (os : List LinkOut) (f : Option PortFault)
      → is_some port ≡ not ((length os == 0) && not (is_some f)) → IsFromOne port → named_number port < 2 ^ 16
      → Each IsShortOut os → AreWritable (port_records at (named_number port) os f)
  port-fit None [] None is one few o = (end-fits, tt)
  port-fit None [] (Some f) is one few o = let no : ⊥ = cc in absurd no
  port-fit None (x ∷ os) f is one few o =
      let some : not ((length (x ∷ os) == 0) && not (is_some f)) ≡ true =
      ap (λ b. not (b && not (is_some f))) (not-zero (length (x ∷ os)) (omega arith)) in
      let no : ⊥ = cc in absurd no
  port-fit (Some n) os f is one few o =
      both-fit (map (out_record kinds.PortWrite kinds.PortClose at n) os) (fault_records at n f ++ end_record at ∷ [])
      (sent-fit n os one few o)
      (both-fit (fault_records at n f) (end_record at ∷ []) (faults-fit n f one few) (end-fits, tt))

  batch-fits : (b : Batch) → IsFitBatch b → AreWritable (batch_records at b)
  batch-fits b is = both-fit (client_records at (named_number b.client) b.reports b.client_out)
      (port_records at (named_number b.port) b.port_out b.fault)
      (client-fit b.client b.reports b.client_out is.whole.client is.whole.client_number is.client is.reports
      is.client_out)
      (port-fit b.port b.port_out b.fault is.whole.port is.whole.port_number is.port is.port_out)

pub turn-writable : (e : Event) (b : Batch) → IsTurn e b → AreWritable (turn_records e b)
turn-writable e b is = (is.writable, batch-fits (event_record e).at is.writable.at b is.batch)

-- ---- lists

each-last : {X : Type 0} (P : X → Type 0) (xs : List X) (x : X) → Each P xs → P x → Each P (xs ++ x ∷ [])
each-last P [] x all one = (one, tt)
each-last P (y ∷ xs) x all one = (all.0, each-last P xs x all.1 one)

-- one more of a list
pub each-more : {X : Type 0} (P : X → Type 0) (xs : List X) (i : ℕ) (x : X) → i < length xs → x ≡ get_or xs i x
    → Each P (take i xs) → P x → Each P (take (i + 1) xs)
each-more {X = X} P xs i x inside is all one =
    subst (λ (l : List X). Each P l) (ap (λ (y : X). take i xs ++ y ∷ []) is ∙ sym (take_more xs i x inside))
    (each-last P (take i xs) x all one)

pub each-all : {X : Type 0} (P : X → Type 0) (xs : List X) (i : ℕ) → length xs ≤ i → Each P (take i xs) → Each P xs
each-all {X = X} P xs i end all = subst (λ (l : List X). Each P l) (take_all i xs end) all

pub each-map : {X Y : Type 0} (P : Y → Type 0) (f : X → Y) (xs : List X) → Each (λ (x : X). P (f x)) xs
    → Each P (map f xs)
each-map P f [] all = tt
each-map P f (x ∷ xs) all = (all.0, each-map P f xs all.1)

pub each-unmap : {X Y : Type 0} (P : Y → Type 0) (f : X → Y) (xs : List X) → Each P (map f xs)
    → Each (λ (x : X). P (f x)) xs
each-unmap P f [] all = tt
each-unmap P f (x ∷ xs) all = (all.0, each-unmap P f xs all.1)

pub each-at : {X : Type 0} (P : X → Type 0) (xs : List X) (i : ℕ) (x : X) → i < length xs → x ≡ get_or xs i x
    → Each P xs → P x
each-at P [] i x inside is all = let none : ⊥ = omega (arith, inside) in absurd none
each-at P (y ∷ ys) zero x inside is all = subst P (sym is) all.0
each-at P (y ∷ ys) (suc i) x inside is all = each-at P ys i x (omega (arith, inside)) is all.1

pub reports-whole : (rs : List Message) → Each IsShortReport rs → AreReports rs
reports-whole [] is = tt
reports-whole (r ∷ rs) is = (is.0.fields, reports-whole rs is.1)
