-- The records of a batch in a page are those that the batch which is read of them is written as.
use Rattle.std.proofs.Common.{◌≡◌, ◌≤◌, ℕ, zero, suc, true, false, Bool, Option, Some, None, List, [], ◌∷◌, ◌++◌}
use Rattle.std.proofs.Common.{length, refl, sym, ap, ◌∙◌, arith, append_assoc, append-nil}
use Rattle.std.proofs.lemmas.Bool.{and_parts}
use Rattle.std.proofs.lemmas.Bool.Decides.{nat_tests}
use Rattle.std.proofs.lemmas.List.{map-append}
use Rattle.std.specs.Option.{is_some}
use Rattle.std.specs.Prelude.{◌==◌, ◌&&◌, nat_le, not, map, if◌then◌else◌}
use Rattle.journal_pages.specs.fix_fields.Field.{Message, fields_text}
use Rattle.journal_pages.specs.fix_fields.Reading.{fields_of}
use Rattle.soup_session.specs.declared.port_fault.PortFault.{PortFault}
use Rattle.soup_session.specs.declared.port_fault.PortFault.TheVariants as port_faults
use Rattle.soup_session.specs.Faults.{fault_number}
use Rattle.gate_law.specs.Events.{LinkOut, Write, Close}
use Rattle.journal_pages.specs.declared.fault.PageFault.{PageFault}
use Rattle.journal_pages.specs.declared.fault.PageFault.TheVariants as faults
use Rattle.journal_pages.specs.declared.kind.RecordKind.{RecordKind}
use Rattle.journal_pages.specs.declared.kind.RecordKind.TheVariants as kinds
use Rattle.journal_pages.specs.declared.place.Place.TheVariants.{InBatch}
use Rattle.journal_pages.specs.declared.place.Batch.{Batch as Within}
use Rattle.journal_pages.specs.Record.{Record, is_fault_number}
use Rattle.journal_pages.specs.Page.{batch_at, batch_with, fault_at, is_same, may_follow, next_fault, place_after}
use Rattle.journal_pages.specs.Page.{unless}
use Rattle.journal_records.specs.Events.{payload_fields, record_with}
use Rattle.journal_records.specs.Parts.{batch_records, client_records, end_record, fault_records, named_number}
use Rattle.journal_records.specs.Parts.{out_record, port_records, report_record}
use Rattle.journal_records.specs.Reading.{BatchSaid, batch_in, batch_said, behind_parts, nothing_said, or_one}
use Rattle.journal_records.specs.Reading.{fault_in_payload, parts_said, said_more, saying_client_out, saying_port_out}
use Rattle.journal_pages.specs.Ordered.{AreSound, order_fault}
use Rattle.journal_records.proofs.Rows.{Has, has, text-kept}

-- ---- what was said, written

reports-of : (at client : ℕ) → List Message → List Record
reports-of at client reports = map (report_record at client) reports

told-of : (at client : ℕ) → List LinkOut → List Record
told-of at client outs = map (out_record kinds.ClientWrite kinds.ClientClose at client) outs

sent-of : (at port : ℕ) → List LinkOut → List Record
sent-of at port outs = map (out_record kinds.PortWrite kinds.PortClose at port) outs

rows : (at client : ℕ) → List Message → List LinkOut → (port : ℕ) → List LinkOut → Option PortFault → List Record
rows at client reports told port sent fault =
    reports-of at client reports ++ (told-of at client told ++ (sent-of at port sent ++ fault_records at port fault))

abbrev written : ℕ → BatchSaid → List Record
written at s = rows at s.client s.reports s.client_out s.port s.port_out s.fault

same-rows : (at c : ℕ) (reports : List Message) (told told' : List LinkOut) (p : ℕ) (sent sent' : List LinkOut)
    (f f' : Option PortFault) → told ≡ told' → sent ≡ sent' → f ≡ f'
    → rows at c reports told p sent f ≡ rows at c reports told' p sent' f'
same-rows at c reports told told' p sent sent' f f' a b e = cc

-- one more at each place, where nothing stands behind it
report-step : (at c source p : ℕ) (m : Message) (reports : List Message)
    → reports-of at c reports ≡ reports-of at source reports
    → rows at c reports [] p [] None ++ report_record at source m ∷ [] ≡ rows at source (reports ++ m ∷ []) [] p [] None
unfolding rows reports-of told-of sent-of
report-step at c source p m reports same =
    ap (λ (l : List Record). l ++ report_record at source m ∷ []) (append-nil (map (report_record at c) reports) ∙ same)
    ∙ sym (map-append (report_record at source) reports (m ∷ []))
    ∙ sym (append-nil (map (report_record at source) (reports ++ m ∷ [])))

told-step : (at c source p : ℕ) (o : LinkOut) (reports : List Message) (told : List LinkOut)
    → reports-of at c reports ≡ reports-of at source reports → told-of at c told ≡ told-of at source told
    → rows at c reports told p [] None ++ out_record kinds.ClientWrite kinds.ClientClose at source o ∷ []
    ≡ rows at source reports (told ++ o ∷ []) p [] None
unfolding rows reports-of told-of sent-of
told-step at c source p o reports told same-reports same-told =
    let out : LinkOut → Record = out_record kinds.ClientWrite kinds.ClientClose at source in
    let one : List Record = out o ∷ [] in
    append_assoc (map (report_record at c) reports) (told-of at c told ++ []) one
    ∙ ap (λ (l : List Record). map (report_record at c) reports ++ (l ++ one))
    (append-nil (told-of at c told) ∙ same-told)
    ∙ ap (λ (l : List Record). l ++ (map out told ++ one)) same-reports
    ∙ ap (λ (l : List Record). map (report_record at source) reports ++ l)
    (sym (map-append out told (o ∷ [])) ∙ sym (append-nil (map out (told ++ o ∷ []))))

sent-step : (at c p source : ℕ) (o : LinkOut) (reports : List Message) (told sent : List LinkOut)
    → sent-of at p sent ≡ sent-of at source sent
    → rows at c reports told p sent None ++ out_record kinds.PortWrite kinds.PortClose at source o ∷ []
    ≡ rows at c reports told source (sent ++ o ∷ []) None
unfolding rows sent-of
sent-step at c p source o reports told sent same =
    let out : LinkOut → Record = out_record kinds.PortWrite kinds.PortClose at source in
    let one : List Record = out o ∷ [] in
    append_assoc (reports-of at c reports) (told-of at c told ++ (sent-of at p sent ++ [])) one
    ∙ ap (λ (l : List Record). reports-of at c reports ++ l) (
    append_assoc (told-of at c told) (sent-of at p sent ++ []) one
    ∙ ap (λ (l : List Record). told-of at c told ++ l) (
    ap (λ (l : List Record). l ++ one) (append-nil (sent-of at p sent) ∙ same)
    ∙ sym (map-append out sent (o ∷ [])) ∙ sym (append-nil (map out (sent ++ o ∷ [])))))

fault-step : (at c p source : ℕ) (f : PortFault) (reports : List Message) (told sent : List LinkOut)
    → sent-of at p sent ≡ sent-of at source sent
    → rows at c reports told p sent None ++ record_with kinds.Fault source 0 at (fault_number f ∷ []) ∷ []
    ≡ rows at c reports told source sent (Some f)
unfolding rows
fault-step at c p source f reports told sent same =
    let one : List Record = record_with kinds.Fault source 0 at (fault_number f ∷ []) ∷ [] in
    append_assoc (reports-of at c reports) (told-of at c told ++ (sent-of at p sent ++ [])) one
    ∙ ap (λ (l : List Record). reports-of at c reports ++ l) (
    append_assoc (told-of at c told) (sent-of at p sent ++ []) one
    ∙ ap (λ (l : List Record). told-of at c told ++ (l ++ one)) (append-nil (sent-of at p sent) ∙ same))

-- ---- what the order of a page says of it

abbrev NamesClient : Option ℕ → ℕ → List Message → List LinkOut → Type 0
NamesClient None client reports told = (reports ≡ []) × (told ≡ [])
NamesClient (Some n) client reports told = (client ≡ n) × (1 ≤ n)

abbrev NamesPort : Option ℕ → ℕ → List LinkOut → Option PortFault → Type 0
NamesPort None port sent fault = (sent ≡ []) × (fault ≡ None)
NamesPort (Some n) port sent fault = (port ≡ n) × (1 ≤ n)

record Agrees (at : ℕ) (s : BatchSaid) (b : Within) : Type 0 where
  moment : b.at ≡ at
  client : NamesClient b.client s.client s.reports s.client_out
  port : NamesPort b.port s.port s.port_out s.fault
  no_told : b.rank ≤ 1 → s.client_out ≡ []
  no_sent : b.rank ≤ 2 → s.port_out ≡ []
  no_fault : b.rank ≤ 3 → s.fault ≡ None

nothing-agrees : (at : ℕ) → Agrees at nothing_said (batch_at at)
nothing-agrees at = record {
  moment = refl;
  client = (refl, refl);
  port = (refl, refl);
  no_told = λ h. refl;
  no_sent =
      λ h. refl;
  no_fault = λ h. refl;
}

same-number : (m n : ℕ) → (m == n) ≡ true → m ≡ n
same-number m n e = grind (arith, nat_tests)

same-reports : (at source : ℕ) (o : Option ℕ) (c : ℕ) (reports : List Message) (told : List LinkOut)
    → NamesClient o c reports told → is_same o source ≡ true → reports-of at c reports ≡ reports-of at source reports
unfolding reports-of
same-reports at source None c reports told h is = rw h.0 refl
same-reports at source (Some n) c reports told h is =
    ap (λ m. map (report_record at m) reports) (h.0 ∙ same-number n source is)

same-told : (at source : ℕ) (o : Option ℕ) (c : ℕ) (reports : List Message) (told : List LinkOut)
    → NamesClient o c reports told → is_same o source ≡ true → told-of at c told ≡ told-of at source told
unfolding told-of
same-told at source None c reports told h is = rw h.1 refl
same-told at source (Some n) c reports told h is =
    ap (λ m. map (out_record kinds.ClientWrite kinds.ClientClose at m) told) (h.0 ∙ same-number n source is)

same-sent : (at source : ℕ) (o : Option ℕ) (p : ℕ) (sent : List LinkOut) (f : Option PortFault) → NamesPort o p sent f
    → is_same o source ≡ true → sent-of at p sent ≡ sent-of at source sent
unfolding sent-of
same-sent at source None p sent f h is = rw h.0 refl
same-sent at source (Some n) p sent f h is =
    ap (λ m. map (out_record kinds.PortWrite kinds.PortClose at m) sent) (h.0 ∙ same-number n source is)

-- ---- what a record that goes on has

follows : (a b c : Bool) → (if not a then Some faults.Payload else if not b then Some faults.Payload else if c then None
    else Some faults.Order) ≡ None → (a ≡ true) × (b ≡ true) × (c ≡ true)
follows false b c e = let no : ⊥ = cc in absurd no
follows true false c e = let no : ⊥ = cc in absurd no
follows true true false e = let no : ⊥ = cc in absurd no
follows true true true e = (refl, refl, refl)

before : (first now : ℕ) → may_follow first now ≡ true → first ≤ now
before first now e = grind (arith, nat_tests)

before-fault : (first : ℕ) → may_follow first 4 ≡ true → first ≤ 3
before-fault first e = grind (arith, nat_tests)

some-source : (n : ℕ) → not (n == 0) ≡ true → 1 ≤ n
some-source n e = grind (arith, nat_tests)

no-link : (n : ℕ) → (n == 0) ≡ true → n ≡ 0
no-link n e = same-number n 0 e

no-bytes : (l : List ℕ) → (length l == 0) ≡ true → l ≡ []
no-bytes [] e = refl
no-bytes (x ∷ l) e = let no : ⊥ = grind (arith, nat_tests) in absurd no

-- the fault of a payload that is one
record IsFault (payload : List ℕ) : Type 0 where
  fault : PortFault
  read : fault_in_payload payload ≡ Some fault
  spelled : fault_number fault ∷ [] ≡ payload

fault-of : (n : ℕ) → 1 ≤ n → n ≤ 6 → IsFault (n ∷ [])
fault-of zero a b = absurd (omega (arith, a))
fault-of (suc zero) a b = record { fault = port_faults.StrangePacket; read = refl; spelled = refl }
fault-of (suc (suc zero)) a b = record { fault = port_faults.UnknownToken; read = refl; spelled = refl }
fault-of (suc (suc (suc zero))) a b = record { fault = port_faults.NotLawful; read = refl; spelled = refl }
fault-of (suc (suc (suc (suc zero)))) a b = record { fault = port_faults.OutsideProfile; read = refl; spelled = refl }
fault-of (suc (suc (suc (suc (suc zero))))) a b =
    record { fault = port_faults.SequenceGap; read = refl; spelled = refl }
fault-of (suc (suc (suc (suc (suc (suc zero)))))) a b =
    record { fault = port_faults.OtherSession; read = refl; spelled = refl }
fault-of (suc (suc (suc (suc (suc (suc (suc n))))))) a b = absurd (omega (arith, b))

from-one : (n : ℕ) → nat_le 1 n ≡ true → 1 ≤ n
from-one n e = grind (arith, nat_tests)

to-six : (n : ℕ) → nat_le n 6 ≡ true → n ≤ 6
to-six n e = grind (arith, nat_tests)

fault-in : (payload : List ℕ) → is_fault_number payload ≡ true → IsFault payload
fault-in [] e = let no : ⊥ = cc in absurd no
fault-in (n ∷ []) e = let both = and_parts (nat_le 1 n) (nat_le n 6) e in
    fault-of n (from-one n both.0) (to-six n both.1)
fault-in (n ∷ m ∷ l) e = let no : ⊥ = cc in absurd no

-- ---- one record more

record Stepped (at : ℕ) (s : BatchSaid) (r : Record) (later : BatchSaid) (b : Within) : Type 0 where
  same : written at s ++ r ∷ [] ≡ written at later
  agrees : Agrees at later b

module _ (at : ℕ) (s : BatchSaid) (b : Within) (h : Agrees at s b) (source link moment : ℕ) (payload : List ℕ) where
  abbrev one : RecordKind → Record
  one k = record_with k source link moment payload

  same-moment : (b.at == moment) ≡ true → moment ≡ at
  same-moment e = sym (same-number b.at moment e) ∙ h.moment

  report-goes-on : Has (one kinds.Report) → next_fault b (one kinds.Report) ≡ None
      → Stepped at s (one kinds.Report) (said_more kinds.Report (one kinds.Report) s) (batch_with b (one kinds.Report))
  report-goes-on has none =
      let f = follows (b.at == moment) (is_same b.client source) (may_follow b.rank 1) none in
      let low : b.rank ≤ 1 = before b.rank 1 f.2 in
      let m : Message = payload_fields payload in
      let text : fields_text m ≡ payload = text-kept payload (fields_of payload) refl has.payload in
      let is : one kinds.Report ≡ report_record at source m =
      ap (λ n. record_with kinds.Report source n moment payload) (no-link link has.link)
      ∙ ap (λ n. record_with kinds.Report source 0 n payload) (same-moment f.0)
      ∙ ap (λ (p : List ℕ). record_with kinds.Report source 0 at p) (sym text) in
      let told : s.client_out ≡ [] = h.no_told low in
      let sent : s.port_out ≡ [] = h.no_sent (omega (arith, low)) in
      let fault : s.fault ≡ None = h.no_fault (omega (arith, low)) in
      record {
        same = ap (λ (l : List Record). l ++ one kinds.Report ∷ [])
            (same-rows at s.client s.reports s.client_out [] s.port s.port_out [] s.fault None told sent fault)
            ∙ ap (λ (r : Record). rows at s.client s.reports [] s.port [] None ++ r ∷ []) is
            ∙ report-step at s.client source s.port m s.reports
            (same-reports at source b.client s.client s.reports s.client_out h.client f.1)
            ∙ same-rows at source (s.reports ++ m ∷ []) [] s.client_out s.port [] s.port_out None s.fault (sym told)
            (sym sent) (sym fault);
        agrees = record {
          moment = h.moment;
          client = (refl, some-source source has.source);
          port = h.port;
          no_told =
              λ _. told;
          no_sent = λ _. sent;
          no_fault = λ _. fault;
        };
      }

  client-goes-on : (k : RecordKind) (o : LinkOut) → one k ≡ out_record kinds.ClientWrite kinds.ClientClose at source o
      → b.rank ≤ 2 → is_same b.client source ≡ true → 1 ≤ source
      → Stepped at s (one k) (saying_client_out source o s)
      (record { at = b.at; client = Some source; port = b.port; rank = 2 })
  client-goes-on k o is low same some =
      let sent : s.port_out ≡ [] = h.no_sent low in
      let fault : s.fault ≡ None = h.no_fault (omega (arith, low)) in
      record {
        same = ap (λ (l : List Record). l ++ one k ∷ [])
            (same-rows at s.client s.reports s.client_out s.client_out s.port s.port_out [] s.fault None refl sent
            fault)
            ∙ ap (λ (r : Record). rows at s.client s.reports s.client_out s.port [] None ++ r ∷ []) is
            ∙ told-step at s.client source s.port o s.reports s.client_out
            (same-reports at source b.client s.client s.reports s.client_out h.client same)
            (same-told at source b.client s.client s.reports s.client_out h.client same)
            ∙ same-rows at source s.reports (s.client_out ++ o ∷ [])
            (s.client_out ++ o ∷ []) s.port [] s.port_out None s.fault refl (sym sent) (sym fault);
        agrees = record {
          moment = h.moment;
          client = (refl, some);
          port = h.port;
          no_told =
              λ few. absurd (omega (arith, few));
          no_sent = λ _. sent;
          no_fault = λ _. fault;
        };
      }

  port-goes-on : (k : RecordKind) (o : LinkOut) → one k ≡ out_record kinds.PortWrite kinds.PortClose at source o
      → b.rank ≤ 3 → is_same b.port source ≡ true → 1 ≤ source
      → Stepped at s (one k) (saying_port_out source o s)
      (record { at = b.at; client = b.client; port = Some source; rank = 3 })
  port-goes-on k o is low same some =
      let fault : s.fault ≡ None = h.no_fault low in
      record {
        same = ap (λ (l : List Record). l ++ one k ∷ [])
            (same-rows at s.client s.reports s.client_out s.client_out s.port s.port_out s.port_out s.fault None refl
            refl fault)
            ∙ ap (λ (r : Record). rows at s.client s.reports s.client_out s.port s.port_out None ++ r ∷ []) is
            ∙ sent-step at s.client s.port source o s.reports s.client_out s.port_out
            (same-sent at source b.port s.port s.port_out s.fault h.port same)
            ∙ same-rows at s.client s.reports s.client_out s.client_out source (s.port_out ++ o ∷ [])
            (s.port_out ++ o ∷ []) None s.fault refl refl (sym fault);
        agrees = record {
          moment = h.moment;
          client = h.client;
          port = (refl, some);
          no_told =
              λ few. absurd (omega (arith, few));
          no_sent = λ few. absurd (omega (arith, few));
          no_fault = λ _. fault;
        };
      }

  fault-goes-on : Has (one kinds.Fault) → next_fault b (one kinds.Fault) ≡ None
      → Stepped at s (one kinds.Fault) (said_more kinds.Fault (one kinds.Fault) s) (batch_with b (one kinds.Fault))
  fault-goes-on has none =
      let f = follows (b.at == moment) (is_same b.port source) (may_follow b.rank 4) none in
      let found : IsFault payload = fault-in payload has.payload in
      let fault : s.fault ≡ None = h.no_fault (before-fault b.rank f.2) in
      let is : one kinds.Fault ≡ record_with kinds.Fault source 0 at (fault_number found.fault ∷ []) =
      ap (λ n. record_with kinds.Fault source n moment payload) (no-link link has.link)
      ∙ ap (λ n. record_with kinds.Fault source 0 n payload) (same-moment f.0)
      ∙ ap (λ (p : List ℕ). record_with kinds.Fault source 0 at p) (sym found.spelled) in
      record {
        same = ap (λ (l : List Record). l ++ one kinds.Fault ∷ [])
            (same-rows at s.client s.reports s.client_out s.client_out s.port s.port_out s.port_out s.fault None refl
            refl fault)
            ∙ ap (λ (r : Record). rows at s.client s.reports s.client_out s.port s.port_out None ++ r ∷ []) is
            ∙ fault-step at s.client s.port source found.fault s.reports s.client_out s.port_out
            (same-sent at source b.port s.port s.port_out s.fault h.port f.1)
            ∙ same-rows at s.client s.reports s.client_out s.client_out source s.port_out s.port_out (Some found.fault)
            (fault_in_payload payload) refl refl (sym found.read);
        agrees = record {
          moment = h.moment;
          client = h.client;
          port = (refl, some-source source has.source);
          no_told =
              λ few. absurd (omega (arith, few));
          no_sent = λ few. absurd (omega (arith, few));
          no_fault =
              λ few. absurd (omega (arith, few));
        };
      }

  write-is : (k : RecordKind) → (b.at == moment) ≡ true → one k ≡ record_with k source link at payload
  write-is k e = ap (λ n. record_with k source link n payload) (same-moment e)

  close-is : (k : RecordKind) → (b.at == moment) ≡ true → (length payload == 0) ≡ true
      → one k ≡ record_with k source link at []
  close-is k e none = write-is k e ∙ ap (λ (p : List ℕ). record_with k source link at p) (no-bytes payload none)

-- ---- all up to the end

record Ended (at : ℕ) (s : BatchSaid) (rs rest : List Record) : Type 0 where
  same : written at s ++ rs ≡ (written at (parts_said s rs) ++ end_record at ∷ []) ++ rest
  last : Within
  agrees : Agrees at (parts_said s rs) last

both-none : (one other : Option PageFault) → unless one other ≡ None → (one ≡ None) × (other ≡ None)
both-none None other e = (refl, e)
both-none (Some fault) other e = let no : ⊥ = cc in absurd no

joined : (at : ℕ) (s later : BatchSaid) (r : Record) (rs rest : List Record) → written at s ++ r ∷ [] ≡ written at later
    → written at later ++ rs ≡ (written at (parts_said later rs) ++ end_record at ∷ []) ++ rest
    → written at s ++ r ∷ rs ≡ (written at (parts_said later rs) ++ end_record at ∷ []) ++ rest
joined at s later r rs rest one others = sym (append_assoc (written at s) (r ∷ []) rs)
    ∙ ap (λ (l : List Record). l ++ rs) one ∙ others

goes-on : (at : ℕ) (s later : BatchSaid) (b : Within) (r : Record) (rs rest : List Record) → Stepped at s r later b
    → Ended at later rs rest
    → (written at s ++ r ∷ rs ≡ (written at (parts_said later rs) ++ end_record at ∷ []) ++ rest) × (last : Within)
    × Agrees at (parts_said later rs) last
goes-on at s later b r rs rest step end = (joined at s later r rs rest step.same end.same, end.last, end.agrees)

ended : (at : ℕ) (s : BatchSaid) (e : Record) (rs rest : List Record) (b : Within) → Agrees at s b
    → (k : RecordKind) (source link moment : ℕ) (payload : List ℕ)
    → Has (record_with k source link moment payload)
    → fault_at (InBatch b) (record_with k source link moment payload) ≡ None
    → order_fault (place_after (InBatch b) (record_with k source link moment payload)) rs ≡ None
    → behind_parts (record_with k source link moment payload ∷ rs) ≡ e ∷ rest
    → ((later : BatchSaid) (c : Within) → Agrees at later c → order_fault (InBatch c) rs ≡ None
    → behind_parts rs ≡ e ∷ rest → Ended at later rs rest)
    → Ended at s (record_with k source link moment payload ∷ rs) rest
ended at s e rs rest b h kinds.Report source link moment payload has none order left behind =
    let step = report-goes-on at s b h source link moment payload has none in
    let all = goes-on at s _ _ _ rs rest step (behind _ _ step.agrees order left) in
    record { same = all.0; last = all.1; agrees = all.2 }
ended at s e rs rest b h kinds.ClientWrite source link moment payload has none order left behind =
    let f = follows (b.at == moment) (is_same b.client source) (may_follow b.rank 2) none in
    let step = client-goes-on at s b h source link moment payload kinds.ClientWrite (Write link payload)
    (write-is at s b h source link moment payload kinds.ClientWrite f.0) (before b.rank 2 f.2) f.1
    (some-source source has.source) in
    let all = goes-on at s _ _ _ rs rest step (behind _ _ step.agrees order left) in
    record { same = all.0; last = all.1; agrees = all.2 }
ended at s e rs rest b h kinds.ClientClose source link moment payload has none order left behind =
    let f = follows (b.at == moment) (is_same b.client source) (may_follow b.rank 2) none in
    let step = client-goes-on at s b h source link moment payload kinds.ClientClose (Close link)
    (close-is at s b h source link moment payload kinds.ClientClose f.0 has.payload) (before b.rank 2 f.2) f.1
    (some-source source has.source) in
    let all = goes-on at s _ _ _ rs rest step (behind _ _ step.agrees order left) in
    record { same = all.0; last = all.1; agrees = all.2 }
ended at s e rs rest b h kinds.PortWrite source link moment payload has none order left behind =
    let f = follows (b.at == moment) (is_same b.port source) (may_follow b.rank 3) none in
    let step = port-goes-on at s b h source link moment payload kinds.PortWrite (Write link payload)
    (write-is at s b h source link moment payload kinds.PortWrite f.0) (before b.rank 3 f.2) f.1
    (some-source source has.source) in
    let all = goes-on at s _ _ _ rs rest step (behind _ _ step.agrees order left) in
    record { same = all.0; last = all.1; agrees = all.2 }
ended at s e rs rest b h kinds.PortClose source link moment payload has none order left behind =
    let f = follows (b.at == moment) (is_same b.port source) (may_follow b.rank 3) none in
    let step = port-goes-on at s b h source link moment payload kinds.PortClose (Close link)
    (close-is at s b h source link moment payload kinds.PortClose f.0 has.payload) (before b.rank 3 f.2) f.1
    (some-source source has.source) in
    let all = goes-on at s _ _ _ rs rest step (behind _ _ step.agrees order left) in
    record { same = all.0; last = all.1; agrees = all.2 }
ended at s e rs rest b h kinds.Fault source link moment payload has none order left behind =
    let step = fault-goes-on at s b h source link moment payload has none in
    let all = goes-on at s _ _ _ rs rest step (behind _ _ step.agrees order left) in
    record { same = all.0; last = all.1; agrees = all.2 }
ended at s e rs rest b h kinds.BatchEnd source link moment payload has none order left behind =
    let f = follows (b.at == moment) true (may_follow b.rank 5) none in
    let whole : record_with kinds.BatchEnd source link moment payload ∷ rs ≡ e ∷ rest = left in
    let tail : rs ≡ rest = cc in
    let is : record_with kinds.BatchEnd source link moment payload ≡ end_record at =
    ap (λ n. record_with kinds.BatchEnd n link moment payload) (no-link source has.source)
    ∙ ap (λ n. record_with kinds.BatchEnd 0 n moment payload) (no-link link has.link)
    ∙ close-is at s b h 0 0 moment payload kinds.BatchEnd f.0 has.payload in
    record {
      same = ap (λ (r : Record). written at s ++ r ∷ rs) is
          ∙ ap (λ (l : List Record). written at s ++ end_record at ∷ l) tail
          ∙ sym (append_assoc (written at s) (end_record at ∷ []) rest);
      last = b;
      agrees = h;
    }
ended at s e rs rest b h kinds.ClientUp source link moment payload has none order left behind = let no : ⊥ = cc in
    absurd no
ended at s e rs rest b h kinds.ClientMessage source link moment payload has none order left behind = let no : ⊥ = cc in
    absurd no
ended at s e rs rest b h kinds.ClientGone source link moment payload has none order left behind = let no : ⊥ = cc in
    absurd no
ended at s e rs rest b h kinds.PortUp source link moment payload has none order left behind = let no : ⊥ = cc in
    absurd no
ended at s e rs rest b h kinds.PortPacket source link moment payload has none order left behind = let no : ⊥ = cc in
    absurd no
ended at s e rs rest b h kinds.PortGone source link moment payload has none order left behind = let no : ⊥ = cc in
    absurd no
ended at s e rs rest b h kinds.ClientTick source link moment payload has none order left behind = let no : ⊥ = cc in
    absurd no
ended at s e rs rest b h kinds.PortTick source link moment payload has none order left behind = let no : ⊥ = cc in
    absurd no

all-ended : (at : ℕ) (e : Record) (rs rest : List Record) (s : BatchSaid) (b : Within) → Agrees at s b
    → order_fault (InBatch b) rs ≡ None → AreSound rs → behind_parts rs ≡ e ∷ rest → Ended at s rs rest
all-ended at e [] rest s b h order sound left = let no : ⊥ = cc in absurd no
all-ended at e (r ∷ rs) rest s b h order sound left =
    let both = both-none (fault_at (InBatch b) r) (order_fault (place_after (InBatch b) r) rs) order in
    ended at s e rs rest b h r.kind r.source r.link r.at r.payload (has r sound.0) both.0 both.1 left
    (λ later c agrees in-order behind. all-ended at e rs rest later c agrees in-order sound.1 behind)

-- ---- the batch

or-one-of : (c n : ℕ) → c ≡ n → 1 ≤ n → or_one c ≡ c
or-one-of c n same some = let is : (c == 0) ≡ false = grind (arith, nat_tests) in rw is refl

-- where something is for it, it is named
numbered : (a b : Bool) (c : ℕ) → (a && b) ≡ false → or_one c ≡ c
    → named_number (if not (a && b) then Some (or_one c) else None) ≡ c
numbered true true c none same = let no : ⊥ = cc in absurd no
numbered true false c none same = same
numbered false b c none same = same

one-more : (n : ℕ) → (suc n == 0) ≡ false
one-more n = grind (arith, nat_tests)

not-left : (a b : Bool) → a ≡ false → (a && b) ≡ false
not-left true b e = let no : ⊥ = cc in absurd no
not-left false b e = refl

not-right : (a b : Bool) → b ≡ false → (a && b) ≡ false
not-right true b e = e
not-right false b e = refl

client-numbered : (at : ℕ) (o : Option ℕ) (c : ℕ) (reports : List Message) (told : List LinkOut)
    → NamesClient o c reports told
    → client_records at (named_number (if not ((length reports == 0) && (length told == 0)) then Some
    (or_one c) else None)) reports told ≡ client_records at c reports told
client-numbered at None c reports told h = rw (h.0, h.1) refl
client-numbered at (Some n) c [] [] h = refl
client-numbered at (Some n) c [] (o ∷ told) h =
    ap (λ m. client_records at m [] (o ∷ told))
    (numbered true (suc (length told) == 0) c (not-right true (suc (length told) == 0) (one-more (length told)))
    (or-one-of c n h.0 h.1))
client-numbered at (Some n) c (r ∷ reports) told h =
    ap (λ m. client_records at m (r ∷ reports) told)
    (numbered (suc (length reports) == 0) (length told == 0) c
    (not-left (suc (length reports) == 0) (length told == 0) (one-more (length reports))) (or-one-of c n h.0 h.1))

port-numbered : (at : ℕ) (o : Option ℕ) (p : ℕ) (sent : List LinkOut) (f : Option PortFault) → NamesPort o p sent f
    → port_records at (named_number (if not ((length sent == 0) && not (is_some f)) then Some (or_one p) else None))
    sent f ≡ port_records at p sent f
port-numbered at None p sent f h = rw (h.0, h.1) refl
port-numbered at (Some n) p [] None h = refl
port-numbered at (Some n) p [] (Some f) h =
    ap (λ m. port_records at m [] (Some f)) (numbered true false p refl (or-one-of p n h.0 h.1))
port-numbered at (Some n) p (o ∷ sent) f h =
    ap (λ m. port_records at m (o ∷ sent) f)
    (numbered (suc (length sent) == 0) (not (is_some f)) p
    (not-left (suc (length sent) == 0) (not (is_some f)) (one-more (length sent))) (or-one-of p n h.0 h.1))

batch-of : (at : ℕ) (s : BatchSaid) (b : Within) → Agrees at s b
    → batch_records at (batch_said s) ≡ written at s ++ end_record at ∷ []
unfolding rows reports-of told-of sent-of
batch-of at s b h =
    let end : List Record = end_record at ∷ [] in
    let r : List Record = reports-of at s.client s.reports in
    let t : List Record = told-of at s.client s.client_out in
    let q : List Record = sent-of at s.port s.port_out in
    let f : List Record = fault_records at s.port s.fault in
    ap (λ (l : List Record). l ++ port_records at (named_number (batch_said s).port) s.port_out s.fault)
    (client-numbered at b.client s.client s.reports s.client_out h.client)
    ∙ ap (λ (l : List Record). client_records at s.client s.reports s.client_out ++ l)
    (port-numbered at b.port s.port s.port_out s.fault h.port)
    ∙ append_assoc r t (q ++ (f ++ end))
    ∙ sym (append_assoc r (t ++ (q ++ f)) end
    ∙ ap (λ (l : List Record). r ++ l) (append_assoc t (q ++ f) end
    ∙ ap (λ (l : List Record). t ++ l) (append_assoc q f end)))

pub batch-written : (at : ℕ) (rs rest : List Record) (e : Record) → order_fault (InBatch (batch_at at)) rs ≡ None
    → AreSound rs → behind_parts rs ≡ e ∷ rest → batch_records at (batch_in rs) ++ rest ≡ rs
unfolding rows reports-of told-of sent-of
batch-written at rs rest e order sound left =
    let end = all-ended at e rs rest nothing_said (batch_at at) (nothing-agrees at) order sound left in
    ap (λ (l : List Record). l ++ rest) (batch-of at (parts_said nothing_said rs) end.last end.agrees) ∙ sym end.same
