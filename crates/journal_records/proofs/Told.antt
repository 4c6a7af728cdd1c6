-- The records of a batch say this batch, whatever follows.
use Rattle.std.proofs.Common.{◌≡◌, ◌≤◌, ℕ, true, false, Bool, Option, Some, None, List, [], ◌∷◌, ◌++◌, length, refl}
use Rattle.std.proofs.Common.{sym, ap, ◌∙◌, arith, append_assoc, append-nil}
use Rattle.std.proofs.lemmas.Bool.Decides.{nat_tests}
use Rattle.std.specs.Option.{is_some}
use Rattle.std.specs.Prelude.{◌==◌, ◌&&◌, not, map, unwrap_or, if◌then◌else◌}
use Rattle.journal_pages.specs.fix_fields.Field.{AreFields, Message, fields_text}
use Rattle.journal_pages.proofs.fix_fields.Reading.{fields_of-fields_text}
use Rattle.soup_session.specs.declared.port_fault.PortFault.{PortFault}
use Rattle.soup_session.specs.declared.port_fault.PortFault.TheVariants as port_faults
use Rattle.soup_session.specs.Faults.{fault_number}
use Rattle.gate_law.specs.Events.{Batch, LinkOut, Write, Close}
use Rattle.journal_pages.specs.declared.kind.RecordKind.TheVariants as kinds
use Rattle.journal_pages.specs.Record.{Record}
use Rattle.journal_records.specs.Events.{payload_fields}
use Rattle.journal_records.specs.Parts.{batch_records, end_record, fault_records, named_number, out_record}
use Rattle.journal_records.specs.Parts.{report_record}
use Rattle.journal_records.specs.Reading.{BatchSaid, batch_in, batch_said, behind_parts, nothing_said, or_one}
use Rattle.journal_records.specs.Reading.{fault_in_payload, parts_said, saying_client_out, saying_fault}
use Rattle.journal_records.specs.Reading.{saying_port_out, saying_report}
use Rattle.journal_records.specs.Whole.{AreReports, IsFromOne, IsWholeBatch}

-- ---- records one behind another, as they are said

reports-said : ℕ → List Message → BatchSaid → BatchSaid
reports-said client [] s = s
reports-said client (r ∷ rs) s = reports-said client rs (saying_report client r s)

client-said : ℕ → List LinkOut → BatchSaid → BatchSaid
client-said client [] s = s
client-said client (o ∷ os) s = client-said client os (saying_client_out client o s)

port-said : ℕ → List LinkOut → BatchSaid → BatchSaid
port-said port [] s = s
port-said port (o ∷ os) s = port-said port os (saying_port_out port o s)

fault-said : ℕ → Option PortFault → BatchSaid → BatchSaid
fault-said port None s = s
fault-said port (Some fault) s = saying_fault port (Some fault) s

read-report : (r : Message) → AreFields r → payload_fields (fields_text r) ≡ r
read-report r good = ap (λ (found : Option Message). unwrap_or found []) (fields_of-fields_text r good)

by-reports : (at client : ℕ) (rs : List Message) → AreReports rs → (s : BatchSaid) (rest : List Record)
    → parts_said s (map (report_record at client) rs ++ rest) ≡ parts_said (reports-said client rs s) rest
unfolding reports-said
by-reports at client [] good s rest = refl
by-reports at client (r ∷ rs) good s rest =
    ap (λ (m : Message). parts_said (saying_report client m s) (map (report_record at client) rs ++ rest))
    (read-report r good.0)
    ∙ by-reports at client rs good.1 (saying_report client r s) rest

by-client : (at client : ℕ) (os : List LinkOut) (s : BatchSaid) (rest : List Record)
    → parts_said s (map (out_record kinds.ClientWrite kinds.ClientClose at client) os ++ rest)
    ≡ parts_said (client-said client os s) rest
unfolding client-said
by-client at client [] s rest = refl
by-client at client (Write link bytes ∷ os) s rest =
    by-client at client os (saying_client_out client (Write link bytes) s) rest
by-client at client (Close link ∷ os) s rest = by-client at client os (saying_client_out client (Close link) s) rest

by-port : (at port : ℕ) (os : List LinkOut) (s : BatchSaid) (rest : List Record)
    → parts_said s (map (out_record kinds.PortWrite kinds.PortClose at port) os ++ rest)
    ≡ parts_said (port-said port os s) rest
unfolding port-said
by-port at port [] s rest = refl
by-port at port (Write link bytes ∷ os) s rest = by-port at port os (saying_port_out port (Write link bytes) s) rest
by-port at port (Close link ∷ os) s rest = by-port at port os (saying_port_out port (Close link) s) rest

read-fault : (f : PortFault) → fault_in_payload (fault_number f ∷ []) ≡ Some f
read-fault port_faults.StrangePacket = refl
read-fault port_faults.UnknownToken = refl
read-fault port_faults.NotLawful = refl
read-fault port_faults.OutsideProfile = refl
read-fault port_faults.SequenceGap = refl
read-fault port_faults.OtherSession = refl

by-fault : (at port : ℕ) (f : Option PortFault) (s : BatchSaid) (rest : List Record)
    → parts_said s (fault_records at port f ++ rest) ≡ parts_said (fault-said port f s) rest
unfolding fault-said
by-fault at port None s rest = refl
by-fault at port (Some fault) s rest = ap (λ (f : Option PortFault). parts_said (saying_fault port f s) rest)
    (read-fault fault)

-- ---- what is said then

number-after : {A : Type 0} → (before now : ℕ) → List A → ℕ
number-after before now [] = before
number-after before now (x ∷ xs) = now

with-said : (client : ℕ) (reports : List Message) (client_out : List LinkOut) (port : ℕ) (port_out : List LinkOut)
    (fault : Option PortFault) → BatchSaid
with-said client reports client_out port port_out fault =
    record {
      client = client;
      reports = reports;
      client_out = client_out;
      port = port;
      port_out = port_out;
      fault =
          fault;
    }

twice : {A : Type 0} → (now : ℕ) (xs : List A) → number-after now now xs ≡ now
unfolding number-after
twice now [] = refl
twice now (x ∷ xs) = refl

reports-are : (client n : ℕ) (rs done : List Message) (os : List LinkOut) (p : ℕ) (ps : List LinkOut)
    (f : Option PortFault)
    → reports-said client rs (with-said n done os p ps f) ≡ with-said (number-after n client rs) (done ++ rs) os p ps f
unfolding reports-said with-said number-after
reports-are client n [] done os p ps f = ap (λ (d : List Message). with-said n d os p ps f) (sym (append-nil done))
reports-are client n (r ∷ rs) done os p ps f =
    reports-are client client rs (done ++ r ∷ []) os p ps f
    ∙ ap (λ m. with-said m ((done ++ r ∷ []) ++ rs) os p ps f) (twice client rs)
    ∙ ap (λ (d : List Message). with-said client d os p ps f) (append_assoc done (r ∷ []) rs)

client-is : (client n : ℕ) (os done : List LinkOut) (rs : List Message) (p : ℕ) (ps : List LinkOut)
    (f : Option PortFault)
    → client-said client os (with-said n rs done p ps f) ≡ with-said (number-after n client os) rs (done ++ os) p ps f
unfolding client-said with-said number-after
client-is client n [] done rs p ps f = ap (λ (d : List LinkOut). with-said n rs d p ps f) (sym (append-nil done))
client-is client n (o ∷ os) done rs p ps f =
    client-is client client os (done ++ o ∷ []) rs p ps f
    ∙ ap (λ m. with-said m rs ((done ++ o ∷ []) ++ os) p ps f) (twice client os)
    ∙ ap (λ (d : List LinkOut). with-said client rs d p ps f) (append_assoc done (o ∷ []) os)

port-is : (port n : ℕ) (os done : List LinkOut) (c : ℕ) (rs : List Message) (cs : List LinkOut) (f : Option PortFault)
    → port-said port os (with-said c rs cs n done f) ≡ with-said c rs cs (number-after n port os) (done ++ os) f
unfolding port-said with-said number-after
port-is port n [] done c rs cs f = ap (λ (d : List LinkOut). with-said c rs cs n d f) (sym (append-nil done))
port-is port n (o ∷ os) done c rs cs f =
    port-is port port os (done ++ o ∷ []) c rs cs f
    ∙ ap (λ m. with-said c rs cs m ((done ++ o ∷ []) ++ os) f) (twice port os)
    ∙ ap (λ (d : List LinkOut). with-said c rs cs port d f) (append_assoc done (o ∷ []) os)

fault-after : (before now : ℕ) → Option PortFault → ℕ
fault-after before now None = before
fault-after before now (Some fault) = now

fault-is : (port n : ℕ) (f : Option PortFault) (c : ℕ) (rs : List Message) (cs ps : List LinkOut)
    → fault-said port f (with-said c rs cs n ps None) ≡ with-said c rs cs (fault-after n port f) ps f
unfolding fault-said with-said fault-after
fault-is port n None c rs cs ps = refl
fault-is port n (Some fault) c rs cs ps = refl

-- ---- the batch

or-one-is : (n : ℕ) → 1 ≤ n → or_one n ≡ n
or-one-is n some = let is : (n == 0) ≡ false = grind (arith, nat_tests) in rw is refl

-- whom it names, by whether something is for it
kept : (whom : Option ℕ) (a b : Bool) (n : ℕ) → IsFromOne whom → is_some whom ≡ not (a && b)
    → ((a && b) ≡ false → n ≡ named_number whom) → (if not (a && b) then Some (or_one n) else None) ≡ whom
kept None true true n one is named = refl
kept None true false n one is named = let no : ⊥ = cc in absurd no
kept None false b n one is named = let no : ⊥ = cc in absurd no
kept (Some m) true true n one is named = let no : ⊥ = cc in absurd no
kept (Some m) true false n one is named = ap (λ k. Some (or_one k)) (named refl) ∙ ap (λ k. Some k) (or-one-is m one)
kept (Some m) false b n one is named = ap (λ k. Some (or_one k)) (named refl) ∙ ap (λ k. Some k) (or-one-is m one)

client-named : (c : ℕ) (rs : List Message) (os : List LinkOut) → ((length rs == 0) && (length os == 0)) ≡ false
    → number-after (number-after 0 c rs) c os ≡ c
unfolding number-after
client-named c [] [] e = let no : ⊥ = cc in absurd no
client-named c [] (o ∷ os) e = refl
client-named c (r ∷ rs) [] e = refl
client-named c (r ∷ rs) (o ∷ os) e = refl

port-named : (p : ℕ) (os : List LinkOut) (f : Option PortFault) → ((length os == 0) && not (is_some f)) ≡ false
    → fault-after (number-after 0 p os) p f ≡ p
unfolding number-after fault-after
port-named p [] None e = let no : ⊥ = cc in absurd no
port-named p [] (Some f) e = refl
port-named p (o ∷ os) None e = refl
port-named p (o ∷ os) (Some f) e = refl

client-kept : (client : Option ℕ) (rs : List Message) (os : List LinkOut) → IsFromOne client
    → is_some client ≡ not ((length rs == 0) && (length os == 0))
    → (if not ((length rs == 0) && (length os == 0)) then Some
    (or_one (number-after (number-after 0 (named_number client) rs) (named_number client) os)) else None) ≡ client
client-kept client rs os one is = kept client (length rs == 0) (length os == 0) _ one is
    (client-named (named_number client) rs os)

port-kept : (port : Option ℕ) (os : List LinkOut) (f : Option PortFault) → IsFromOne port
    → is_some port ≡ not ((length os == 0) && not (is_some f))
    → (if not ((length os == 0) && not (is_some f)) then Some
    (or_one (fault-after (number-after 0 (named_number port) os) (named_number port) f)) else None) ≡ port
port-kept port os f one is = kept port (length os == 0) (not (is_some f)) _ one is (port-named (named_number port) os f)

whole-said : (at : ℕ) (b : Batch) (rest : List Record) → AreReports b.reports
    → parts_said nothing_said (batch_records at b ++ rest)
    ≡ with-said (number-after (number-after 0 (named_number b.client) b.reports) (named_number b.client) b.client_out)
    b.reports b.client_out
    (fault-after (number-after 0 (named_number b.port) b.port_out) (named_number b.port) b.fault) b.port_out b.fault
unfolding with-said
whole-said at b rest good =
    let c : ℕ = named_number b.client in
    let p : ℕ = named_number b.port in
    let reports : List Record = map (report_record at c) b.reports in
    let outs : List Record = map (out_record kinds.ClientWrite kinds.ClientClose at c) b.client_out in
    let told : List Record = map (out_record kinds.PortWrite kinds.PortClose at p) b.port_out in
    let ending : List Record = fault_records at p b.fault ++ end_record at ∷ [] in
    let later : List Record = end_record at ∷ rest in
    let cut : ((reports ++ outs) ++ (told ++ ending)) ++ rest
    ≡ reports ++ (outs ++ (told ++ (fault_records at p b.fault ++ later))) =
    append_assoc (reports ++ outs) (told ++ ending) rest
    ∙ append_assoc reports outs ((told ++ ending) ++ rest)
    ∙ ap (λ (l : List Record). reports ++ (outs ++ l))
    (append_assoc told ending rest ∙ ap (λ (l : List Record). told ++ l)
    (append_assoc (fault_records at p b.fault) (end_record at ∷ []) rest)) in
    let n1 : ℕ = number-after 0 c b.reports in
    let n2 : ℕ = number-after n1 c b.client_out in
    let q1 : ℕ = number-after 0 p b.port_out in
    ap (parts_said nothing_said) cut
    ∙ by-reports at c b.reports good nothing_said (outs ++ (told ++ (fault_records at p b.fault ++ later)))
    ∙ ap (λ (s : BatchSaid). parts_said s (outs ++ (told ++ (fault_records at p b.fault ++ later))))
    (reports-are c 0 b.reports [] [] 0 [] None)
    ∙ by-client at c b.client_out (with-said n1 b.reports [] 0 [] None) (told ++ (fault_records at p b.fault ++ later))
    ∙ ap (λ (s : BatchSaid). parts_said s (told ++ (fault_records at p b.fault ++ later)))
    (client-is c n1 b.client_out [] b.reports 0 [] None)
    ∙ by-port at p b.port_out (with-said n2 b.reports b.client_out 0 [] None) (fault_records at p b.fault ++ later)
    ∙ ap (λ (s : BatchSaid). parts_said s (fault_records at p b.fault ++ later))
    (port-is p 0 b.port_out [] n2 b.reports b.client_out None)
    ∙ by-fault at p b.fault (with-said n2 b.reports b.client_out q1 b.port_out None) later
    ∙ ap (λ (s : BatchSaid). parts_said s later) (fault-is p q1 b.fault n2 b.reports b.client_out b.port_out)

named-batch : (client : Option ℕ) (rs : List Message) (os : List LinkOut) (port : Option ℕ) (ps : List LinkOut)
    (f : Option PortFault) → Batch
named-batch client rs os port ps f = record
    { client = client; reports = rs; client_out = os; port = port; port_out = ps; fault = f }

pub batch-read : (at : ℕ) (b : Batch) (rest : List Record) → IsWholeBatch b → batch_in (batch_records at b ++ rest) ≡ b
unfolding with-said named-batch
batch-read at b rest whole =
    ap batch_said (whole-said at b rest whole.reports)
    ∙ ap (λ (c : Option ℕ). named-batch c b.reports b.client_out
    (if not ((length b.port_out == 0) && not (is_some b.fault)) then Some
    (or_one (fault-after (number-after 0 (named_number b.port) b.port_out) (named_number b.port) b.fault)) else
    None) b.port_out b.fault) (client-kept b.client b.reports b.client_out whole.client_number whole.client)
    ∙ ap (λ (p : Option ℕ). named-batch b.client b.reports b.client_out p b.port_out b.fault)
    (port-kept b.port b.port_out b.fault whole.port_number whole.port)

-- ---- what stands behind

behind-reports : (at client : ℕ) (rs : List Message) (rest : List Record)
    → behind_parts (map (report_record at client) rs ++ rest) ≡ behind_parts rest
behind-reports at client [] rest = refl
behind-reports at client (r ∷ rs) rest = behind-reports at client rs rest

behind-client : (at client : ℕ) (os : List LinkOut) (rest : List Record)
    → behind_parts (map (out_record kinds.ClientWrite kinds.ClientClose at client) os ++ rest) ≡ behind_parts rest
behind-client at client [] rest = refl
behind-client at client (Write link bytes ∷ os) rest = behind-client at client os rest
behind-client at client (Close link ∷ os) rest = behind-client at client os rest

behind-port : (at port : ℕ) (os : List LinkOut) (rest : List Record)
    → behind_parts (map (out_record kinds.PortWrite kinds.PortClose at port) os ++ rest) ≡ behind_parts rest
behind-port at port [] rest = refl
behind-port at port (Write link bytes ∷ os) rest = behind-port at port os rest
behind-port at port (Close link ∷ os) rest = behind-port at port os rest

behind-fault : (at port : ℕ) (f : Option PortFault) (rest : List Record)
    → behind_parts (fault_records at port f ++ rest) ≡ behind_parts rest
behind-fault at port None rest = refl
behind-fault at port (Some fault) rest = refl

pub batch-behind : (at : ℕ) (b : Batch) (rest : List Record)
    → behind_parts (batch_records at b ++ rest) ≡ end_record at ∷ rest
batch-behind at b rest =
    let c : ℕ = named_number b.client in
    let p : ℕ = named_number b.port in
    let reports : List Record = map (report_record at c) b.reports in
    let outs : List Record = map (out_record kinds.ClientWrite kinds.ClientClose at c) b.client_out in
    let told : List Record = map (out_record kinds.PortWrite kinds.PortClose at p) b.port_out in
    let ending : List Record = fault_records at p b.fault ++ end_record at ∷ [] in
    let later : List Record = end_record at ∷ rest in
    let cut : ((reports ++ outs) ++ (told ++ ending)) ++ rest
    ≡ reports ++ (outs ++ (told ++ (fault_records at p b.fault ++ later))) =
    append_assoc (reports ++ outs) (told ++ ending) rest
    ∙ append_assoc reports outs ((told ++ ending) ++ rest)
    ∙ ap (λ (l : List Record). reports ++ (outs ++ l))
    (append_assoc told ending rest ∙ ap (λ (l : List Record). told ++ l)
    (append_assoc (fault_records at p b.fault) (end_record at ∷ []) rest)) in
    ap behind_parts cut
    ∙ behind-reports at c b.reports (outs ++ (told ++ (fault_records at p b.fault ++ later)))
    ∙ behind-client at c b.client_out (told ++ (fault_records at p b.fault ++ later))
    ∙ behind-port at p b.port_out (fault_records at p b.fault ++ later)
    ∙ behind-fault at p b.fault later
