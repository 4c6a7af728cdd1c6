-- What is read as a record is written as it was read.
use Rattle.std.proofs.Common.{◌≡◌, ◌<◌, ◌≤◌, ℕ, ◌+◌, true, false, Bool, Option, Some, None, List, ◌∷◌, ◌++◌, length}
use Rattle.std.proofs.Common.{take, drop, get_or, refl, sym, ap, subst, ◌∙◌, arith, inl, inr, length-drop}
use Rattle.std.proofs.lemmas.Bool.{cases_lt}
use Rattle.std.proofs.lemmas.Bool.Decides.{nat_tests}
use Rattle.std.proofs.lemmas.List.{take-append-drop, length-take, length-take-le, get_or-take, get_or-drop, get_or_past}
use Rattle.std.proofs.lemmas.List.{drop-drop, drop_more}
use Rattle.std.proofs.lemmas.Nat.{be_bytes_2, be_bytes_4, be_bytes_8}
use Rattle.std.specs.Prelude.{◌==◌, nat_lt, if◌then◌else◌, slice_index}
use Rattle.std.specs.Int.{w16, w32, w64, to_be_bytes, from_be_bytes}
use Rattle.journal_pages.specs.declared.kind.RecordKind.{RecordKind}
use Rattle.journal_pages.specs.declared.kind.RecordKind.TheVariants as kinds
use Rattle.journal_pages.specs.declared.fault.PageFault.TheVariants as faults
use Rattle.journal_pages.specs.Record.{Record, Front, Stands, Refused, front, front_of_kind, is_cut, is_sound}
use Rattle.journal_pages.specs.Record.{kind_number, kind_numbered, payload_size, read_as, record_bytes, size_of}

-- each is below 256, as the bytes of a slice are
abbrev pub AreBytes : List ℕ → Type 0
AreBytes bs = (i : ℕ) → get_or bs i 0 < 256

AreBytes-part : (n at : ℕ) (bs : List ℕ) → AreBytes bs → AreBytes (take n (drop at bs))
AreBytes-part n at bs below i =
    elim (cases_lt i n) [
      | inl lt ↦ rw (get_or-take n (drop at bs) i 0 lt, get_or-drop at bs i 0) (below (at + i))
      | inr le ↦ rw (get_or_past (take n (drop at bs)) i 0 (omega (arith, length-take n (drop at bs)))) (omega arith)
    ]

pub AreBytes-behind : (n : ℕ) (bs : List ℕ) → AreBytes bs → AreBytes (drop n bs)
AreBytes-behind n bs below i = rw (get_or-drop n bs i 0) (below (n + i))

-- ---- the number of a kind

choice : (n m : ℕ) (x : RecordKind) (later : Option RecordKind) (k : RecordKind) → kind_number x ≡ m
    → (later ≡ Some k → n ≡ kind_number k) → (if n == m then Some x else later) ≡ Some k → n ≡ kind_number k
choice n m x later k number others e = chosen (n == m) refl e
  where
    chosen : (b : Bool) → (n == m) ≡ b → (if b then Some x else later) ≡ Some k → n ≡ kind_number k
    chosen true is e =
        let same : n ≡ m = grind (arith, nat_tests) in
        let kind : x ≡ k = cc in
        same ∙ sym number ∙ ap kind_number kind
    chosen false is e = others e

no-kind : (n : ℕ) (k : RecordKind) → None ≡ Some k → n ≡ kind_number k
no-kind n k e = let no : ⊥ = cc in absurd no

number-of : (n : ℕ) (k : RecordKind) → kind_numbered n ≡ Some k → n ≡ kind_number k
number-of n k =
    choice n 1 kinds.ClientUp _ k refl (choice n 2 kinds.ClientMessage _ k refl (choice n 3 kinds.ClientGone _ k refl
    (choice n 4 kinds.PortUp _ k refl (choice n 5 kinds.PortPacket _ k refl (choice n 6 kinds.PortGone _ k refl
    (choice n 7 kinds.ClientTick _ k refl (choice n 8 kinds.PortTick _ k refl (choice n 9 kinds.Report _ k refl
    (choice n 10 kinds.ClientWrite _ k refl (choice n 11 kinds.ClientClose _ k refl
    (choice n 12 kinds.PortWrite _ k refl
    (choice n 13 kinds.PortClose _ k refl (choice n 14 kinds.Fault _ k refl (choice n 15 kinds.BatchEnd None k refl
    (no-kind n k)))))))))))))))

-- ---- what stands in front

of_sound : (b : Bool) (x r : Record) → (if b then Stands x else Refused faults.Payload) ≡ Stands r
    → (b ≡ true) × (x ≡ r)
of_sound true x r e = let same : x ≡ r = cc in (refl, same)
of_sound false x r e = let no : ⊥ = cc in absurd no

pub record IsFrontOf (k : RecordKind) (bytes : List ℕ) (r : Record) : Type 0 where
  pub sound : is_sound r ≡ true
  pub reading : read_as k bytes ≡ r

kind-stood : (found : Option RecordKind) (bytes : List ℕ) (r : Record) → front_of_kind found bytes ≡ Stands r
    → (k : RecordKind) × (found ≡ Some k) × IsFrontOf k bytes r
kind-stood None bytes r e = let no : ⊥ = cc in absurd no
kind-stood (Some k) bytes r e =
    let both = of_sound (is_sound (read_as k bytes)) (read_as k bytes) r e in
    (k, refl, record { sound = subst (λ (x : Record). is_sound x ≡ true) both.1 both.0; reading = both.1 })

pub uncut : (a b : Bool) (f : Front) (r : Record)
    → (if a then Refused faults.CutShort else if b then Refused faults.CutShort else f) ≡ Stands r
    → (b ≡ false) × (f ≡ Stands r)
uncut true b f r e = let no : ⊥ = cc in absurd no
uncut false true f r e = let no : ⊥ = cc in absurd no
uncut false false f r e = (refl, e)

-- ---- its bytes

seam : (n at : ℕ) (bs : List ℕ) → take n (drop at bs) ++ drop (at + n) bs ≡ drop at bs
seam n at bs = ap (λ (l : List ℕ). take n (drop at bs) ++ l) (sym (drop-drop n at bs)) ∙ take-append-drop n (drop at bs)

two : (at : ℕ) (bs : List ℕ) → AreBytes bs → at + 2 ≤ length bs
    → to_be_bytes w16 (from_be_bytes w16 (take 2 (drop at bs))) ≡ take 2 (drop at bs)
two at bs below long = be_bytes_2 (take 2 (drop at bs)) _
    (length-take-le 2 (drop at bs) (omega (arith, length-drop at bs))) (AreBytes-part 2 at bs below) refl

four : (at : ℕ) (bs : List ℕ) → AreBytes bs → at + 4 ≤ length bs
    → to_be_bytes w32 (from_be_bytes w32 (take 4 (drop at bs))) ≡ take 4 (drop at bs)
four at bs below long = be_bytes_4 (take 4 (drop at bs)) _
    (length-take-le 4 (drop at bs) (omega (arith, length-drop at bs))) (AreBytes-part 4 at bs below) refl

pub eight : (at : ℕ) (bs : List ℕ) → AreBytes bs → at + 8 ≤ length bs
    → to_be_bytes w64 (from_be_bytes w64 (take 8 (drop at bs))) ≡ take 8 (drop at bs)
eight at bs below long = be_bytes_8 (take 8 (drop at bs)) _
    (length-take-le 8 (drop at bs) (omega (arith, length-drop at bs))) (AreBytes-part 8 at bs below) refl

pieces : (r : Record) (rest : List ℕ) → record_bytes r ++ rest
    ≡ kind_number r.kind ∷ (to_be_bytes w16 r.source
    ++ (to_be_bytes w64 r.link ++ (to_be_bytes w64 r.at
    ++ (to_be_bytes w32 (length r.payload) ++ (r.payload ++ rest)))))
pieces r rest = refl

-- a part that is known, before what is known behind it
part-before : (n at : ℕ) (bs part behind : List ℕ) → part ≡ take n (drop at bs) → behind ≡ drop (at + n) bs
    → part ++ behind ≡ drop at bs
part-before n at bs part behind is left = rw (is, left) (seam n at bs)

read-spelled : (k : RecordKind) (bs : List ℕ) → AreBytes bs → 23 ≤ length bs → 23 + payload_size bs ≤ length bs
    → get_or bs 0 0 ≡ kind_number k → record_bytes (read_as k bs) ++ drop (size_of (read_as k bs)) bs ≡ bs
read-spelled k bs below long whole first =
    let r : Record = read_as k bs in
    let rest : List ℕ = drop (size_of r) bs in
    let size : length r.payload ≡ payload_size bs =
    length-take-le (payload_size bs) (drop 23 bs) (omega (arith, whole, length-drop 23 bs)) in
    let payload : r.payload ++ rest ≡ drop 23 bs =
    part-before (payload_size bs) 23 bs r.payload rest refl (ap (λ n. drop (23 + n) bs) size) in
    let from19 = part-before 4 19 bs (to_be_bytes w32 (length r.payload)) (r.payload ++ rest)
    (ap (to_be_bytes w32) size ∙ four 19 bs below (omega (arith, long))) payload in
    let from11 = part-before 8 11 bs (to_be_bytes w64 r.at) (to_be_bytes w32 (length r.payload) ++ (r.payload ++ rest))
    (eight 11 bs below (omega (arith, long))) from19 in
    let from3 = part-before 8 3 bs (to_be_bytes w64 r.link)
    (to_be_bytes w64 r.at ++ (to_be_bytes w32 (length r.payload) ++ (r.payload ++ rest)))
    (eight 3 bs below (omega (arith, long))) from11 in
    let from1 = part-before 2 1 bs (to_be_bytes w16 r.source)
    (to_be_bytes w64 r.link ++ (to_be_bytes w64 r.at
    ++ (to_be_bytes w32 (length r.payload) ++ (r.payload ++ rest)))) (two 1 bs below (omega (arith, long))) from3 in
    pieces r rest ∙ ap (λ (l : List ℕ). kind_number k ∷ l) from1 ∙ ap (λ b. b ∷ drop 1 bs) (sym first)
    ∙ sym (drop_more bs 0 0 (omega (arith, long)))

pub within : (bs : List ℕ) (size : ℕ) → nat_lt (length bs) size ≡ false → size ≤ length bs
within bs size e = grind (arith, nat_tests)

pub front-sound : (bs : List ℕ) (r : Record) → front bs ≡ Stands r → is_sound r ≡ true
front-sound bs r e = (kind-stood (kind_numbered (slice_index bs 0)) bs r
    (uncut (nat_lt (length bs) 23) (is_cut bs) _ r e).1).2.sound

pub front-spelled : (bs : List ℕ) (r : Record) → AreBytes bs → front bs ≡ Stands r
    → bs ≡ record_bytes r ++ drop (size_of r) bs
front-spelled bs r below e =
    let stood = uncut (nat_lt (length bs) 23) (is_cut bs) (front_of_kind (kind_numbered (slice_index bs 0)) bs) r e in
    let found = kind-stood (kind_numbered (slice_index bs 0)) bs r stood.1 in
    let whole : 23 + payload_size bs ≤ length bs = within bs (23 + payload_size bs) stood.0 in
    let long : 23 ≤ length bs = omega (arith, whole) in
    sym (subst (λ (x : Record). record_bytes x ++ drop (size_of x) bs ≡ bs) found.2.reading
    (read-spelled found.0 bs below long whole (number-of (slice_index bs 0) found.0 found.1)))

pub front-size : (bs : List ℕ) (r : Record) → front bs ≡ Stands r → size_of r ≤ length bs
front-size bs r e =
    let stood = uncut (nat_lt (length bs) 23) (is_cut bs) (front_of_kind (kind_numbered (slice_index bs 0)) bs) r e in
    let found = kind-stood (kind_numbered (slice_index bs 0)) bs r stood.1 in
    let whole : 23 + payload_size bs ≤ length bs = within bs (23 + payload_size bs) stood.0 in
    subst (λ (x : Record). size_of x ≤ length bs) found.2.reading
    (let size : length (read_as found.0 bs).payload ≡ payload_size bs =
    length-take-le (payload_size bs) (drop 23 bs) (omega (arith, whole, length-drop 23 bs)) in
    omega (arith, size, whole))
