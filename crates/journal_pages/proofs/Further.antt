-- Bytes behind records: what was read in front of them is read still, and then they are.
use Rattle.std.proofs.Common.{◌≡◌, ◌≤◌, ℕ, zero, suc, ◌+◌, true, false, Bool, Option, Some, None, List, [], ◌∷◌, ◌++◌}
use Rattle.std.proofs.Common.{length, take, drop, get_or, refl, sym, ap, ◌∙◌, arith, length-append, length-drop}
use Rattle.std.proofs.lemmas.Bool.{le-ltb}
use Rattle.std.proofs.lemmas.List.{drop-append-le, take-append-le}
use Rattle.std.proofs.Math.ListN.{drop_of_length-le}
use Rattle.std.specs.Prelude.{nat_lt, if◌then◌else◌, slice_index}
use Rattle.std.specs.Int.{w16, w32, w64, from_be_bytes}
use Rattle.journal_pages.specs.declared.fault.PageFault.{PageFault}
use Rattle.journal_pages.specs.declared.fault.PageFault.TheVariants as faults
use Rattle.journal_pages.specs.declared.kind.RecordKind.{RecordKind}
use Rattle.journal_pages.specs.declared.place.Place.{Place}
use Rattle.journal_pages.specs.Record.{Record, Front, Stands, Refused, front, front_of_kind, is_cut, is_sound}
use Rattle.journal_pages.specs.Record.{kind_numbered, payload_size, read_as, records_in, size_of}
use Rattle.journal_pages.specs.Ordered.{place_behind}
use Rattle.journal_pages.specs.Page.{fault_at, place_after, records_fault, unless}
use Rattle.journal_pages.proofs.Spelled.{uncut, within, front-size}
use Rattle.journal_pages.proofs.Written.{same-record}
use Rattle.journal_pages.proofs.Faults.{refused-fault, stood}
use Rattle.journal_pages.proofs.Listed.{both-none, no-more, one-more}

part-kept : (n at : ℕ) (bs more : List ℕ) → at + n ≤ length bs → take n (drop at (bs ++ more)) ≡ take n (drop at bs)
part-kept n at bs more long =
    ap (take n) (drop-append-le at bs more (omega (arith, long)))
    ∙ take-append-le n (drop at bs) more (omega (arith, long, length-drop at bs))

size-kept : (bs more : List ℕ) → 23 ≤ length bs → payload_size (bs ++ more) ≡ payload_size bs
size-kept bs more long = ap (from_be_bytes w32) (part-kept 4 19 bs more (omega (arith, long)))

read-kept : (k : RecordKind) (bs more : List ℕ) → 23 + payload_size bs ≤ length bs
    → read_as k (bs ++ more) ≡ read_as k bs
read-kept k bs more whole =
    same-record k _ _ _ _ _ _ _ _
    (ap (from_be_bytes w16) (part-kept 2 1 bs more (omega (arith, whole))))
    (ap (from_be_bytes w64) (part-kept 8 3 bs more (omega (arith, whole))))
    (ap (from_be_bytes w64) (part-kept 8 11 bs more (omega (arith, whole))))
    (ap (λ n. take n (drop 23 (bs ++ more))) (size-kept bs more (omega (arith, whole)))
    ∙ part-kept (payload_size bs) 23 bs more whole)

kind-kept : (found : Option RecordKind) (bs more : List ℕ) → 23 + payload_size bs ≤ length bs
    → front_of_kind found (bs ++ more) ≡ front_of_kind found bs
kind-kept None bs more whole = refl
kind-kept (Some k) bs more whole = ap (λ (r : Record). if is_sound r then Stands r else Refused faults.Payload)
    (read-kept k bs more whole)

first-kept : (bs more : List ℕ) → 23 ≤ length bs → slice_index (bs ++ more) 0 ≡ slice_index bs 0
first-kept [] more long = absurd (omega (arith, long))
first-kept (b ∷ bs) more long = refl

pub front-more : (bs more : List ℕ) (r : Record) → front bs ≡ Stands r → front (bs ++ more) ≡ Stands r
front-more bs more r e =
    let stands = uncut (nat_lt (length bs) 23) (is_cut bs) (front_of_kind (kind_numbered (slice_index bs 0)) bs) r e in
    let whole : 23 + payload_size bs ≤ length bs = within bs (23 + payload_size bs) stands.0 in
    let long : 23 ≤ length bs = omega (arith, whole) in
    let many = length-append bs more in
    let size = size-kept bs more long in
    let head : nat_lt (length (bs ++ more)) 23 ≡ false = le-ltb (length (bs ++ more)) 23 (omega (arith, many, long)) in
    let uncut : is_cut (bs ++ more) ≡ false =
    le-ltb (length (bs ++ more)) (23 + payload_size (bs ++ more)) (omega (arith, many, size, whole)) in
    rw (head, uncut) (
    ap (λ n. front_of_kind (kind_numbered n) (bs ++ more)) (first-kept bs more long)
    ∙ kind-kept (kind_numbered (slice_index bs 0)) bs more whole ∙ stands.1
    )

-- ---- all records

pub record Goes (place : Place) (bytes more : List ℕ) : Type 0 where
  pub fault : records_fault place (bytes ++ more) ≡ records_fault (place_behind place (records_in bytes)) more
  pub records : records_in (bytes ++ more) ≡ records_in bytes ++ records_in more

one-goes : (place : Place) (bytes more : List ℕ) (r : Record) → front bytes ≡ Stands r → fault_at place r ≡ None
    → Goes (place_after place r) (drop (size_of r) bytes) more → Goes place bytes more
one-goes place bytes more r is none later =
    let few : size_of r ≤ length bytes = front-size bytes r is in
    let many = length-append bytes more in
    let is-still : front (bytes ++ more) ≡ Stands r = front-more bytes more r is in
    let rest : drop (size_of r) (bytes ++ more) ≡ drop (size_of r) bytes ++ more =
    drop-append-le (size_of r) bytes more few in
    record {
      fault = stood place (bytes ++ more) r (omega (arith, few, many)) is-still
          ∙ ap (λ (f : Option PageFault). unless f (records_fault (place_after place r)
          (drop (size_of r) (bytes ++ more)))) none
          ∙ ap (records_fault (place_after place r)) rest ∙ later.fault
          ∙ ap (λ (rs : List Record). records_fault (place_behind place rs) more) (sym (one-more bytes r is));
      records = one-more (bytes ++ more) r is-still ∙ ap (λ (l : List ℕ). r ∷ records_in l) rest
          ∙ ap (λ (rs : List Record). r ∷ rs) later.records
          ∙ ap (λ (rs : List Record). rs ++ records_in more) (sym (one-more bytes r is));
    }

by-front : (place : Place) (b : ℕ) (bytes more : List ℕ) → records_fault place (b ∷ bytes) ≡ None
    → ((later : Place) (n : ℕ) → 1 ≤ n → records_fault later (drop n (b ∷ bytes)) ≡ None
    → Goes later (drop n (b ∷ bytes)) more)
    → (f : Front) → front (b ∷ bytes) ≡ f → Goes place (b ∷ bytes) more
by-front place b bytes more e later (Refused fault) is =
    let wrong : Some fault ≡ None = sym (refused-fault place (b ∷ bytes) fault (omega arith) is) ∙ e in
    let no : ⊥ = cc in absurd no
by-front place b bytes more e later (Stands r) is =
    let both = both-none (fault_at place r) (records_fault (place_after place r) (drop (size_of r) (b ∷ bytes)))
    (sym (stood place (b ∷ bytes) r (omega arith) is) ∙ e) in
    one-goes place (b ∷ bytes) more r is both.0 (later (place_after place r) (size_of r) (omega arith) both.1)

goes-by : (looks : ℕ) (place : Place) (bytes more : List ℕ) → length bytes ≤ looks → records_fault place bytes ≡ None
    → Goes place bytes more
goes-by looks place [] more few e = record { fault = refl; records = refl }
goes-by zero place (b ∷ bytes) more few e = absurd (omega (arith, few))
goes-by (suc looks) place (b ∷ bytes) more few e =
    by-front place b bytes more e
    (λ later n some none.
    let left = length-drop n (b ∷ bytes) in
    goes-by looks later (drop n (b ∷ bytes)) more (omega (arith, left, few, some)) none)
    (front (b ∷ bytes)) refl

pub goes-on : (place : Place) (bytes more : List ℕ) → records_fault place bytes ≡ None → Goes place bytes more
goes-on place bytes more e = goes-by (length bytes) place bytes more (omega arith) e

-- a record alone, with which nothing is wrong where it stands
pub one-record : (place : Place) (bytes : List ℕ) (r : Record) → front bytes ≡ Stands r → size_of r ≡ length bytes
    → fault_at place r ≡ None → records_fault place bytes ≡ None
one-record place bytes r is all none =
    stood place bytes r (omega (arith, all)) is
    ∙ ap (λ (f : Option PageFault). unless f (records_fault (place_after place r) (drop (size_of r) bytes))) none
    ∙ ap (records_fault (place_after place r)) (drop_of_length-le bytes (omega (arith, all)))
