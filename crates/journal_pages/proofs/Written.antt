-- What is written as a record is read as it.
use Rattle.std.proofs.Common.{◌≡◌, ◌<◌, ◌^◌, ℕ, ◌+◌, true, false, List, ◌++◌, length, take, drop, Some, refl, ap, ◌∙◌}
use Rattle.std.proofs.Common.{arith, length-append}
use Rattle.std.proofs.lemmas.Bool.{and_parts, cond-true, le-ltb, ltb-true}
use Rattle.std.proofs.lemmas.List.{take_at}
use Rattle.std.proofs.lemmas.Nat.{from_be_bytes-to_be_bytes_2, from_be_bytes-to_be_bytes_4, from_be_bytes-to_be_bytes_8}
use Rattle.std.specs.Prelude.{◌&&◌, nat_lt, if◌then◌else◌}
use Rattle.std.specs.Int.{w16, w32, to_be_bytes, from_be_bytes}
use Rattle.journal_pages.specs.declared.kind.RecordKind.{RecordKind}
use Rattle.journal_pages.specs.declared.kind.RecordKind.TheVariants as kinds
use Rattle.journal_pages.specs.declared.fault.PageFault.TheVariants as faults
use Rattle.journal_pages.specs.Record.{Record, Stands, Refused, front, is_cut, is_sound, kind_number, kind_numbered}
use Rattle.journal_pages.specs.Record.{link_fits, payload_fits, payload_limit, payload_size, record_bytes, read_as}
use Rattle.journal_pages.specs.Record.{source_fits}

number-read : (k : RecordKind) → kind_numbered (kind_number k) ≡ Some k
number-read kinds.ClientUp = refl
number-read kinds.ClientMessage = refl
number-read kinds.ClientGone = refl
number-read kinds.PortUp = refl
number-read kinds.PortPacket = refl
number-read kinds.PortGone = refl
number-read kinds.ClientTick = refl
number-read kinds.PortTick = refl
number-read kinds.Report = refl
number-read kinds.ClientWrite = refl
number-read kinds.ClientClose = refl
number-read kinds.PortWrite = refl
number-read kinds.PortClose = refl
number-read kinds.Fault = refl
number-read kinds.BatchEnd = refl

size-read : (r : Record) (rest : List ℕ) → payload_size (record_bytes r ++ rest)
    ≡ from_be_bytes w32 (to_be_bytes w32 (length r.payload))
size-read r rest = refl

source-read : (r : Record) (rest : List ℕ)
    → from_be_bytes w16 (take 2 (drop 1 (record_bytes r ++ rest))) ≡ from_be_bytes w16 (to_be_bytes w16 r.source)
source-read r rest = refl

payload-left : (r : Record) (rest : List ℕ) → drop 23 (record_bytes r ++ rest) ≡ r.payload ++ rest
payload-left r rest = refl

small-size : (r : Record) → is_sound r ≡ true → length r.payload < 1_048_576
small-size r sound =
    ltb-true (length r.payload) payload_limit
    (and_parts (nat_lt (length r.payload) payload_limit)
    (payload_fits r.kind r.payload && (source_fits r.kind r.source && link_fits r.kind r.link)) sound).0

pub same-record : (k : RecordKind) (source link at : ℕ) (payload : List ℕ) (a b c : ℕ) (p : List ℕ) → a ≡ source
    → b ≡ link → c ≡ at → p ≡ payload
    → (let one : Record = record { kind = k; source = a; link = b; at = c; payload = p }
    in let other : Record = record { kind = k; source = source; link = link; at = at; payload = payload } in
    one ≡ other)
same-record k source link at payload a b c p e f g h = cc

module _ (r : Record) (rest : List ℕ) (source : r.source < 2 ^ 16) (link : r.link < 2 ^ 64) (at : r.at < 2 ^ 64) (sound : is_sound r ≡ true) where
  abbrev all : List ℕ
  all = record_bytes r ++ rest

  size : payload_size all ≡ length r.payload
  size = from_be_bytes-to_be_bytes_4 (length r.payload) (omega (arith, small-size r sound))

  many : length all ≡ 23 + (length r.payload + length rest)
  many = let l = length-append r.payload rest in omega (arith, l)

  read : read_as r.kind all ≡ r
  read = same-record r.kind r.source r.link r.at r.payload _ _ _ _
      (from_be_bytes-to_be_bytes_2 r.source source) (from_be_bytes-to_be_bytes_8 r.link link)
      (from_be_bytes-to_be_bytes_8 r.at at)
      (ap (λ n. take n (r.payload ++ rest)) size ∙ take_at r.payload rest (length r.payload) refl)

  whole : nat_lt (length all) 23 ≡ false
  whole = le-ltb (length all) 23 (omega (arith, many))

  uncut : is_cut all ≡ false
  uncut = le-ltb (length all) (23 + payload_size all) (omega (arith, many, size))

  pub written-stands : front all ≡ Stands r
  written-stands = rw (whole, uncut, number-read r.kind) (
      ap (λ (x : Record). if is_sound x then Stands x else Refused faults.Payload) read
      ∙ cond-true (is_sound r) (Stands r) (Refused faults.Payload) sound
      )
