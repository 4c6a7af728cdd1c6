-- What stands in front of bytes, and at some place of them.
use Rattle.std.proofs.Common.{◌≡◌, ◌<◌, ◌^◌, ℕ, ◌+◌, Bool, true, false, Some, List, ◌∷◌, ◌++◌, length}
use Rattle.std.proofs.Common.{sym, ap, ◌∙◌, arith, length-append}
use Rattle.std.proofs.lemmas.Bool.Decides.{nat_tests}
use Rattle.std.proofs.lemmas.Nat.{from_be_bytes-to_be_bytes_8}
use Rattle.std.specs.Int.{w64, to_be_bytes}
use Rattle.std.specs.Prelude.{◌==◌, ◌&&◌, ◌||◌, is_none}
use Rattle.journal_pages.specs.declared.version.Version.TheVariants.{Two}
use Rattle.journal_file.specs.declared.fault.FileFault.{FileFault}
use Rattle.journal_file.specs.Endings.{stands_in_front, stands_somewhere}
use Rattle.journal_file.specs.File.{front_fault, is_end_of_one, size_in, sized_page}
use Rattle.journal_file.proofs.One.{few-front, whole-front}

pub whole-stands : (bytes page rest : List ℕ) → bytes ≡ sized_page Two page ++ rest → length bytes < 2 ^ 64
    → true ≡ stands_in_front bytes
whole-stands bytes page rest is few = sym
    (ap is_none (ap (front_fault Two) is ∙ whole-front Two page rest (few-front Two page rest bytes is few)))

pub none-stands : (bytes : List ℕ) (fault : FileFault) → front_fault Two bytes ≡ Some fault
    → false ≡ stands_in_front bytes
none-stands bytes fault is = sym (ap is_none is)

pub none-here : (b : ℕ) (rest behind : List ℕ) → rest ≡ b ∷ behind → stands_in_front rest ≡ false
    → stands_somewhere behind ≡ stands_somewhere rest
none-here b rest behind is none =
    sym (ap stands_somewhere is ∙ ap (λ (x : Bool). x || stands_somewhere behind) (ap stands_in_front (sym is) ∙ none))

pub some-here : (b : ℕ) (rest behind : List ℕ) → rest ≡ b ∷ behind → stands_in_front rest ≡ true
    → true ≡ stands_somewhere rest
some-here b rest behind is some =
    sym (ap stands_somewhere is ∙ ap (λ (x : Bool). x || stands_somewhere behind) (ap stands_in_front (sym is) ∙ some))

pub end-of-one : (file rest : List ℕ) (n : ℕ) → file ≡ to_be_bytes w64 n ++ rest → n < 2 ^ 64
    → is_end_of_one file ≡ ((length rest == 0) && (n == 0))
end-of-one file rest n is few =
    let size : size_in file ≡ n = ap size_in is ∙ from_be_bytes-to_be_bytes_8 n few in
    let all : length file ≡ length (to_be_bytes w64 n ++ rest) = ap length is in
    let parts = length-append (to_be_bytes w64 n) rest in
    let long : length file ≡ 8 + length rest = omega (arith, all, parts) in
    let test : (length file == 8) ≡ (length rest == 0) = eight (length file) (length rest) long in
    ap (λ (b : Bool). b && (size_in file == 0)) test ∙ ap (λ (m : ℕ). (length rest == 0) && (m == 0)) size
  where
    eight : (m k : ℕ) → m ≡ 8 + k → (m == 8) ≡ (k == 0)
    eight m k e = grind (arith, nat_tests, e)

pub no-end-of-one : (file : List ℕ) → length file < 8 → false ≡ is_end_of_one file
no-end-of-one file few = sym (ap (λ (b : Bool). b && (size_in file == 0)) (less (length file) few))
  where
    less : (m : ℕ) → m < 8 → (m == 8) ≡ false
    less m few = grind (arith, nat_tests)
