-- Pages in front of a file, and the file of one list of pages.
use Rattle.std.proofs.Common.{◌≡◌, ◌≤◌, ◌<◌, ◌^◌, ℕ, ◌+◌, false, true, List, [], ◌∷◌, ◌++◌, None, length, take}
use Rattle.std.proofs.Common.{drop, refl, sym, ap, ◌∙◌, arith, append_assoc, length-append}
use Rattle.std.proofs.lemmas.Bool.{le-ltb}
use Rattle.std.proofs.lemmas.Bool.Decides.{nat_tests}
use Rattle.std.proofs.lemmas.List.{drop_at, take_at}
use Rattle.std.proofs.lemmas.Nat.{from_be_bytes-to_be_bytes_8}
use Rattle.std.specs.Prelude.{◌==◌}
use Rattle.std.specs.Int.{w64, from_be_bytes}
use Rattle.journal_pages.specs.declared.version.Version.{Version}
use Rattle.journal_pages.specs.declared.version.Version.TheVariants.{One, Two}
use Rattle.journal_file.specs.Sum.{sum_of}
use Rattle.journal_file.proofs.Summed.{small-sum}
use Rattle.journal_file.specs.File.{before_size, file_of, front_fault, has_its_sum, is_cut_short, page_in, sized_page}
use Rattle.journal_file.specs.File.{sized_pages}

-- ---- two pages in front

pub same-size : (form : Version) (a b x y : List ℕ) → length a < 2 ^ 64 → length b < 2 ^ 64
    → sized_page form a ++ x ≡ sized_page form b ++ y → length a ≡ length b
same-size One a b x y la lb e =
    sym (from_be_bytes-to_be_bytes_8 (length a) la) ∙ ap (λ (t : List ℕ). from_be_bytes w64 (take 8 t)) e
    ∙ from_be_bytes-to_be_bytes_8 (length b) lb
same-size Two a b x y la lb e =
    sym (from_be_bytes-to_be_bytes_8 (length a) la) ∙ ap (λ (t : List ℕ). from_be_bytes w64 (take 8 t)) e
    ∙ from_be_bytes-to_be_bytes_8 (length b) lb

pub behind-size : (form : Version) (a b x y : List ℕ) → sized_page form a ++ x ≡ sized_page form b ++ y
    → a ++ x ≡ b ++ y
behind-size One a b x y e = ap (λ (t : List ℕ). drop 8 t) e
behind-size Two a b x y e = ap (λ (t : List ℕ). drop 16 t) e

pub same-front : (a b x y : List ℕ) → length a ≡ length b → a ++ x ≡ b ++ y → a ≡ b
same-front a b x y same e = sym (take_at a x (length a) refl) ∙ ap (λ (t : List ℕ). take (length a) t) e
    ∙ take_at b y (length a) (sym same)

pub same-behind : (a b x y : List ℕ) → length a ≡ length b → a ++ x ≡ b ++ y → x ≡ y
same-behind a b x y same e = sym (drop_at a x (length a) refl) ∙ ap (λ (t : List ℕ). drop (length a) t) e
    ∙ drop_at b y (length a) (sym same)

pub long : (form : Version) (a x : List ℕ) → length (sized_page form a ++ x) ≡ before_size form + (length a + length x)
long One a x = let parts = length-append a x in omega (arith, parts)
long Two a x = let parts = length-append a x in omega (arith, parts)

pub some-before : (form : Version) → 8 ≤ before_size form
some-before One = omega arith
some-before Two = omega arith

end-long : (form : Version) → length (sized_page form []) ≡ before_size form
end-long One = refl
end-long Two = refl

file-cons : (form : Version) (a : List ℕ) (p : List (List ℕ))
    → file_of form (a ∷ p) ≡ sized_page form a ++ file_of form p
file-cons form a p = append_assoc (sized_page form a) (sized_pages form p) (sized_page form [])

file-long : (form : Version) (p : List (List ℕ)) → before_size form ≤ length (file_of form p)
file-long form p = let parts = length-append (sized_pages form p) (sized_page form []) in let end = end-long form in
    omega (arith, parts, end)

-- ---- one list

pub one-file : (form : Version) (p q : List (List ℕ)) → length (file_of form p) < 2 ^ 64
    → file_of form p ≡ file_of form q → p ≡ q
one-file form [] [] few e = refl
one-file form [] (b ∷ q) few e = absurd (
    let same : length (sized_page form []) ≡ length (sized_page form b ++ file_of form q) =
    ap length (e ∙ file-cons form b q) in
    let end = end-long form in
    let all = long form b (file_of form q) in
    let more = file-long form q in
    let some = some-before form in
    omega (arith, same, end, all, more, some)
    )
one-file form (a ∷ p) [] few e = absurd (
    let same : length (sized_page form a ++ file_of form p) ≡ length (sized_page form []) =
    ap length (sym (file-cons form a p) ∙ e) in
    let end = end-long form in
    let all = long form a (file_of form p) in
    let more = file-long form p in
    let some = some-before form in
    omega (arith, same, end, all, more, some)
    )
one-file form (a ∷ p) (b ∷ q) few e =
    let both : sized_page form a ++ file_of form p ≡ sized_page form b ++ file_of form q = sym (file-cons form a p) ∙ e
    ∙ file-cons form b q in
    let whole : length (file_of form (a ∷ p)) ≡ length (sized_page form a ++ file_of form p) =
    ap length (file-cons form a p) in
    let first = long form a (file_of form p) in
    let second = long form b (file_of form q) in
    let equal : length (sized_page form a ++ file_of form p) ≡ length (sized_page form b ++ file_of form q) =
    ap length both in
    let size : length a ≡ length b =
    same-size form a b (file_of form p) (file_of form q) (omega (arith, few, whole, first))
    (omega (arith, few, whole, second, equal)) both in
    let rest : a ++ file_of form p ≡ b ++ file_of form q = behind-size form a b (file_of form p) (file_of form q) both
    in
    let later : p ≡ q = one-file form p q (omega (arith, few, whole, first))
    (same-behind a b (file_of form p) (file_of form q) size rest) in
    ap (λ (x : List ℕ). x ∷ p) (same-front a b (file_of form p) (file_of form q) size rest)
    ∙ ap (λ (ps : List (List ℕ)). b ∷ ps) later

-- ---- a whole page in front

-- how much shorter a page and what stands behind it are
pub few-front : (form : Version) (a x t : List ℕ) → t ≡ sized_page form a ++ x → length t < 2 ^ 64 → length a < 2 ^ 64
few-front form a x t e few =
    let same : length t ≡ length (sized_page form a ++ x) = ap length e in
    let all = long form a x in
    omega (arith, few, same, all)

pub few-behind : (form : Version) (a x t : List ℕ) → t ≡ sized_page form a ++ x → length t < 2 ^ 64 → length x < 2 ^ 64
few-behind form a x t e few =
    let same : length t ≡ length (sized_page form a ++ x) = ap length e in
    let all = long form a x in
    omega (arith, few, same, all)

-- an end isn't a page that isn't empty
pub no-end : (form : Version) (b x y : List ℕ) → 1 ≤ length b → length b < 2 ^ 64
    → sized_page form [] ++ x ≡ sized_page form b ++ y → ⊥
no-end form b x y one few e = let same : 0 ≡ length b = same-size form [] b x y (omega arith) few e in
    omega (arith, same, one)

number-eq : (m n : ℕ) → m ≡ n → (m == n) ≡ true
number-eq m n e = grind (arith, nat_tests, e)

pub whole-front : (form : Version) (b x : List ℕ) → length b < 2 ^ 64 → front_fault form (sized_page form b ++ x) ≡ None
whole-front One b x few =
    let t : List ℕ = sized_page One b ++ x in
    let size : from_be_bytes w64 (take 8 t) ≡ length b = from_be_bytes-to_be_bytes_8 (length b) few in
    let all = long One b x in
    let uncut : is_cut_short One t ≡ false = le-ltb (length t) (8 + from_be_bytes w64 (take 8 t))
    (omega (arith, size, all)) in
    rw uncut refl
whole-front Two b x few =
    let t : List ℕ = sized_page Two b ++ x in
    let size : from_be_bytes w64 (take 8 t) ≡ length b = from_be_bytes-to_be_bytes_8 (length b) few in
    let sum : from_be_bytes w64 (take 8 (drop 8 t)) ≡ sum_of b = from_be_bytes-to_be_bytes_8 (sum_of b) (small-sum b) in
    let page : page_in Two t ≡ b = ap (λ n. take n (b ++ x)) size ∙ take_at b x (length b) refl in
    let all = long Two b x in
    let uncut : is_cut_short Two t ≡ false = le-ltb (length t) (16 + from_be_bytes w64 (take 8 t))
    (omega (arith, size, all)) in
    let summed : has_its_sum Two t ≡ true = number-eq _ _ (sum ∙ sym (ap sum_of page)) in
    rw (uncut, summed) refl
