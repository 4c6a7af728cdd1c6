-- Bytes are parted in one way into whole pages and what stands behind them.
use Rattle.std.proofs.Common.{◌≡◌, ◌≤◌, ◌<◌, ◌^◌, ℕ, Bool, true, false, Some, None, List, [], ◌∷◌, ◌++◌, length}
use Rattle.std.proofs.Common.{refl, sym, ap, subst, ◌∙◌, arith, append_assoc, append-nil}
use Rattle.std.specs.Prelude.{◌&&◌, ◌||◌, not, is_none}
use Rattle.std.proofs.lemmas.Bool.{true≢false}
use mathlib.Core.List.{IsPrefix}
use Rattle.journal_pages.specs.declared.version.Version.{Version}
use Rattle.journal_pages.specs.declared.version.Version.TheVariants.{One, Two}
use Rattle.journal_file.specs.declared.ending.Ending.{Ending}
use Rattle.journal_file.specs.declared.ending.Ending.TheVariants.{GoesOn, Over, Torn}
use Rattle.journal_file.specs.declared.fault.FileFault.{FileFault}
use Rattle.journal_file.specs.Endings.{EndsBy, is_unfinished, stands_in_front, stands_somewhere}
use Rattle.journal_file.specs.File.{AreNotEmpty, front_fault, sized_page, sized_pages}
use Rattle.journal_file.specs.Said.{IsParted}
use Rattle.journal_file.proofs.One.{behind-size, few-behind, few-front, long, no-end, same-behind, same-front}
use Rattle.journal_file.proofs.One.{same-size, some-before, whole-front}

-- ---- tests

right-of : (a b : Bool) → a && b ≡ true → b ≡ true
right-of true b e = e
right-of false b e = absurd (true≢false (sym e))

not-so : (b : Bool) → not b ≡ true → b ≡ false
not-so true e = absurd (true≢false (sym e))
not-so false e = refl

left-none : (a b : Bool) → a || b ≡ false → a ≡ false
left-none true b e = absurd (true≢false e)
left-none false b e = refl

-- ---- no page stands in front

-- no page that isn't an end
abbrev pub NoPage : Version → List ℕ → Type 0
NoPage form x = (page behind : List ℕ) → x ≡ sized_page form page ++ behind → 1 ≤ length page → length page < 2 ^ 64 → ⊥

pub no-page-over : (form : Version) (x : List ℕ) → NoPage form (sized_page form [] ++ x)
no-page-over form x page behind e one few = no-end form page x behind one few e

pub no-fault : (fault : FileFault) → Some fault ≡ None → ⊥
no-fault fault e = cc

pub no-page-broken : (form : Version) (rest : List ℕ) (fault : FileFault) → front_fault form rest ≡ Some fault
    → NoPage form rest
no-page-broken form rest fault why page behind e one few =
    no-fault fault (sym why ∙ ap (front_fault form) e ∙ whole-front form page behind few)

no-page-none : (form : Version) → NoPage form []
no-page-none form page behind e one few =
    let same : 0 ≡ length (sized_page form page ++ behind) = ap length e in
    let all = long form page behind in
    let some = some-before form in
    omega (arith, same, all, some)

pub no-page-unfinished : (form : Version) (rest : List ℕ) → is_unfinished form rest ≡ true → NoPage form rest
no-page-unfinished One rest un page behind e one few = true≢false (sym un)
no-page-unfinished Two [] un page behind e one few = no-page-none Two page behind e one few
no-page-unfinished Two (b ∷ rest) un page behind e one few =
    let none : stands_somewhere (b ∷ rest) ≡ false = not-so (stands_somewhere (b ∷ rest)) (right-of _ _ un) in
    let here : stands_in_front (b ∷ rest) ≡ false = left-none (stands_in_front (b ∷ rest)) (stands_somewhere rest) none
    in
    let there : stands_in_front (b ∷ rest) ≡ true =
    ap is_none (ap (front_fault Two) e ∙ whole-front Two page behind few) in
    true≢false (sym there ∙ here)

pub no-page-by : (form : Version) (rest : List ℕ) (ending : Ending) → EndsBy form rest ending → NoPage form rest
no-page-by form rest GoesOn end page behind e one few = no-page-unfinished form rest end.1 page behind e one few
no-page-by form rest Over end page behind e one few =
    no-end form page [] behind one few (append-nil (sized_page form []) ∙ sym end ∙ e)
no-page-by form rest (Torn n) end page behind e one few = no-page-unfinished form rest end.2 page behind e one few

-- ---- pages in front of both

ahead-of : (form : Version) (a : List ℕ) (p : List (List ℕ)) (x : List ℕ)
    → sized_pages form (a ∷ p) ++ x ≡ sized_page form a ++ (sized_pages form p ++ x)
ahead-of form a p x = append_assoc (sized_page form a) (sized_pages form p) x

pub along : (s t : List ℕ) → s ≡ t → length s < 2 ^ 64 → length t < 2 ^ 64
along s t e few = subst (λ (l : List ℕ). length l < 2 ^ 64) e few

pub pages-once : (form : Version) (p q : List (List ℕ)) (x y : List ℕ) → AreNotEmpty p → AreNotEmpty q
    → length (sized_pages form p ++ x) < 2 ^ 64
    → NoPage form x → NoPage form y → sized_pages form p ++ x ≡ sized_pages form q ++ y → (p ≡ q) × (x ≡ y)
pages-once form [] [] x y pf qf few nx ny e = (refl, e)
pages-once form [] (b ∷ q) x y pf qf few nx ny e =
    let ahead : x ≡ sized_page form b ++ (sized_pages form q ++ y) = e ∙ ahead-of form b q y in
    absurd (nx b (sized_pages form q ++ y) ahead qf.0 (few-front form b (sized_pages form q ++ y) x ahead few))
pages-once form (a ∷ p) [] x y pf qf few nx ny e =
    let ahead : y ≡ sized_page form a ++ (sized_pages form p ++ x) = sym e ∙ ahead-of form a p x in
    absurd (ny a (sized_pages form p ++ x) ahead pf.0
    (few-front form a (sized_pages form p ++ x) y ahead (along (sized_pages form (a ∷ p) ++ x) y e few)))
pages-once form (a ∷ p) (b ∷ q) x y pf qf few nx ny e =
    let left : List ℕ = sized_pages form p ++ x in
    let right : List ℕ = sized_pages form q ++ y in
    let both : sized_page form a ++ left ≡ sized_page form b ++ right = sym (ahead-of form a p x) ∙ e
    ∙ ahead-of form b q y in
    let size : length a ≡ length b =
    same-size form a b left right (few-front form a left (sized_pages form (a ∷ p) ++ x) (ahead-of form a p x) few)
    (few-front form b right (sized_pages form (b ∷ q) ++ y) (ahead-of form b q y)
    (along (sized_pages form (a ∷ p) ++ x) (sized_pages form (b ∷ q) ++ y) e few)) both in
    let rest : a ++ left ≡ b ++ right = behind-size form a b left right both in
    let later : (p ≡ q) × (x ≡ y) =
    pages-once form p q x y pf.1 qf.1 (few-behind form a left (sized_pages form (a ∷ p) ++ x) (ahead-of form a p x) few)
    nx ny (same-behind a b left right size rest) in (
      ap (λ (t : List ℕ). t ∷ p) (same-front a b left right size rest)
          ∙ ap (λ (ps : List (List ℕ)). b ∷ ps) later.0,
      later.1,
    )

-- pages that stand in front are the first of those that do
pub pages-in-front : (form : Version) (yielded q : List (List ℕ)) (more y : List ℕ) → AreNotEmpty yielded → AreNotEmpty q
    → length (sized_pages form yielded ++ more) < 2 ^ 64
    → NoPage form y → sized_pages form yielded ++ more ≡ sized_pages form q ++ y → IsPrefix yielded q
pages-in-front form [] q more y tf qf few ny e = (q, refl)
pages-in-front form (a ∷ yielded) [] more y tf qf few ny e =
    let ahead : y ≡ sized_page form a ++ (sized_pages form yielded ++ more) = sym e ∙ ahead-of form a yielded more in
    absurd (ny a (sized_pages form yielded ++ more) ahead tf.0
    (few-front form a (sized_pages form yielded ++ more) y ahead
    (along (sized_pages form (a ∷ yielded) ++ more) y e few)))
pages-in-front form (a ∷ yielded) (b ∷ q) more y tf qf few ny e =
    let left : List ℕ = sized_pages form yielded ++ more in
    let right : List ℕ = sized_pages form q ++ y in
    let both : sized_page form a ++ left ≡ sized_page form b ++ right = sym (ahead-of form a yielded more) ∙ e
    ∙ ahead-of form b q y in
    let size : length a ≡ length b =
    same-size form a b left right (few-front form a left (sized_pages form (a ∷ yielded) ++ more)
    (ahead-of form a yielded more) few)
    (few-front form b right (sized_pages form (b ∷ q) ++ y) (ahead-of form b q y)
    (along (sized_pages form (a ∷ yielded) ++ more) (sized_pages form (b ∷ q) ++ y) e few)) both in
    let rest : a ++ left ≡ b ++ right = behind-size form a b left right both in
    let later : IsPrefix yielded q =
    pages-in-front form yielded q more y tf.1 qf.1
    (few-behind form a left (sized_pages form (a ∷ yielded) ++ more) (ahead-of form a yielded more) few) ny
    (same-behind a b left right size rest) in (
      later.0,
      ap (λ (t : List ℕ). t ∷ (yielded ++ later.0)) (same-front a b left right size rest)
          ∙ ap (λ (ps : List (List ℕ)). b ∷ ps) later.1,
    )

-- ---- endings

-- nothing whole stands in what was cut short
pub whole-lasts : (form : Version) (x : List ℕ) → is_unfinished form (sized_page form [] ++ x) ≡ true → ⊥
whole-lasts One x un = true≢false (sym un)
whole-lasts Two x un =
    let none : stands_somewhere (sized_page Two [] ++ x) ≡ false =
    not-so (stands_somewhere (sized_page Two [] ++ x)) (right-of _ _ un) in
    let here : stands_in_front (sized_page Two [] ++ x) ≡ false =
    left-none (stands_in_front (sized_page Two [] ++ x)) _ none in
    let there : stands_in_front (sized_page Two [] ++ x) ≡ true = ap is_none (whole-front Two [] x (omega arith)) in
    true≢false (sym there ∙ here)

over-lasts : (form : Version) (x : List ℕ) → x ≡ sized_page form [] → is_unfinished form x ≡ true → ⊥
over-lasts form x e un = whole-lasts form [] (ap (is_unfinished form) (append-nil (sized_page form []) ∙ sym e) ∙ un)

pub over-long : (form : Version) (x : List ℕ) → x ≡ sized_page form [] → 1 ≤ length x
over-long One x e = let same : length x ≡ 8 = ap length e in omega (arith, same)
over-long Two x e = let same : length x ≡ 16 = ap length e in omega (arith, same)

pub none-long : (x : List ℕ) → x ≡ [] → 1 ≤ length x → ⊥
none-long x e one = let none : length x ≡ 0 = ap length e in omega (arith, none, one)

pub endings-once : (form : Version) (x : List ℕ) (e f : Ending) → EndsBy form x e → EndsBy form x f → e ≡ f
endings-once form x GoesOn GoesOn a b = refl
endings-once form x GoesOn Over a b = absurd (none-long x a.0 (over-long form x b))
endings-once form x GoesOn (Torn n) a b =
    absurd (let none : length x ≡ 0 = ap length a.0 in omega (arith, none, b.0, b.1))
endings-once form x Over GoesOn a b = absurd (none-long x b.0 (over-long form x a))
endings-once form x Over Over a b = refl
endings-once form x Over (Torn n) a b = absurd (over-lasts form x a b.2)
endings-once form x (Torn m) GoesOn a b =
    absurd (let none : length x ≡ 0 = ap length b.0 in omega (arith, none, a.0, a.1))
endings-once form x (Torn m) Over a b = absurd (over-lasts form x b a.2)
endings-once form x (Torn m) (Torn n) a b = ap Torn (a.1 ∙ sym b.1)

-- a file is parted in one way
pub parted-once : (form : Version) (file : List ℕ) (p q : List (List ℕ)) (e f : Ending) → length file < 2 ^ 64
    → IsParted form file p e → IsParted form file q f → (p ≡ q) × (e ≡ f)
parted-once form file p q e f few a b =
    let one : (p ≡ q) × (a.rest ≡ b.rest) =
    pages-once form p q a.rest b.rest a.full b.full (along file (sized_pages form p ++ a.rest) a.same few)
    (no-page-by form a.rest e a.end) (no-page-by form b.rest f b.end) (sym a.same ∙ b.same) in
    (one.0, endings-once form b.rest e f (subst (λ (x : List ℕ). EndsBy form x e) one.1 a.end) b.end)
