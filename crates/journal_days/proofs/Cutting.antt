-- Records behind pages, and pages cut back to what they were.
use Rattle.std.proofs.Common.{◌≡◌, ◌≤◌, ℕ, zero, suc, ◌+◌, true, false, Bool, Some, List, [], ◌∷◌, ◌++◌, length, take}
use Rattle.std.proofs.Common.{refl, sym, ap, ◌∙◌, arith, append-nil}
use Rattle.std.specs.Prelude.{if◌then◌else◌, get_or, slice_get, slice_set, Vec}
use Rattle.std.specs.declared.alloc.Global.{Global}
use Rattle.std.proofs.lemmas.List.{length-take, map-append, take-append-le, take_at}
use Rattle.journal_pages.specs.Record.{Record, record_bytes}
use Rattle.journal_days.specs.Cut.{cut_back, has_room, last_cut, last_has_room, last_size, last_with, next_number}
use Rattle.journal_days.specs.Cut.{number_behind, page_with, record_text, texts, with_records, with_text}

pub text-is : (r : Record) → record_bytes r ≡ record_text r
unfolding record_text
text-is r = refl

pub texts-more : (pages : List (Vec ℕ Global)) (page : Vec ℕ Global)
    → texts (pages ++ page ∷ []) ≡ texts pages ++ page.items ∷ []
texts-more pages page = map-append (λ (v : Vec ℕ Global). v.items) pages (page ∷ [])

-- a text behind the last page
pub with-last : (pages : List (List ℕ)) (last text : List ℕ)
    → with_text (pages ++ last ∷ []) text ≡ pages ++ last_with last text
with-last [] last text = refl
with-last (p ∷ []) last text = refl
with-last (p ∷ q ∷ pages) last text = ap (λ (ps : List (List ℕ)). p ∷ ps) (with-last (q ∷ pages) last text)

pub cut-last : (bytes : ℕ) (pages : List (List ℕ)) (last : List ℕ)
    → last_cut bytes (pages ++ last ∷ []) ≡ pages ++ take bytes last ∷ []
cut-last bytes [] last = refl
cut-last bytes (p ∷ []) last = refl
cut-last bytes (p ∷ q ∷ pages) last = ap (λ (ps : List (List ℕ)). p ∷ ps) (cut-last bytes (q ∷ pages) last)

pub size-last : (pages : List (List ℕ)) (last : List ℕ) → last_size (pages ++ last ∷ []) ≡ length last
size-last [] last = refl
size-last (p ∷ []) last = refl
size-last (p ∷ q ∷ pages) last = size-last (q ∷ pages) last

pub last-sized : (pages : List (Vec ℕ Global)) (last : Vec ℕ Global) (i : ℕ) → i + 1 ≡ length pages
    → Some last ≡ slice_get pages i → last_size (texts pages) ≡ length last.items
last-sized [] last i few e = absurd (omega (arith, few))
last-sized (p ∷ []) last zero few e = let same : p ≡ last = cc in ap (λ (v : Vec ℕ Global). length v.items) same
last-sized (p ∷ []) last (suc i) few e = absurd (omega (arith, few))
last-sized (p ∷ q ∷ pages) last zero few e = absurd (omega (arith, few))
last-sized (p ∷ q ∷ pages) last (suc i) few e = last-sized (q ∷ pages) last i (omega (arith, few)) e

-- the number of the page behind
pub next-last : (pages : List (Vec ℕ Global)) (last : Vec ℕ Global) (i : ℕ) → i + 1 ≡ length pages
    → Some last ≡ slice_get pages i → next_number (texts pages) ≡ number_behind last.items
next-last [] last i few e = absurd (omega (arith, few))
next-last (p ∷ []) last zero few e = let same : p ≡ last = cc in ap (λ (v : Vec ℕ Global). number_behind v.items) same
next-last (p ∷ []) last (suc i) few e = absurd (omega (arith, few))
next-last (p ∷ q ∷ pages) last zero few e = absurd (omega (arith, few))
next-last (p ∷ q ∷ pages) last (suc i) few e = next-last (q ∷ pages) last i (omega (arith, few)) e

pub some-pages : (pages : List (Vec ℕ Global)) (last : Vec ℕ Global) (i : ℕ) → Some last ≡ slice_get pages i
    → 1 ≤ length pages
some-pages [] last i e = let no : ⊥ = cc in absurd no
some-pages (p ∷ pages) last i e = omega arith

pub with-room : (last text : List ℕ) → has_room last (length text) ≡ true → last_with last text ≡ (last ++ text) ∷ []
with-room last text e = ap (λ b. if b then (last ++ text) ∷ [] else last ∷ page_with (number_behind last) text ∷ []) e

pub without-room : (last text : List ℕ) → has_room last (length text) ≡ false
    → last_with last text ≡ last ∷ page_with (number_behind last) text ∷ []
without-room last text e = ap (λ b. if b then (last ++ text) ∷ [] else last ∷ page_with (number_behind last) text ∷ [])
    e

-- ---- one record more

pub no-room : (pages : List (List ℕ)) (text : List ℕ) → last_has_room pages (length text) ≡ false
    → with_text pages text ≡ pages ++ page_with (next_number pages) text ∷ []
no-room [] text e = refl
no-room (p ∷ []) text e = without-room p text e
no-room (p ∷ q ∷ pages) text e = ap (λ (ps : List (List ℕ)). p ∷ ps) (no-room (q ∷ pages) text e)

pub room-some : (pages : List (Vec ℕ Global)) (size : ℕ) → last_has_room (texts pages) size ≡ true → 1 ≤ length pages
room-some [] size e = let no : ⊥ = cc in absurd no
room-some (p ∷ pages) size e = omega arith

pub last-room : (pages : List (Vec ℕ Global)) (last : Vec ℕ Global) (size i : ℕ) → i + 1 ≡ length pages
    → Some last ≡ slice_get pages i → last_has_room (texts pages) size ≡ has_room last.items size
last-room [] last size i few e = absurd (omega (arith, few))
last-room (p ∷ []) last size zero few e = let same : p ≡ last = cc in
    ap (λ (v : Vec ℕ Global). has_room v.items size) same
last-room (p ∷ []) last size (suc i) few e = absurd (omega (arith, few))
last-room (p ∷ q ∷ pages) last size zero few e = absurd (omega (arith, few))
last-room (p ∷ q ∷ pages) last size (suc i) few e = last-room (q ∷ pages) last size i (omega (arith, few)) e

-- the last page with a text behind it
pub last-set : (pages : List (Vec ℕ Global)) (i : ℕ) (old new : Vec ℕ Global) (text : List ℕ) → i + 1 ≡ length pages
    → old ≡ get_or pages i old → new.items ≡ old.items ++ text
    → last_has_room (texts pages) (length text) ≡ true → texts (slice_set pages i new) ≡ with_text (texts pages) text
last-set [] i old new text few at more room = absurd (omega (arith, few))
last-set (p ∷ []) zero old new text few at more room =
    ap (λ (l : List ℕ). l ∷ []) (more ∙ ap (λ (v : Vec ℕ Global). v.items ++ text) at)
    ∙ sym (with-room p.items text room)
last-set (p ∷ []) (suc i) old new text few at more room = absurd (omega (arith, few))
last-set (p ∷ q ∷ pages) zero old new text few at more room = absurd (omega (arith, few))
last-set (p ∷ q ∷ pages) (suc i) old new text few at more room =
    ap (λ (ps : List (List ℕ)). p.items ∷ ps) (last-set (q ∷ pages) i old new text (omega (arith, few)) at more room)

pub set-same : (pages : List (Vec ℕ Global)) (i : ℕ) (old new : Vec ℕ Global) → old ≡ get_or pages i old
    → new.items ≡ old.items → texts (slice_set pages i new) ≡ texts pages
set-same [] i old new at same = refl
set-same (p ∷ pages) zero old new at same =
    ap (λ (l : List ℕ). l ∷ texts pages) (same ∙ ap (λ (v : Vec ℕ Global). v.items) at)
set-same (p ∷ pages) (suc i) old new at same =
    ap (λ (ps : List (List ℕ)). p.items ∷ ps) (set-same pages i old new at same)

-- ---- what was marked comes back

one-more : (m : ℕ) (p : List ℕ) (behind : List (List ℕ)) (q : List ℕ) (qs : List (List ℕ)) → last_cut m behind ≡ q ∷ qs
    → last_cut m (p ∷ behind) ≡ p ∷ q ∷ qs
one-more m p [] q qs e = let no : ⊥ = cc in absurd no
one-more m p (x ∷ xs) q qs e = ap (λ (ps : List (List ℕ)). p ∷ ps) e

begins : (p q : List ℕ) → take (length p) q ≡ p → length p ≤ length q
begins p q e = let few = length-take (length p) q in let same = ap length e in omega (arith, few, same)

alone : (p q : List ℕ) → take (length p) q ∷ [] ≡ p ∷ [] → take (length p) q ≡ p
alone p q e = cc

one-text : (p q text : List ℕ) → take (length p) q ≡ p → last_cut (length p) (take 1 (last_with q text)) ≡ p ∷ []
one-text p q text e = by_room (has_room q (length text))
  where
    by_room : (b : Bool) → last_cut (length p)
        (take 1 (if b then (q ++ text) ∷ [] else q ∷ page_with (number_behind q) text ∷ [])) ≡ p ∷ []
    by_room true = ap (λ (x : List ℕ). x ∷ []) (take-append-le (length p) q text (begins p q e) ∙ e)
    by_room false = ap (λ (x : List ℕ). x ∷ []) e

kept-text : (pages now : List (List ℕ)) (text : List ℕ) → cut_back (length pages) (last_size pages) now ≡ pages
    → cut_back (length pages) (last_size pages) (with_text now text) ≡ pages
kept-text [] now text e = refl
kept-text (p ∷ []) [] text e = let no : ⊥ = cc in absurd no
kept-text (p ∷ []) (q ∷ []) text e = one-text p q text (alone p q e)
kept-text (p ∷ []) (q ∷ next ∷ now) text e = e
kept-text (p ∷ next ∷ pages) [] text e = let no : ⊥ = cc in absurd no
kept-text (p ∷ next ∷ pages) (q ∷ []) text e = let no : ⊥ = cc in absurd no
kept-text (p ∷ next ∷ pages) (q ∷ other ∷ now) text e =
    let first : q ≡ p = cc in
    let behind : cut_back (suc (length pages)) (last_size (next ∷ pages)) (other ∷ now) ≡ next ∷ pages = cc in
    one-more (last_size (next ∷ pages)) q (take (suc (length pages)) (with_text (other ∷ now) text)) next pages
    (kept-text (next ∷ pages) (other ∷ now) text behind)
    ∙ ap (λ (x : List ℕ). x ∷ next ∷ pages) first

kept-records : (pages now : List (List ℕ)) (rs : List Record) → cut_back (length pages) (last_size pages) now ≡ pages
    → cut_back (length pages) (last_size pages) (with_records now rs) ≡ pages
kept-records pages now [] e = e
kept-records pages now (r ∷ rs) e = kept-records pages (with_text now (record_text r)) rs
    (kept-text pages now (record_text r) e)

all-kept : (pages : List (List ℕ)) → cut_back (length pages) (last_size pages) pages ≡ pages
all-kept [] = refl
all-kept (p ∷ []) = ap (λ (x : List ℕ). x ∷ []) (whole p)
  where
    whole : (p : List ℕ) → take (length p) p ≡ p
    whole p = ap (take (length p)) (sym (append-nil p)) ∙ take_at p [] (length p) refl
all-kept (p ∷ next ∷ pages) = one-more (last_size (next ∷ pages)) p
    (take (suc (length pages)) (next ∷ pages)) next pages (all-kept (next ∷ pages))

pub marked : (pages : List (List ℕ)) (rs : List Record)
    → cut_back (length pages) (last_size pages) (with_records pages rs) ≡ pages
marked pages rs = kept-records pages pages rs (all-kept pages)

-- records more, in two parts
pub records-both : (pages : List (List ℕ)) (rs more : List Record)
    → with_records (with_records pages rs) more ≡ with_records pages (rs ++ more)
records-both pages [] more = refl
records-both pages (r ∷ rs) more = records-both (with_text pages (record_text r)) rs more
