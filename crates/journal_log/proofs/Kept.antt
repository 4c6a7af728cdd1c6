-- What a crash leaves of a log.
use Rattle.std.proofs.Common.{◌≡◌, ℕ, List, [], ◌∷◌, ◌++◌, Result, Ok, Err, OnOk, sym, ap, ◌∙◌, subst, append-nil}
use Rattle.std.proofs.Common.{append_assoc}
use Rattle.journal_pages.specs.declared.version.Version.TheVariants.{Two}
use Rattle.journal_file.specs.File.{sized_page, sized_pages}
use Rattle.journal_file.proofs.Files.{sized-more}
use Rattle.journal_log.specs.Crash.{Follows, Only, StandsBefore}
use Rattle.journal_log.specs.Log.{IsEnded, IsSettled, LeavesAtLeast}

pub nothing-behind : (c : List ℕ) → StandsBefore c c
nothing-behind c = record { torn = []; same = sym (append-nil c) }

pub same-follows : (outcomes : List ℕ → Type 0) → Follows StandsBefore outcomes outcomes
same-follows outcomes c left = (c, left, nothing-behind c)

-- fewer outcomes follow too
pub fewer-follow : (old mid new : List ℕ → Type 0) → Follows StandsBefore old mid → ((c : List ℕ) → new c → mid c)
    → Follows StandsBefore old new
fewer-follow old mid new follows fewer c left = follows c (fewer c left)

pub same-file : {F : Type 0} (may_leave : F → List ℕ → Type 0) (a b : F) → a ≡ b
    → Follows StandsBefore (may_leave b) (may_leave a)
same-file {F = F} may_leave a b is = subst (λ (f : F). Follows StandsBefore (may_leave f) (may_leave a)) is
    (same-follows (may_leave a))

pub three-more : (out a b t x y z : List ℕ) → x ≡ out ++ a → y ≡ x ++ b → z ≡ y ++ t → z ≡ out ++ (a ++ (b ++ t))
three-more out a b t x y z first second third =
    third ∙ ap (λ (l : List ℕ). l ++ t) (second ∙ ap (λ (l : List ℕ). l ++ b) first)
    ∙ append_assoc (out ++ a) b t ∙ append_assoc out a (b ++ t)

pub four-more : (out a b n m w x y z : List ℕ) → w ≡ out ++ a → x ≡ w ++ b → y ≡ x ++ n → z ≡ y ++ m
    → z ≡ out ++ ((a ++ b) ++ (n ++ m))
four-more out a b n m w x y z first second third fourth =
    fourth ∙ ap (λ (l : List ℕ). l ++ m) third ∙ append_assoc x n m
    ∙ ap (λ (l : List ℕ). l ++ (n ++ m)) (second ∙ ap (λ (l : List ℕ). l ++ b) first ∙ append_assoc out a b)
    ∙ append_assoc out (a ++ b) (n ++ m)

-- what follows what follows
pub follow-again : (old mid new : List ℕ → Type 0) → Follows StandsBefore old mid → Follows StandsBefore mid new
    → Follows StandsBefore old new
follow-again old mid new first second c left =
    let one = second c left in
    let two = first one.0 one.1 in (
      two.0,
      two.1,
      record {
        torn = two.2.torn ++ one.2.torn;
        same = one.2.same ∙ ap (λ (l : List ℕ). l ++ one.2.torn) two.2.same
            ∙ append_assoc two.0 two.2.torn one.2.torn;
      },
    )

-- the head of a page, and the page behind it
pub head-behind : (old sized front bytes new : List ℕ) → new ≡ old ++ ((sized ++ front) ++ bytes)
    → new ≡ old ++ (sized ++ (front ++ bytes))
head-behind old sized front bytes new is = is ∙ ap (λ (l : List ℕ). old ++ l) (append_assoc sized front bytes)

module _ {F : Type 0} (seen : F → List ℕ) (may_leave : F → List ℕ → Type 0) where
  pub settled-more : (pages : List (List ℕ)) (page : List ℕ) (old new : F) → IsSettled seen may_leave pages old
      → seen new ≡ seen old ++ sized_page Two page → Only (seen new) (may_leave new)
      → IsSettled seen may_leave (pages ++ page ∷ []) new
  settled-more pages page old new settled added only = record {
    written = added ∙ ap (λ (l : List ℕ). l ++ sized_page Two page) settled.written ∙ sym (sized-more Two pages page);
    durable = only;
  }

  pub ended-behind : (pages : List (List ℕ)) (old new : F) → IsSettled seen may_leave pages old
      → seen new ≡ seen old ++ sized_page Two [] → Only (seen new) (may_leave new) → IsEnded seen may_leave pages new
  ended-behind pages old new settled added only = record {
    written = added ∙ ap (λ (l : List ℕ). l ++ sized_page Two []) settled.written;
    durable = only;
  }

  pub kept-behind : (pages : List (List ℕ)) (old new : F) → IsSettled seen may_leave pages old
      → Follows StandsBefore (may_leave old) (may_leave new) → LeavesAtLeast may_leave pages new
  kept-behind pages old new settled follows c left =
      let from = follows c left in
      let was : from.0 ≡ sized_pages Two pages = settled.durable from.0 from.1 ∙ settled.written in
      record { torn = from.2.torn; same = from.2.same ∙ ap (λ (l : List ℕ). l ++ from.2.torn) was }

  -- where a call went well
  pub told-more : {T E : Type 0} (r : Result T E) (page : List ℕ) (old new : F)
      → OnOk r (seen new ≡ seen old ++ sized_page Two page) → OnOk r (Only (seen new) (may_leave new))
      → OnOk r ((pages : List (List ℕ)) → IsSettled seen may_leave pages old
      → IsSettled seen may_leave (pages ++ page ∷ []) new)
  told-more (Ok x) page old new added only = λ pages settled. settled-more pages page old new settled added only
  told-more (Err e) page old new added only = tt
