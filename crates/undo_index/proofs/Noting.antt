-- What a hint that is noted keeps.
use Rattle.std.proofs.Common.{◌≡◌, ℕ, Bool, true, false, not, cond, List, refl, sym, ◌∙◌, subst, true≢false}
use Rattle.std.specs.Prelude.{Some, Result, Ok, Err, IsOk, OnOk}
use Rattle.undo_index.specs.Hints.{Covers, Hints, LeadsTo, hint_of}
use Rattle.undo_index.specs.Newest.{OnlyAt}

pub not-true : (b : Bool) → not b ≡ true → b ≡ false
not-true true e = sym e
not-true false e = refl

-- hints that say this of one key, and of every other what they said
module _ {K A : Type 0} (eq : K → K → Bool) (has : K → A → Bool)
    (respects : (x y : K) (a : A) → eq x y ≡ true → has x a ≡ has y a)
    (old new : Hints K) (key : K) (place : ℕ) (only : Bool)
    (updates : (q : K) → hint_of eq new q ≡ cond (eq key q) (Some (record { place = place; is_only = only })) (hint_of eq old q)) where
  pub noted-keeps : (q : K) → LeadsTo (hint_of eq old q) place → LeadsTo (hint_of eq new q) place
  noted-keeps q led = by_key (eq key q) (updates q)
    where
      by_key : (b : Bool) → hint_of eq new q ≡ cond b (Some (record { place = place; is_only = only }))
          (hint_of eq old q) → LeadsTo (hint_of eq new q) place
      by_key true e = subst (λ s. LeadsTo s place) (sym e) (λ h. refl)
      by_key false e = subst (λ s. LeadsTo s place) (sym e) led

  pub noted-covers : (xs : List A) → (only ≡ true → OnlyAt place (has key) xs) → Covers eq has old xs
      → Covers eq has new xs
  noted-covers xs alone covers q i a at h = by_key (eq key q) refl (updates q)
    where
      by_key : (b : Bool) → eq key q ≡ b → hint_of eq new q
          ≡ cond b (Some (record { place = place; is_only = only })) (hint_of eq old q) → LeadsTo (hint_of eq new q) i
      by_key true same e = subst (λ s. LeadsTo s i) (sym e) (λ o. alone o i a at (respects key q a same ∙ h))
      by_key false other e = subst (λ s. LeadsTo s i) (sym e) (covers q i a at h)

pub on-ok : {A E P : Type 0} (r : Result A E) → IsOk r → OnOk r P → P
on-ok (Ok a) is p = p
on-ok (Err e) is p = absurd (true≢false (sym is))

pub put-over : {A : Type 0} (b : Bool) (x y z : A) → cond b x (cond b y z) ≡ cond b x z
put-over true x y z = refl
put-over false x y z = refl
