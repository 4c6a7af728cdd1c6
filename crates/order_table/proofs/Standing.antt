-- What the table holds and what it is seen as, after a change of its lists.
use Rattle.std.proofs.Common.{◌≡◌, ℕ, List, [], ◌∷◌, ◌++◌, reverse, sym, subst, ap, ◌∙◌, slice_get, slice_set}
use Rattle.std.specs.Prelude.{Some, Result, Ok, Err, IfOk, OnErr}
use Rattle.std.specs.List.{find}
use Rattle.std.proofs.lemmas.List.{reverse-append}
use Rattle.order_machine.specs.OrderRecord.{OrderRecord}
use Rattle.order_machine.specs.Table.{GivenToken, has_number, put}
use Rattle.undo_index.specs.Newest.{IsNewest}
use Rattle.order_table.specs.declared.sums.Sums.{Sums}
use Rattle.order_table.specs.Held.{Held, IsCounted, changed}
use Rattle.order_table.proofs.Newest.{change-newest}

-- what holds anyway holds after an error
pub on-err : {A E P : Type 0} (r : Result A E) → P → OnErr r P
on-err (Ok a) p = tt
on-err (Err e) p = p

-- whether there was memory or not
pub by-result : {A E P Q R : Type 0} (r : Result A E) → IfOk r (λ a. Q) → OnErr r R → (Q → P) → (R → P) → P
by-result (Ok a) ok err f g = f ok
by-result (Err e) ok err f g = g err

-- lists that are the same
pub same-counted : {ts us : List GivenToken} {cs ds : List Sums} {os ps : List OrderRecord} → us ≡ ts → ds ≡ cs
    → ps ≡ os
    → IsCounted ts cs os → IsCounted us ds ps
same-counted {ts} {us} {cs} {ds} {os} {ps} tokens counts orders are =
    subst (λ (xs : List OrderRecord). IsCounted us ds xs) (sym orders)
    (subst (λ (ns : List Sums). IsCounted us ns os) (sym counts)
    (subst (λ (xs : List GivenToken). IsCounted xs cs os) (sym tokens) are))

-- the table's value, by its lists with the oldest first
abbrev pub value_of : List OrderRecord → List GivenToken → List OrderRecord → List GivenToken → Held
value_of os ts ps us = record {
  orders = reverse os;
  tokens = reverse ts;
  settled =
      record { orders = reverse ps; tokens = reverse us };
}

pub same-value : (os : List OrderRecord) (ts : List GivenToken) (ps : List OrderRecord) (us : List GivenToken)
    (xs : List OrderRecord) (vs : List GivenToken) (qs : List OrderRecord) (ws : List GivenToken) → xs ≡ os → vs ≡ ts
    → qs ≡ ps → ws ≡ us → value_of xs vs qs ws ≡ value_of os ts ps us
same-value os ts ps us xs vs qs ws orders tokens settled_orders settled_tokens =
    ap (λ (zs : List OrderRecord). value_of zs vs qs ws) orders
    ∙ ap (λ (zs : List GivenToken). value_of os zs qs ws) tokens
    ∙ ap (λ (zs : List OrderRecord). value_of os ts zs ws) settled_orders
    ∙ ap (λ (zs : List GivenToken). value_of os ts ps zs) settled_tokens

module _ (os : List OrderRecord) (ts : List GivenToken) (ps : List OrderRecord) (us : List GivenToken) (order : List ℕ)
    (place : ℕ) (was : OrderRecord) (F : OrderRecord → OrderRecord)
    (keeps : (x : OrderRecord) → (F x).new ≡ x.new) (newest : IsNewest (has_number order) os place)
    (here : slice_get os place ≡ Some was)
    (o : OrderRecord) (found : find (has_number order) (reverse os) ≡ Some o) (xs qs : List OrderRecord) (x : OrderRecord) (is : x ≡ F was) (written : xs ≡ slice_set os place x) (same : qs ≡ ps) where
  -- the order with a number, changed
  pub changed-value : value_of xs ts qs us ≡ changed (F o) (value_of os ts ps us)
  changed-value =
      ap (λ (ys : List OrderRecord). value_of ys ts qs us) (written ∙ ap (slice_set os place) is)
      ∙ ap (λ (rs : List OrderRecord). value_of (slice_set os place (F was)) ts rs us) same
      ∙ ap (λ (ys : List OrderRecord). record (value_of os ts ps us) { orders = ys })
      (change-newest order os place was F keeps newest here o found)

  -- and a token more
  pub replaced-value : (given : GivenToken) (vs ws : List GivenToken) → vs ≡ ts ++ given ∷ [] → ws ≡ us
      → value_of xs vs qs ws ≡ record (value_of os ts ps us)
      { orders = put (F o) (reverse os); tokens = given ∷ reverse ts }
  replaced-value given vs ws pushed kept =
      ap (λ (zs : List GivenToken). record (value_of xs ts qs ws) { tokens = zs })
      (ap reverse pushed ∙ reverse-append ts (given ∷ []))
      ∙ ap (λ (zs : List GivenToken). record (value_of xs ts qs zs) { tokens = given ∷ reverse ts }) kept
      ∙ ap (λ (h : Held). record h { tokens = given ∷ reverse ts }) changed-value
