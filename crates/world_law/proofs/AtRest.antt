-- Where all that a market said is handled, what each client read of an order is the market's book of it.
use Rattle.std.proofs.Common.{◌≡◌, ℕ, ◌<◌, ◌^◌, Bool, true, false, List, [], ◌∷◌, length, refl, sym, ap, ◌∙◌, subst}
use Rattle.std.proofs.Common.{Option, Some, None}
use Rattle.std.specs.Prelude.{filter, option_map, unwrap_or}
use Rattle.std.specs.List.{find}
use Rattle.order_law.specs.ouch_codec.declared.outbound.Outbound.{Outbound}
use Rattle.order_law.specs.Life.{Life, life}
use Rattle.fix_fields.specs.Field.{character}
use Rattle.order_law.specs.Reading.{reading}
use Rattle.order_law.specs.History.{Terms, terms_of, OrderHistory, Entry, accepted, handled, is_new_order, issued}
use Rattle.order_law.specs.History.{new_of, token_of}
use Rattle.order_law.specs.Headline.{Each, Headline, Agree, life_in, IsTrueToMarket}
use Rattle.market_law.specs.Machine.{BookOrder, Machine}
use Rattle.market_law.specs.Run.{Move, ran, life_in_book}
use Rattle.order_law.specs.Lawful.{order_of_token}
use Rattle.order_machine.specs.Runs.{TurnsLeave}
use Rattle.order_machine.specs.Table.{TableState}
use Rattle.order_machine.proofs.Fits.{IsHome}
use Rattle.order_machine.proofs.Holds.{HasRecord}
use Rattle.order_machine.proofs.Running.{Leaves-Holding, headline-of}
use Rattle.market_law.proofs.Basics.{each-all, each-both}
use Rattle.market_law.proofs.Says.{IsPlaced, ran-told}
use Rattle.world_law.specs.Asked.{leads, WasAsked, AlwaysOfOrders, CameAsked}
use Rattle.world_law.proofs.Homes.{always-of-orders, first-home}
use Rattle.world_law.proofs.Judged.{entered}
use Rattle.world_law.proofs.NoFault.{known-moves}
use Rattle.market_law.proofs.Sound.{IsChain, IsSound, vacant}
use Rattle.market_law.proofs.Runs.{ran-Sound}
use Rattle.market_law.specs.Machine.{is_token_used}
use Rattle.market_law.specs.declared.row.BookRow.{BookRow}
use Rattle.market_law.specs.Rows.{has_had, row, row_of_order}
use Rattle.world_law.specs.Rows.{HasSide, ReadsAsBook}

-- none passes where none is found
none-has : (p : BookOrder → Bool) (cs : List BookOrder) → find p cs ≡ None → Each (λ c. p c ≡ false) cs
none-has p [] e = tt
none-has p (c ∷ cs) e = by_test (p c) refl (none-has p cs)
  where
    by_test : (b : Bool) → p c ≡ b → (find p cs ≡ None → Each (λ c. p c ≡ false) cs) → Each (λ c. p c ≡ false) (c ∷ cs)
    by_test true f rest = absurd (let x : ◌≡◌ {A = Option BookOrder} (Some c) None = rw f at e in cc)
    by_test false f rest = (f, rest (rw f at e))

pub each-find : (P : BookOrder → Type 0) (p : BookOrder → Bool) (cs : List BookOrder) (c : BookOrder) → Each P cs
    → find p cs ≡ Some c → P c × (p c ≡ true)
each-find P p [] c each e = absurd (cc)
each-find P p (x ∷ cs) c each e = by_test (p x) refl (each-find P p cs c each.1)
  where
    by_test : (b : Bool) → p x ≡ b → (find p cs ≡ Some c → P c × (p c ≡ true)) → P c × (p c ≡ true)
    by_test true f rest = let g : Some x ≡ Some c = rw f at e in let same : x ≡ c = cc in
        (subst P same each.0, subst (λ y. p y ≡ true) same f)
    by_test false f rest = rest (rw f at e)

-- what a life has is what the book has of its first token
record IsAsBook (l : Life) (r : BookRow) : Type 0 where
  executed : l.executed ≡ r.executed
  unfilled : l.unfilled ≡ r.unfilled
  cancelled : l.cancelled ≡ r.cancelled
  value : l.value ≡ r.value

-- `first` says that an order of the book which has had the token was entered by it
life-as-book : (m : Machine) (said : List Outbound) (root : List ℕ) (side : ℕ) → IsSound m said
    → ((c : BookOrder) → find (has_had root) m.book ≡ Some c → c.entered.token ≡ root)
    → IsAsBook (life root side said) (row m.book root)
life-as-book m said root side s first = by_found (find (has_had root) m.book) refl
  where
    by_found : (x : Option BookOrder) → find (has_had root) m.book ≡ x
        → IsAsBook (life root side said) (row m.book root)
    by_found None e = by_used (is_token_used m root) (s.outside root (none-has (has_had root) m.book e) side)
      where
        by_used : (b : Bool) → life root side said ≡ vacant b root side
            → IsAsBook (life root side said) (row m.book root)
        by_used true is = rw (is, e) (record { executed = refl; unfilled = refl; cancelled = refl; value = refl })
        by_used false is = rw (is, e) (record { executed = refl; unfilled = refl; cancelled = refl; value = refl })
    by_found (Some c) e =
        let k = each-find (IsChain m said) (has_had root) m.book c s.each e in
        let lives : life root side said ≡ life_in_book side c = ap (λ t. life t side said) (sym (first c e))
        ∙ k.0.book side in
        rw (lives, e) (record { executed = refl; unfilled = refl; cancelled = refl; value = refl })

-- ---- all of it handled

agreeing : (terms : List Terms) (h : OrderHistory) → Headline terms h
    → Each (λ (new : Entry). Agree (reading new.order (issued new.client h)) (life_in terms h new))
    (filter (λ (e : Entry). is_new_order e.message) (accepted terms h))
agreeing terms [] headline = tt
agreeing terms (t ∷ before) headline = each-all (IsTrueToMarket terms t before)
    (λ (new : Entry). Agree (reading new.order (issued new.client (t ∷ before))) (life_in terms (t ∷ before) new))
    (filter (λ (e : Entry). is_new_order e.message) (accepted terms (t ∷ before))) (λ new k. k.agree) headline.0.orders

module _ (terms : List Terms) (port : ℕ) (h : OrderHistory) (s : TableState) (moves : List Move)
    (short : length h < 2 ^ 59) (leaves : TurnsLeave terms h s)
    (came : Each (CameAsked terms port h) moves) (all : (ran moves).said ≡ handled port h) where
  abbrev A : List Entry
  A = accepted terms h

  abbrev m : Machine
  m = (ran moves).machine

  always : AlwaysOfOrders terms port h
  always = always-of-orders terms h s short leaves port

  placed : Each (IsPlaced (leads terms port A) (WasAsked terms port h)) m.book
  placed = (ran-told (leads terms port A) (WasAsked terms port h) moves
      (known-moves terms port h always moves came)).placed

  reads-as-book : (new : Entry) → HasRecord terms h new → (terms_of terms new.client).port ≡ port
      → Agree (reading new.order (issued new.client h)) (life_in terms h new)
      → ReadsAsBook (reading new.order (issued new.client h)) (row m.book (token_of new))
  reads-as-book new r on agree = record {
    side = by_found (find (has_had (token_of new)) m.book) refl;
    executed = agree.executed ∙ ap (λ (l : Life). l.executed) lives ∙ as_book.executed;
    unfilled = agree.unfilled ∙ ap (λ (l : Life). l.unfilled) lives ∙ as_book.unfilled;
    cancelled = agree.cancelled ∙ ap (λ (l : Life). l.cancelled) lives ∙ as_book.cancelled;
    value = agree.value ∙ ap (λ (l : Life). l.value) lives ∙ as_book.value;
  }
    where
      known : new_of new.order A ≡ Some new
      known = subst (λ (e : Entry). new_of e.order A ≡ Some e) r.same r.fits.known

      home : order_of_token terms port A (token_of new) ≡ Some new
      home = subst (λ (p : ℕ). order_of_token terms p A (token_of new) ≡ Some new) on
          (subst (λ (e : Entry). IsHome terms A e (token_of e)) r.same (first-home terms h r.order r.fits)).mine

      lives : life_in terms h new ≡ life (token_of new) (character 54 new.message) (ran moves).said
      lives =
          ap (λ (x : Option Entry). life (unwrap_or (option_map token_of x) [])
          (unwrap_or (option_map (λ (e : Entry). character 54 e.message) x) 0)
          (handled (terms_of terms new.client).port h)) known
          ∙ ap (λ (p : ℕ). life (token_of new) (character 54 new.message) (handled p h)) on
          ∙ ap (life (token_of new) (character 54 new.message)) (sym all)

      entered_by : (c : BookOrder) → find (has_had (token_of new)) m.book ≡ Some c → c.entered.token ≡ token_of new
      entered_by c e =
          let k = each-find (IsPlaced (leads terms port A) (WasAsked terms port h))
          (has_had (token_of new)) m.book c placed e in
          let there : leads terms port A (token_of new) ≡ Some c.entered.token = k.0.leads (token_of new) k.1 in
          let here : leads terms port A (token_of new) ≡ Some (token_of new) = ap (option_map token_of) home in
          let g : Some c.entered.token ≡ Some (token_of new) = sym there ∙ here in cc

      as_book : IsAsBook (life (token_of new) (character 54 new.message) (ran moves).said) (row m.book (token_of new))
      as_book = life-as-book m (ran moves).said (token_of new) (character 54 new.message) (ran-Sound moves) entered_by

      by_found : (x : Option BookOrder) → find (has_had (token_of new)) m.book ≡ x
          → HasSide (reading new.order (issued new.client h)).side (row_of_order x).side
      by_found None e = tt
      by_found (Some c) e =
          let k = each-find (IsPlaced (leads terms port A) (WasAsked terms port h))
          (has_had (token_of new)) m.book c placed e in
          let chain = each-find (IsChain m (ran moves).said) (has_had (token_of new)) m.book c (ran-Sound moves).each e
          in
          let own = entered terms port h always c.entered k.0.was_entered new
          (ap (order_of_token terms port A) (entered_by c e) ∙ home) in
          let in_life : (life (token_of new) (character 54 new.message) (ran moves).said).side
          ≡ character 54 new.message =
          ap (λ (t : List ℕ). (life t (character 54 new.message) (ran moves).said).side) (sym (entered_by c e))
          ∙ ap (λ (l : Life). l.side) (chain.0.book (character 54 new.message)) in
          subst (HasSide (reading new.order (issued new.client h)).side) (sym own.0)
          (agree.side ∙ ap (λ (l : Life). l.side) lives ∙ in_life)

  pub at-rest : Each (λ (new : Entry). (terms_of terms new.client).port ≡ port
      → ReadsAsBook (reading new.order (issued new.client h)) (row m.book (token_of new)))
      (filter (λ (e : Entry). is_new_order e.message) A)
  at-rest = each-all (λ (new : Entry). HasRecord terms h new
      × Agree (reading new.order (issued new.client h)) (life_in terms h new))
      (λ (new : Entry). (terms_of terms new.client).port ≡ port
      → ReadsAsBook (reading new.order (issued new.client h)) (row m.book (token_of new)))
      (filter (λ (e : Entry). is_new_order e.message) A)
      (λ new k on. reads-as-book new k.0 on k.1)
      (each-both (HasRecord terms h) (λ (new : Entry). Agree (reading new.order (issued new.client h))
      (life_in terms h new)) (filter (λ (e : Entry). is_new_order e.message) A)
      (Leaves-Holding terms h s short leaves).table.held.records
      (agreeing terms h (headline-of terms h s short leaves)))
