-- Whatever the machine is asked and chooses, each message that it says is lawful of the life that it said before.
use Rattle.std.proofs.Common.{◌≡◌, ℕ, zero, suc, ◌-◌, ◌≤◌, ◌<◌, ◌^◌, Bool, true, false, List, [], ◌∷◌, ◌++◌, refl, sym}
use Rattle.std.proofs.Common.{ap, ◌∙◌, subst, bytes_eq, Option, Some, None, inl, inr, ⊎_elim, arith, nat_lt, nat_le}
use Rattle.std.specs.Prelude.{◌||◌, ◌&&◌}
use Rattle.market_law.proofs.Basics.{and-parts}
use Rattle.std.proofs.Common.{◌==◌}
use Rattle.std.specs.Prelude.{◌&&◌, ◌||◌, if◌then◌else◌}
use Rattle.std.specs.List.{list_any, find}
use Rattle.std.proofs.lemmas.Bool.Decides.{nat_tests}
use Rattle.order_law.specs.ouch_codec.declared.inbound.Inbound.{Inbound}
use Rattle.order_law.specs.ouch_codec.declared.inbound.Inbound.TheVariants as asked
use Rattle.order_law.specs.ouch_codec.declared.inbound.enter_order.EnterOrder.{EnterOrder}
use Rattle.order_law.specs.ouch_codec.declared.inbound.replace.Replace.{Replace}
use Rattle.order_law.specs.ouch_codec.declared.outbound.Outbound.{Outbound}
use Rattle.order_law.specs.ouch_codec.declared.outbound.replaced.Replaced.{Replaced}
use Rattle.order_law.specs.ouch_codec.declared.order_state.OrderState.{OrderState}
use Rattle.order_law.specs.ouch_codec.declared.order_state.OrderState.TheVariants.{Live, Dead}
use Rattle.order_law.specs.declared.trade.Trade.{Trade}
use Rattle.order_law.specs.Life.{Life, born, stands_as, is_working, life}
use Rattle.order_law.specs.Lawful.{works_as, may_leave as life_may_leave}
use Rattle.market_law.specs.declared.choice.Choice.{Choice}
use Rattle.market_law.specs.declared.choice.Choice.TheVariants as choose
use Rattle.market_law.specs.declared.choice.Letter.{Letter}
use Rattle.market_law.specs.declared.choice.Trading.{Trading}
use Rattle.market_law.specs.Messages.{Token, canceled, executed, replaced_with, rejected, entered_token, to_token}
use Rattle.market_law.specs.Messages.{cancel_pending, cancel_reject, system_event}
use Rattle.market_law.specs.Numbers.{shares-fit, some-shares, is-less, less-than-most}
use Rattle.market_law.specs.Machine.{Machine, BookOrder, Step, is_token_used, change, with_live_order, opened_in_book}
use Rattle.market_law.specs.Machine.{unopened, taken_off, moved, has_trade, broken_off, without, accept, reject_token}
use Rattle.market_law.specs.Machine.{move, ToEnter, Takes, Rejects, to_enter, ToReplace, Replaces, TakesOff, Keeps}
use Rattle.market_law.specs.Machine.{to_replace, ToCancel, Cancels, Waits, Denies, to_cancel, enter, replace}
use Rattle.market_law.specs.Machine.{replace_on, cancel, cancel_on, live_order, live_of, inbound, act, is_open_for}
use Rattle.market_law.specs.Machine.{may_trade, minimum_of}
use Rattle.market_law.specs.Machine.{trade_by, trade_on, take_off_on, break_on, says_nothing, saying, is_live_as}
use Rattle.market_law.specs.Machine.{traded_in_book}
use Rattle.market_law.specs.Run.{life_in_book, Move, Comes, Acts, moves, ran}
use Rattle.market_law.specs.Said.{is_new_match, names, OnOrder, OnReplace, OnTerms, IsSaid, EachSaid}
pub use Rattle.market_law.specs.Moves.{IsKnown}
use Rattle.market_law.proofs.Basics.{Each, eq-is, or-case, each-all, each-both, any-each}
use Rattle.market_law.proofs.Sound.{holds, vacant, is_match, IsChain, IsSound, root-in, live-in, live-is}
use Rattle.market_law.proofs.Books.{is-open, is-first, is-in, live-chain, open-lived}
use Rattle.market_law.proofs.Runs.{ran-Sound, free-token}

-- what holds of each chain holds of each where one becomes another
pub each-change : (P : BookOrder → Type 0) (p : BookOrder → Bool) (f : BookOrder → BookOrder) (cs : List BookOrder)
    → ((c : BookOrder) → P c → P (f c)) → Each P cs → Each P (change p f cs)
each-change P p f [] g e = tt
each-change P p f (c ∷ cs) g e = by_test (p c) (each-change P p f cs g e.1)
  where
    by_test : (b : Bool) → Each P (change p f cs) → Each P (if b then f c ∷ cs else c ∷ change p f cs)
    by_test true rest = (g c e.0, e.1)
    by_test false rest = (e.0, rest)

-- and where the first that passes becomes another, which holds of it
pub each-first : (P : BookOrder → Type 0) (p : BookOrder → Bool) (f : BookOrder → BookOrder) (cs : List BookOrder)
    (c : BookOrder) → find p cs ≡ Some c → P (f c) → Each P cs → Each P (change p f cs)
each-first P p f [] c e k each = absurd (cc)
each-first P p f (x ∷ xs) c e k each = by_test (p x) e (λ h. each-first P p f xs c h k each.1)
  where
    by_test : (b : Bool) → (if b then Some x else find p xs) ≡ Some c → (find p xs ≡ Some c → Each P (change p f xs))
        → Each P (if b then f x ∷ xs else x ∷ change p f xs)
    by_test true h later = let is : x ≡ c = cc in (subst (λ y. P (f y)) (sym is) k, each.1)
    by_test false h later = (each.0, later h)

pub found-passes : {A : Type 0} (P : A → Type 0) (p : A → Bool) (xs : List A) (x : A) → find p xs ≡ Some x → Each P xs
    → P x × (p x ≡ true)
found-passes P p [] x e each = absurd (cc)
found-passes {A = A} P p (y ∷ ys) x e each = by_test (p y) refl e (λ f. found-passes P p ys x f each.1)
  where
    by_test : (b : Bool) → p y ≡ b → (if b then Some y else find p ys) ≡ Some x
        → (find p ys ≡ Some x → P x × (p x ≡ true)) → P x × (p x ≡ true)
    by_test true is found later = let same : y ≡ x = cc in subst (λ z. P z × (p z ≡ true)) same (each.0, is)
    by_test false is found later = later found

module _ (root_of : List ℕ → Option (List ℕ)) (P : Inbound → Type 0) where
  -- a chain's tokens lead to its order, which was asked for
  pub record IsPlaced (c : BookOrder) : Type 0 where
    pub leads : (t : List ℕ) → holds t c ≡ true → root_of t ≡ Some c.entered.token
    pub was_entered : P (asked.Enter c.entered)

  pub record IsTold (m : Machine) (said : List Outbound) : Type 0 where
    pub placed : Each IsPlaced m.book
    pub named : (t : List ℕ) → is_token_used m t ≡ list_any (names t) said
    pub each : EachSaid root_of P said

  off-placed : (q : ℕ) (c : BookOrder) → IsPlaced c → IsPlaced (taken_off q c)
  off-placed q c k = record { leads = k.leads; was_entered = k.was_entered }

  traded-placed : (n : ℕ) (x : Trading) (c : BookOrder) → IsPlaced c → IsPlaced (traded_in_book n x c)
  traded-placed n x c k = record { leads = k.leads; was_entered = k.was_entered }

  broken-placed : (k : ℕ) (c : BookOrder) → IsPlaced c → IsPlaced (broken_off k c)
  broken-placed k c = by_found (find (stands_as k) c.trades)
    where
      by_found : (x : Option Trade) → IsPlaced c → IsPlaced (without k x c)
      by_found None e = e
      by_found (Some y) e = record { leads = e.leads; was_entered = e.was_entered }

  module _ (m : Machine) (said : List Outbound) (s : IsSound m said) (T : IsTold m said) where
    abbrev Keeping : Step → Type 0
    Keeping p = IsTold p.machine (p.says ++ said)

    -- ---- a live chain of a token
    module _ (t : List ℕ) (c : BookOrder) (at : live_order m t ≡ Some c) where
      chain : IsChain m said c
      chain = live-chain m said t c at s

      place : IsPlaced c
      place = (found-passes IsPlaced (is_live_as t) m.book c at T.placed).0

      leads-t : root_of t ≡ Some c.entered.token
      leads-t = place.leads t (is-in m said t c at s)

      leads-live : root_of (live_of c).bytes ≡ Some c.entered.token
      leads-live = place.leads (live_of c).bytes (live-in c)

      works-t : (side : ℕ) → works_as (life c.entered.token side said) t ≡ true
      works-t side = rw (chain.book side, is-first m said t c at s)
          (ap is_working (open-lived side c (is-open m said t c at s)))

      works : (side : ℕ) → works_as (life c.entered.token side said) (live_of c).bytes ≡ true
      works side = rw (chain.book side, live-is c) (ap is_working (open-lived side c (is-open m said t c at s)))

      -- it works, and what the machine tests of the chain
      on-order : (test : Life → Bool) → ((side : ℕ) → test (life_in_book side c) ≡ true)
          → OnOrder root_of P (live_of c).bytes (λ l. works_as l (live_of c).bytes && test l) said
      on-order test e = (c.entered.token, leads-live, λ side. rw (works side) (rw (chain.book side) (e side)))

      working : OnOrder root_of P (live_of c).bytes (λ l. works_as l (live_of c).bytes) said
      working = (c.entered.token, leads-live, works)

      off-told : (q : ℕ) (fit : q < 2 ^ 32) → is_open_for q c ≡ true
          → IsTold (with_live_order t (taken_off q) m) (canceled (live_of c) q fit ∷ said)
      off-told q fit may = record {
        placed = each-change IsPlaced (is_live_as t) (taken_off q) m.book (off-placed q) T.placed;
        named = T.named;
        each = (on-order (life_may_leave q) (λ side. may), T.each);
      }

      all-may : is_open_for c.unfilled c ≡ true
      all-may = let o = is-open m said t c at s in grind (arith, nat_tests)

      traded-told : (x : Trading) (fit : suc m.matches < 2 ^ 64) → is_open_for x.shares c ≡ true
          → IsTold (record m {
            matches = suc m.matches;
            book =
                change (is_live_as t) (traded_in_book (suc m.matches) x) m.book;
          })
          (executed (live_of c) x (suc m.matches) fit ∷ said)
      traded-told x fit may = record {
        placed = each-change IsPlaced (is_live_as t) (traded_in_book (suc m.matches) x) m.book
            (traded-placed (suc m.matches) x) T.placed;
        named = T.named;
        each = (
          on-order (λ l. life_may_leave x.shares l && is_new_match (suc m.matches) l)
              (λ side. rw (may, fresh_match) refl),
          T.each,
        );
      }
        where
          other : (i : ℕ) → nat_le i m.matches ≡ true → (i == suc m.matches) ≡ false
          other i e = grind (arith, nat_tests)

          fresh_match : list_any (λ (y : Trade). y.match_number == suc m.matches) c.trades ≡ false
          fresh_match = any-each (λ (y : Trade). y.match_number == suc m.matches) c.trades
              (each-all (λ (y : Trade). is_match m y.match_number ≡ true)
              (λ (y : Trade). (y.match_number == suc m.matches) ≡ false) c.trades
              (λ y e. other y.match_number e) chain.matched)

    -- ---- a replace of a live chain
    module _ (r : Replace) (same : root_of r.replacement_token ≡ root_of r.token) (was : P (asked.Replace r)) (c : BookOrder) (at : live_order m r.token ≡ Some c) (unused : is_token_used m r.replacement_token ≡ false) where
      replace-told : OnReplace root_of P r.token r.replacement_token said
      replace-told = record {
        root = c.entered.token;
        leads_root = (place r.token c at).leads c.entered.token (root-in c);
        leads_from = leads-t r.token c at;
        leads_to = same ∙ leads-t r.token c at;
        works = works-t r.token c at;
        request = r;
        was_asked = was;
        is_from = refl;
        is_to = refl;
        unnamed = sym (T.named r.replacement_token) ∙ unused;
      }

      moved-told : (left : ℕ) (most : left ≤ 999_999) (state : OrderState) → r.shares - c.executed ≡ left
          → Keeping (move m r c state left most)
      unfolding replace-told
      moved-told zero most state is = off-told r.token c at c.unfilled c.unfilled_set (all-may r.token c at)
      moved-told (suc left) most state is = record {
        placed = by_place (is_live_as r.token) m.book at T.placed;
        named = λ u. ap (λ b. bytes_eq u r.replacement_token || b) (T.named u);
        each = ((replace-told, terms), T.each);
      }
        where
          made : Replaced
          made = replaced_with c.entered r (suc left) (some-shares left, most) state

          terms : OnTerms root_of P c.entered.token r made said
          terms = record {
            order = c.entered;
            was_entered = (place r.token c at).was_entered;
            is_root = refl;
            is_answer = refl;
            is_left = λ side. sym is ∙ ap (λ (l : Life). r.shares - l.executed) (sym ((chain r.token c at).book side));
          }

          lead : (u : List ℕ) → (bytes_eq u r.replacement_token || holds u c) ≡ true → root_of u ≡ Some c.entered.token
          lead u h = ⊎_elim (λ x. rw (eq-is u r.replacement_token x) (same ∙ leads-t r.token c at))
              (λ x. (place r.token c at).leads u x) (or-case (bytes_eq u r.replacement_token) (holds u c) h)

          moved-placed : (b : OrderState) → IsPlaced (moved r (suc left) (shares-fit (suc left) most) b c)
          moved-placed Live = record { leads = lead; was_entered = (place r.token c at).was_entered }
          moved-placed Dead = record { leads = lead; was_entered = (place r.token c at).was_entered }

          f : BookOrder → BookOrder
          f = moved r (suc left) (shares-fit (suc left) most) state

          by_place : (p : BookOrder → Bool) (cs : List BookOrder) → find p cs ≡ Some c → Each IsPlaced cs
              → Each IsPlaced (change p f cs)
          by_place p [] e each = absurd (cc)
          by_place p (x ∷ xs) e each = by_test (p x) e (λ f. by_place p xs f each.1)
            where
              by_test : (b : Bool) → (if b then Some x else find p xs) ≡ Some c
                  → (find p xs ≡ Some c → Each IsPlaced (change p f xs))
                  → Each IsPlaced (if b then f x ∷ xs else x ∷ change p f xs)
              by_test true found later = let is : x ≡ c = cc in
                  (subst (λ y. IsPlaced (f y)) (sym is) (moved-placed state), each.1)
              by_test false found later = (each.0, later found)

    -- ---- moves

    rejected-told : (token : Token) (reason : Letter) → is_token_used m token.bytes ≡ false
        → IsSaid root_of P (rejected token reason) said → Keeping (reject_token m token reason)
    rejected-told token reason unused is = record
        { placed = T.placed; named = λ u. ap (λ b. bytes_eq u token.bytes || b) (T.named u); each = (is, T.each) }

    born-told : (t : List ℕ) → is_token_used m t ≡ false → (side : ℕ) → life t side said ≡ born t side
    born-told t unused side = s.outside t (free-token m said t unused s) side ∙ ap (λ b. vacant b t side) unused

    accepted-told : (order : EnterOrder) (state : OrderState) → root_of order.token ≡ Some order.token
        → P (asked.Enter order) → is_token_used m order.token ≡ false → Keeping (accept m order state)
    accepted-told order state leads was unused = record {
      placed = (new state, T.placed);
      named = λ u. ap (λ b. bytes_eq u order.token || b) (T.named u);
      each = (((leads, born-told order.token unused, sym (T.named order.token) ∙ unused), (order, was, refl)), T.each);
    }
      where
        own : (u : List ℕ) → (bytes_eq u order.token || false) ≡ true → root_of u ≡ Some order.token
        own u h = ⊎_elim (λ x. rw (eq-is u order.token x) leads) (λ x. absurd (cc))
            (or-case (bytes_eq u order.token) false h)

        new : (b : OrderState) → IsPlaced (opened_in_book order.shares (shares-fit order.shares order.shares_set.1) b
            (unopened order))
        new Live = record { leads = own; was_entered = was }
        new Dead = record { leads = own; was_entered = was }

    entered : (order : EnterOrder) → root_of order.token ≡ Some order.token → P (asked.Enter order)
        → is_token_used m order.token ≡ false → (answer : ToEnter) → Keeping (enter m order answer)
    entered order leads was n (Takes state) = accepted-told order state leads was n
    entered order leads was n (Rejects reason) =
        rejected-told (entered_token order) reason n
        (inl (leads, born-told order.token n, sym (T.named order.token) ∙ n))

    replaced : (r : Replace) → root_of r.replacement_token ≡ root_of r.token → P (asked.Replace r) → (c : BookOrder)
        → live_order m r.token ≡ Some c → is_token_used m r.replacement_token ≡ false → (answer : ToReplace)
        → Keeping (replace m r c answer)
    replaced r same was c at n (Replaces state) =
        moved-told r same was c at n (r.shares - c.executed)
        (less-than-most r.shares c.executed r.shares_set.1) state refl
    replaced r same was c at n TakesOff = off-told r.token c at c.unfilled c.unfilled_set (all-may r.token c at)
    replaced r same was c at n (Keeps reason) =
        rejected-told (to_token r) reason n (inr (r.token, replace-told r same was c at n))

    neutral-told : (a : Outbound) → IsSaid root_of P a said → ((t : List ℕ) → names t a ≡ false) → Keeping (saying m a)
    neutral-told a is none = record {
      placed = T.placed;
      named = λ u. T.named u ∙ rw (none u) refl;
      each =
          (is, T.each);
    }

    cancelled : (t : List ℕ) (c : BookOrder) → live_order m t ≡ Some c → (answer : ToCancel)
        → Keeping (cancel m t c answer)
    cancelled t c e Cancels = off-told t c e c.unfilled c.unfilled_set (all-may t c e)
    cancelled t c e Waits = neutral-told (cancel_pending (live_of c)) (working t c e) (λ u. refl)
    cancelled t c e Denies = neutral-told (cancel_reject (live_of c)) (working t c e) (λ u. refl)

    answered-told : (i : Inbound) (choice : Choice) → (IsKnown root_of P) (Comes i choice)
        → Keeping (inbound m i choice)
    answered-told (asked.Enter order) choice k = by_used (is_token_used m order.token) refl
      where
        by_used : (b : Bool) → is_token_used m order.token ≡ b
            → Keeping (if b then says_nothing m else enter m order (to_enter choice))
        by_used true e = T
        by_used false e = entered order k.0 k.1 e (to_enter choice)
    answered-told (asked.Replace r) choice k = by_chain (live_order m r.token) refl
      where
        by_chain : (x : Option BookOrder) → live_order m r.token ≡ x → Keeping (replace_on m r choice x)
        by_chain None e = T
        by_chain (Some c) e = by_used (is_token_used m r.replacement_token) refl
          where
            by_used : (b : Bool) → is_token_used m r.replacement_token ≡ b
                → Keeping (if b then says_nothing m else replace m r c (to_replace choice))
            by_used true n = T
            by_used false n = replaced r k.0 k.1 c e n (to_replace choice)
    answered-told (asked.Cancel r) choice k = by_chain (live_order m r.token) refl
      where
        by_chain : (x : Option BookOrder) → live_order m r.token ≡ x → Keeping (cancel_on m r choice x)
        by_chain None e = T
        by_chain (Some c) e = by_shares (r.shares == 0)
          where
            by_shares : (b : Bool) → Keeping (if b then cancel m r.token c (to_cancel choice) else says_nothing m)
            by_shares true = cancelled r.token c e (to_cancel choice)
            by_shares false = T

    acted-told : (choice : Choice) → Keeping (act m choice)
    acted-told (choose.Execute x) = by_chain (live_order m x.token) refl
      where
        by_chain : (found : Option BookOrder) → live_order m x.token ≡ found → Keeping (trade_on m x found)
        by_chain None e = T
        by_chain (Some c) e = by_test (may_trade x.shares c) refl
          where
            by_number : is_open_for x.shares c ≡ true → (b : Bool) (z : nat_lt (suc m.matches) (2 ^ 64) ≡ b)
                → Keeping (trade_by m x c b z)
            by_number may true z = traded-told x.token c e x (is-less (suc m.matches) (2 ^ 64) z) may
            by_number may false z = T

            by_test : (b : Bool) → may_trade x.shares c ≡ b
                → Keeping (if b then trade_by m x c (nat_lt (suc m.matches) (2 ^ 64)) refl else says_nothing m)
            by_test true z = by_number (and-parts (is_open_for x.shares c)
                (c.has_traded || nat_le (minimum_of c) x.shares) z).0 (nat_lt (suc m.matches) (2 ^ 64)) refl
            by_test false z = T
    acted-told (choose.TakeOff x) = by_chain (live_order m x.token) refl
      where
        by_chain : (found : Option BookOrder) → live_order m x.token ≡ found → Keeping (take_off_on m x found)
        by_chain None e = T
        by_chain (Some c) e = by_test (is_open_for x.shares c) refl
          where
            by_test : (b : Bool) → is_open_for x.shares c ≡ b
                → Keeping (if b then saying (with_live_order x.token (taken_off x.shares) m)
                (canceled (live_of c) x.shares x.shares_set) else says_nothing m)
            by_test true z = off-told x.token c e x.shares x.shares_set z
            by_test false z = T
    acted-told (choose.Break x) = by_chain (find (has_trade x.match_number) m.book) refl
      where
        by_chain : (found : Option BookOrder) → find (has_trade x.match_number) m.book ≡ found
            → Keeping (break_on m x found)
        by_chain None e = T
        by_chain (Some c) e =
            let k = found-passes (λ d. IsPlaced d × IsChain m said d) (has_trade x.match_number) m.book c e
            (each-both IsPlaced (IsChain m said) m.book T.placed s.each) in
            record {
              placed = each-change IsPlaced (has_trade x.match_number) (broken_off x.match_number) m.book
                  (broken-placed x.match_number) T.placed;
              named = T.named;
              each = (
                (
                  c.entered.token,
                  k.0.0.leads (live_of c).bytes (live-in c),
                  λ side. rw
                      (k.0.1.book side, live-in c) k.1,
                ),
                T.each,
              );
            }
    acted-told (choose.SystemEvent event) = neutral-told (system_event event) tt (λ u. refl)
    acted-told choose.AcceptLive = T
    acted-told choose.AcceptDead = T
    acted-told (choose.Refuse reason) = T
    acted-told choose.Nothing = T

    pub moves-told : (v : Move) → (IsKnown root_of P) v → Keeping (moves m v)
    moves-told (Comes i choice) k = answered-told i choice k
    moves-told (Acts choice) k = acted-told choice

  -- THE SECOND THEOREM of the machine alone
  pub ran-told : (vs : List Move) → Each (IsKnown root_of P) vs → IsTold (ran vs).machine (ran vs).said
  ran-told [] ok = record { placed = tt; named = λ t. refl; each = tt }
  ran-told (v ∷ vs) ok = moves-told (ran vs).machine (ran vs).said (ran-Sound vs) (ran-told vs ok.1) v ok.0
