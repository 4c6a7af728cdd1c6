-- What one turn is to a port: it handles a message of the port, or none.
use Rattle.std.proofs.Common.{◌≡◌, ℕ, Bool, true, false, List, [], ◌∷◌, ◌++◌, filter, refl, sym, ap, ◌∙◌, subst}
use Rattle.std.proofs.Common.{bytes_eq, Option, Some, None, ◌⊎◌, inl, inr, eqb-true, eq-eqb, Ok, Err}
use Rattle.std.specs.Prelude.{◌&&◌, ◌||◌, ◌==◌, not, if◌then◌else◌}
use Rattle.std.specs.List.{list_any}
use Rattle.order_law.specs.ouch_codec.declared.outbound.Outbound.{Outbound}
use Rattle.order_law.specs.ouch_codec.declared.outbound.Outbound.TheVariants as market
use Rattle.order_law.specs.ouch_codec.declared.outbound.rejected.Rejected.{Rejected}
use Rattle.order_law.specs.Life.{is_closed}
use Rattle.order_law.specs.History.{Terms, OrderEvent, Came, Heard, OrderHistory, OrderTurn, Asked, Entry, SaysReplace}
use Rattle.order_law.specs.History.{accepted, answers, asks_of, entry_at, from_token, handled, is_answered, issued}
use Rattle.order_law.specs.History.{life_of, next_tokens, outstanding}
use Rattle.order_law.specs.Lawful.{judgement, order_of_token}
use Rattle.order_law.specs.Headline.{TurnOf}
use Rattle.order_machine.proofs.Texts.{eq-is, eq-same, eq-true, not-both}
use Rattle.order_machine.proofs.Lists.{append-nothing}
use Rattle.market_law.specs.Said.{names}
use Rattle.market_law.proofs.Basics.{is-false}
use Rattle.world_law.specs.Asked.{sender, asked, IsIn, IsOfOrder, TokensLead, AlwaysOfOrders}
use Rattle.world_law.proofs.Members.{each-in, filter-passed, in-filter, in-filtered, in-left, in-parts, in-right}
use Rattle.world_law.proofs.Known.{IsAskedFor, asked-for, from-among}

pub of-order : (terms : List Terms) (port : ℕ) (a : Asked) (h : OrderHistory) → AlwaysOfOrders terms port h
    → IsIn a (asked terms port h) → IsOfOrder terms port (accepted terms h) a
of-order terms port a [] always i = absurd i
of-order terms port a (t ∷ before) always i =
    each-in (IsOfOrder terms port (accepted terms (t ∷ before))) a (asked terms port (t ∷ before)) always.0 i

-- a message that is no fault on a port names no token that the port doesn't know
no-stranger : (terms : List Terms) (q : ℕ) (before : OrderHistory) (to : List ℕ) (m : Outbound)
    → order_of_token terms q (accepted terms before) to ≡ None
    → judgement terms q (Ok m) before ≡ None → names to m ≡ false
no-stranger terms q before to (market.SystemEvent m) none j = refl
no-stranger terms q before to (market.Accepted m) none j =
    is-false _ (λ e. (let here : order_of_token terms q (accepted terms before) m.token ≡ None =
    ap (order_of_token terms q (accepted terms before)) (sym (eq-is to m.token e)) ∙ none in let x = rw here at j in
    cc))
no-stranger terms q before to (market.Replaced m) none j =
    is-false _ (λ e. (let here : order_of_token terms q (accepted terms before) m.token ≡ None =
    ap (order_of_token terms q (accepted terms before)) (sym (eq-is to m.token e)) ∙ none in let x = rw here at j in
    cc))
no-stranger terms q before to (market.Canceled m) none j = refl
no-stranger terms q before to (market.Executed m) none j = refl
no-stranger terms q before to (market.Broken m) none j = refl
no-stranger terms q before to (market.Rejected m) none j =
    is-false _ (λ e. (let here : order_of_token terms q (accepted terms before) m.token ≡ None =
    ap (order_of_token terms q (accepted terms before)) (sym (eq-is to m.token e)) ∙ none in let x = rw here at j in
    cc))
no-stranger terms q before to (market.CancelPending m) none j = refl
no-stranger terms q before to (market.CancelReject m) none j = refl
no-stranger terms q before to market.Skipped none j = refl

-- what answers a replace names its token, or is the Rejected of one before it
pub record IsRejectedBy (m : Outbound) (next : List (List ℕ)) (to : List ℕ) : Type 0 where
  pub by : Rejected
  pub is : m ≡ market.Rejected by
  pub behind : list_any (bytes_eq to) (from_token by.token next) ≡ true

pub answered-by : (m : Outbound) (next : List (List ℕ)) (from to : List ℕ) → answers m next (SaysReplace from to) ≡ true
    → (names to m ≡ true) ⊎ IsRejectedBy m next to
answered-by (market.Replaced m) next from to e = inl (eq-true to m.token (sym (eq-is m.token to e)))
answered-by (market.Rejected m) next from to e = inr (record { by = m; is = refl; behind = e })
answered-by (market.Accepted m) next from to e = absurd (cc)
answered-by (market.SystemEvent m) next from to e = absurd (cc)
answered-by (market.Canceled m) next from to e = absurd (cc)
answered-by (market.Executed m) next from to e = absurd (cc)
answered-by (market.Broken m) next from to e = absurd (cc)
answered-by (market.CancelPending m) next from to e = absurd (cc)
answered-by (market.CancelReject m) next from to e = absurd (cc)
answered-by market.Skipped next from to e = absurd (cc)

-- what isn't answered and isn't closed is kept
kept-both : (b c : Bool) → not (b || c) ≡ true → b ≡ false
kept-both true c e = absurd (cc)
kept-both false c e = refl

-- ---- what a turn is to a port

module _ (terms : List Terms) (port : ℕ) (before : OrderHistory) where
  abbrev A0 : List Entry
  A0 = accepted terms before

  abbrev M0 : List Outbound
  M0 = handled port before

  abbrev O0 : List Asked
  O0 = outstanding terms port before

  abbrev pub asks_now : OrderEvent → List Asked
  asks_now e = asks_of terms port (entry_at terms e before) A0 (issued (sender e) before) M0

  -- it handles none
  pub record Passes (t : OrderTurn) : Type 0 where
    pub handled_so : handled port (t ∷ before) ≡ handled port before
    pub kept : (a : Asked) → IsIn a (outstanding terms port (t ∷ before))
        → IsIn a (outstanding terms port before) ⊎ IsIn a (asks_now t.event)
    pub left : (a : Asked) (from to : List ℕ) → a.said ≡ SaysReplace from to → IsIn a (asked terms port before)
        → IsIn a (outstanding terms port before)
        → is_closed (life_of a.order (accepted terms before) (handled port before)).stage ≡ false
        → IsIn a (outstanding terms port (t ∷ before))
    pub new : (a : Asked) → IsIn a (asks_now t.event) → IsIn a (outstanding terms port (t ∷ before))

  -- it handles this one
  pub record Handles (t : OrderTurn) (m : Outbound) : Type 0 where
    pub lawful : judgement terms port (Ok m) before ≡ None
    pub handled_so : handled port (t ∷ before) ≡ m ∷ handled port before
    pub same_entries : accepted terms (t ∷ before) ≡ accepted terms before
    pub kept : (a : Asked) → IsIn a (outstanding terms port (t ∷ before))
        → IsIn a (outstanding terms port before) × (is_answered m (outstanding terms port before) a ≡ false)
    pub left : (a : Asked) → IsIn a (outstanding terms port before)
        → is_answered m (outstanding terms port before) a ≡ false
        → is_closed (life_of a.order (accepted terms before) (m ∷ handled port before)).stage ≡ false
        → IsIn a (outstanding terms port (t ∷ before))
    pub none : (a : Asked) → IsIn a (asks_now t.event) → ⊥

  abbrev pub Does : OrderTurn → Type 0
  Does t = Passes t ⊎ ((m : Outbound) × Handles t m)

  module _ (always : AlwaysOfOrders terms port before) (was_asked : (a : Asked) → IsIn a O0 → IsIn a (asked terms port before)) where
    -- what a token of a replace of the port is to another port
    elsewhere : (a : Asked) (from to : List ℕ) → a.said ≡ SaysReplace from to → IsIn a (asked terms port before)
        → (q : ℕ) → (q ≡ port → ⊥) → order_of_token terms q A0 to ≡ None
    elsewhere a from to is i q apart =
        let o = of-order terms port a before always i in
        (subst (TokensLead terms port A0 o.new) is o.tokens).1.elsewhere q apart

    -- a message that is no fault on another port answers no replace of this one
    unanswered : (q : ℕ) → (q ≡ port → ⊥) → (m : Outbound) → judgement terms q (Ok m) before ≡ None
        → (a : Asked) (from to : List ℕ) → a.said ≡ SaysReplace from to → IsIn a (asked terms port before)
        → is_answered m O0 a ≡ false
    unanswered q apart m lawful a from to is i =
        is-false _ (λ e. by_answer (answered-by m (next_tokens a.order O0) from to (rw is at e)))
      where
        by_answer : (names to m ≡ true) ⊎ IsRejectedBy m (next_tokens a.order O0) to → ⊥
        by_answer (inl named) = not-both (names to m) named
            (no-stranger terms q before to m (elsewhere a from to is i q apart) lawful)
        by_answer (inr r) =
            let other : IsAskedFor a.order r.by.token O0 =
            asked-for a.order r.by.token O0 (from-among (bytes_eq to) r.by.token (next_tokens a.order O0) r.behind)
            in
            let unnamed = no-stranger terms q before r.by.token m
            (elsewhere other.asks other.from r.by.token other.says (was_asked other.asks other.there) q apart)
            lawful in
            not-both (names r.by.token m) (ap (names r.by.token) r.is ∙ eq-same r.by.token) unnamed

    -- what a message leaves of what is outstanding
    abbrev left_by : Outbound → List Outbound → List Asked
    left_by m messages = filter (λ (a : Asked). not
        (is_answered m O0 a || is_closed (life_of a.order A0 messages).stage)) O0

    in-left-by : (m : Outbound) (messages : List Outbound) (a : Asked) → IsIn a O0 → is_answered m O0 a ≡ false
        → is_closed (life_of a.order A0 messages).stage ≡ false → IsIn a (left_by m messages)
    in-left-by m messages a i left_out still =
        in-filter (λ (b : Asked). not (is_answered m O0 b || is_closed (life_of b.order A0 messages).stage)) a O0
        (rw (left_out, still) refl) i

    only-left : (xs : List Asked) (a : Asked) → IsIn a (xs ++ []) → IsIn a xs
    only-left xs a i = subst (IsIn a) (append-nothing xs) i

    by_event : (t : OrderTurn) (e : OrderEvent) (fault : Option ℕ)
        → TurnOf terms e (record t { event = e; fault = fault }) before → Does (record t { event = e; fault = fault })
    by_event t (Came client m s) fault turn = inl (record {
      handled_so = refl;
      kept = λ a i. in-parts a O0 _ i;
      left = λ a from to is there i still. in-left a O0 _ i;
      new = λ a i. in-right a O0 _ i;
    })
    by_event t (Heard p (Err r)) fault turn = inl (record {
      handled_so = refl;
      kept = λ a i. inl (only-left O0 a i);
      left = λ a from to is there i still. in-left a O0 [] i;
      new = λ a i. absurd i;
    })
    by_event t (Heard p (Ok m)) (Some n) turn = inl (record {
      handled_so = unheard (p == port);
      kept = λ a i. inl (only-left O0 a i);
      left = λ a from to is there i still. in-left a O0 [] i;
      new = λ a i. absurd i;
    })
      where
        unheard : (b : Bool) → (if b && false then m ∷ M0 else M0) ≡ M0
        unheard true = refl
        unheard false = refl
    by_event t (Heard p (Ok m)) None turn = by_port (p == port) refl
      where
        x : OrderTurn
        x = record t { event = Heard p (Ok m); fault = None }

        lists : (messages : List Outbound) → handled port (x ∷ before) ≡ messages
            → outstanding terms port (x ∷ before) ≡ left_by m messages
        lists messages e = append-nothing (left_by m (handled port (x ∷ before))) ∙ ap (left_by m) e

        by_port : (b : Bool) → (p == port) ≡ b → Does x
        by_port true e =
            let here : handled port (x ∷ before) ≡ m ∷ M0 = rw e refl in
            inr (
              m,
              record {
                lawful = subst (λ (q : ℕ). judgement terms q (Ok m) before ≡ None) (eqb-true p port e) (sym turn.fault);
                handled_so = here;
                same_entries = refl;
                kept = λ a i. (let j = subst (IsIn a) (lists (m ∷ M0) here) i in (
                  in-filtered _ a O0 j,
                  kept-both (is_answered m O0 a) (is_closed (life_of a.order A0 (m ∷ M0)).stage)
                      (filter-passed (λ (b : Asked). not (is_answered m O0 b
                      || is_closed (life_of b.order A0 (m ∷ M0)).stage)) a O0 j),
                ));
                left = λ a i left_out still. subst (IsIn a) (sym (lists (m ∷ M0) here))
                    (in-left-by m (m ∷ M0) a i left_out still);
                none = λ a i. i;
              },
            )
        by_port false e =
            let away : handled port (x ∷ before) ≡ M0 = rw e refl in
            inl (record {
              handled_so = away;
              kept = λ a i. inl (in-filtered _ a O0 (subst (IsIn a) (lists M0 away) i));
              left = λ a from to is there i still. subst (IsIn a) (sym (lists M0 away)) (in-left-by m M0 a i
                  (unanswered p (λ same. not-both (p == port) (eq-eqb p port same) e) m
                  (sym turn.fault) a from to is there) still);
              new = λ a i. absurd i;
            })

    pub does : (t : OrderTurn) → TurnOf terms t.event t before → Does t
    does t turn = by_event t t.event t.fault turn
