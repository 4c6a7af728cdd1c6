-- The ClOrdIDs in the bodies that a message of the market leads to, and how many of them are reports.
use Rattle.std.proofs.Common.{◌≡◌, ℕ, ◌+◌, ◌≤◌, Bool, true, false, List, [], ◌∷◌, ◌++◌, map, refl, sym, ap, ◌∙◌, subst}
use Rattle.std.proofs.Common.{arith, codes, Option, Some, None}
use Rattle.std.specs.Prelude.{◌&&◌, ◌||◌, if◌then◌else◌, filter, option_map, unwrap_or}
use Rattle.std.specs.List.{count_by, find}
use Rattle.order_law.specs.ouch_codec.declared.outbound.Outbound.{Outbound}
use Rattle.order_law.specs.ouch_codec.declared.outbound.Outbound.TheVariants as market
use Rattle.order_law.specs.ouch_codec.declared.outbound.replaced.Replaced.{Replaced}
use Rattle.order_law.specs.ouch_codec.declared.order_state.OrderState.{OrderState}
use Rattle.fix_fields.specs.Field.{Message, is, text}
use Rattle.order_law.specs.Life.{Life, after, is_closed, is_dead, is_live, is_waiting}
use Rattle.order_law.specs.Reading.{Fill, is_report}
use Rattle.order_law.specs.Chain.{is_used}
use Rattle.order_law.specs.Verdicts.{is_replace}
use Rattle.order_law.specs.History.{Entry}
use Rattle.order_law.specs.Told as told
use Rattle.order_law.specs.Told.{Occasion, Shown, report, told_by}
use Rattle.order_law.specs.Headline.{Each}
use Rattle.order_machine.proofs.Texts.{eq-is, or-true}
use Rattle.order_machine.proofs.Lists.{Each-filter}
use Rattle.order_machine.proofs.Executed.{count-more}
use Rattle.order_machine.proofs.Leads.{onto}

-- ---- ids that are used already

module _ (P : List ℕ → Type 0) where
  abbrev HasId : Message → Type 0
  HasId r = P (text 11 r)

  abbrev OfRequest : Entry → Type 0
  OfRequest q = P (text 11 q.message)

  -- of an order and its pending requests
  abbrev pub OfShown : Shown → Type 0
  OfShown s = P s.id × Each OfRequest s.pending

  too_late-ids : (s : Shown) (qs : List Entry) → Each OfRequest qs → Each HasId (told.each_too_late s qs)
  too_late-ids s [] each = tt
  too_late-ids s (q ∷ qs) each = (each.0, too_late-ids s qs each.1)

  rejects-ids : (s : Shown) (code : ℕ) (why : List ℕ) (qs : List Entry) → Each OfRequest qs
      → Each HasId (map (λ (q : Entry). told.answered_no s q code why) qs)
  rejects-ids s code why [] each = tt
  rejects-ids s code why (q ∷ qs) each = (each.0, rejects-ids s code why qs each.1)

  found-id : (p : Entry → Bool) (id : List ℕ) (qs : List Entry) → P id → Each OfRequest qs
      → P (unwrap_or (option_map (λ (q : Entry). text 11 q.message) (find p qs)) id)
  found-id p id [] own each = own
  found-id p id (q ∷ qs) own each = by_test (p q) (found-id p id qs own each.1)
    where
      by_test : (b : Bool) → P (unwrap_or (option_map (λ (x : Entry). text 11 x.message) (find p qs)) id)
          → P (unwrap_or (option_map (λ (x : Entry). text 11 x.message) (if b then Some q else find p qs)) id)
      by_test true rest = each.0
      by_test false rest = rest

  cancelled-ids : (n : ℕ) (why : Option (List ℕ)) (s : Shown) → OfShown s → Each HasId (told.cancelled n why s)
  cancelled-ids n why s of = (
    found-id told.is_cancel s.id s.pending of.0 of.1,
    too_late-ids (told.without_cancel s) (told.without_cancel s).pending
        (Each-filter OfRequest (λ (q : Entry). is_replace q.message) s.pending of.1),
  )

  cancel_rejected-ids : (is_last : Bool) (s : Shown) → OfShown s → Each HasId (told.cancel_rejected is_last s)
  cancel_rejected-ids true s of = rejects-ids (told.without_cancel s) 2 (codes "cancel rejected by market") (filter told.is_cancel s.pending) (Each-filter OfRequest told.is_cancel s.pending of.1)
  cancel_rejected-ids false s of = tt

  if-ids : (b : Bool) (xs ys : List Message) → Each HasId xs → Each HasId ys → Each HasId (if b then xs else ys)
  if-ids true xs ys x y = x
  if-ids false xs ys x y = y

  append-ids : (xs ys : List Message) → Each HasId xs → Each HasId ys → Each HasId (xs ++ ys)
  append-ids [] ys x y = y
  append-ids (r ∷ xs) ys x y = (x.0, append-ids xs ys x.1 y)

  dead-ids : (n : ℕ) (state : OrderState) (s : Shown) (alive : List Message) → OfShown s → Each HasId alive
      → Each HasId (told.where_dead n state s alive)
  dead-ids n state s alive of each = if-ids (is_dead state) (told.cancelled n None (told.closed s)) alive
      (cancelled-ids n None (told.closed s) of) each

  -- replaces that aren't done, one behind another
  not_replaced-ids : (why : List ℕ) (s : Shown) (qs : List Entry) → Each OfRequest qs
      → Each HasId (told.each_not_replaced why s qs)
  not_replaced-ids why s [] each = tt
  not_replaced-ids why s (q ∷ qs) each = if-ids (is_replace q.message) _ [] (each.0, not_replaced-ids (codes "earlier replace rejected") s qs each.1) tt

  without_first-ids : (p : Entry → Bool) (qs : List Entry) → Each OfRequest qs
      → Each OfRequest (told.without_first p qs)
  without_first-ids p [] each = tt
  without_first-ids p (q ∷ qs) each = by_test (p q) (without_first-ids p qs each.1)
    where
      by_test : (b : Bool) → Each OfRequest (told.without_first p qs)
          → Each OfRequest (if b then qs else q ∷ told.without_first p qs)
      by_test true rest = each.1
      by_test false rest = (each.0, rest)

  found-of : (p : Entry → Bool) (qs : List Entry) (q : Entry) → find p qs ≡ Some q → Each OfRequest qs → OfRequest q
  found-of p qs q e each = Rattle.order_machine.proofs.Finding.Each-found OfRequest p qs q each e

  replaced-ids : (reports : ℕ) (m : Replaced) (is_last : Bool) (s : Shown) → OfShown s
      → Each HasId (told.told_replaced reports m is_last s)
  replaced-ids reports m is_last s of = by_request (find (told.asked_token m.token) s.pending) refl
    where
      by_request : (x : Option Entry) → find (told.asked_token m.token) s.pending ≡ x
          → Each HasId (told.told_replaced reports m is_last s)
      by_request None e = rw e tt
      by_request (Some q) e =
          let mine = found-of (told.asked_token m.token) s.pending q e of.1 in
          let rest : OfShown (told.shown_renamed m q s) =
          (mine, without_first-ids (told.asked_token m.token) s.pending of.1) in
          rw e (
            mine,
            dead-ids (reports + 2) m.order_state (told.shown_renamed m q s)
                (told.cancel_rejected is_last (told.shown_renamed m q s)) rest
                (cancel_rejected-ids is_last (told.shown_renamed m q s) rest),
          )

  pub told-ids : (reports : ℕ) (m : Outbound) (l : Life) (is_last : Bool) (fills : List Fill) (s : Shown) → OfShown s
      → Each HasId (told_by reports m l is_last fills s)
  told-ids reports (market.Accepted m) l is_last fills s of =
      (of.0, dead-ids (reports + 2) m.order_state (told.shown_opened m.shares m.price s) [] of tt)
  told-ids reports (market.Replaced m) l is_last fills s of = replaced-ids reports m is_last s of
  told-ids reports (market.Canceled m) l is_last fills s of =
      if-ids (is_closed (after l (market.Canceled m)).stage) _ _
      (cancelled-ids (reports + 1) (Some (m.reason ∷ [])) (told.lived (after l (market.Canceled m)) s) of) (of.0, tt)
  told-ids reports (market.Executed m) l is_last fills s of = (
    of.0,
    if-ids (is_closed (after l (market.Executed m)).stage) _ _
        (too_late-ids (told.lived (after l (market.Executed m)) s) s.pending of.1) tt,
  )
  told-ids reports (market.Broken m) l is_last fills s of = (of.0, tt)
  told-ids reports (market.Rejected m) l is_last fills s of =
      if-ids (is_waiting l.stage && is_live l m.token) _ _
      (of.0, too_late-ids (record (told.closed s) { is_refused = true }) s.pending of.1)
      (append-ids _ _ (not_replaced-ids (m.reason ∷ []) s s.pending of.1)
      (cancel_rejected-ids is_last (told.without_replaces s)
      (of.0, Each-filter OfRequest told.is_cancel s.pending of.1)))
  told-ids reports (market.CancelReject m) l is_last fills s of = cancel_rejected-ids is_last s of
  told-ids reports (market.CancelPending m) l is_last fills s of = tt
  told-ids reports (market.SystemEvent m) l is_last fills s of = tt
  told-ids reports market.Skipped l is_last fills s of = tt

-- bodies with used ids use up nothing
pub used-onto : (id : List ℕ) (rs sent : List Message) → Each (λ (r : Message). is_used (text 11 r) sent ≡ true) rs
    → is_used id (onto rs sent) ≡ is_used id sent
used-onto id [] sent each = refl
used-onto id (r ∷ rs) sent each = used-onto id rs (r ∷ sent) (more rs each.1) ∙ by_id (is 11 id r) refl
  where
    more : (xs : List Message) → Each (λ (x : Message). is_used (text 11 x) sent ≡ true) xs
        → Each (λ (x : Message). is_used (text 11 x) (r ∷ sent) ≡ true) xs
    more [] each = tt
    more (x ∷ xs) each = (rw each.0 (or-true (is 11 (text 11 x) r)), more xs each.1)

    by_id : (b : Bool) → is 11 id r ≡ b → (b || is_used id sent) ≡ is_used id sent
    by_id true same = sym (ap (λ i. is_used i sent) (sym (eq-is (text 11 r) id same)) ∙ each.0)
    by_id false other = refl

-- ---- how many are reports

abbrev reports_of : List Message → ℕ
reports_of rs = count_by is_report rs

abbrev IsFew : ℕ → List Message → Type 0
IsFew n rs = reports_of rs ≤ n

few-report : (n k : ℕ) (o : Occasion) (s : Shown) (rs : List Message) → IsFew k rs → IsFew (k + 1) (report n o s ∷ rs)
few-report n k o s rs few = let more = count-more is_report (report n o s) rs in omega (arith, few, more)

few-reject : (n : ℕ) (s : Shown) (q : Entry) (code : ℕ) (why : List ℕ) (rs : List Message) → IsFew n rs
    → IsFew n (told.answered_no s q code why ∷ rs)
few-reject n s q code why rs few = let more = count-more is_report (told.answered_no s q code why) rs in
    omega (arith, few, more)

few-none : (n : ℕ) → IsFew n []
few-none n = omega arith

few-too_late : (n : ℕ) (s : Shown) (qs : List Entry) → IsFew n (told.each_too_late s qs)
few-too_late n s [] = few-none n
few-too_late n s (q ∷ qs) = few-reject n (record s { pending = qs }) q 0 (codes "too late") (told.each_too_late s qs) (few-too_late n s qs)

few-rejects : (n : ℕ) (s : Shown) (code : ℕ) (why : List ℕ) (qs : List Entry) (rs : List Message) → IsFew n rs
    → IsFew n (map (λ (q : Entry). told.answered_no s q code why) qs ++ rs)
few-rejects n s code why [] rs few = few
few-rejects n s code why (q ∷ qs) rs few =
    few-reject n s q code why (map (λ (x : Entry). told.answered_no s x code why) qs ++ rs)
    (few-rejects n s code why qs rs few)

few-not_replaced : (n : ℕ) (why : List ℕ) (s : Shown) (qs : List Entry) (rs : List Message) → IsFew n rs
    → IsFew n (told.each_not_replaced why s qs ++ rs)
few-not_replaced n why s [] rs few = few
few-not_replaced n why s (q ∷ qs) rs few = by_kind (is_replace q.message) (few-reject n (record s { pending = qs }) q 2 why (told.each_not_replaced (codes "earlier replace rejected") s qs ++ rs) (few-not_replaced n (codes "earlier replace rejected") s qs rs few))
  where
    by_kind : (b : Bool) → IsFew n (told.answered_no (record s { pending = qs }) q 2 why ∷ (told.each_not_replaced (codes "earlier replace rejected") s qs ++ rs))
        → IsFew n ((if b then told.answered_no (record s { pending = qs }) q 2 why ∷ told.each_not_replaced (codes "earlier replace rejected") s qs else []) ++ rs)
    by_kind true all = all
    by_kind false all = few

few-if : (n : ℕ) (b : Bool) (xs ys : List Message) → IsFew n xs → IsFew n ys → IsFew n (if b then xs else ys)
few-if n true xs ys x y = x
few-if n false xs ys x y = y

few-cancelled : (n number : ℕ) (why : Option (List ℕ)) (s : Shown) → IsFew (n + 1) (told.cancelled number why s)
few-cancelled n number why s = few-report number n (record (told.plain (codes "4")) { request = find told.is_cancel s.pending; why = why }) (told.without_cancel s) (told.too_late (told.without_cancel s)) (few-too_late n (told.without_cancel s) (told.without_cancel s).pending)

append-none : (xs : List Message) → xs ++ [] ≡ xs
append-none [] = refl
append-none (x ∷ xs) = ap (λ ys. x ∷ ys) (append-none xs)

few-cancel_rejected : (n : ℕ) (is_last : Bool) (s : Shown) → IsFew n (told.cancel_rejected is_last s)
few-cancel_rejected n true s =
    subst (IsFew n) (append-none (map (λ (q : Entry). told.answered_no (told.without_cancel s) q 2 (codes "cancel rejected by market")) (filter told.is_cancel s.pending)))
    (few-rejects n (told.without_cancel s) 2 (codes "cancel rejected by market") (filter told.is_cancel s.pending) [] (few-none n))
few-cancel_rejected n false s = few-none n

few-dead : (number : ℕ) (state : OrderState) (s : Shown) (alive : List Message) → IsFew 1 alive
    → IsFew 1 (told.where_dead number state s alive)
few-dead number state s alive few = few-if 1 (is_dead state) (told.cancelled number None (told.closed s)) alive
    (few-cancelled 0 number None (told.closed s)) few

few-replaced : (reports : ℕ) (m : Replaced) (is_last : Bool) (s : Shown)
    → IsFew 2 (told.told_replaced reports m is_last s)
few-replaced reports m is_last s = by_request (find (told.asked_token m.token) s.pending) refl
  where
    by_request : (x : Option Entry) → find (told.asked_token m.token) s.pending ≡ x
        → IsFew 2 (told.told_replaced reports m is_last s)
    by_request None e = rw e (few-none 2)
    by_request (Some q) e = rw e (few-report (reports + 1) 1 (told.on_request (codes "5") q) (told.shown_renamed m q s) (told.where_dead (reports + 2) m.order_state (told.shown_renamed m q s) (told.cancel_rejected is_last (told.shown_renamed m q s)))
        (few-dead (reports + 2) m.order_state (told.shown_renamed m q s)
        (told.cancel_rejected is_last (told.shown_renamed m q s))
        (few-cancel_rejected 1 is_last (told.shown_renamed m q s))))

-- at most two
pub told-few : (reports : ℕ) (m : Outbound) (l : Life) (is_last : Bool) (fills : List Fill) (s : Shown)
    → IsFew 2 (told_by reports m l is_last fills s)
told-few reports (market.Accepted m) l is_last fills s = few-report (reports + 1) 1 (told.plain (codes "0")) (told.shown_opened m.shares m.price s) (told.where_dead (reports + 2) m.order_state (told.shown_opened m.shares m.price s) []) (few-dead (reports + 2) m.order_state (told.shown_opened m.shares m.price s) [] (few-none 1))
told-few reports (market.Replaced m) l is_last fills s = few-replaced reports m is_last s
told-few reports (market.Canceled m) l is_last fills s = few-if 2 (is_closed (after l (market.Canceled m)).stage) _ _ (few-cancelled 1 (reports + 1) (Some (m.reason ∷ [])) (told.lived (after l (market.Canceled m)) s)) (few-report (reports + 1) 1 (record (told.plain (codes "D")) { restated = Some (codes "5"); why = Some (m.reason ∷ []) }) (told.lived (after l (market.Canceled m)) s) [] (few-none 1))
told-few reports (market.Executed m) l is_last fills s = few-report (reports + 1) 1 (record (told.plain (codes "F")) { shares = Some m.shares; at = Some m.price }) (told.lived (after l (market.Executed m)) s) (if is_closed (after l (market.Executed m)).stage then told.too_late (told.lived (after l (market.Executed m)) s) else []) (few-if 1 (is_closed (after l (market.Executed m)).stage) (told.too_late (told.lived (after l (market.Executed m)) s)) [] (few-too_late 1 (told.lived (after l (market.Executed m)) s) s.pending) (few-none 1))
told-few reports (market.Broken m) l is_last fills s = few-report (reports + 1) 1 (record (told.plain (codes "H")) { broken = told.exec_id_of m.match_number l.trades fills; why = Some (m.reason ∷ []) }) (told.lived (after l (market.Broken m)) s) [] (few-none 1)
told-few reports (market.Rejected m) l is_last fills s =
    few-if 2 (is_waiting l.stage && is_live l m.token) _ _
    (few-report (reports + 1) 1 (record (told.plain (codes "8")) { code = Some (codes "99"); why = Some (m.reason ∷ []) }) (record (told.closed s) { is_refused = true }) (told.too_late (record (told.closed s) { is_refused = true })) (few-too_late 1 (record (told.closed s) { is_refused = true }) s.pending))
    (few-not_replaced 2 (m.reason ∷ []) s s.pending (told.cancel_rejected is_last (told.without_replaces s))
    (few-cancel_rejected 2 is_last (told.without_replaces s)))
told-few reports (market.CancelReject m) l is_last fills s = few-cancel_rejected 2 is_last s
told-few reports (market.CancelPending m) l is_last fills s = few-none 2
told-few reports (market.SystemEvent m) l is_last fills s = few-none 2
told-few reports market.Skipped l is_last fills s = few-none 2
