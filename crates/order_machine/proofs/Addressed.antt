-- Each body that a message of the market leads to is on its order, enters none and gives no token.
use Rattle.std.proofs.Common.{◌≡◌, ℕ, ◌+◌, Bool, true, false, List, [], ◌∷◌, ◌++◌, map, reverse, refl, ap, ◌∙◌, codes}
use Rattle.std.proofs.Common.{bytes_eq, Option, Some, None}
use Rattle.std.specs.Prelude.{◌&&◌, ◌||◌, if◌then◌else◌, filter, unwrap_or}
use Rattle.std.specs.List.{find}
use Rattle.std.proofs.Common.{append_assoc}
use Rattle.std.proofs.lemmas.List.{reverse-append}
use Rattle.order_law.specs.ouch_codec.declared.outbound.Outbound.{Outbound}
use Rattle.order_law.specs.ouch_codec.declared.outbound.Outbound.TheVariants as market
use Rattle.order_law.specs.ouch_codec.declared.outbound.replaced.Replaced.{Replaced}
use Rattle.order_law.specs.ouch_codec.declared.order_state.OrderState.{OrderState}
use Rattle.fix_fields.specs.Field.{Message, is, text}
use Rattle.order_law.specs.Life.{Life, after, is_closed, is_dead, is_live, is_waiting}
use Rattle.order_law.specs.Reading.{Fill, is_report}
use Rattle.order_law.specs.Chain.{is_used, orders}
use Rattle.order_law.specs.Verdicts.{is_replace}
use Rattle.order_law.specs.History.{Entry}
use Rattle.order_law.specs.Told as told
use Rattle.order_law.specs.Told.{Occasion, Shown, report, told_by}
use Rattle.order_law.specs.Headline.{Each}
use Rattle.order_machine.proofs.Texts.{or-true}
use Rattle.order_machine.proofs.Bodies.{kind-in}
use Rattle.order_machine.proofs.Due.{Others}
use Rattle.order_machine.proofs.Leads.{onto}

abbrev enters : Message → Bool
enters r = is_report r && is 150 (codes "A") r

-- it tells that a new order or a replace was accepted
abbrev gives : Message → Bool
gives r = is_report r && (is 150 (codes "A") r || is 150 (codes "E") r)

pub record IsOn (order : List ℕ) (r : Message) : Type 0 where
  pub order_is : text 37 r ≡ order
  pub enters_none : enters r ≡ false
  pub gives_none : gives r ≡ false

neither : (a b : Bool) → (a || b) ≡ false → a ≡ false
neither true b none = none
neither false b none = refl

report-on : (n : ℕ) (o : Occasion) (s : Shown) → (bytes_eq o.exec_type (codes "A") || bytes_eq o.exec_type (codes "E")) ≡ false → IsOn s.order (report n o s)
report-on n o s other = record {
  order_is = refl;
  enters_none = ap (λ (x : Option (List ℕ)). bytes_eq (unwrap_or x []) (codes "A")) (kind-in n o s) ∙ neither (bytes_eq o.exec_type (codes "A")) (bytes_eq o.exec_type (codes "E")) other;
  gives_none = ap (λ (x : Option (List ℕ)). bytes_eq (unwrap_or x []) (codes "A") || bytes_eq (unwrap_or x []) (codes "E")) (kind-in n o s) ∙ other;
}

reject-on : (s : Shown) (q : Entry) (code : ℕ) (why : List ℕ) → IsOn s.order (told.answered_no s q code why)
reject-on s q code why = record { order_is = refl; enters_none = refl; gives_none = refl }

too_late-on : (s : Shown) (qs : List Entry) → Each (IsOn s.order) (told.each_too_late s qs)
too_late-on s [] = tt
too_late-on s (q ∷ qs) = (reject-on (record s { pending = qs }) q 0 (codes "too late"), too_late-on s qs)

cancelled-on : (n : ℕ) (why : Option (List ℕ)) (s : Shown) → Each (IsOn s.order) (told.cancelled n why s)
cancelled-on n why s = (report-on n (record (told.plain (codes "4")) { request = find told.is_cancel s.pending; why = why }) (told.without_cancel s) refl, too_late-on (told.without_cancel s) (told.without_cancel s).pending)

rejects-on : (s : Shown) (code : ℕ) (why : List ℕ) (qs : List Entry)
    → Each (IsOn s.order) (map (λ (q : Entry). told.answered_no s q code why) qs)
rejects-on s code why [] = tt
rejects-on s code why (q ∷ qs) = (reject-on s q code why, rejects-on s code why qs)

cancel_rejected-on : (is_last : Bool) (s : Shown) → Each (IsOn s.order) (told.cancel_rejected is_last s)
cancel_rejected-on true s = rejects-on (told.without_cancel s) 2 (codes "cancel rejected by market") (filter told.is_cancel s.pending)
cancel_rejected-on false s = tt

if-on : (order : List ℕ) (b : Bool) (xs ys : List Message) → Each (IsOn order) xs → Each (IsOn order) ys
    → Each (IsOn order) (if b then xs else ys)
if-on order true xs ys x y = x
if-on order false xs ys x y = y

-- replaces that aren't done, one behind another
not_replaced-on : (why : List ℕ) (s : Shown) (qs : List Entry) → Each (IsOn s.order) (told.each_not_replaced why s qs)
not_replaced-on why s [] = tt
not_replaced-on why s (q ∷ qs) = if-on s.order (is_replace q.message) _ [] (reject-on (record s { pending = qs }) q 2 why, not_replaced-on (codes "earlier replace rejected") s qs) tt

append-on : (order : List ℕ) (xs ys : List Message) → Each (IsOn order) xs → Each (IsOn order) ys
    → Each (IsOn order) (xs ++ ys)
append-on order [] ys x y = y
append-on order (r ∷ xs) ys x y = (x.0, append-on order xs ys x.1 y)

dead-on : (n : ℕ) (state : OrderState) (s : Shown) (alive : List Message) → Each (IsOn s.order) alive
    → Each (IsOn s.order) (told.where_dead n state s alive)
dead-on n state s alive on = if-on s.order (is_dead state) (told.cancelled n None (told.closed s)) alive
    (cancelled-on n None (told.closed s)) on

replaced-on : (reports : ℕ) (m : Replaced) (is_last : Bool) (s : Shown)
    → Each (IsOn s.order) (told.told_replaced reports m is_last s)
replaced-on reports m is_last s = by_request (find (told.asked_token m.token) s.pending) refl
  where
    by_request : (x : Option Entry) → find (told.asked_token m.token) s.pending ≡ x
        → Each (IsOn s.order) (told.told_replaced reports m is_last s)
    by_request None e = rw e tt
    by_request (Some q) e = rw e (report-on (reports + 1) (told.on_request (codes "5") q) (told.shown_renamed m q s) refl, dead-on (reports + 2) m.order_state (told.shown_renamed m q s) (told.cancel_rejected is_last (told.shown_renamed m q s)) (cancel_rejected-on is_last (told.shown_renamed m q s)))

pub told-on : (reports : ℕ) (m : Outbound) (l : Life) (is_last : Bool) (fills : List Fill) (s : Shown)
    → Each (IsOn s.order) (told_by reports m l is_last fills s)
told-on reports (market.Accepted m) l is_last fills s = (report-on (reports + 1) (told.plain (codes "0")) (told.shown_opened m.shares m.price s) refl, dead-on (reports + 2) m.order_state (told.shown_opened m.shares m.price s) [] tt)
told-on reports (market.Replaced m) l is_last fills s = replaced-on reports m is_last s
told-on reports (market.Canceled m) l is_last fills s = if-on s.order (is_closed (after l (market.Canceled m)).stage) _ _ (cancelled-on (reports + 1) (Some (m.reason ∷ [])) (told.lived (after l (market.Canceled m)) s)) (report-on (reports + 1) (record (told.plain (codes "D")) { restated = Some (codes "5"); why = Some (m.reason ∷ []) }) (told.lived (after l (market.Canceled m)) s) refl, tt)
told-on reports (market.Executed m) l is_last fills s = (report-on (reports + 1) (record (told.plain (codes "F")) { shares = Some m.shares; at = Some m.price }) (told.lived (after l (market.Executed m)) s) refl, if-on s.order (is_closed (after l (market.Executed m)).stage) _ _ (too_late-on (told.lived (after l (market.Executed m)) s) s.pending) tt)
told-on reports (market.Broken m) l is_last fills s = (report-on (reports + 1) (record (told.plain (codes "H")) { broken = told.exec_id_of m.match_number l.trades fills; why = Some (m.reason ∷ []) }) (told.lived (after l (market.Broken m)) s) refl, tt)
told-on reports (market.Rejected m) l is_last fills s =
    if-on s.order (is_waiting l.stage && is_live l m.token) _ _
    (report-on (reports + 1) (record (told.plain (codes "8")) { code = Some (codes "99"); why = Some (m.reason ∷ []) }) (record (told.closed s) { is_refused = true }) refl, too_late-on (record (told.closed s) { is_refused = true }) s.pending)
    (append-on s.order _ _ (not_replaced-on (m.reason ∷ []) s s.pending)
    (cancel_rejected-on is_last (told.without_replaces s)))
told-on reports (market.CancelReject m) l is_last fills s = cancel_rejected-on is_last s
told-on reports (market.CancelPending m) l is_last fills s = tt
told-on reports (market.SystemEvent m) l is_last fills s = tt
told-on reports market.Skipped l is_last fills s = tt

-- ---- what follows for lists

pub onto-reverse : (rs sent : List Message) → reverse rs ++ sent ≡ onto rs sent
onto-reverse [] sent = refl
onto-reverse (r ∷ rs) sent =
    let turned : reverse (r ∷ rs) ≡ reverse rs ++ r ∷ [] = reverse-append (r ∷ []) rs in
    ap (λ xs. xs ++ sent) turned ∙ append_assoc (reverse rs) (r ∷ []) sent ∙ onto-reverse rs (r ∷ sent)

pub others-onto : (order : List ℕ) (rs sent : List Message) → Others order rs → (P : List Message → Type 0)
    → ((r : Message) (xs : List Message) → is 37 order r ≡ false → P xs → P (r ∷ xs)) → P sent → P (onto rs sent)
others-onto order [] sent others P more p = p
others-onto order (r ∷ rs) sent others P more p =
    others-onto order rs (r ∷ sent) others.1 P more (more r sent others.0 p)

pub orders-onto : (order : List ℕ) (rs sent : List Message) → Each (IsOn order) rs → orders (onto rs sent) ≡ orders sent
orders-onto order [] sent on = refl
orders-onto order (r ∷ rs) sent on = orders-onto order rs (r ∷ sent) on.1 ∙ same r on.0
  where
    same : (r : Message) → IsOn order r → orders (r ∷ sent) ≡ orders sent
    same r on = let none = on.enters_none in rw none refl

pub used-onto : (id : List ℕ) (rs sent : List Message) → is_used id sent ≡ true → is_used id (onto rs sent) ≡ true
used-onto id [] sent used = used
used-onto id (r ∷ rs) sent used = used-onto id rs (r ∷ sent) (rw used (or-true (is 11 id r)))

-- bodies on one order are none of another
pub on-others : (order other : List ℕ) (rs : List Message) → bytes_eq order other ≡ false → Each (IsOn order) rs
    → Others other rs
on-others order other [] apart on = tt
on-others order other (r ∷ rs) apart on = (rw on.0.order_is apart, on-others order other rs apart on.1)
